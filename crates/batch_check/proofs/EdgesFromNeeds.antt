-- Edges that join needs to one more.
use Rattle.std.proofs.Common.{◌≡◌, ℕ, ◌<◌, ◌⊎◌, inl, inr, List, [], ◌∷◌, ◌++◌, length, get_or, slice_get, IsTrue, Option, Some, refl, sym, ap, ◌∙◌, subst, arith}
use Rattle.std.{specs.List.Contains, proofs.lemmas.List.Elements.All-append, proofs.lemmas.List.Elements.All-cons, proofs.lemmas.List.Elements.All-nil, proofs.lemmas.List.Elements.All-weaker, proofs.lemmas.List.Elements.Contains-append_cases, proofs.lemmas.List.Elements.Contains-append_left, proofs.lemmas.List.Elements.Contains-append_right, proofs.lemmas.Option.slice_get-get_or, proofs.lemmas.Option.slice_get_within}
use Rattle.batch_recipe.proofs.AppendedLists.{slice_get-split}
use Rattle.batch_check.specs.{declared.edge.Edge.Edge, declared.edge_set.EdgeSet.EdgeSet, Edges.HasPairsOf, Edges.has_pair, Pairs.ArePaired, Pairs.Keeps, Joining.AreBelow, Joining.Grows, Joining.HasJoined, Joining.HasTaken, Joining.LeadsFrom}

pub Contains-at : {X : Type 0} (xs : List X) (k : ℕ) (x : X) → slice_get xs k ≡ Some x → Contains xs x
Contains-at xs k x h =
    let within : k < length xs = slice_get_within xs k x h in
    (k, within, (let e : Some (get_or xs k x) ≡ Some x = sym (slice_get-get_or xs k x within) ∙ h in cc))

pub at-Contains : {X : Type 0} (xs : List X) (x : X) → Contains xs x → (k : ℕ) × (slice_get xs k ≡ Some x)
at-Contains {X} xs x h = (h.0, slice_get-get_or xs h.0 x h.1 ∙ ap (λ (y : X). Some y) h.2)

pub Contains-none : {X : Type 0} (x : X) → Contains [] x → ⊥
Contains-none x h = absurd (omega (arith, h.1))

pub Contains-one : {X : Type 0} (x y : X) → Contains (x ∷ []) y → x ≡ y
Contains-one {X} x y h = grind arith

-- Sets that grow

pub Grows-twice : (old mid new : EdgeSet) → Grows old mid → Grows mid new → Grows old new
Grows-twice old mid new h g = record {
  same_count = g.same_count ∙ h.same_count;
  kept = λ i j known. g.kept i j (h.kept i j known);
  stays = λ edge stands. g.stays edge (h.stays edge stands);
  fresh = λ edge stands. elim (g.fresh edge stands) [
    | inl among ↦ h.fresh edge among
    | inr apart ↦ inr (λ known. apart (h.kept edge.earlier edge.later known))
  ];
}

pub Grows-same : (edges : EdgeSet) → Grows edges edges
Grows-same edges = record { same_count = refl; kept = λ i j known. known; stays = λ edge stands. stands; fresh = λ edge stands. inl stands }

-- Needs that are joined

pub HasJoined-none : (recipe node : ℕ) (later : Option ℕ) (edges : EdgeSet) → HasJoined recipe node [] later edges edges
HasJoined-none recipe node later edges = record {
  grown = Grows-same edges;
  joined = λ i j among is. absurd (Contains-none (Some i) among);
  only = λ edge stands. inl stands;
}

-- an edge leads from each of them already
pub HasJoined-known : (recipe node : ℕ) (needs : List (Option ℕ)) (number : ℕ) (edges : EdgeSet) → ((i : ℕ) → Contains needs (Some i) → IsTrue (has_pair edges.edges.items i number))
    → HasJoined recipe node needs (Some number) edges edges
HasJoined-known recipe node needs number edges known = record {
  grown = Grows-same edges;
  joined = λ i j among is.
      let same : number ≡ j = let e : Some number ≡ Some j = is in cc in
      subst (λ k. IsTrue (has_pair edges.edges.items i k)) same (known i among);
  only = λ edge stands. inl stands;
}

pub LeadsFrom-more : (recipe node : ℕ) (xs ys : List (Option ℕ)) (later : Option ℕ) (edge : Edge)
    → ((k : Option ℕ) → Contains xs k → Contains ys k) → LeadsFrom recipe node xs later edge → LeadsFrom recipe node ys later edge
LeadsFrom-more recipe node xs ys later edge more h =
    record { recipe_is = h.recipe_is; node_is = h.node_is; earlier_is = more (Some edge.earlier) h.earlier_is; later_is = h.later_is }

pub HasJoined-append : (recipe node : ℕ) (xs ys : List (Option ℕ)) (later : Option ℕ) (old mid new : EdgeSet)
    → HasJoined recipe node xs later old mid → HasJoined recipe node ys later mid new → HasJoined recipe node (xs ++ ys) later old new
HasJoined-append recipe node xs ys later old mid new h g = record {
  grown = Grows-twice old mid new h.grown g.grown;
  joined = λ i j among is. elim (Contains-append_cases xs ys (Some i) among) [
    | inl left ↦ g.grown.kept i j (h.joined i j left is)
    | inr right ↦ g.joined i j right is
  ];
  only = λ edge stands. elim (g.only edge stands) [
    | inr new ↦ inr (LeadsFrom-more recipe node ys (xs ++ ys) later edge (λ k. Contains-append_right xs ys k) new)
    | inl before ↦ elim (h.only edge before) [
      | inl known ↦ inl known
      | inr new ↦ inr (LeadsFrom-more recipe node xs (xs ++ ys) later edge (λ k. Contains-append_left xs ys k) new)
    ]
  ];
}

pub HasJoined-pair : (recipe node earlier later : ℕ) (old new : EdgeSet) → Grows old new → IsTrue (has_pair new.edges.items earlier later)
    → ((edge : Edge) → Contains new.edges.items edge → Contains old.edges.items edge ⊎ (edge ≡ record { recipe = recipe; node = node; earlier = earlier; later = later }))
    → HasJoined recipe node (Some earlier ∷ []) (Some later) old new
HasJoined-pair recipe node earlier later old new grown added only = record {
  grown = grown;
  joined = λ i j among is.
      let first : earlier ≡ i = let e : Some earlier ≡ Some i = Contains-one (Some earlier) (Some i) among in cc in
      let second : later ≡ j = let e : Some later ≡ Some j = is in cc in
      subst (λ k. IsTrue (has_pair new.edges.items i k)) second (subst (λ k. IsTrue (has_pair new.edges.items k later)) first added);
  only = λ edge stands. elim (only edge stands) [
    | inl known ↦ inl known
    | inr same ↦ inr (record {
      recipe_is = ap (λ (e : Edge). e.recipe) same;
      node_is = ap (λ (e : Edge). e.node) same;
      earlier_is = Contains-at (Some earlier ∷ []) 0 (Some edge.earlier) (ap (λ (e : Edge). Some (Some e.earlier)) (sym same));
      later_is = ap (λ (e : Edge). Some e.later) (sym same);
    })
  ];
}

-- one more need, to which an edge leads from each one before it
pub ArePaired-push : (edges : List Edge) (needs : List (Option ℕ)) (need : Option ℕ) → ArePaired edges needs
    → ((i j : ℕ) → Contains needs (Some i) → need ≡ Some j → IsTrue (has_pair edges i j)) → ArePaired edges (needs ++ need ∷ [])
ArePaired-push edges needs need paired joined before place i j ordered at_before at_place =
    elim (slice_get-split needs (need ∷ []) place (Some j) at_place) [
      | inl inside ↦ elim (slice_get-split needs (need ∷ []) before (Some i) at_before) [
        | inl early ↦ paired before place i j ordered early inside
        | inr late ↦ absurd (omega (arith, late.1, slice_get_within needs place (Some j) inside))
      ]
      | inr end ↦ elim (slice_get-split needs (need ∷ []) before (Some i) at_before) [
        | inl early ↦
            let is_need : need ≡ Some j = Contains-one need (Some j) (Contains-at (need ∷ []) end.0 (Some j) end.2) in
            joined i j (Contains-at needs before (Some i) early) is_need
        | inr late ↦
            let first : late.0 < 1 = slice_get_within (need ∷ []) late.0 (Some i) late.2 in
            let second : end.0 < 1 = slice_get_within (need ∷ []) end.0 (Some j) end.2 in
            absurd (omega (arith, late.1, end.1))
      ]
    ]

pub AreBelow-push : (count : ℕ) (needs : List (Option ℕ)) (need : Option ℕ) → AreBelow count needs → ((k : ℕ) → need ≡ Some k → k < count) → AreBelow count (needs ++ need ∷ [])
AreBelow-push count needs need below here k among = elim (Contains-append_cases needs (need ∷ []) (Some k) among) [
  | inl known ↦ below k known
  | inr new ↦ here k (Contains-one need (Some k) new)
]

-- Edges that are taken

HasPairsOf-more : (edges : List Edge) (old new : List Edge) → Keeps old new → HasPairsOf edges old → HasPairsOf edges new
HasPairsOf-more edges old new kept has =
    All-weaker (λ (e : Edge). IsTrue (has_pair old e.earlier e.later)) (λ (e : Edge). IsTrue (has_pair new e.earlier e.later))
    (λ e here. kept e.earlier e.later here) edges has

pub HasTaken-none : (set : EdgeSet) → HasTaken [] set set
HasTaken-none set = record { grown = Grows-same set; taken = All-nil _; only = λ edge stands. inl stands }

-- one more of the edges is taken
pub HasTaken-more : (edges : List Edge) (old set new : EdgeSet) (e : Edge) → HasTaken edges old set → Grows set new
    → IsTrue (has_pair new.edges.items e.earlier e.later)
    → ((edge : Edge) → Contains new.edges.items edge → Contains set.edges.items edge ⊎ (edge ≡ e)) → HasTaken (edges ++ e ∷ []) old new
HasTaken-more edges old set new e h grown here only = record {
  grown = Grows-twice old set new h.grown grown;
  taken =
      All-append (λ (x : Edge). IsTrue (has_pair new.edges.items x.earlier x.later)) edges (e ∷ []) (HasPairsOf-more edges set.edges.items new.edges.items grown.kept h.taken)
      (All-cons (λ (x : Edge). IsTrue (has_pair new.edges.items x.earlier x.later)) e [] here (All-nil _));
  only = λ edge stands. elim (only edge stands) [
    | inl known ↦ elim (h.only edge known) [
      | inl before ↦ inl before
      | inr taken ↦ inr (Contains-append_left edges (e ∷ []) edge taken)
    ]
    | inr same ↦ inr (Contains-append_right edges (e ∷ []) edge (Contains-at (e ∷ []) 0 edge (ap (λ (x : Edge). Some x) (sym same))))
  ];
}
