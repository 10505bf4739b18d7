-- The edges to the needs of one act.
use Rattle.std.proofs.Common.{◌≡◌, ℕ, ◌+◌, ◌-◌, ◌<◌, ◌⊎◌, inl, inr, List, [], ◌∷◌, ◌++◌, length, get_or, slice_get, IsTrue, Option, Some, None, option_map, refl, sym, ap, ◌∙◌, subst, arith, length-append, append_assoc, append-nil}
use Rattle.std.{proofs.lemmas.List.Elements.Contains-append_right, specs.List.Contains, proofs.lemmas.Option.slice_get_within}
use Rattle.batch_check.{specs.declared.edge.Edge.Edge, specs.declared.edge_set.EdgeSet.EdgeSet, specs.declared.path.Path.Path, specs.Edges.has_pair, specs.Edges.Joins, specs.Edges.Follows, specs.Pairs.ArePaired, specs.Pairs.Keeps, specs.Joining.AreBelow, specs.Joining.Grows, specs.Joining.HasJoined, specs.Joining.IsKept, specs.Joining.needs_in, specs.Collecting.IsCopy, specs.Collecting.IsPathOf, specs.Collecting.IsReady, specs.Collecting.ends_in, specs.Collecting.kept_by, specs.Collecting.last_number, specs.Collecting.IsAmong, specs.Collecting.GoesOn, specs.Collecting.HasAsked, proofs.EdgesFromNeeds.ArePaired-push, proofs.EdgesFromNeeds.AreBelow-push, proofs.EdgesFromNeeds.Contains-at, proofs.EdgesFromNeeds.at-Contains, proofs.EdgesFromNeeds.Contains-none, proofs.EdgesFromNeeds.Contains-one, proofs.EdgesFromNeeds.Grows-same, proofs.EdgesFromNeeds.Grows-twice, proofs.EdgesFromNeeds.HasJoined-none}
use Rattle.batch_recipe.proofs.AppendedLists.{slice_get-left, slice_get-right}

-- Last needs

last-append : (last : Option ℕ) (xs ys : List (Option ℕ)) → last_number last (xs ++ ys) ≡ last_number (last_number last xs) ys
last-append last [] ys = refl
last-append last (x ∷ xs) ys = last-append x xs ys

last_among : (last : Option ℕ) (needs : List (Option ℕ)) (number : ℕ) → last_number last needs ≡ Some number → (last ≡ Some number) ⊎ Contains needs (Some number)
last_among last [] number is = inl is
last_among last (need ∷ needs) number is = elim (last_among need needs number is) [
  | inl first ↦ inr (Contains-at (need ∷ needs) 0 (Some number) (ap (λ (o : Option ℕ). Some o) first))
  | inr later ↦ inr (Contains-append_right (need ∷ []) needs (Some number) later)
]

-- Edges to own needs

-- the edge from a need above to the need after all of them
IsAmong-next : (above : List (Option ℕ)) (need : Option ℕ) (edge : Edge) → Contains above (Some edge.earlier) → need ≡ Some edge.later → IsAmong above (need ∷ []) edge
IsAmong-next above need edge from is =
    let at = at-Contains above (Some edge.earlier) from in
    record {
      before = at.0;
      place = length above + 0;
      ordered = omega (arith, slice_get_within above at.0 (Some edge.earlier) at.1);
      among_own = omega arith;
      earlier_is = slice_get-left above (need ∷ []) at.0 (Some edge.earlier) at.1;
      later_is = slice_get-right above (need ∷ []) 0 ∙ ap (λ (o : Option ℕ). Some o) is;
    }

-- an edge to one of the first needs is one to all of them
IsAmong-more : (above xs ys : List (Option ℕ)) (edge : Edge) → IsAmong above xs edge → IsAmong above (xs ++ ys) edge
IsAmong-more above xs ys edge h = record {
  before = h.before;
  place = h.place;
  ordered = h.ordered;
  among_own = h.among_own;
  earlier_is = subst (λ (ns : List (Option ℕ)). slice_get ns h.before ≡ Some (Some edge.earlier)) (append_assoc above xs ys) (slice_get-left (above ++ xs) ys h.before (Some edge.earlier) h.earlier_is);
  later_is = subst (λ (ns : List (Option ℕ)). slice_get ns h.place ≡ Some (Some edge.later)) (append_assoc above xs ys) (slice_get-left (above ++ xs) ys h.place (Some edge.later) h.later_is);
}

IsAmong-after : (above xs ys : List (Option ℕ)) (edge : Edge) → IsAmong (above ++ xs) ys edge → IsAmong above (xs ++ ys) edge
IsAmong-after above xs ys edge h = record {
  before = h.before;
  place = h.place;
  ordered = h.ordered;
  among_own = omega (arith, h.among_own, length-append above xs);
  earlier_is = subst (λ (ns : List (Option ℕ)). slice_get ns h.before ≡ Some (Some edge.earlier)) (append_assoc above xs ys) h.earlier_is;
  later_is = subst (λ (ns : List (Option ℕ)). slice_get ns h.place ≡ Some (Some edge.later)) (append_assoc above xs ys) h.later_is;
}

-- Needs that follow one another

Joins-keeps : (old new : List Edge) → Keeps old new → (last need : Option ℕ) → Joins old last need → Joins new last need
Joins-keeps old new keeps None need h = tt
Joins-keeps old new keeps (Some i) None h = tt
Joins-keeps old new keeps (Some i) (Some j) h = keeps i j h

pub Follows-keeps : (old new : List Edge) → Keeps old new → (last : Option ℕ) (needs : List (Option ℕ)) → Follows old last needs → Follows new last needs
Follows-keeps old new keeps last [] h = tt
Follows-keeps old new keeps last (need ∷ needs) h = (Joins-keeps old new keeps last need h.0, Follows-keeps old new keeps need needs h.1)

Follows-append : (edges : List Edge) (last : Option ℕ) (xs ys : List (Option ℕ)) → Follows edges last xs → Follows edges (last_number last xs) ys → Follows edges last (xs ++ ys)
Follows-append edges last [] ys h g = g
Follows-append edges last (x ∷ xs) ys h g = (h.0, Follows-append edges x xs ys h.1 g)

-- The needs that a path keeps

items_assoc : (o : Option (List (Option ℕ))) (xs ys : List (Option ℕ)) → option_map (λ (ns : List (Option ℕ)). ns ++ ys) (option_map (λ (ns : List (Option ℕ)). ns ++ xs) o)
    ≡ option_map (λ (ns : List (Option ℕ)). ns ++ (xs ++ ys)) o
items_assoc None xs ys = refl
items_assoc (Some ns) xs ys = ap (λ (l : List (Option ℕ)). Some l) (append_assoc ns xs ys)

items_none : (o : Option (List (Option ℕ))) → o ≡ option_map (λ (ns : List (Option ℕ)). ns ++ []) o
items_none o = grind (arith, append-nil)

-- the needs that were kept before these
kept_before : (o kept : Option (List (Option ℕ))) (own : List (Option ℕ)) (needs : List (Option ℕ)) → kept ≡ option_map (λ (ns : List (Option ℕ)). ns ++ own) o → kept ≡ Some needs
    → (ns : List (Option ℕ)) × (o ≡ Some ns) × (needs ≡ ns ++ own)
kept_before o kept own needs extended is = grind arith

-- the path goes on by needs of its own
pub IsPathOf-append : (above own : List (Option ℕ)) (path next : Path) (edges : EdgeSet) → GoesOn path own edges next → IsPathOf above path → IsPathOf (above ++ own) next
IsPathOf-append above own path next edges on h = record {
  ends = last-append None above own ∙ (ap (λ o. last_number o own) h.ends ∙ sym on.ends);
  kept = λ needs is.
      let before = kept_before (kept_by path) (kept_by next) own needs on.extended is in
      before.2 ∙ ap (λ (ns : List (Option ℕ)). ns ++ own) (h.kept before.0 before.1);
}

-- the edges that lead on from a path lead from needs above
earlier_above : (above : List (Option ℕ)) (path : Path) (number : ℕ) → IsPathOf above path → Contains (path.last ∷ []) (Some number) ⊎ Contains (needs_in (kept_by path)) (Some number)
    → Contains above (Some number)
earlier_above above path number h (inl last) = elim (last_among None above number (h.ends ∙ Contains-one path.last (Some number) last)) [
  | inl none ↦ let bad : None ≡ Some number = none in absurd cc
  | inr among ↦ among
]
earlier_above above path number h (inr kept) = go (kept_by path) refl kept
  where
    go : (o : Option (List (Option ℕ))) → kept_by path ≡ o → Contains (needs_in o) (Some number) → Contains above (Some number)
    go None is among = absurd (Contains-none (Some number) among)
    go (Some needs) is among = subst (λ (ns : List (Option ℕ)). Contains ns (Some number)) (h.kept needs is) among

-- Paths that go on

-- a set that has grown serves the same path
IsReady-grown : (path : Path) (old new : EdgeSet) → IsReady path old → Grows old new → IsReady path new
IsReady-grown path old new h g = record {
  within = λ k is. let below = h.within k is in omega (arith, below, g.same_count);
  below = λ k among. let below = h.below k among in omega (arith, below, g.same_count);
}

module _ (path : Path) where
  pub IsReady-copy : (copy : Path) (edges : EdgeSet) → IsCopy path copy → IsReady path edges → IsReady copy edges
  IsReady-copy copy edges same ready = record {
    within = λ k is. ready.within k (sym same.same_last ∙ is);
    below = λ k among. ready.below k (subst (λ (o : Option (List (Option ℕ))). Contains (needs_in o) (Some k)) same.same_kept among);
  }

  -- up to its copy a path goes on by nothing
  GoesOn-copied : (copy : Path) (edges : EdgeSet) → IsReady path edges → IsCopy path copy → GoesOn path [] edges copy
  GoesOn-copied copy edges ready same = record {
    ready = IsReady-copy copy edges same ready;
    same_recipe = same.same_recipe;
    ends = same.same_last;
    extended = same.same_kept ∙ items_none (kept_by path);
    covering = tt;
    pairing = λ needs kept final later paired. subst (λ (ns : List (Option ℕ)). ArePaired final ns) (sym (append-nil needs)) paired;
  }

  pub GoesOn-none : (edges : EdgeSet) → IsReady path edges → GoesOn path [] edges path
  GoesOn-none edges ready = GoesOn-copied path edges ready (record { same_recipe = refl; same_last = refl; same_kept = refl })

  pub GoesOn-grown : (own : List (Option ℕ)) (old new : EdgeSet) (next : Path) → Grows old new → GoesOn path own old next → GoesOn path own new next
  GoesOn-grown own old new next grown h = record {
    ready = IsReady-grown next old new h.ready grown;
    same_recipe = h.same_recipe;
    ends = h.ends;
    extended = h.extended;
    covering = Follows-keeps old.edges.items new.edges.items grown.kept path.last own h.covering;
    pairing = λ needs kept final later paired. h.pairing needs kept final (λ i j known. later i j (grown.kept i j known)) paired;
  }

  pub GoesOn-append : (xs ys : List (Option ℕ)) (edges : EdgeSet) (at next : Path) → GoesOn path xs edges at → GoesOn at ys edges next → GoesOn path (xs ++ ys) edges next
  GoesOn-append xs ys edges at next h g = record {
    ready = g.ready;
    same_recipe = g.same_recipe ∙ h.same_recipe;
    ends = g.ends ∙ (ap (λ o. last_number o ys) h.ends ∙ sym (last-append path.last xs ys));
    extended = g.extended ∙ (ap (option_map (λ (ns : List (Option ℕ)). ns ++ ys)) h.extended ∙ items_assoc (kept_by path) xs ys);
    covering = Follows-append edges.edges.items path.last xs ys h.covering (subst (λ o. Follows edges.edges.items o ys) h.ends g.covering);
    pairing = λ needs kept final later paired.
        let at_kept : kept_by at ≡ Some (needs ++ xs) = h.extended ∙ ap (option_map (λ (ns : List (Option ℕ)). ns ++ xs)) kept in
        subst (λ (ns : List (Option ℕ)). ArePaired final ns) (append_assoc needs xs ys)
        (g.pairing (needs ++ xs) at_kept final later (h.pairing needs kept final later paired));
  }

-- The asks of an act

module _ (path : Path) (node : ℕ) where
  -- one need, to which edges lead from the last one, and from all that are kept
  pub HasAsked-one : (need : Option ℕ) (old mid new : EdgeSet) (next : Path) → IsReady path old → ((k : ℕ) → need ≡ Some k → k < old.count)
      → next.recipe ≡ path.recipe → next.last ≡ need
      → HasJoined path.recipe node (path.last ∷ []) need old mid → IsKept path.recipe node (kept_by path) need mid new (kept_by next)
      → HasAsked path node (need ∷ []) old new next
  HasAsked-one need old mid new next ready known recipe last h g =
      let grown : Grows old new = Grows-twice old mid new h.grown g.joined.grown in
      let here : (k : ℕ) → need ≡ Some k → k < new.count = λ k is. let below = known k is in omega (arith, below, grown.same_count) in
      record {
        grown = grown;
        further = record {
          ready = record {
            within = λ k is. here k (sym last ∙ is);
            below = below_next (kept_by path) (kept_by next) new.count need
                (λ k among. omega (arith, ready.below k among, grown.same_count)) here g.extended;
          };
          same_recipe = recipe;
          ends = last;
          extended = g.extended;
          covering = (joins path.last need (λ i j from into. g.joined.grown.kept i j (h.joined i j (Contains-at (path.last ∷ []) 0 (Some i) (ap (λ (o : Option ℕ). Some o) from)) into)), tt);
          pairing = λ needs kept final later paired.
              ArePaired-push final needs need paired
              (λ i j among into. later i j (g.joined.joined i j (subst (λ (o : Option (List (Option ℕ))). Contains (needs_in o) (Some i)) (sym kept) among) into));
        };
        standing = λ above of edge stands. elim (g.joined.only edge stands) [
          | inr new ↦ inr (new.recipe_is, new.node_is, IsAmong-next above need edge (earlier_above above path edge.earlier of (inr new.earlier_is)) new.later_is)
          | inl known ↦ elim (h.only edge known) [
            | inl old ↦ inl old
            | inr new ↦ inr (new.recipe_is, new.node_is, IsAmong-next above need edge (earlier_above above path edge.earlier of (inl new.earlier_is)) new.later_is)
          ]
        ];
      }
    where
      below_next : (o kept : Option (List (Option ℕ))) (count : ℕ) (need : Option ℕ) → AreBelow count (needs_in o) → ((k : ℕ) → need ≡ Some k → k < count)
          → kept ≡ option_map (λ (ns : List (Option ℕ)). ns ++ need ∷ []) o → AreBelow count (needs_in kept)
      below_next None kept count need below here e = λ k among. absurd (Contains-none (Some k) (subst (λ (o : Option (List (Option ℕ))). Contains (needs_in o) (Some k)) e among))
      below_next (Some ns) kept count need below here e = λ k among.
          AreBelow-push count ns need below here k (subst (λ (o : Option (List (Option ℕ))). Contains (needs_in o) (Some k)) e among)

      joins : (last need : Option ℕ) → ((i j : ℕ) → last ≡ Some i → need ≡ Some j → IsTrue (has_pair new.edges.items i j)) → Joins new.edges.items last need
      joins None need f = tt
      joins (Some i) None f = tt
      joins (Some i) (Some j) f = f i j refl refl

  pub HasAsked-append : (xs ys : List (Option ℕ)) (old mid new : EdgeSet) (at next : Path) → HasAsked path node xs old mid at → HasAsked at node ys mid new next
      → HasAsked path node (xs ++ ys) old new next
  HasAsked-append xs ys old mid new at next h g = record {
    grown = Grows-twice old mid new h.grown g.grown;
    further = GoesOn-append path xs ys new at next (GoesOn-grown path xs mid new at g.grown h.further) g.further;
    standing = λ above of edge stands.
        elim (g.standing (above ++ xs) (IsPathOf-append above xs path at mid h.further of) edge stands) [
          | inr new ↦ inr (new.0 ∙ h.further.same_recipe, new.1, IsAmong-after above xs ys edge new.2)
          | inl before ↦ elim (h.standing above of edge before) [
            | inl old ↦ inl old
            | inr new ↦ inr (new.0, new.1, IsAmong-more above xs ys edge new.2)
          ]
        ];
  }

  -- a copy that has asked for nothing
  pub HasAsked-copied : (copy : Path) (edges : EdgeSet) → IsReady path edges → IsCopy path copy → HasAsked path node [] edges edges copy
  HasAsked-copied copy edges ready same = record { grown = Grows-same edges; further = GoesOn-copied path copy edges ready same; standing = λ above of edge stands. inl stands }

-- Paths that keep no needs

pub is_ready : (recipe : ℕ) (last : Option ℕ) (edges : EdgeSet) → ((k : ℕ) → last ≡ Some k → k < edges.count) → IsReady (ends_in recipe last) edges
is_ready recipe last edges within = record { within = within; below = λ k among. absurd (Contains-none (Some k) among) }

pub HasAsked-alone : (recipe node : ℕ) (last need : Option ℕ) (old new : EdgeSet) → ((k : ℕ) → last ≡ Some k → k < old.count)
    → ((k : ℕ) → need ≡ Some k → k < old.count) → HasJoined recipe node (last ∷ []) need old new
    → HasAsked (ends_in recipe last) node (need ∷ []) old new (ends_in recipe need)
HasAsked-alone recipe node last need old new within known h =
    HasAsked-one (ends_in recipe last) node need old new new (ends_in recipe need) (is_ready recipe last old within) known refl refl h
    (record { joined = HasJoined-none recipe node need new; extended = refl })

-- needs between which there are edges already
HasAsked-known : (recipe node : ℕ) (last : Option ℕ) (needs : List (Option ℕ)) (edges : EdgeSet) → ((k : ℕ) → last ≡ Some k → k < edges.count)
    → AreBelow edges.count needs → Follows edges.edges.items last needs → HasAsked (ends_in recipe last) node needs edges edges (ends_in recipe (last_number last needs))
HasAsked-known recipe node last needs edges within below follows = record {
  grown = Grows-same edges;
  further = record {
    ready = is_ready recipe (last_number last needs) edges (λ k is. elim (last_among last needs k is) [ inl here ↦ within k here | inr among ↦ below k among ]);
    same_recipe = refl;
    ends = refl;
    extended = refl;
    covering = follows;
    pairing = λ kept is final later paired. let bad : None ≡ Some kept = is in absurd cc;
  };
  standing = λ above of edge stands. inl stands;
}

-- the last need is that at the last place
last_at : (need : Option ℕ) (needs : List (Option ℕ)) → last_number need needs ≡ get_or (need ∷ needs) (length needs) None
last_at need [] = refl
last_at need (next ∷ needs) = last_at next needs

-- and an edge to the first of them
pub HasAsked-again : (recipe node : ℕ) (last : Option ℕ) (needs : List (Option ℕ)) (old new : EdgeSet) → ((k : ℕ) → last ≡ Some k → k < old.count)
    → AreBelow old.count needs → Follows old.edges.items None needs → 0 < length needs → HasJoined recipe node (last ∷ []) (get_or needs 0 None) old new
    → HasAsked (ends_in recipe last) node needs old new (ends_in recipe (get_or needs (length needs - 1) None))
HasAsked-again recipe node last [] old new within below follows some h = absurd (omega (arith, some))
HasAsked-again recipe node last (need ∷ needs) old new within below follows some h =
    let first_below : (k : ℕ) → need ≡ Some k → k < old.count = λ k is. below k (Contains-at (need ∷ needs) 0 (Some k) (ap (λ (o : Option ℕ). Some o) is)) in
    let place : length needs ≡ length (need ∷ needs) - 1 = omega arith in
    subst (λ (next : Option ℕ). HasAsked (ends_in recipe last) node (need ∷ needs) old new (ends_in recipe next)) (last_at need needs ∙ ap (λ k. get_or (need ∷ needs) k None) place)
    (HasAsked-append (ends_in recipe last) node (need ∷ []) needs old new new (ends_in recipe need) (ends_in recipe (last_number need needs))
    (HasAsked-alone recipe node last need old new within first_below h)
    (HasAsked-known recipe node need needs new (λ k is. omega (arith, first_below k is, h.grown.same_count))
    (λ k among. omega (arith, below k (Contains-append_right (need ∷ []) needs (Some k) among), h.grown.same_count))
    (Follows-keeps old.edges.items new.edges.items h.grown.kept need needs follows.1)))

-- needs that follow one another after any one do so after none
pub Follows-alone : (edges : List Edge) (last : Option ℕ) (needs : List (Option ℕ)) → Follows edges last needs → Follows edges None needs
Follows-alone edges last [] h = tt
Follows-alone edges last (need ∷ needs) h = (tt, h.1)
