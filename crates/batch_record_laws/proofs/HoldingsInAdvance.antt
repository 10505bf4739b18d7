-- Holdings in advance pass to the acts that are reached: these hold them from then on.
use Rattle.std.proofs.Common.{arith, ◌≡◌, refl, sym, ◌∙◌, ap, ap₂, subst, ℕ, ◌+◌, zero, suc, pred, List, [], ◌∷◌, ◌++◌, Bool, true, false, ◌||◌, ◌&&◌, map, take, length, inl, inr, ◌⊎◌, ⊎_elim, append_assoc}
use Rattle.std.{specs.List.list_any, proofs.lemmas.List.map-append}
use Rattle.batch_recipe.specs.{Conditions.ValueList, Conditions.holds, declared.condition.Condition.Condition, declared.need.Need.Need, Nodes.child, Tree.Place, Tree.Step, Tree.Task, Tree.runs, Tree.follows, Tree.Tree, Tree.act, Tree.skip, Tree.seq, Tree.par, Tree.sel, Tree.loop, Tree.Trees, Tree.no_trees, Tree.tree, Tree.Choices, Tree.otherwise, Tree.choice}
use Rattle.batch_model.{specs.Lists.Has, specs.Placed.IsPlaced, specs.Placed.IsPlacedBelow, specs.Placed.ArePlaced, specs.Placed.IsChoicePlaced, specs.Plant.InAdvance, specs.Plant.is_act_reached, specs.Rest.Rest, specs.Rest.Moment, specs.Rest.ready, specs.Rest.asking, specs.Rest.open_act, specs.Rest.live, specs.Rest.freeing, specs.Rest.in_seq, specs.Rest.in_par, specs.Rest.in_loop, specs.Rest.done, specs.Rest.Rests, specs.Rest.no_rests, specs.Rest.rest, specs.Rest.same_place, specs.Rest.is_done, specs.Rest.all_done, specs.Rest.joined, specs.Rest.turning, specs.Rest.reach, specs.Rest.reach_first, specs.Rest.reach_each, specs.Rest.reach_chosen, specs.Rest.continued, specs.Rest.turned, specs.Rest.advance, specs.Rest.advance_each, specs.Rest.acts, specs.Rest.acts_of_each, specs.Rest.place_of, specs.Rest.changed_at, specs.Rest.changed_in_each, specs.Standing.IsRestOf, specs.Standing.IsRestBelow, specs.Standing.IsBranch, specs.Standing.AreBranches, specs.Standing.IsChosen, proofs.Members.Has-split, proofs.Members.Has-left, proofs.Members.Has-right}
use Rattle.batch_step_laws.proofs.WorkAfterChange.{to_same_place, same_test}
use Rattle.batch_record_laws.proofs.{PlantFacts.holding, PlantFacts.Standing, PlantFacts.held_at, PlantFacts.facts, PlantFacts.facts_of_each, FactsAfterChange.miss, FactsAfterChange.at_or_above, Members.Has-map, Members.map-Has, FactPlaces.IsUnderChild, FactPlaces.IsUnderLater, FactPlaces.under_child, FactPlaces.acts-under, FactPlaces.acts-side_by_side, FactPlaces.children_apart}

-- a moment with these values, at which these places hold in advance
abbrev pub at_moment : ValueList → List Place → Moment
at_moment vs early = record { values = vs; early = early }

-- none of the acts stands at the place
abbrev pub Nowhere : Place → List Rest → Type 0
Nowhere h reached = (a : Rest) → Has reached a → place_of a ≡ h → ⊥

nowhere-left : (h : Place) (xs ys : List Rest) → Nowhere h (xs ++ ys) → Nowhere h xs
nowhere-left h xs ys n a i = n a (Has-left xs ys a i)

nowhere-right : (h : Place) (xs ys : List Rest) → Nowhere h (xs ++ ys) → Nowhere h ys
nowhere-right h xs ys n a i = n a (Has-right xs ys a i)

-- the rest in which a ready act at the place holds its first need
abbrev mutual
  pub lifted : Place → Rest → Rest
  lifted h (ready s w k) = elim (same_place s.place h) [ true ↦ ready s w (length (take 1 s.needs)) | false ↦ ready s w k ]
  lifted h (open_act s r) = open_act s (lifted h r)
  lifted h (in_seq r cs) = in_seq (lifted h r) cs
  lifted h (in_par rs) = in_par (lifted_each h rs)
  lifted h (in_loop n c body r) = in_loop n c body (lifted h r)
  lifted h r = r

  pub lifted_each : Place → Rests → Rests
  lifted_each h no_rests = no_rests
  lifted_each h (rest r rs) = rest (lifted h r) (lifted_each h rs)

ready-not_done : (s : Step) (w : Task) (k j : ℕ) (t : Bool) → is_done (elim t [ true ↦ ready s w k | false ↦ ready s w j ]) ≡ false
ready-not_done s w k j true = refl
ready-not_done s w k j false = refl

lifted-done : (h : Place) (r : Rest) → is_done (lifted h r) ≡ is_done r
lifted-done h (ready s w k) = ready-not_done s w (length (take 1 s.needs)) k (same_place s.place h)
lifted-done h (asking s w k) = refl
lifted-done h (open_act s r) = refl
lifted-done h (live s x t) = refl
lifted-done h (freeing s k) = refl
lifted-done h (in_seq r cs) = refl
lifted-done h (in_par rs) = refl
lifted-done h (in_loop n c body r) = refl
lifted-done h done = refl

lifted-all_done : (h : Place) (rs : Rests) → all_done (lifted_each h rs) ≡ all_done rs
lifted-all_done h no_rests = refl
lifted-all_done h (rest r rs) = ap₂ (λ x y. x && y) (lifted-done h r) (lifted-all_done h rs)

either-lifted : (h : Place) (t : Bool) (x y q r : Rest) → x ≡ lifted h q → y ≡ lifted h r → elim t [ true ↦ x | false ↦ y ] ≡ lifted h (elim t [ true ↦ q | false ↦ r ])
either-lifted h true x y q r e f = e
either-lifted h false x y q r e f = f

joined-lifted : (h : Place) (rs : Rests) → joined (lifted_each h rs) ≡ lifted h (joined rs)
joined-lifted h rs =
    ap (λ t. elim t [ true ↦ done | false ↦ in_par (lifted_each h rs) ]) (lifted-all_done h rs)
    ∙ either-lifted h (all_done rs) done (in_par (lifted_each h rs)) done (in_par rs) refl refl

continued-lifted : (h : Place) (r later after : Rest) (cs : Trees) → later ≡ lifted h after
    → elim (is_done (lifted h r)) [ true ↦ later | false ↦ in_seq (lifted h r) cs ] ≡ lifted h (elim (is_done r) [ true ↦ after | false ↦ in_seq r cs ])
continued-lifted h r later after cs e =
    ap (λ t. elim t [ true ↦ later | false ↦ in_seq (lifted h r) cs ]) (lifted-done h r)
    ∙ either-lifted h (is_done r) later (in_seq (lifted h r) cs) after (in_seq r cs) e refl

looped-lifted : (h : Place) (n : ℕ) (c : Condition) (body : Tree) (r later after : Rest) → later ≡ lifted h after
    → elim (is_done (lifted h r)) [ true ↦ later | false ↦ in_loop n c body (lifted h r) ] ≡ lifted h (elim (is_done r) [ true ↦ after | false ↦ in_loop n c body r ])
looped-lifted h n c body r later after e =
    ap (λ t. elim t [ true ↦ later | false ↦ in_loop n c body (lifted h r) ]) (lifted-done h r)
    ∙ either-lifted h (is_done r) later (in_loop n c body (lifted h r)) after (in_loop n c body r) e refl

-- One place more that holds in advance

module _ (vs : ValueList) (h : Place) (early : List Place) where
  abbrev Before : Moment
  Before = at_moment vs early

  abbrev After : Moment
  After = at_moment vs (h ∷ early)

  act-lifted : (s : Step) (w : Task) (t u : Bool)
      → ready s w (elim (t || u) [ true ↦ length (take 1 s.needs) | false ↦ 0 ])
      ≡ elim t [ true ↦ ready s w (length (take 1 s.needs)) | false ↦ ready s w (elim u [ true ↦ length (take 1 s.needs) | false ↦ 0 ]) ]
  act-lifted s w true u = refl
  act-lifted s w false u = refl

  mutual
    pub reach-lifted : (c : Tree) → reach After c ≡ lifted h (reach Before c)
    reach-lifted (act s w) = act-lifted s w (same_place s.place h) (list_any (same_place s.place) early)
    reach-lifted skip = refl
    reach-lifted (seq cs) = reach_first-lifted cs
    reach-lifted (par cs) = ap joined (reach_each-lifted cs) ∙ joined-lifted h (reach_each Before cs)
    reach-lifted (sel ch) = reach_chosen-lifted ch
    reach-lifted (loop n c body) = ap (turning (pred n) c body) (reach-lifted body) ∙ looped-lifted h (pred n) c body (reach Before body) done done refl

    reach_first-lifted : (cs : Trees) → reach_first After cs ≡ lifted h (reach_first Before cs)
    reach_first-lifted no_trees = refl
    reach_first-lifted (tree c cs) =
        ap (λ r. elim (is_done r) [ true ↦ reach_first After cs | false ↦ in_seq r cs ]) (reach-lifted c)
        ∙ continued-lifted h (reach Before c) (reach_first After cs) (reach_first Before cs) cs (reach_first-lifted cs)

    reach_each-lifted : (cs : Trees) → reach_each After cs ≡ lifted_each h (reach_each Before cs)
    reach_each-lifted no_trees = refl
    reach_each-lifted (tree c cs) = ap₂ rest (reach-lifted c) (reach_each-lifted cs)

    reach_chosen-lifted : (ch : Choices) → reach_chosen After ch ≡ lifted h (reach_chosen Before ch)
    reach_chosen-lifted (otherwise c) = reach-lifted c
    reach_chosen-lifted (choice p c ch) =
        either-lifted h (holds vs p) (reach After c) (reach_chosen After ch) (reach Before c) (reach_chosen Before ch) (reach-lifted c) (reach_chosen-lifted ch)

  turned-lifted : (n : ℕ) (c : Condition) (body : Tree) (r : Rest) → turned After n c body (lifted h r) ≡ lifted h (turned Before n c body r)
  turned-lifted zero c body r = looped-lifted h 0 c body r done done refl
  turned-lifted (suc n) c body r =
      ap (λ t. elim t [ false ↦ in_loop (suc n) c body (lifted h r) | true ↦ elim (holds vs c) [ true ↦ done | false ↦ turning n c body (reach After body) ] ]) (lifted-done h r)
      ∙ go (is_done r)
    where
      again : turning n c body (reach After body) ≡ lifted h (turning n c body (reach Before body))
      again = ap (turning n c body) (reach-lifted body) ∙ looped-lifted h n c body (reach Before body) done done refl

      go : (t : Bool) → elim t [ false ↦ in_loop (suc n) c body (lifted h r) | true ↦ elim (holds vs c) [ true ↦ done | false ↦ turning n c body (reach After body) ] ]
          ≡ lifted h (elim t [ false ↦ in_loop (suc n) c body r | true ↦ elim (holds vs c) [ true ↦ done | false ↦ turning n c body (reach Before body) ] ])
      go false = refl
      go true = either-lifted h (holds vs c) done (turning n c body (reach After body)) done (turning n c body (reach Before body)) refl again

  ready-advanced : (s : Step) (w : Task) (k j : ℕ) (t : Bool) → advance After (elim t [ true ↦ ready s w k | false ↦ ready s w j ]) ≡ elim t [ true ↦ ready s w k | false ↦ ready s w j ]
  ready-advanced s w k j true = refl
  ready-advanced s w k j false = refl

  mutual
    pub advance-lifted : (r : Rest) → advance After (lifted h r) ≡ lifted h (advance Before r)
    advance-lifted (ready s w k) = ready-advanced s w (length (take 1 s.needs)) k (same_place s.place h)
    advance-lifted (asking s w k) = refl
    advance-lifted (open_act s r) = ap (open_act s) (advance-lifted r)
    advance-lifted (live s x t) = refl
    advance-lifted (freeing s k) = refl
    advance-lifted (in_seq r cs) =
        ap (λ z. continued After z cs) (advance-lifted r)
        ∙ continued-lifted h (advance Before r) (reach_first After cs) (reach_first Before cs) cs (reach_first-lifted cs)
    advance-lifted (in_par rs) = ap joined (advance_each-lifted rs) ∙ joined-lifted h (advance_each Before rs)
    advance-lifted (in_loop n c body r) = ap (turned After n c body) (advance-lifted r) ∙ turned-lifted n c body (advance Before r)
    advance-lifted done = refl

    advance_each-lifted : (rs : Rests) → advance_each After (lifted_each h rs) ≡ lifted_each h (advance_each Before rs)
    advance_each-lifted no_rests = refl
    advance_each-lifted (rest r rs) = ap₂ rest (advance-lifted r) (advance_each-lifted rs)

-- Where no act stands at the place

mutual
  pub lifted-none : (h : Place) (r : Rest) → Nowhere h (acts r) → lifted h r ≡ r
  lifted-none h (ready s w k) n = miss s.place h (n (ready s w k) (inl refl)) (ready s w (length (take 1 s.needs))) (ready s w k)
  lifted-none h (asking s w k) n = refl
  lifted-none h (open_act s r) n = ap (open_act s) (lifted-none h r (λ a i. n a (inr i)))
  lifted-none h (live s x t) n = refl
  lifted-none h (freeing s k) n = refl
  lifted-none h (in_seq r cs) n = ap (λ z. in_seq z cs) (lifted-none h r n)
  lifted-none h (in_par rs) n = ap in_par (lifted-none_each h rs n)
  lifted-none h (in_loop m c body r) n = ap (in_loop m c body) (lifted-none h r n)
  lifted-none h done n = refl

  lifted-none_each : (h : Place) (rs : Rests) → Nowhere h (acts_of_each rs) → lifted_each h rs ≡ rs
  lifted-none_each h no_rests n = refl
  lifted-none_each h (rest r rs) n =
      ap₂ rest (lifted-none h r (nowhere-left h (acts r) (acts_of_each rs) n)) (lifted-none_each h rs (nowhere-right h (acts r) (acts_of_each rs) n))

-- a change at another place: f changes an act with one place more that holds in advance, and g without it

module _ (p h : Place) (f g : Rest → Rest) (alike : (a : Rest) → Nowhere h (acts a) → f a ≡ lifted h (g a)) where
  at_place : (q : Place) (a b c : Rest) → Nowhere h (acts a) → b ≡ lifted h c → elim (same_place q p) [ true ↦ f a | false ↦ b ] ≡ lifted h (elim (same_place q p) [ true ↦ g a | false ↦ c ])
  at_place q a b c n e = either-lifted h (same_place q p) (f a) b (g a) c (alike a n) e

  mutual
    pub changed-lifted : (r : Rest) → Nowhere h (acts r) → changed_at p f r ≡ lifted h (changed_at p g r)
    changed-lifted (ready s w k) n = at_place s.place (ready s w k) (ready s w k) (ready s w k) n (sym (lifted-none h (ready s w k) n))
    changed-lifted (asking s w k) n = at_place s.place (asking s w k) (asking s w k) (asking s w k) n refl
    changed-lifted (open_act s r) n =
        at_place s.place (open_act s r) (open_act s (changed_at p f r)) (open_act s (changed_at p g r)) n (ap (open_act s) (changed-lifted r (λ a i. n a (inr i))))
    changed-lifted (live s x t) n = at_place s.place (live s x t) (live s x t) (live s x t) n refl
    changed-lifted (freeing s k) n = at_place s.place (freeing s k) (freeing s k) (freeing s k) n refl
    changed-lifted (in_seq r cs) n = ap (λ z. in_seq z cs) (changed-lifted r n)
    changed-lifted (in_par rs) n = ap in_par (changed_in_each-lifted rs n)
    changed-lifted (in_loop m c body r) n = ap (in_loop m c body) (changed-lifted r n)
    changed-lifted done n = refl

    changed_in_each-lifted : (rs : Rests) → Nowhere h (acts_of_each rs) → changed_in_each p f rs ≡ lifted_each h (changed_in_each p g rs)
    changed_in_each-lifted no_rests n = refl
    changed_in_each-lifted (rest r rs) n =
        ap₂ rest (changed-lifted r (nowhere-left h (acts r) (acts_of_each rs) n)) (changed_in_each-lifted rs (nowhere-right h (acts r) (acts_of_each rs) n))

-- All that is held in advance

abbrev pub raised : List InAdvance → Rest → Rest
raised [] r = r
raised (held ∷ more) r = lifted held.place (raised more r)

abbrev pub places : List InAdvance → List Place
places more = map (λ held. held.place) more

pub advance-raised : (vs : ValueList) (xs : List InAdvance) (r : Rest) → advance (at_moment vs (places xs)) (raised xs r) ≡ raised xs (advance (at_moment vs []) r)
advance-raised vs [] r = refl
advance-raised vs (held ∷ xs) r = advance-lifted vs held.place (places xs) (raised xs r) ∙ ap (lifted held.place) (advance-raised vs xs r)

-- the effect of a move on acts doesn't touch those that hold in advance, but reaches them
abbrev pub IsSteady : (Moment → Rest → Rest) → Type 0
IsSteady f = (vs : ValueList) (h : Place) (early : List Place) (a : Rest) → Nowhere h (acts a) → f (at_moment vs (h ∷ early)) a ≡ lifted h (f (at_moment vs early) a)

pub changed-raised : (f : Moment → Rest → Rest) → IsSteady f → (vs : ValueList) (p : Place) (r : Rest) (xs : List InAdvance) → ((held : InAdvance) → Has xs held → Nowhere held.place (acts r))
    → changed_at p (f (at_moment vs (places xs))) r ≡ raised xs (changed_at p (f (at_moment vs [])) r)
changed-raised f steady vs p r [] n = refl
changed-raised f steady vs p r (held ∷ xs) n =
    changed-lifted p held.place (f (at_moment vs (held.place ∷ places xs))) (f (at_moment vs (places xs))) (steady vs held.place (places xs)) r (n held (inl refl))
    ∙ ap (lifted held.place) (changed-raised f steady vs p r xs (λ other i. n other (inr i)))

pub moved-raised : (f : Moment → Rest → Rest) → IsSteady f → (vs : ValueList) (p : Place) (r : Rest) (xs : List InAdvance) → ((held : InAdvance) → Has xs held → Nowhere held.place (acts r))
    → advance (at_moment vs (places xs)) (changed_at p (f (at_moment vs (places xs))) r) ≡ raised xs (advance (at_moment vs []) (changed_at p (f (at_moment vs [])) r))
moved-raised f steady vs p r xs n =
    ap (advance (at_moment vs (places xs))) (changed-raised f steady vs p r xs n) ∙ advance-raised vs xs (changed_at p (f (at_moment vs [])) r)

-- Places stay

ready-place : (s : Step) (w : Task) (k j : ℕ) (t : Bool) → map place_of (acts (elim t [ true ↦ ready s w k | false ↦ ready s w j ])) ≡ s.place ∷ []
ready-place s w k j true = refl
ready-place s w k j false = refl

mutual
  lifted-places : (h : Place) (r : Rest) → map place_of (acts (lifted h r)) ≡ map place_of (acts r)
  lifted-places h (ready s w k) = ready-place s w (length (take 1 s.needs)) k (same_place s.place h)
  lifted-places h (asking s w k) = refl
  lifted-places h (open_act s r) = ap (λ ps. s.place ∷ ps) (lifted-places h r)
  lifted-places h (live s x t) = refl
  lifted-places h (freeing s k) = refl
  lifted-places h (in_seq r cs) = lifted-places h r
  lifted-places h (in_par rs) = lifted_each-places h rs
  lifted-places h (in_loop n c body r) = lifted-places h r
  lifted-places h done = refl

  lifted_each-places : (h : Place) (rs : Rests) → map place_of (acts_of_each (lifted_each h rs)) ≡ map place_of (acts_of_each rs)
  lifted_each-places h no_rests = refl
  lifted_each-places h (rest r rs) =
      map-append place_of (acts (lifted h r)) (acts_of_each (lifted_each h rs))
      ∙ (ap₂ (λ xs ys. xs ++ ys) (lifted-places h r) (lifted_each-places h rs) ∙ sym (map-append place_of (acts r) (acts_of_each rs)))

raised-places : (xs : List InAdvance) (r : Rest) → map place_of (acts (raised xs r)) ≡ map place_of (acts r)
raised-places [] r = refl
raised-places (held ∷ xs) r = lifted-places held.place (raised xs r) ∙ raised-places xs r

pub any-place : (xs : List Rest) (p : Place) → list_any (λ act. same_place (place_of act) p) xs ≡ list_any (λ q. same_place q p) (map place_of xs)
any-place [] p = refl
any-place (x ∷ xs) p = ap (λ b. same_place (place_of x) p || b) (any-place xs p)

pub reached-raised : (xs : List InAdvance) (r : Rest) (p : Place) → is_act_reached (raised xs r) p ≡ is_act_reached r p
reached-raised xs r p =
    any-place (acts (raised xs r)) p ∙ (ap (list_any (λ q. same_place q p)) (raised-places xs r) ∙ sym (any-place (acts r) p))

nowhere-places : (h : Place) (xs ys : List Rest) → map place_of xs ≡ map place_of ys → Nowhere h ys → Nowhere h xs
nowhere-places h xs ys e n a i at =
    let m = Has-map place_of ys (place_of a) (subst (λ ps. Has ps (place_of a)) e (map-Has place_of xs a i)) in
    n m.0 m.1 (m.2 ∙ at)

pub nowhere-raised : (h : Place) (xs : List InAdvance) (r : Rest) → Nowhere h (acts r) → Nowhere h (acts (raised xs r))
nowhere-raised h xs r n = nowhere-places h (acts (raised xs r)) (acts r) (raised-places xs r) n

nowhere-lifted_each : (h q : Place) (rs : Rests) → Nowhere h (acts_of_each rs) → Nowhere h (acts_of_each (lifted_each q rs))
nowhere-lifted_each h q rs n = nowhere-places h (acts_of_each (lifted_each q rs)) (acts_of_each rs) (lifted_each-places q rs) n

nowhere-lifted : (h q : Place) (r : Rest) → Nowhere h (acts r) → Nowhere h (acts (lifted q r))
nowhere-lifted h q r n = nowhere-places h (acts (lifted q r)) (acts r) (lifted-places q r) n

any-none : (xs : List Rest) (h : Place) → list_any (λ act. same_place (place_of act) h) xs ≡ false → Nowhere h xs
any-none [] h e a i at = i
any-none (x ∷ xs) h e a (inl q) at = let told : same_place (place_of x) h ≡ true = same_test (place_of x) h (ap place_of q ∙ at) in absurd (grind arith)
any-none (x ∷ xs) h e a (inr i) at = any-none xs h (grind arith) a i at

-- where the rest isn't reached at a place no act stands there
pub not_reached : (h : Place) (r : Rest) → is_act_reached r h ≡ false → Nowhere h (acts r)
not_reached h r e = any-none (acts r) h e

any-some : (xs : List Rest) (h : Place) → list_any (λ act. same_place (place_of act) h) xs ≡ true → (a : Rest) × Has xs a × (place_of a ≡ h)
any-some [] h e = let bad : false ≡ true = e in absurd cc
any-some (x ∷ xs) h e = go (same_place (place_of x) h) refl e (any-some xs h)
  where
    go : (t : Bool) → same_place (place_of x) h ≡ t → (t || list_any (λ act. same_place (place_of act) h) xs) ≡ true
        → (list_any (λ act. same_place (place_of act) h) xs ≡ true → (a : Rest) × Has xs a × (place_of a ≡ h)) → (a : Rest) × Has (x ∷ xs) a × (place_of a ≡ h)
    go true f g later = (x, inl refl, to_same_place (place_of x) h f)
    go false f g later = let m = later g in (m.0, inr m.1, m.2)

-- where it is, one does
pub reached-at : (h : Place) (r : Rest) → is_act_reached r h ≡ true → (a : Rest) × Has (acts r) a × (place_of a ≡ h)
reached-at h r e = any-some (acts r) h e

-- One ready act at a place, which holds nothing, and asks for this first

abbrev mutual
  pub AtOnce : Place → Need → Rest → Type 0
  AtOnce h u (ready s w k) = (s.place ≡ h) × (k ≡ 0) × (take 1 s.needs ≡ u ∷ [])
  AtOnce h u (open_act s r) = AtOnce h u r
  AtOnce h u (in_seq r cs) = AtOnce h u r
  AtOnce h u (in_par rs) = AtOnceAmong h u rs
  AtOnce h u (in_loop n c body r) = AtOnce h u r
  AtOnce h u _ = ⊥

  pub AtOnceAmong : Place → Need → Rests → Type 0
  AtOnceAmong h u no_rests = ⊥
  AtOnceAmong h u (rest r rs) = (AtOnce h u r × Nowhere h (acts_of_each rs)) ⊎ (Nowhere h (acts r) × AtOnceAmong h u rs)

-- the second list has one fact more
abbrev pub Adds : List Standing → List Standing → Standing → Type 0
Adds less more e = (front : List Standing) × (back : List Standing) × (less ≡ front ++ back) × (more ≡ front ++ e ∷ back)

adds-after : (before less more : List Standing) (e : Standing) → Adds less more e → Adds (before ++ less) (before ++ more) e
adds-after before less more e a = (
  before ++ a.0,
  a.1,
  ap (λ z. before ++ z) a.2 ∙ sym (append_assoc before a.0 a.1),
  ap (λ z. before ++ z) a.3 ∙ sym (append_assoc before a.0 (e ∷ a.1)),
)

adds-before : (later less more : List Standing) (e : Standing) → Adds less more e → Adds (less ++ later) (more ++ later) e
adds-before later less more e a = (
  a.0,
  a.1 ++ later,
  ap (λ z. z ++ later) a.2 ∙ append_assoc a.0 a.1 later,
  ap (λ z. z ++ later) a.3 ∙ append_assoc a.0 (e ∷ a.1) later,
)

take-of_take : (xs : List Need) → take (length (take 1 xs)) xs ≡ take 1 xs
take-of_take [] = refl
take-of_take (x ∷ xs) = refl

mutual
  pub lifted-adds : (h : Place) (u : Need) (r : Rest) → AtOnce h u r → Adds (facts r) (facts (lifted h r)) (h, holding u)
  lifted-adds h u (ready s w k) a = (
    [],
    [],
    ap (λ n. held_at s.place (take n s.needs)) a.1,
    ap facts (ap (λ t. elim t [ true ↦ ready s w (length (take 1 s.needs)) | false ↦ ready s w k ]) (same_test s.place h a.0))
        ∙ (ap (held_at s.place) (take-of_take s.needs ∙ a.2) ∙ ap (λ p. held_at p (u ∷ [])) a.0),
  )
  lifted-adds h u (asking s w k) a = absurd a
  lifted-adds h u (open_act s r) a = adds-after (held_at s.place s.needs) (facts r) (facts (lifted h r)) (h, holding u) (lifted-adds h u r a)
  lifted-adds h u (live s x t) a = absurd a
  lifted-adds h u (freeing s k) a = absurd a
  lifted-adds h u (in_seq r cs) a = lifted-adds h u r a
  lifted-adds h u (in_par rs) a = lifted-adds_among h u rs a
  lifted-adds h u (in_loop n c body r) a = lifted-adds h u r a
  lifted-adds h u done a = absurd a

  lifted-adds_among : (h : Place) (u : Need) (rs : Rests) → AtOnceAmong h u rs → Adds (facts_of_each rs) (facts_of_each (lifted_each h rs)) (h, holding u)
  lifted-adds_among h u no_rests a = absurd a
  lifted-adds_among h u (rest r rs) (inl a) =
      subst (λ z. Adds (facts r ++ facts_of_each rs) (facts (lifted h r) ++ facts_of_each z) (h, holding u)) (sym (lifted-none_each h rs a.1))
      (adds-before (facts_of_each rs) (facts r) (facts (lifted h r)) (h, holding u) (lifted-adds h u r a.0))
  lifted-adds_among h u (rest r rs) (inr a) =
      subst (λ z. Adds (facts r ++ facts_of_each rs) (facts z ++ facts_of_each (lifted_each h rs)) (h, holding u)) (sym (lifted-none h r a.0))
      (adds-after (facts r) (facts_of_each rs) (facts_of_each (lifted_each h rs)) (h, holding u) (lifted-adds_among h u rs a.1))

-- it stays so if an act at another place takes a holding in advance
mutual
  lifted-keeps : (h q : Place) (u : Need) → (q ≡ h → ⊥) → (r : Rest) → AtOnce h u r → AtOnce h u (lifted q r)
  lifted-keeps h q u d (ready s w k) a = subst (AtOnce h u) (sym (miss s.place q (λ e. d (sym e ∙ a.0)) (ready s w (length (take 1 s.needs))) (ready s w k))) a
  lifted-keeps h q u d (asking s w k) a = a
  lifted-keeps h q u d (open_act s r) a = lifted-keeps h q u d r a
  lifted-keeps h q u d (live s x t) a = a
  lifted-keeps h q u d (freeing s k) a = a
  lifted-keeps h q u d (in_seq r cs) a = lifted-keeps h q u d r a
  lifted-keeps h q u d (in_par rs) a = lifted-keeps_among h q u d rs a
  lifted-keeps h q u d (in_loop n c body r) a = lifted-keeps h q u d r a
  lifted-keeps h q u d done a = a

  lifted-keeps_among : (h q : Place) (u : Need) → (q ≡ h → ⊥) → (rs : Rests) → AtOnceAmong h u rs → AtOnceAmong h u (lifted_each q rs)
  lifted-keeps_among h q u d no_rests a = absurd a
  lifted-keeps_among h q u d (rest r rs) (inl a) = inl (lifted-keeps h q u d r a.0, nowhere-lifted_each h q rs a.1)
  lifted-keeps_among h q u d (rest r rs) (inr a) = inr (nowhere-lifted h q r a.0, lifted-keeps_among h q u d rs a.1)

pub raised-keeps : (h : Place) (u : Need) (xs : List InAdvance) (r : Rest) → ((held : InAdvance) → Has xs held → held.place ≡ h → ⊥) → AtOnce h u r → AtOnce h u (raised xs r)
raised-keeps h u [] r d a = a
raised-keeps h u (held ∷ xs) r d a = lifted-keeps h held.place u (d held (inl refl)) (raised xs r) (raised-keeps h u xs r (λ other i. d other (inr i)) a)

-- a ready act that holds nothing is alone at its place
module _ (h : Place) (u : Need) (s : Step) (w : Task) (at : s.place ≡ h) (first : take 1 s.needs ≡ u ∷ []) where
  same_ready : (t : Step) (v : Task) (k : ℕ) → ready t v k ≡ ready s w 0 → AtOnce h u (ready t v k)
  same_ready t v k e =
      let step : t ≡ s = cc in
      let none : k ≡ 0 = cc in
      (ap (λ z. z.place) step ∙ at, none, ap (λ z. take 1 z.needs) step ∙ first)

  mutual
    pub at_once : (p : Place) (c : Tree) (r : Rest) → IsPlaced p c → IsRestOf c r → Has (acts r) (ready s w 0) → AtOnce h u r
    at_once p (act t v) (ready x y k) pl re (inl e) = same_ready x y k e
    at_once p (act t v) (ready x y k) pl re (inr i) = absurd i
    at_once p (act t v) (asking x y k) pl re (inl e) = absurd cc
    at_once p (act t v) (asking x y k) pl re (inr i) = absurd i
    at_once p (act t v) (open_act x r) pl re (inl e) = absurd cc
    at_once p (act t v) (open_act x r) pl re (inr i) = at_once_below p v r pl.1 re.1 i
    at_once p (act t v) (live x y z) pl re (inl e) = absurd cc
    at_once p (act t v) (live x y z) pl re (inr i) = absurd i
    at_once p (act t v) (freeing x k) pl re (inl e) = absurd cc
    at_once p (act t v) (freeing x k) pl re (inr i) = absurd i
    at_once p (seq cs) (in_seq r ds) pl re i = at_once_among p 0 cs r ds pl re i
    at_once p (par cs) (in_par rs) pl re i = at_once_side_by_side p 0 cs rs pl re i
    at_once p (sel ch) r pl re i = at_once_chosen p 0 ch r pl re i
    at_once p (loop n c body) (in_loop m d b r) pl re i = at_once (child p 0) body r pl re.3 i
    at_once p c done pl re i = absurd i
    at_once p _ _ pl re i = absurd re

    at_once_below : (p : Place) (v : Task) (r : Rest) → IsPlacedBelow p v → IsRestBelow v r → Has (acts r) (ready s w 0) → AtOnce h u r
    at_once_below p (runs x) r pl re i = absurd re
    at_once_below p (follows name c) r pl re i = at_once (child p 0) c r pl re i

    at_once_among : (p : Place) (n : ℕ) (cs : Trees) (r : Rest) (ds : Trees) → ArePlaced p n cs → IsBranch cs r ds → Has (acts r) (ready s w 0) → AtOnce h u r
    at_once_among p n no_trees r ds pl re i = absurd re
    at_once_among p n (tree c cs) r ds pl (inl re) i = at_once (child p n) c r pl.0 re.0 i
    at_once_among p n (tree c cs) r ds pl (inr re) i = at_once_among p (n + 1) cs r ds pl.1 re i

    at_once_side_by_side : (p : Place) (n : ℕ) (cs : Trees) (rs : Rests) → ArePlaced p n cs → AreBranches cs rs → Has (acts_of_each rs) (ready s w 0) → AtOnceAmong h u rs
    at_once_side_by_side p n (tree c cs) (rest r more) pl re i =
        ⊎_elim
        (λ m.
        let here : IsUnderChild p n s.place = under_child p n s.place (acts-under (child p n) c r pl.0 re.0 (ready s w 0) m) in
        inl (
          at_once (child p n) c r pl.0 re.0 m,
          λ b j d.
              (let there : IsUnderLater p (n + 1) (place_of b) = acts-side_by_side p (n + 1) cs more pl.1 re.1 b j in
              let same : n ≡ there.0 = children_apart p n there.0 s.place (place_of b) here there.2 (at_or_above s.place (place_of b) (at ∙ sym d)) in
              omega (arith, same, there.1)),
        ))
        (λ m.
        let there : IsUnderLater p (n + 1) s.place = acts-side_by_side p (n + 1) cs more pl.1 re.1 (ready s w 0) m in
        inr (
          λ b j d.
              (let here : IsUnderChild p n (place_of b) = under_child p n (place_of b) (acts-under (child p n) c r pl.0 re.0 b j) in
              let same : n ≡ there.0 = children_apart p n there.0 (place_of b) s.place here there.2 (at_or_above (place_of b) s.place (d ∙ sym at)) in
              omega (arith, same, there.1)),
          at_once_side_by_side p (n + 1) cs more pl.1 re.1 m,
        ))
        (Has-split (acts r) (acts_of_each more) (ready s w 0) i)
    at_once_side_by_side p n cs rs pl re i = absurd (grind arith)

    at_once_chosen : (p : Place) (n : ℕ) (ch : Choices) (r : Rest) → IsChoicePlaced p n ch → IsChosen ch r → Has (acts r) (ready s w 0) → AtOnce h u r
    at_once_chosen p n (otherwise c) r pl re i = at_once (child p n) c r pl re i
    at_once_chosen p n (choice d c ch) r pl (inl re) i = at_once (child p n) c r pl.0 re i
    at_once_chosen p n (choice d c ch) r pl (inr re) i = at_once_chosen p (n + 1) ch r pl.1 re i

-- Acts that are reached where nothing is held in advance hold nothing

abbrev pub IsFresh : Rest → Type 0
IsFresh a = (s : Step) × (w : Task) × (a ≡ ready s w 0)

abbrev pub StandsIn : List Rest → Place → Type 0
StandsIn xs p = (b : Rest) × Has xs b × (place_of b ≡ p)

abbrev pub IsOldOrFresh : List Rest → Rest → Type 0
IsOldOrFresh old a = StandsIn old (place_of a) ⊎ IsFresh a

old-left : (xs ys : List Rest) (a : Rest) → IsOldOrFresh xs a → IsOldOrFresh (xs ++ ys) a
old-left xs ys a (inl m) = inl (m.0, Has-left xs ys m.0 m.1, m.2)
old-left xs ys a (inr m) = inr m

old-right : (xs ys : List Rest) (a : Rest) → IsOldOrFresh ys a → IsOldOrFresh (xs ++ ys) a
old-right xs ys a (inl m) = inl (m.0, Has-right xs ys m.0 m.1, m.2)
old-right xs ys a (inr m) = inr m

abbrev pub IsSameOrFresh : List Rest → Rest → Type 0
IsSameOrFresh old a = ((b : Rest) × Has old b × (place_of b ≡ place_of a) × (IsFresh b → IsFresh a)) ⊎ IsFresh a

same-left : (xs ys : List Rest) (a : Rest) → IsSameOrFresh xs a → IsSameOrFresh (xs ++ ys) a
same-left xs ys a (inl m) = inl (m.0, Has-left xs ys m.0 m.1, m.2, m.3)
same-left xs ys a (inr m) = inr m

same-right : (xs ys : List Rest) (a : Rest) → IsSameOrFresh ys a → IsSameOrFresh (xs ++ ys) a
same-right xs ys a (inl m) = inl (m.0, Has-right xs ys m.0 m.1, m.2, m.3)
same-right xs ys a (inr m) = inr m

same-more : (x : Rest) (xs : List Rest) (a : Rest) → IsSameOrFresh xs a → IsSameOrFresh (x ∷ xs) a
same-more x xs a (inl m) = inl (m.0, inr m.1, m.2, m.3)
same-more x xs a (inr m) = inr m

open-not_fresh : (s : Step) (r a : Rest) → IsFresh (open_act s r) → IsFresh a
open-not_fresh s r a f = let e : open_act s r ≡ ready f.0 f.1 0 = f.2 in absurd cc

old-more : (x : Rest) (xs : List Rest) (a : Rest) → IsOldOrFresh xs a → IsOldOrFresh (x ∷ xs) a
old-more x xs a (inl m) = inl (m.0, inr m.1, m.2)
old-more x xs a (inr m) = inr m

-- acts of one rest or the other
pub either-acts : (a : Rest) (P : Type 0) (t : Bool) (q r : Rest) → (Has (acts q) a → P) → (Has (acts r) a → P) → Has (acts (elim t [ true ↦ q | false ↦ r ])) a → P
either-acts a P true q r f g i = f i
either-acts a P false q r f g i = g i

module _ (vs : ValueList) where
  abbrev Empty : Moment
  Empty = at_moment vs []

  mutual
    pub reach-fresh : (c : Tree) (a : Rest) → Has (acts (reach Empty c)) a → IsFresh a
    reach-fresh (act s w) a (inl e) = (s, w, sym e)
    reach-fresh (act s w) a (inr i) = absurd i
    reach-fresh skip a i = absurd i
    reach-fresh (seq cs) a i = reach_first-fresh cs a i
    reach-fresh (par cs) a i = either-acts a (IsFresh a) (all_done (reach_each Empty cs)) done (in_par (reach_each Empty cs)) (λ j. absurd j) (reach_each-fresh cs a) i
    reach-fresh (sel ch) a i = reach_chosen-fresh ch a i
    reach-fresh (loop n c body) a i =
        either-acts a (IsFresh a) (is_done (reach Empty body)) done (in_loop (pred n) c body (reach Empty body)) (λ j. absurd j) (reach-fresh body a) i

    reach_first-fresh : (cs : Trees) (a : Rest) → Has (acts (reach_first Empty cs)) a → IsFresh a
    reach_first-fresh no_trees a i = absurd i
    reach_first-fresh (tree c cs) a i =
        either-acts a (IsFresh a) (is_done (reach Empty c)) (reach_first Empty cs) (in_seq (reach Empty c) cs) (reach_first-fresh cs a) (reach-fresh c a) i

    reach_each-fresh : (cs : Trees) (a : Rest) → Has (acts_of_each (reach_each Empty cs)) a → IsFresh a
    reach_each-fresh no_trees a i = absurd i
    reach_each-fresh (tree c cs) a i =
        ⊎_elim (reach-fresh c a) (reach_each-fresh cs a) (Has-split (acts (reach Empty c)) (acts_of_each (reach_each Empty cs)) a i)

    reach_chosen-fresh : (ch : Choices) (a : Rest) → Has (acts (reach_chosen Empty ch)) a → IsFresh a
    reach_chosen-fresh (otherwise c) a i = reach-fresh c a i
    reach_chosen-fresh (choice p c ch) a i = either-acts a (IsFresh a) (holds vs p) (reach Empty c) (reach_chosen Empty ch) (reach-fresh c a) (reach_chosen-fresh ch a) i

  turned-fresh : (old : List Rest) (n : ℕ) (c : Condition) (body : Tree) (r a : Rest) → (Has (acts r) a → IsSameOrFresh old a) → Has (acts (turned Empty n c body r)) a → IsSameOrFresh old a
  turned-fresh old zero c body r a h i = either-acts a (IsSameOrFresh old a) (is_done r) done (in_loop 0 c body r) (λ j. absurd j) h i
  turned-fresh old (suc n) c body r a h i = go (is_done r) i
    where
      go : (t : Bool) → Has (acts (elim t [ false ↦ in_loop (suc n) c body r | true ↦ elim (holds vs c) [ true ↦ done | false ↦ turning n c body (reach Empty body) ] ])) a → IsSameOrFresh old a
      go false j = h j
      go true j =
          either-acts a (IsSameOrFresh old a) (holds vs c) done (turning n c body (reach Empty body)) (λ k. absurd k)
          (λ k. inr (either-acts a (IsFresh a) (is_done (reach Empty body)) done (in_loop n c body (reach Empty body)) (λ l. absurd l) (reach-fresh body a) k)) j

  mutual
    pub advance-fresh : (r a : Rest) → Has (acts (advance Empty r)) a → IsSameOrFresh (acts r) a
    advance-fresh (ready s w k) a i = inl (a, i, refl, λ f. f)
    advance-fresh (asking s w k) a i = inl (a, i, refl, λ f. f)
    advance-fresh (open_act s r) a (inl e) = inl (open_act s r, inl refl, ap place_of e, open-not_fresh s r a)
    advance-fresh (open_act s r) a (inr i) = same-more (open_act s r) (acts r) a (advance-fresh r a i)
    advance-fresh (live s x t) a i = inl (a, i, refl, λ f. f)
    advance-fresh (freeing s k) a i = inl (a, i, refl, λ f. f)
    advance-fresh (in_seq r cs) a i =
        either-acts a (IsSameOrFresh (acts r) a) (is_done (advance Empty r)) (reach_first Empty cs) (in_seq (advance Empty r) cs) (λ j. inr (reach_first-fresh cs a j)) (advance-fresh r a) i
    advance-fresh (in_par rs) a i =
        either-acts a (IsSameOrFresh (acts_of_each rs) a) (all_done (advance_each Empty rs)) done (in_par (advance_each Empty rs)) (λ j. absurd j) (advance_each-fresh rs a) i
    advance-fresh (in_loop n c body r) a i = turned-fresh (acts r) n c body (advance Empty r) a (advance-fresh r a) i
    advance-fresh done a i = absurd i

    advance_each-fresh : (rs : Rests) (a : Rest) → Has (acts_of_each (advance_each Empty rs)) a → IsSameOrFresh (acts_of_each rs) a
    advance_each-fresh no_rests a i = absurd i
    advance_each-fresh (rest r rs) a i =
        ⊎_elim (λ j. same-left (acts r) (acts_of_each rs) a (advance-fresh r a j)) (λ j. same-right (acts r) (acts_of_each rs) a (advance_each-fresh rs a j))
        (Has-split (acts (advance Empty r)) (acts_of_each (advance_each Empty rs)) a i)

-- so of a change at a place, if the result of f has no other acts
abbrev pub IsTidy : (Rest → Rest) → Type 0
IsTidy f = (a x : Rest) → Has (acts (f a)) x → IsOldOrFresh (acts a) x

module _ (p : Place) (f : Rest → Rest) (tidy : IsTidy f) where
  tidy_at : (q : Place) (a b x : Rest) → (Has (acts b) x → IsOldOrFresh (acts a) x) → Has (acts (elim (same_place q p) [ true ↦ f a | false ↦ b ])) x → IsOldOrFresh (acts a) x
  tidy_at q a b x h i = either-acts x (IsOldOrFresh (acts a) x) (same_place q p) (f a) b (tidy a x) h i

  mutual
    pub changed-fresh : (r x : Rest) → Has (acts (changed_at p f r)) x → IsOldOrFresh (acts r) x
    changed-fresh (ready s w k) x i = tidy_at s.place (ready s w k) (ready s w k) x (λ j. inl (x, j, refl)) i
    changed-fresh (asking s w k) x i = tidy_at s.place (asking s w k) (asking s w k) x (λ j. inl (x, j, refl)) i
    changed-fresh (open_act s r) x i =
        tidy_at s.place (open_act s r) (open_act s (changed_at p f r)) x
        (λ j. ⊎_elim (λ e. inl (open_act s r, inl refl, ap place_of e)) (λ k. old-more (open_act s r) (acts r) x (changed-fresh r x k)) j) i
    changed-fresh (live s y t) x i = tidy_at s.place (live s y t) (live s y t) x (λ j. inl (x, j, refl)) i
    changed-fresh (freeing s k) x i = tidy_at s.place (freeing s k) (freeing s k) x (λ j. inl (x, j, refl)) i
    changed-fresh (in_seq r cs) x i = changed-fresh r x i
    changed-fresh (in_par rs) x i = changed_in_each-fresh rs x i
    changed-fresh (in_loop n c body r) x i = changed-fresh r x i
    changed-fresh done x i = absurd i

    changed_in_each-fresh : (rs : Rests) (x : Rest) → Has (acts_of_each (changed_in_each p f rs)) x → IsOldOrFresh (acts_of_each rs) x
    changed_in_each-fresh no_rests x i = absurd i
    changed_in_each-fresh (rest r rs) x i =
        ⊎_elim (λ j. old-left (acts r) (acts_of_each rs) x (changed-fresh r x j)) (λ j. old-right (acts r) (acts_of_each rs) x (changed_in_each-fresh rs x j))
        (Has-split (acts (changed_at p f r)) (acts_of_each (changed_in_each p f rs)) x i)

-- an act that stands where nothing stood before is fresh
pub fresh-where-none : (vs : ValueList) (p : Place) (f : Rest → Rest) → IsTidy f → (r a : Rest) → Has (acts (advance (at_moment vs []) (changed_at p f r))) a → Nowhere (place_of a) (acts r) → IsFresh a
fresh-where-none vs p f tidy r a i none =
    ⊎_elim
    (λ m. m.3 (⊎_elim (λ n. absurd (none n.0 n.1 (n.2 ∙ m.2))) (λ n. n) (changed-fresh p f tidy r m.0 m.1)))
    (λ m. m)
    (advance-fresh vs (changed_at p f r) a i)
