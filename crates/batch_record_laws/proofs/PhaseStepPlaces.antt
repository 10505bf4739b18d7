-- No phase step of a tree stands at the place of one of its unit procedures.
use Rattle.std.proofs.Common.{◌≡◌, refl, sym, ◌∙◌, ap, subst, ℕ, ◌+◌, arith, [], ◌∷◌, Some, inl, inr, ⊎_elim}
use Rattle.std.specs.Prelude.{⊤}
use Rattle.batch_recipe.specs.{Conditions.Name, Following.follower, Nodes.child, Tree.Place, Tree.Phase, Tree.Step, Tree.runs, Tree.follows, Tree.Tree, Tree.act, Tree.skip, Tree.seq, Tree.par, Tree.sel, Tree.loop, Tree.Trees, Tree.no_trees, Tree.tree, Tree.Choices, Tree.otherwise, Tree.choice}
use Rattle.batch_model.{specs.Lists.Has, specs.Placed.IsPlaced, specs.Placed.ArePlaced, specs.Placed.IsChoicePlaced, specs.Records.IsAtOrAbove, specs.Rest.Rest, specs.Rest.ready, specs.Rest.asking, specs.Rest.open_act, specs.Rest.live, specs.Rest.freeing, specs.Rest.in_seq, specs.Rest.in_par, specs.Rest.in_loop, specs.Rest.done, specs.Rest.Rests, specs.Rest.no_rests, specs.Rest.rest, specs.Rest.acts, specs.Rest.acts_of_each, specs.Standing.IsRestOf, specs.Standing.IsBranch, specs.Standing.AreBranches, specs.Standing.IsChosen, proofs.Members.Has-split}
use Rattle.batch_record_laws.{specs.Procedures.HasLevels, proofs.FactsAfterChange.at_or_above, proofs.FactPlaces.IsUnderChild, proofs.FactPlaces.IsUnderLater, proofs.FactPlaces.under_child, proofs.FactPlaces.under, proofs.FactPlaces.is_at, proofs.FactPlaces.children_apart, proofs.FactPlaces.not_above_itself, proofs.NeedsOfReserves.step-at, proofs.NeedsOfReserves.each-at, proofs.NeedsOfReserves.chosen-at, proofs.UnitProcedures.Top, proofs.UnitProcedures.tops, proofs.UnitProcedures.tops_of_each, proofs.UnitProcedures.tops_of_choices, proofs.UnitProcedures.top-steps, proofs.UnitProcedures.top-steps_of_each, proofs.UnitProcedures.top-steps_of_choices, proofs.UnitProcedures.follower-one}

abbrev mutual
  -- no phase step of the tree stands at the place
  pub Avoids : Place → Tree → Type 0
  Avoids q (act s (runs y)) = s.place ≡ q → ⊥
  Avoids q (act s (follows name c)) = Avoids q c
  Avoids q skip = ⊤
  Avoids q (seq cs) = AvoidEach q cs
  Avoids q (par cs) = AvoidEach q cs
  Avoids q (sel ch) = AvoidChoices q ch
  Avoids q (loop n c body) = Avoids q body

  pub AvoidEach : Place → Trees → Type 0
  AvoidEach q no_trees = ⊤
  AvoidEach q (tree c cs) = Avoids q c × AvoidEach q cs

  pub AvoidChoices : Place → Choices → Type 0
  AvoidChoices q (otherwise c) = Avoids q c
  AvoidChoices q (choice b c ch) = Avoids q c × AvoidChoices q ch

mutual
  elsewhere : (q p : Place) (c : Tree) → IsPlaced p c → (IsAtOrAbove p q → ⊥) → Avoids q c
  elsewhere q p (act s (runs y)) pl not_so = λ e. not_so (is_at p q (sym e ∙ pl.0))
  elsewhere q p (act s (follows name c)) pl not_so = elsewhere q (child p 0) c pl.1 (λ h. not_so (under p 0 q (under_child p 0 q h)))
  elsewhere q p skip pl not_so = tt
  elsewhere q p (seq cs) pl not_so = elsewhere_each q p 0 cs pl (λ h. not_so (under p h.0 q h.2))
  elsewhere q p (par cs) pl not_so = elsewhere_each q p 0 cs pl (λ h. not_so (under p h.0 q h.2))
  elsewhere q p (sel ch) pl not_so = elsewhere_choices q p 0 ch pl (λ h. not_so (under p h.0 q h.2))
  elsewhere q p (loop n c body) pl not_so = elsewhere q (child p 0) body pl (λ h. not_so (under p 0 q (under_child p 0 q h)))

  elsewhere_each : (q p : Place) (i : ℕ) (cs : Trees) → ArePlaced p i cs → (IsUnderLater p i q → ⊥) → AvoidEach q cs
  elsewhere_each q p i no_trees pl not_so = tt
  elsewhere_each q p i (tree c cs) pl not_so = (
    elsewhere q (child p i) c pl.0 (λ h. not_so (i, omega arith, under_child p i q h)),
    elsewhere_each q p (i + 1) cs pl.1 (λ h. not_so (h.0, omega (arith, h.1), h.2)),
  )

  elsewhere_choices : (q p : Place) (i : ℕ) (ch : Choices) → IsChoicePlaced p i ch → (IsUnderLater p i q → ⊥) → AvoidChoices q ch
  elsewhere_choices q p i (otherwise c) pl not_so = elsewhere q (child p i) c pl (λ h. not_so (i, omega arith, under_child p i q h))
  elsewhere_choices q p i (choice b c ch) pl not_so = (
    elsewhere q (child p i) c pl.0 (λ h. not_so (i, omega arith, under_child p i q h)),
    elsewhere_choices q p (i + 1) ch pl.1 (λ h. not_so (h.0, omega (arith, h.1), h.2)),
  )

-- of a place below child i, where it is below a later child too
not_both : (p : Place) (i : ℕ) (q : Place) → IsUnderChild p i q → IsUnderLater p (i + 1) q → ⊥
not_both p i q h k =
    let same : i ≡ k.0 = children_apart p i k.0 q q h k.2 (at_or_above q q refl) in
    omega (arith, same, k.1)

-- a unit procedure of child i stands below it
top-under : (p : Place) (i : ℕ) (c : Tree) → IsPlaced (child p i) c → (t : Top) → Has (tops c) t → IsUnderChild p i t.0.place
top-under p i c pl t h = let m = step-at (child p i) c pl t.0 (top-steps c t h) in under_child p i t.0.place (m.below, sym m.place)

mutual
  tops-avoid : (p : Place) (c : Tree) → IsPlaced p c → (t : Top) → Has (tops c) t → Avoids t.0.place c
  tops-avoid p (act s (runs y)) pl t h = absurd h
  tops-avoid p (act s (follows name c)) pl t (inl e) =
      elsewhere t.0.place (child p 0) c pl.1
      (λ h. not_above_itself p 0 t.0.place (under_child p 0 t.0.place h) (at_or_above t.0.place p (ap (λ z. z.0.place) (sym e) ∙ pl.0)))
  tops-avoid p (act s (follows name c)) pl t (inr h) = absurd h
  tops-avoid p skip pl t h = absurd h
  tops-avoid p (seq cs) pl t h = tops-avoid_each p 0 cs pl t h
  tops-avoid p (par cs) pl t h = tops-avoid_each p 0 cs pl t h
  tops-avoid p (sel ch) pl t h = tops-avoid_choices p 0 ch pl t h
  tops-avoid p (loop n c body) pl t h = tops-avoid (child p 0) body pl t h

  tops-avoid_each : (p : Place) (i : ℕ) (cs : Trees) → ArePlaced p i cs → (t : Top) → Has (tops_of_each cs) t → AvoidEach t.0.place cs
  tops-avoid_each p i no_trees pl t h = absurd h
  tops-avoid_each p i (tree c cs) pl t h =
      let q : Place = t.0.place in
      ⊎_elim
      (λ m. (tops-avoid (child p i) c pl.0 t m, elsewhere_each q p (i + 1) cs pl.1 (not_both p i q (top-under p i c pl.0 t m))))
      (λ m.
      let at = each-at p (i + 1) cs pl.1 t.0 (top-steps_of_each cs t m) in
      let later : IsUnderLater p (i + 1) q = (i + 1 + at.number, omega arith, (at.below, sym at.place)) in (
        elsewhere q (child p i) c pl.0 (λ z. not_both p i q (under_child p i q z) later),
        tops-avoid_each p (i + 1) cs pl.1 t m,
      ))
      (Has-split (tops c) (tops_of_each cs) t h)

  tops-avoid_choices : (p : Place) (i : ℕ) (ch : Choices) → IsChoicePlaced p i ch → (t : Top) → Has (tops_of_choices ch) t → AvoidChoices t.0.place ch
  tops-avoid_choices p i (otherwise c) pl t h = tops-avoid (child p i) c pl t h
  tops-avoid_choices p i (choice b c ch) pl t h =
      let q : Place = t.0.place in
      ⊎_elim
      (λ m. (tops-avoid (child p i) c pl.0 t m, elsewhere_choices q p (i + 1) ch pl.1 (not_both p i q (top-under p i c pl.0 t m))))
      (λ m.
      let at = chosen-at p (i + 1) ch pl.1 t.0 (top-steps_of_choices ch t m) in
      let later : IsUnderLater p (i + 1) q = (i + 1 + at.number, omega arith, (at.below, sym at.place)) in (
        elsewhere q (child p i) c pl.0 (λ z. not_both p i q (under_child p i q z) later),
        tops-avoid_choices p (i + 1) ch pl.1 t m,
      ))
      (Has-split (tops c) (tops_of_choices ch) t h)

-- no phase step stands where something follows
abbrev pub FollowersAreAvoided : Tree → Type 0
FollowersAreAvoided c = (place : Place) (name : Name) (to : Place) → follower c place name ≡ Some to → Avoids to c

pub followers-avoided : (c : Tree) → IsPlaced (0 ∷ []) c → HasLevels c → FollowersAreAvoided c
followers-avoided (act s (follows name c)) pl h =
    λ place wanted to e.
    let m = follower-one s name c place wanted to e in
    subst (λ q. Avoids q c) m.3 (tops-avoid (0 ∷ 0 ∷ []) c pl.1 m.0 m.1)
followers-avoided c pl h = absurd (grind arith)

mutual
  -- no act that is reached and runs a phase stands at a place that phase steps avoid
  pub phase-elsewhere : (q : Place) (c : Tree) (r : Rest) → Avoids q c → IsRestOf c r → (s : Step) (y : Phase) (k : ℕ) → Has (acts r) (ready s (runs y) k) → s.place ≡ q → ⊥
  phase-elsewhere q (act u w) (ready t v j) av re s y k (inl e) at =
      let step : t ≡ s = cc in
      let task : v ≡ runs y = cc in
      subst (λ z. Avoids q (act u z)) (sym re.1 ∙ task) av (ap (λ z. z.place) (sym re.0 ∙ step) ∙ at)
  phase-elsewhere q (act u w) (ready t v j) av re s y k (inr i) at = absurd i
  phase-elsewhere q (act u w) (asking t v j) av re s y k (inl e) at = absurd cc
  phase-elsewhere q (act u w) (asking t v j) av re s y k (inr i) at = absurd i
  phase-elsewhere q (act u (runs x)) (open_act t r) av re s y k i at = absurd re.1
  phase-elsewhere q (act u (follows name c)) (open_act t r) av re s y k (inl e) at = absurd cc
  phase-elsewhere q (act u (follows name c)) (open_act t r) av re s y k (inr i) at = phase-elsewhere q c r av re.1 s y k i at
  phase-elsewhere q (act u w) (live t x z) av re s y k (inl e) at = absurd cc
  phase-elsewhere q (act u w) (live t x z) av re s y k (inr i) at = absurd i
  phase-elsewhere q (act u w) (freeing t j) av re s y k (inl e) at = absurd cc
  phase-elsewhere q (act u w) (freeing t j) av re s y k (inr i) at = absurd i
  phase-elsewhere q (seq cs) (in_seq r ds) av re s y k i at = phase-elsewhere_among q cs r ds av re s y k i at
  phase-elsewhere q (par cs) (in_par rs) av re s y k i at = phase-elsewhere_each q cs rs av re s y k i at
  phase-elsewhere q (sel ch) r av re s y k i at = phase-elsewhere_chosen q ch r av re s y k i at
  phase-elsewhere q (loop n c body) (in_loop m d x r) av re s y k i at = phase-elsewhere q body r av re.3 s y k i at
  phase-elsewhere q c done av re s y k i at = absurd i
  phase-elsewhere q _ _ av re s y k i at = absurd re

  phase-elsewhere_among : (q : Place) (cs : Trees) (r : Rest) (ds : Trees) → AvoidEach q cs → IsBranch cs r ds → (s : Step) (y : Phase) (k : ℕ) → Has (acts r) (ready s (runs y) k) → s.place ≡ q → ⊥
  phase-elsewhere_among q no_trees r ds av re s y k i at = absurd re
  phase-elsewhere_among q (tree c cs) r ds av (inl re) s y k i at = phase-elsewhere q c r av.0 re.0 s y k i at
  phase-elsewhere_among q (tree c cs) r ds av (inr re) s y k i at = phase-elsewhere_among q cs r ds av.1 re s y k i at

  phase-elsewhere_each : (q : Place) (cs : Trees) (rs : Rests) → AvoidEach q cs → AreBranches cs rs → (s : Step) (y : Phase) (k : ℕ) → Has (acts_of_each rs) (ready s (runs y) k) → s.place ≡ q → ⊥
  phase-elsewhere_each q no_trees no_rests av re s y k i at = absurd i
  phase-elsewhere_each q (tree c cs) (rest r rs) av re s y k i at =
      ⊎_elim (λ m. phase-elsewhere q c r av.0 re.0 s y k m at) (λ m. phase-elsewhere_each q cs rs av.1 re.1 s y k m at) (Has-split (acts r) (acts_of_each rs) (ready s (runs y) k) i)
  phase-elsewhere_each q cs rs av re s y k i at = absurd (grind arith)

  phase-elsewhere_chosen : (q : Place) (ch : Choices) (r : Rest) → AvoidChoices q ch → IsChosen ch r → (s : Step) (y : Phase) (k : ℕ) → Has (acts r) (ready s (runs y) k) → s.place ≡ q → ⊥
  phase-elsewhere_chosen q (otherwise c) r av re s y k i at = phase-elsewhere q c r av re s y k i at
  phase-elsewhere_chosen q (choice b c ch) r av (inl re) s y k i at = phase-elsewhere q c r av.0 re s y k i at
  phase-elsewhere_chosen q (choice b c ch) r av (inr re) s y k i at = phase-elsewhere_chosen q ch r av.1 re s y k i at
