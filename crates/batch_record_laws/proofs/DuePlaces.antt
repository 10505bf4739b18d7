-- A place that is due isn't reached.
use Rattle.std.proofs.Common.{arith, ◌≡◌, sym, ◌∙◌, ap, subst, ℕ, ◌+◌, List, [], ◌∷◌, inl, inr, ◌⊎◌, ⊎_elim}
use Rattle.batch_recipe.specs.{Following.Follower, Following.firsts, Following.firsts_of_each, Following.enter, Levels.Level, Levels.is_procedure, Levels.in_procedure, Levels.in_unit_procedure, Levels.in_operation, Levels.below, Nodes.child, Tree.Place, Tree.Task, Tree.runs, Tree.follows, Tree.Tree, Tree.act, Tree.skip, Tree.seq, Tree.par, Tree.sel, Tree.loop, Tree.Trees, Tree.no_trees, Tree.tree, Tree.Choices, Tree.otherwise, Tree.choice}
use Rattle.batch_model.{specs.Lists.Has, specs.Placed.IsPlaced, specs.Placed.IsPlacedBelow, specs.Placed.ArePlaced, specs.Placed.IsChoicePlaced, specs.Records.IsAtOrAbove, specs.Rest.Rest, specs.Rest.ready, specs.Rest.asking, specs.Rest.open_act, specs.Rest.live, specs.Rest.freeing, specs.Rest.in_seq, specs.Rest.in_par, specs.Rest.in_loop, specs.Rest.done, specs.Rest.Rests, specs.Rest.no_rests, specs.Rest.rest, specs.Rest.acts, specs.Rest.acts_of_each, specs.Rest.place_of, specs.Standing.IsRestOf, specs.Standing.IsRestBelow, specs.Standing.IsBranch, specs.Standing.AreBranches, specs.Standing.IsChosen, specs.Standing.after_branch, specs.Standing.due_followers, specs.Standing.due_in_each, specs.Standing.IsAwaited, proofs.Members.Has-split}
use Rattle.batch_record_laws.proofs.{FactsAfterChange.at_or_above, FactPlaces.IsUnderChild, FactPlaces.IsUnderLater, FactPlaces.under_child, FactPlaces.under, FactPlaces.is_at, FactPlaces.acts-under, FactPlaces.acts-side_by_side, FactPlaces.children_apart, FactPlaces.not_above_itself, HoldingsInAdvance.Nowhere}

-- The first acts of a chart are at or below its place

mutual
  firsts-under : (p : Place) (c : Tree) → IsPlaced p c → (f : Follower) → Has (firsts c) f → IsAtOrAbove p f.1
  firsts-under p (act s (runs x)) pl f h = absurd h
  firsts-under p (act s (follows name c)) pl f (inl e) = is_at p f.1 (sym (ap (λ z. z.1) e) ∙ pl.0)
  firsts-under p (act s (follows name c)) pl f (inr h) = absurd h
  firsts-under p skip pl f h = absurd h
  firsts-under p (seq no_trees) pl f h = absurd h
  firsts-under p (seq (tree c cs)) pl f h = under p 0 f.1 (under_child p 0 f.1 (firsts-under (child p 0) c pl.0 f h))
  firsts-under p (par cs) pl f h = let m = firsts_of_each-under p 0 cs pl f h in under p m.0 f.1 m.2
  firsts-under p (sel ch) pl f h = absurd h
  firsts-under p (loop n c body) pl f h = under p 0 f.1 (under_child p 0 f.1 (firsts-under (child p 0) body pl f h))

  firsts_of_each-under : (p : Place) (i : ℕ) (cs : Trees) → ArePlaced p i cs → (f : Follower) → Has (firsts_of_each cs) f → IsUnderLater p i f.1
  firsts_of_each-under p i no_trees pl f h = absurd h
  firsts_of_each-under p i (tree c cs) pl f h =
      ⊎_elim (λ m. (i, omega arith, under_child p i f.1 (firsts-under (child p i) c pl.0 f m)))
      (λ m. let n = firsts_of_each-under p (i + 1) cs pl.1 f m in (n.0, omega (arith, n.1), n.2))
      (Has-split (firsts c) (firsts_of_each cs) f h)

enter-under : (level : Level) (p : Place) (c : Tree) → IsPlaced p c → (f : Follower) → Has (enter level c) f → IsAtOrAbove p f.1
enter-under is_procedure p c pl f h = absurd h
enter-under in_procedure p c pl f h = firsts-under p c pl f h
enter-under in_unit_procedure p c pl f h = absurd h
enter-under in_operation p c pl f h = absurd h

-- no act of the list stands at or below the place
abbrev pub NoneUnder : Place → List Rest → Type 0
NoneUnder h reached = (a : Rest) → Has reached a → IsAtOrAbove h (place_of a) → ⊥

-- it follows the whole rest, or stands below its chart's place, where no act of the rest stands, nor below it

abbrev IsAhead : List Follower → Place → List Rest → Follower → Type 0
IsAhead next p reached f = Has next f ⊎ (IsAtOrAbove p f.1 × NoneUnder f.1 reached)

-- the same below children from child i on
abbrev IsAheadLater : List Follower → Place → ℕ → List Rest → Follower → Type 0
IsAheadLater next p i reached f = Has next f ⊎ (IsUnderLater p i f.1 × NoneUnder f.1 reached)

later-ahead : (next : List Follower) (p : Place) (i : ℕ) (reached : List Rest) (f : Follower) → IsAheadLater next p i reached f → IsAhead next p reached f
later-ahead next p i reached f (inl h) = inl h
later-ahead next p i reached f (inr h) = inr (under p h.0.0 f.1 h.0.2, h.1)

child-ahead : (next : List Follower) (p : Place) (i : ℕ) (reached : List Rest) (f : Follower) → IsAhead next (child p i) reached f → IsAheadLater next p i reached f
child-ahead next p i reached f (inl h) = inl h
child-ahead next p i reached f (inr h) = inr ((i, omega arith, under_child p i f.1 h.0), h.1)

more-ahead : (next : List Follower) (p : Place) (i : ℕ) (reached : List Rest) (f : Follower) → IsAheadLater next p (i + 1) reached f → IsAheadLater next p i reached f
more-ahead next p i reached f (inl h) = inl h
more-ahead next p i reached f (inr h) = inr ((h.0.0, omega (arith, h.0.1), h.0.2), h.1)

mutual
  due-ahead : (level : Level) (next : List Follower) (p : Place) (c : Tree) (r : Rest) → IsPlaced p c → IsRestOf c r → (f : Follower) → Has (due_followers level next r) f → IsAhead next p (acts r) f
  due-ahead level next p (act s w) (ready u v k) pl re f h = absurd h
  due-ahead level next p (act s w) (asking u v k) pl re f h = absurd h
  due-ahead level next p (act s w) (open_act u r) pl re f h =
      ⊎_elim (λ m. inl m)
      (λ m. inr (
        under p m.0.0 f.1 m.0.2,
        λ a i e.
            ⊎_elim
            (λ q.
            let at : u.place ≡ p = ap (λ z. z.place) re.0 ∙ pl.0 in
            not_above_itself p m.0.0 f.1 m.0.2 (subst (λ z. IsAtOrAbove f.1 z) (sym (ap place_of q) ∙ at) e))
            (λ j. m.1 a j e) i,
      ))
      (below-ahead (below level) next p w r pl.1 re.1 f h)
  due-ahead level next p (act s w) (live u x t) pl re f h = absurd h
  due-ahead level next p (act s w) (freeing u k) pl re f h = inl h
  due-ahead level next p (seq cs) (in_seq r ds) pl re f h = later-ahead next p 0 (acts r) f (branch-ahead level next p 0 cs r ds pl re f h)
  due-ahead level next p (par cs) (in_par rs) pl re f h =
      let m = each-ahead level p 0 cs rs pl re f h in
      inr (under p m.0.0 f.1 m.0.2, m.1)
  due-ahead level next p (sel ch) r pl re f h = later-ahead next p 0 (acts r) f (chosen-ahead level next p 0 ch r pl re f h)
  due-ahead level next p (loop n c body) (in_loop m d b r) pl re f h =
      ⊎_elim (λ n. absurd n) (λ n. inr (under p 0 f.1 (under_child p 0 f.1 n.0), n.1)) (due-ahead level [] (child p 0) body r pl re.3 f h)
  due-ahead level next p c done pl re f h = inl h
  due-ahead level next p _ _ pl re f h = absurd re

  below-ahead : (level : Level) (next : List Follower) (p : Place) (w : Task) (r : Rest) → IsPlacedBelow p w → IsRestBelow w r → (f : Follower) → Has (due_followers level next r) f → IsAheadLater next p 0 (acts r) f
  below-ahead level next p (runs x) r pl re f h = absurd re
  below-ahead level next p (follows name c) r pl re f h = child-ahead next p 0 (acts r) f (due-ahead level next (child p 0) c r pl re f h)

  branch-ahead : (level : Level) (next : List Follower) (p : Place) (i : ℕ) (cs : Trees) (r : Rest) (ds : Trees) → ArePlaced p i cs → IsBranch cs r ds → (f : Follower)
      → Has (due_followers level (after_branch level next ds) r) f → IsAheadLater next p i (acts r) f
  branch-ahead level next p i no_trees r ds pl re f h = absurd re
  branch-ahead level next p i (tree c cs) r ds pl (inl re) f h =
      ⊎_elim (after cs pl.1 (subst (λ z. Has (due_followers level (after_branch level next z) r) f) re.1 h))
      (λ m. child-ahead next p i (acts r) f (inr m))
      (due-ahead level (after_branch level next cs) (child p i) c r pl.0 re.0 f (subst (λ z. Has (due_followers level (after_branch level next z) r) f) re.1 h))
    where
      after : (es : Trees) → ArePlaced p (i + 1) es → Has (due_followers level (after_branch level next es) r) f → Has (after_branch level next es) f → IsAheadLater next p i (acts r) f
      after no_trees el g k = inl k
      after (tree d es) el g k =
          let there : IsUnderChild p (i + 1) f.1 = under_child p (i + 1) f.1 (enter-under level (child p (i + 1)) d el.0 f k) in
          inr (
            (i + 1, omega arith, there),
            λ a j e.
                (let here : IsUnderChild p i (place_of a) = under_child p i (place_of a) (acts-under (child p i) c r pl.0 re.0 a j) in
                let same : i + 1 ≡ i = children_apart p (i + 1) i f.1 (place_of a) there here e in
                omega (arith, same)),
          )
  branch-ahead level next p i (tree c cs) r ds pl (inr re) f h = more-ahead next p i (acts r) f (branch-ahead level next p (i + 1) cs r ds pl.1 re f h)

  each-ahead : (level : Level) (p : Place) (i : ℕ) (cs : Trees) (rs : Rests) → ArePlaced p i cs → AreBranches cs rs → (f : Follower) → Has (due_in_each level rs) f
      → IsUnderLater p i f.1 × NoneUnder f.1 (acts_of_each rs)
  each-ahead level p i no_trees no_rests pl re f h = absurd h
  each-ahead level p i (tree c cs) (rest r rs) pl re f h =
      ⊎_elim
      (λ m. ⊎_elim (λ n. absurd n)
      (λ n.
      let here : IsUnderChild p i f.1 = under_child p i f.1 n.0 in (
        (i, omega arith, here),
        λ a j e.
            ⊎_elim (λ k. n.1 a k e)
            (λ k.
            let there : IsUnderLater p (i + 1) (place_of a) = acts-side_by_side p (i + 1) cs rs pl.1 re.1 a k in
            let same : i ≡ there.0 = children_apart p i there.0 f.1 (place_of a) here there.2 e in
            omega (arith, same, there.1))
            (Has-split (acts r) (acts_of_each rs) a j),
      ))
      (due-ahead level [] (child p i) c r pl.0 re.0 f m))
      (λ m.
      let n = each-ahead level p (i + 1) cs rs pl.1 re.1 f m in (
        (n.0.0, omega (arith, n.0.1), n.0.2),
        λ a j e.
            ⊎_elim
            (λ k.
            let here : IsUnderChild p i (place_of a) = under_child p i (place_of a) (acts-under (child p i) c r pl.0 re.0 a k) in
            let same : n.0.0 ≡ i = children_apart p n.0.0 i f.1 (place_of a) n.0.2 here e in
            omega (arith, same, n.0.1))
            (λ k. n.1 a k e)
            (Has-split (acts r) (acts_of_each rs) a j),
      ))
      (Has-split (due_followers level [] r) (due_in_each level rs) f h)
  each-ahead level p i cs rs pl re f h = absurd (grind arith)

  chosen-ahead : (level : Level) (next : List Follower) (p : Place) (i : ℕ) (ch : Choices) (r : Rest) → IsChoicePlaced p i ch → IsChosen ch r → (f : Follower) → Has (due_followers level next r) f
      → IsAheadLater next p i (acts r) f
  chosen-ahead level next p i (otherwise c) r pl re f h = child-ahead next p i (acts r) f (due-ahead level next (child p i) c r pl re f h)
  chosen-ahead level next p i (choice q c ch) r pl (inl re) f h = child-ahead next p i (acts r) f (due-ahead level next (child p i) c r pl.0 re f h)
  chosen-ahead level next p i (choice q c ch) r pl (inr re) f h = more-ahead next p i (acts r) f (chosen-ahead level next p (i + 1) ch r pl.1 re f h)

-- a place that is due in a whole rest isn't reached there, nor is any below it
pub awaited-none_under : (c : Tree) (r : Rest) → IsPlaced (0 ∷ []) c → IsRestOf c r → (to : Place) → IsAwaited r to → NoneUnder to (acts r)
awaited-none_under c r pl re to h = ⊎_elim (λ m. absurd m) (λ m. m.1) (due-ahead is_procedure [] (0 ∷ []) c r pl re (h.0, to) h.1)

pub awaited-nowhere : (c : Tree) (r : Rest) → IsPlaced (0 ∷ []) c → IsRestOf c r → (to : Place) → IsAwaited r to → Nowhere to (acts r)
awaited-nowhere c r pl re to h a i e = awaited-none_under c r pl re to h a i (at_or_above to (place_of a) (sym e))
