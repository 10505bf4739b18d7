-- The units that a batch holds in advance, and the needs that its acts hold and ask for, are no more than its tree needs at once.
use Rattle.std.proofs.Common.{◌≡◌, ◌≤◌, ◌+◌, refl, sym, ap, subst, ℕ, zero, suc, List, [], ◌∷◌, inl, inr, arith, length, map, take, slice_get}
use Rattle.std.{specs.Prelude.sum_by, proofs.lemmas.List.length-append, proofs.lemmas.List.length-map, proofs.lemmas.List.Sums.sum_by-cons}
use Rattle.batch_recipe.specs.{declared.need.Need.Need, Following.Follower, Following.enter, Following.firsts, Following.firsts_of_each, Levels.Level, Levels.is_procedure, Levels.in_procedure, Levels.in_unit_procedure, Levels.in_operation, Levels.below, Tree.Place, Tree.Step, Tree.Task, Tree.runs, Tree.follows, Tree.Tree, Tree.act, Tree.skip, Tree.seq, Tree.par, Tree.sel, Tree.loop, Tree.Trees, Tree.no_trees, Tree.tree, Tree.Choices, Tree.otherwise, Tree.choice}
use Rattle.batch_model.specs.{Lists.Has, Plant.InAdvance, Rest.Rest, Rest.ready, Rest.asking, Rest.open_act, Rest.live, Rest.freeing, Rest.in_seq, Rest.in_par, Rest.in_loop, Rest.done, Rest.Rests, Rest.no_rests, Rest.rest, Standing.IsRestOf, Standing.IsRestBelow, Standing.IsBranch, Standing.AreBranches, Standing.IsChosen, Standing.after_branch, Standing.due_followers, Standing.due_in_each, Standing.IsAwaited}
use Rattle.batch_record_laws.proofs.{SameFacts.StandApart, PlantFacts.facts, PlantFacts.facts_of_each, PlantFacts.held_at, PlantFacts.awaited_at, PlantFacts.performing}
use Rattle.batch_chart.specs.NodesOf.{own_needs, own_units, most_by, most_below, most_of_one, most_of_all, most_of_chosen, needs_in}
use Rattle.batch_engine.proofs.{ShareCount.weights, ShareCount.join, ShareCount.held, DistinctElements.Once, DistinctElements.pigeons}

-- No more unit procedures are due than may hold their units in advance

mutual
  firsts-few : (c : Tree) → length (firsts c) ≤ most_by own_units c
  firsts-few (act s (runs x)) = omega arith
  firsts-few (act s (follows name c)) = omega arith
  firsts-few skip = omega arith
  firsts-few (seq no_trees) = omega arith
  firsts-few (seq (tree c cs)) = omega (arith, firsts-few c)
  firsts-few (par cs) = firsts_of_each-few cs
  firsts-few (sel ch) = omega arith
  firsts-few (loop n p body) = firsts-few body

  firsts_of_each-few : (cs : Trees) → length (firsts_of_each cs) ≤ most_of_all own_units cs
  firsts_of_each-few no_trees = omega arith
  firsts_of_each-few (tree c cs) = omega (arith, length-append (firsts c) (firsts_of_each cs), firsts-few c, firsts_of_each-few cs)

enter-few : (level : Level) (c : Tree) → length (enter level c) ≤ most_by own_units c
enter-few is_procedure c = omega arith
enter-few in_procedure c = firsts-few c
enter-few in_unit_procedure c = omega arith
enter-few in_operation c = omega arith

-- no more than m, if no more than m follow the whole
mutual
  due-few : (level : Level) (next : List Follower) (c : Tree) (r : Rest) → IsRestOf c r → (m : ℕ) → length next ≤ m → most_by own_units c ≤ m → length (due_followers level next r) ≤ m
  due-few level next (act s w) (ready u v k) re m n h = omega arith
  due-few level next (act s w) (asking u v k) re m n h = omega arith
  due-few level next (act s w) (open_act u r) re m n h = due_below-few (below level) next w r re.1 m n (omega (arith, h))
  due-few level next (act s w) (live u x t) re m n h = omega arith
  due-few level next (act s w) (freeing u k) re m n h = n
  due-few level next (seq cs) (in_seq r ds) re m n h = due_branch-few level next cs r ds re m n h
  due-few level next (par cs) (in_par rs) re m n h = omega (arith, due_in_each-few level cs rs re, h)
  due-few level next (sel ch) r re m n h = due_chosen-few level next ch r re m n h
  due-few level next (loop k p body) (in_loop j d b r) re m n h = due-few level [] body r re.3 m (omega arith) h
  due-few level next c done re m n h = n
  due-few level next _ _ re m n h = absurd re

  due_below-few : (level : Level) (next : List Follower) (w : Task) (r : Rest) → IsRestBelow w r → (m : ℕ) → length next ≤ m → most_below own_units w ≤ m → length (due_followers level next r) ≤ m
  due_below-few level next (runs x) r re m n h = absurd re
  due_below-few level next (follows name c) r re m n h = due-few level next c r re m n h

  due_branch-few : (level : Level) (next : List Follower) (cs : Trees) (r : Rest) (ds : Trees) → IsBranch cs r ds → (m : ℕ) → length next ≤ m → most_of_one own_units cs ≤ m
      → length (due_followers level (after_branch level next ds) r) ≤ m
  due_branch-few level next no_trees r ds re m n h = absurd re
  due_branch-few level next (tree c cs) r ds (inl re) m n h =
      due-few level (after_branch level next ds) c r re.0 m (subst (λ es. length (after_branch level next es) ≤ m) (sym re.1) (after-few cs (omega (arith, h)))) (omega (arith, h))
    where
      after-few : (es : Trees) → most_of_one own_units es ≤ m → length (after_branch level next es) ≤ m
      after-few no_trees k = n
      after-few (tree d es) k = omega (arith, enter-few level d, k)
  due_branch-few level next (tree c cs) r ds (inr re) m n h = due_branch-few level next cs r ds re m n (omega (arith, h))

  due_in_each-few : (level : Level) (cs : Trees) (rs : Rests) → AreBranches cs rs → length (due_in_each level rs) ≤ most_of_all own_units cs
  due_in_each-few level no_trees no_rests re = omega arith
  due_in_each-few level (tree c cs) (rest r rs) re =
      omega (arith, length-append (due_followers level [] r) (due_in_each level rs), due-few level [] c r re.0 (most_by own_units c) (omega arith) (omega arith), due_in_each-few level cs rs re.1)
  due_in_each-few level cs rs re = absurd (grind arith)

  due_chosen-few : (level : Level) (next : List Follower) (ch : Choices) (r : Rest) → IsChosen ch r → (m : ℕ) → length next ≤ m → most_of_chosen own_units ch ≤ m → length (due_followers level next r) ≤ m
  due_chosen-few level next (otherwise c) r re m n h = due-few level next c r re m n h
  due_chosen-few level next (choice p c ch) r (inl re) m n h = due-few level next c r re m n (omega (arith, h))
  due_chosen-few level next (choice p c ch) r (inr re) m n h = due_chosen-few level next ch r re m n (omega (arith, h))

-- Acts that are reached hold and ask for no more than the tree's needs at once

-- the needs that an act in line holds and asks for
taken-one : (k : ℕ) (xs : List Need) (p : Place) → length (take k xs) + weights (awaited_at p (slice_get xs k)) ≤ length xs
taken-one zero [] p = omega arith
taken-one (suc k) [] p = omega arith
taken-one zero (x ∷ xs) p = omega arith
taken-one (suc k) (x ∷ xs) p = omega (arith, taken-one k xs p)

taken-few : (k : ℕ) (xs : List Need) → length (take k xs) ≤ length xs
taken-few zero xs = omega arith
taken-few (suc k) [] = omega arith
taken-few (suc k) (x ∷ xs) = omega (arith, taken-few k xs)

same-needs : (u s : Step) → u ≡ s → length u.needs ≡ length s.needs
same-needs u s e = ap (λ (z : Step). length z.needs) e

mutual
  facts-few : (c : Tree) (r : Rest) → IsRestOf c r → weights (facts r) ≤ most_by own_needs c
  facts-few (act s w) (ready u v k) re = omega (arith, held u.place (take k u.needs), taken-few k u.needs, same-needs u s re.0)
  facts-few (act s w) (asking u v k) re =
      omega (arith, join (held_at u.place (take k u.needs)) (awaited_at u.place (slice_get u.needs k)), held u.place (take k u.needs), taken-one k u.needs u.place, same-needs u s re.0)
  facts-few (act s w) (open_act u r) re = omega (arith, join (held_at u.place u.needs) (facts r), held u.place u.needs, facts_below-few w r re.1, same-needs u s re.0)
  facts-few (act s w) (live u x t) re = omega (arith, join (held_at u.place u.needs) ((u.place, performing x) ∷ []), held u.place u.needs, same-needs u s re.0)
  facts-few (act s w) (freeing u k) re = omega (arith, held u.place (take k u.needs), taken-few k u.needs, same-needs u s re.0)
  facts-few (seq cs) (in_seq r ds) re = facts_branch-few cs r ds re
  facts-few (par cs) (in_par rs) re = facts_of_each-few cs rs re
  facts-few (sel ch) r re = facts_chosen-few ch r re
  facts-few (loop k p body) (in_loop j d b r) re = facts-few body r re.3
  facts-few c done re = omega arith
  facts-few _ _ re = absurd re

  facts_below-few : (w : Task) (r : Rest) → IsRestBelow w r → weights (facts r) ≤ most_below own_needs w
  facts_below-few (runs x) r re = absurd re
  facts_below-few (follows name c) r re = facts-few c r re

  facts_branch-few : (cs : Trees) (r : Rest) (ds : Trees) → IsBranch cs r ds → weights (facts r) ≤ most_of_one own_needs cs
  facts_branch-few no_trees r ds re = absurd re
  facts_branch-few (tree c cs) r ds (inl re) = omega (arith, facts-few c r re.0)
  facts_branch-few (tree c cs) r ds (inr re) = omega (arith, facts_branch-few cs r ds re)

  facts_of_each-few : (cs : Trees) (rs : Rests) → AreBranches cs rs → weights (facts_of_each rs) ≤ most_of_all own_needs cs
  facts_of_each-few no_trees no_rests re = omega arith
  facts_of_each-few (tree c cs) (rest r rs) re = omega (arith, join (facts r) (facts_of_each rs), facts-few c r re.0, facts_of_each-few cs rs re.1)
  facts_of_each-few cs rs re = absurd (grind arith)

  facts_chosen-few : (ch : Choices) (r : Rest) → IsChosen ch r → weights (facts r) ≤ most_of_chosen own_needs ch
  facts_chosen-few (otherwise c) r re = facts-few c r re
  facts_chosen-few (choice p c ch) r (inl re) = omega (arith, facts-few c r re)
  facts_chosen-few (choice p c ch) r (inr re) = omega (arith, facts_chosen-few ch r re)

-- Units that are held in advance are due, each for a place of its own

abbrev place_early : InAdvance → Place
place_early x = x.place

abbrev place_due : Follower → Place
place_due f = f.1

mapped-early : (xs : List InAdvance) (p : Place) → Has (map place_early xs) p → (x : InAdvance) × Has xs x × (x.place ≡ p)
mapped-early [] p h = absurd h
mapped-early (x ∷ xs) p (inl e) = (x, inl refl, e)
mapped-early (x ∷ xs) p (inr h) = let m = mapped-early xs p h in (m.0, inr m.1, m.2)

mapped-due : (fs : List Follower) (f : Follower) → Has fs f → Has (map place_due fs) f.1
mapped-due [] f h = absurd h
mapped-due (g ∷ fs) f (inl e) = inl (ap place_due e)
mapped-due (g ∷ fs) f (inr h) = inr (mapped-due fs f h)

early-once : (xs : List InAdvance) → StandApart xs → Once (map place_early xs)
early-once [] h = tt
early-once (x ∷ xs) h = (λ m. (let y = mapped-early xs x.place m in h.0 y.0 y.1 y.2), early-once xs h.1)

count-one : (ps : List Place) → sum_by (λ (p : Place). 1) ps ≡ length ps
count-one [] = refl
count-one (p ∷ ps) = omega (arith, count-one ps, sum_by-cons (λ (p : Place). 1) p ps)

early-few : (fs : List Follower) (xs : List InAdvance) → StandApart xs → ((x : InAdvance) → Has xs x → Has (map place_due fs) x.place) → length xs ≤ length fs
early-few fs xs apart all =
    omega (
      arith,
      pigeons (λ (p : Place). 1) (map place_early xs) (map place_due fs) (early-once xs apart) (λ p h. (let y = mapped-early xs p h in (subst (Has (map place_due fs)) y.2 (all y.0 y.1), refl))),
      count-one (map place_due fs),
      length-map xs place_early,
      length-map fs place_due,
    )

-- the units that a batch holds in advance
pub early-bounded : (c : Tree) (r : Rest) (xs : List InAdvance) → IsRestOf c r → StandApart xs → ((x : InAdvance) → Has xs x → IsAwaited r x.place) → length xs ≤ most_by own_units c
early-bounded c r xs stands apart awaited =
    let all : List Follower = due_followers is_procedure [] r in
    omega (arith, due-few is_procedure [] c r stands (most_by own_units c) (omega arith) (omega arith), early-few all xs apart (λ x h. (let a = awaited x h in mapped-due all (a.0, x.place) a.1)))

-- and all that it holds and asks for
pub needs-bounded : (c : Tree) (r : Rest) (xs : List InAdvance) → IsRestOf c r → StandApart xs → ((x : InAdvance) → Has xs x → IsAwaited r x.place) → length xs + weights (facts r) ≤ needs_in c
needs-bounded c r xs stands apart awaited = omega (arith, facts-few c r stands, early-bounded c r xs stands apart awaited)
