-- Reaching a chart and advancing change no facts; withdrawing takes the asks away.
use Rattle.std.proofs.Common.{arith, ◌≡◌, refl, sym, ◌∙◌, ap, ap₂, ℕ, pred, List, [], ◌∷◌, ◌++◌, Bool, true, false, filter, take, slice_get, Option, append-nil}
use Rattle.std.proofs.lemmas.{List.Elements.filter-append, Bool.and_parts}
use Rattle.batch_recipe.specs.{Conditions.ValueList, Conditions.holds, declared.condition.Condition.Condition, Tree.Place, Tree.Tree, Tree.act, Tree.skip, Tree.seq, Tree.par, Tree.sel, Tree.loop, Tree.Trees, Tree.no_trees, Tree.tree, Tree.Choices, Tree.otherwise, Tree.choice, declared.need.Need.Need}
use Rattle.batch_model.specs.Rest.{Rest, ready, asking, open_act, live, freeing, in_seq, in_par, in_loop, done, Rests, no_rests, rest, is_done, all_done, joined, turning, reach, reach_first, reach_each, reach_chosen, turned, advance, advance_each, withdrawn, withdrawn_each}
use Rattle.batch_record_laws.proofs.{HoldingsInAdvance.at_moment, PlantFacts.holding, PlantFacts.awaiting, PlantFacts.performing, PlantFacts.Standing, PlantFacts.held_at, PlantFacts.awaited_at, PlantFacts.facts, PlantFacts.facts_of_each}

pub done-facts : (r : Rest) → is_done r ≡ true → facts r ≡ []
done-facts r e = grind arith

all_done-facts : (rs : Rests) → all_done rs ≡ true → facts_of_each rs ≡ []
all_done-facts no_rests e = refl
all_done-facts (rest r rs) e =
    let h : (is_done r ≡ true) × (all_done rs ≡ true) = and_parts (is_done r) (all_done rs) e in
    ap (λ xs. xs ++ facts_of_each rs) (done-facts r h.0) ∙ all_done-facts rs h.1

joined-facts : (rs : Rests) → facts (joined rs) ≡ facts_of_each rs
joined-facts rs = grind (arith, all_done-facts)

turning-facts : (n : ℕ) (c : Condition) (body : Tree) (r : Rest) → facts (turning n c body r) ≡ facts r
turning-facts n c body r = grind (arith, done-facts)

in_order-facts : (r after : Rest) (cs : Trees) → facts after ≡ [] → facts (elim (is_done r) [ true ↦ after | false ↦ in_seq r cs ]) ≡ facts r
in_order-facts r after cs h = grind (arith, done-facts)

either-facts : (b : Bool) (q r : Rest) → facts q ≡ [] → facts r ≡ [] → facts (elim b [ true ↦ q | false ↦ r ]) ≡ []
either-facts b q r h k = grind arith

mutual
  -- nothing stands of a chart that has just been reached
  pub reach-facts : (vs : ValueList) (c : Tree) → facts (reach (at_moment vs []) c) ≡ []
  reach-facts vs (seq cs) = reach_first-facts vs cs
  reach-facts vs (par cs) = joined-facts (reach_each (at_moment vs []) cs) ∙ reach_each-facts vs cs
  reach-facts vs (sel ch) = reach_chosen-facts vs ch
  reach-facts vs (loop n c body) = turning-facts (pred n) c body (reach (at_moment vs []) body) ∙ reach-facts vs body
  reach-facts vs (act s w) = refl
  reach-facts vs skip = refl

  pub reach_first-facts : (vs : ValueList) (cs : Trees) → facts (reach_first (at_moment vs []) cs) ≡ []
  reach_first-facts vs no_trees = refl
  reach_first-facts vs (tree c cs) = in_order-facts (reach (at_moment vs []) c) (reach_first (at_moment vs []) cs) cs (reach_first-facts vs cs) ∙ reach-facts vs c

  pub reach_each-facts : (vs : ValueList) (cs : Trees) → facts_of_each (reach_each (at_moment vs []) cs) ≡ []
  reach_each-facts vs no_trees = refl
  reach_each-facts vs (tree c cs) = ap (λ xs. xs ++ facts_of_each (reach_each (at_moment vs []) cs)) (reach-facts vs c) ∙ reach_each-facts vs cs

  pub reach_chosen-facts : (vs : ValueList) (ch : Choices) → facts (reach_chosen (at_moment vs []) ch) ≡ []
  reach_chosen-facts vs (otherwise c) = reach-facts vs c
  reach_chosen-facts vs (choice p c ch) = either-facts (holds vs p) (reach (at_moment vs []) c) (reach_chosen (at_moment vs []) ch) (reach-facts vs c) (reach_chosen-facts vs ch)

turned-facts : (vs : ValueList) (n : ℕ) (c : Condition) (body : Tree) (r : Rest) → facts (turned (at_moment vs []) n c body r) ≡ facts r
turned-facts vs n c body r = grind (arith, turning-facts, either-facts, reach-facts, done-facts)

mutual
  -- a rest that advances gains and loses no fact
  pub advance-facts : (vs : ValueList) (r : Rest) → facts (advance (at_moment vs []) r) ≡ facts r
  advance-facts vs (open_act s r) = ap (λ xs. held_at s.place s.needs ++ xs) (advance-facts vs r)
  advance-facts vs (in_seq r cs) = in_order-facts (advance (at_moment vs []) r) (reach_first (at_moment vs []) cs) cs (reach_first-facts vs cs) ∙ advance-facts vs r
  advance-facts vs (in_par rs) = joined-facts (advance_each (at_moment vs []) rs) ∙ advance_each-facts vs rs
  advance-facts vs (in_loop n c body r) = turned-facts vs n c body (advance (at_moment vs []) r) ∙ advance-facts vs r
  advance-facts vs r = grind arith

  pub advance_each-facts : (vs : ValueList) (rs : Rests) → facts_of_each (advance_each (at_moment vs []) rs) ≡ facts_of_each rs
  advance_each-facts vs no_rests = refl
  advance_each-facts vs (rest r rs) = ap₂ (λ xs ys. xs ++ ys) (advance-facts vs r) (advance_each-facts vs rs)

-- not an ask
abbrev pub is_kept : Standing → Bool
is_kept (p, awaiting r) = false
is_kept (p, holding r) = true
is_kept (p, performing x) = true

held-kept : (p : Place) (names : List Need) → filter is_kept (held_at p names) ≡ held_at p names
held-kept p [] = refl
held-kept p (r ∷ names) = ap (λ xs. (p, holding r) ∷ xs) (held-kept p names)

awaited-kept : (p : Place) (o : Option Need) → filter is_kept (awaited_at p o) ≡ []
awaited-kept p o = grind arith

mutual
  pub withdrawn-facts : (r : Rest) → facts (withdrawn r) ≡ filter is_kept (facts r)
  withdrawn-facts (ready s w k) = sym (held-kept s.place (take k s.needs))
  withdrawn-facts (asking s w k) = grind (arith, held-kept s.place (take k s.needs), awaited-kept s.place (slice_get s.needs k), append-nil (held_at s.place (take k s.needs)), filter-append)
  withdrawn-facts (open_act s r) = grind (arith, withdrawn-facts r, held-kept s.place s.needs, filter-append)
  withdrawn-facts (live s p x) =
      sym (filter-append is_kept (held_at s.place s.needs) ((s.place, performing p) ∷ []) ∙ ap (λ xs. xs ++ (s.place, performing p) ∷ []) (held-kept s.place s.needs))
  withdrawn-facts (freeing s k) = sym (held-kept s.place (take k s.needs))
  withdrawn-facts (in_seq r cs) = withdrawn-facts r
  withdrawn-facts (in_par rs) = withdrawn_each-facts rs
  withdrawn-facts (in_loop n c body r) = withdrawn-facts r
  withdrawn-facts done = refl

  pub withdrawn_each-facts : (rs : Rests) → facts_of_each (withdrawn_each rs) ≡ filter is_kept (facts_of_each rs)
  withdrawn_each-facts no_rests = refl
  withdrawn_each-facts (rest r rs) =
      ap₂ (λ xs ys. xs ++ ys) (withdrawn-facts r) (withdrawn_each-facts rs) ∙ sym (filter-append is_kept (facts r) (facts_of_each rs))
