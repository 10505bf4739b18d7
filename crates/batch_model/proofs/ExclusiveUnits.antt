-- A unit of a cell has one user at a time.
use Rattle.std.proofs.Common.{◌≡◌, ℕ, ◌+◌, ◌<◌, Bool, true, false, ◌||◌, IsTrue, not, List, [], ◌∷◌, ◌++◌, length, map, filter, replicate, position, Some, None, ◌∙◌, ap, arith, cond}
use Rattle.std.{proofs.lemmas.Bool.Decides.nat_tests, proofs.lemmas.Grind.common_steps, proofs.lemmas.List.append_assoc, proofs.lemmas.List.length-map, proofs.lemmas.List.length-append, proofs.lemmas.List.length-replicate, proofs.lemmas.List.get_or-replicate, proofs.lemmas.List.get_or_append_left, proofs.lemmas.List.Folds.prefix_len-append, specs.List.list_any, specs.List.slice_index_or, specs.List.prefix_len}
use Rattle.batch_cell.specs.{Equipment.is_free, LookUps.units_of, LookUps.resources_of, LookUps.capacities_of, declared.unit.Unit.Unit}
use Rattle.batch_cell.specs.declared.cell.Cell as equipment
use Rattle.batch_recipe.specs.{Conditions.Name, Conditions.same_name, WellFormed.is_among}
use Rattle.batch_model.specs.Setups.{capacity_of}

module _ {X : Type 0} (p : X → Bool) where
  before_step : (b : Bool) (x : X) (xs : List X) → (b || list_any p xs) ≡ true → (list_any p xs ≡ true → prefix_len (λ y. not (p y)) xs < length xs)
      → cond (not b) (1 + prefix_len (λ y. not (p y)) xs) 0 < length (x ∷ xs)
  before_step true x xs h i = omega arith
  before_step false x xs h i = let e = i h in omega (arith, e)

  -- if the test passes on an element, the first index at which it passes lies within the list
  before : (xs : List X) → list_any p xs ≡ true → prefix_len (λ y. not (p y)) xs < length xs
  before [] h = absurd (grind (arith, h, common_steps))
  before (x ∷ xs) h = before_step (p x) x xs h (before xs)

pub record FirstPlace {X : Type 0} (p : X → Bool) (xs ys : List X) : Type 0 where
  pub number : ℕ
  pub within : number < length xs
  pub found : position p (xs ++ ys) ≡ Some number

first_place : {X : Type 0} (p : X → Bool) (xs ys : List X) → list_any p xs ≡ true → FirstPlace p xs ys
first_place p xs ys h =
    let inside : prefix_len (λ y. not (p y)) xs < length xs = before p xs h in
    record {
      number = prefix_len (λ y. not (p y)) xs;
      within = inside;
      found = grind (arith, nat_tests, common_steps, prefix_len-append (λ y. not (p y)) xs ys, length-append xs ys, inside);
    }

-- the units come first among the resources
units_first : (c : equipment.Cell) → resources_of c ≡ units_of c ++ (map (λ m. m.name) (filter is_free c.modules.items) ++ map (λ s. s.name) c.shared.items)
units_first c = append_assoc (units_of c) (map (λ m. m.name) (filter is_free c.modules.items)) (map (λ s. s.name) c.shared.items)

capacity_of_unit : (c : equipment.Cell) (i : ℕ) → i < length (units_of c) → slice_index_or (capacities_of c) i 0 ≡ 1
capacity_of_unit c i below =
    let name : Unit → List ℕ = λ u. u.name in
    let count : ℕ = length c.units.items + length (filter is_free c.modules.items) in
    let inside : i < count = omega (arith, length-map c.units.items name) in
    let one : ℕ = 1 in
    get_or_append_left (replicate count one) (map (λ s. s.capacity) c.shared.items) 0 i (omega (arith, length-replicate count one, inside))
    ∙ get_or-replicate count i one 0 inside

pub unit_is_exclusive : (c : equipment.Cell) (unit : Name) → IsTrue (is_among (units_of c) unit) → capacity_of c unit ≡ 1
unit_is_exclusive c unit h =
    let found : list_any (same_name unit) (units_of c) ≡ true = h in
    let first = first_place (same_name unit) (units_of c) (map (λ m. m.name) (filter is_free c.modules.items) ++ map (λ s. s.name) c.shared.items) found in
    let at : position (same_name unit) (resources_of c) ≡ Some first.number = ap (position (same_name unit)) (units_first c) ∙ first.found in
    ap (λ o. elim o [ None ↦ 0 | Some number ↦ slice_index_or (capacities_of c) number 0 ]) at ∙ capacity_of_unit c first.number first.within
