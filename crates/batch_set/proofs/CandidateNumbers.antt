-- The candidates of a role by number are the units of its class.
use Rattle.std.proofs.Common.{◌≡◌, ◌+◌, ℕ, suc, List, [], ◌∷◌, ◌++◌, Bool, true, false, cond, map, filter, position, slice_get, option_map, Option, Some, refl, sym, ap, ◌∙◌, arith}
use Rattle.std.proofs.lemmas.Option.{slice_get-map}
use Rattle.batch_cell.specs.{Equipment.is_free, Equipment.unit_names, LookUps.is_of_class, LookUps.resources_of, LookUps.units_of, LookUps.units_of_class, declared.cell.Cell.Cell, declared.unit.Unit.Unit}
use Rattle.batch_recipe.{specs.Conditions.Name, specs.Conditions.same_name, specs.declared.role.Role.Role, proofs.AppendedLists.slice_get-left}
use Rattle.batch_set.{specs.Linking.candidate_numbers, specs.Linking.numbers_from, specs.Sources.CandidatesSayNames, proofs.ResourceNumbers.number-at, proofs.TableRows.row-there}

module _ (cell : Cell) where
  -- the number of the resource with this name
  abbrev pub number_of : Name → Option ℕ
  number_of name = position (same_name name) (resources_of cell)

  -- a unit has its own number among the resources
  pub unit-number : (i : ℕ) (unit : Unit) → slice_get cell.units.items i ≡ Some unit → number_of unit.name ≡ Some i
  unit-number i unit at =
      let free : List Name = map (λ m. m.name) (filter is_free cell.modules.items) in
      let shared : List Name = map (λ s. s.name) cell.shared.items in
      let here : slice_get (units_of cell) i ≡ Some unit.name = slice_get-map (λ (u : Unit). u.name) cell.units.items i ∙ ap (option_map (λ (u : Unit). u.name)) at in
      number-at cell i unit.name (slice_get-left (units_of cell ++ free) shared i unit.name (slice_get-left (units_of cell) free i unit.name here))

  module _ (class : Name) where
    numbered : (k : ℕ) (units : List Unit) → ((i : ℕ) (unit : Unit) → slice_get units i ≡ Some unit → number_of unit.name ≡ Some (k + i))
        → map number_of (unit_names (filter (is_of_class class) units)) ≡ map (λ n. Some n) (numbers_from class k units)
    numbered k [] h = refl
    numbered k (unit ∷ units) h =
        go (is_of_class class unit) (numbered (k + 1) units (λ i u at. let next : k + suc i ≡ (k + 1) + i = omega arith in h (suc i) u at ∙ ap Some next))
      where
        own : number_of unit.name ≡ Some k
        own = let first : k + 0 ≡ k = omega arith in h 0 unit refl ∙ ap Some first

        later : List Unit
        later = filter (is_of_class class) units

        go : (b : Bool) → map number_of (unit_names later) ≡ map (λ n. Some n) (numbers_from class (k + 1) units)
            → map number_of (unit_names (cond b (unit ∷ later) later)) ≡ map (λ n. Some n) (elim b [ true ↦ k ∷ numbers_from class (k + 1) units | false ↦ numbers_from class (k + 1) units ])
        go true more = ap (λ n. n ∷ map number_of (unit_names later)) own ∙ ap (λ ns. Some k ∷ ns) more
        go false more = more

  candidates-numbered : (role : Role) → map number_of (units_of_class cell role.class) ≡ map (λ n. Some n) (candidate_numbers cell role)
  candidates-numbered role = numbered role.class 0 cell.units.items (λ i unit at. let same : i ≡ 0 + i = omega arith in unit-number i unit at ∙ ap Some same)

pub candidates-said : CandidatesSayNames
candidates-said cell phases recipe linked h k role at =
    candidates-numbered cell role ∙ ap (map (λ n. Some n)) (sym (row-there (candidate_numbers cell) linked.candidates.items recipe.roles.items h.candidates k role at))
