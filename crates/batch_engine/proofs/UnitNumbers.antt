-- The numbers of the units that take the roles of a batch.
use Rattle.std.proofs.Common.{◌≡◌, ◌<◌, ◌≤◌, refl, sym, ◌∙◌, ap, subst, ℕ, zero, suc, List, [], ◌∷◌, true, Option, None, Some, arith, length, map, get_or, inl, inr}
use Rattle.std.{proofs.lemmas.Bool.cases_lt, specs.Prelude.slice_get, specs.Prelude.position, specs.Prelude.unwrap_or, specs.Prelude.option_map, proofs.lemmas.List.length-map, proofs.lemmas.List.get_or-map, proofs.lemmas.Option.slice_get_within, proofs.lemmas.Option.slice_get-get_or, proofs.lemmas.Option.slice_get-map, proofs.lemmas.Option.get_or_from_slice_get}
use Rattle.batch_cell.{specs.LookUps.units_of, specs.LookUps.resources_of, specs.declared.unit.Unit.Unit, proofs.Resources.length-resource_names, proofs.Resources.resource_is_no_unit, proofs.Resources.resource_is_unit}
use Rattle.batch_recipe.specs.{Conditions.Name, Conditions.same_name, WellFormed.are_distinct, declared.recipe.Recipe.Recipe}
use Rattle.batch_recipe.specs.declared.role.Role as document
use Rattle.batch_verify.specs.ClearedSet.{ClearedSet}
use Rattle.batch_set.specs.{Looked.number_for, Sources.IsSource, declared.linked.Source.Source, declared.linked.Source.TheVariants.Resource, declared.linked.Source.TheVariants.Role, declared.linked.Source.TheVariants.Unknown}
use Rattle.batch_engine.{specs.Kept.AreUnits, specs.Names.resource_name, specs.Names.roles_at, specs.View.bound_to, specs.View.resource_number, proofs.Roles.bound-at, proofs.Roles.names-differ, proofs.RoomForAsk.number-at, proofs.MoveLines.roles-read, proofs.SlabChanges.each-at}

pub name-there : (names : List Name) (q : ℕ) → q < length names → slice_get names q ≡ Some (unwrap_or (slice_get names q) [])
name-there [] q l = absurd (omega arith)
name-there (n ∷ names) zero l = refl
name-there (n ∷ names) (suc q) l = name-there names q (omega arith)

enough : (c : ClearedSet) → length c.cell.units.items ≤ length (resources_of c.cell)
enough c = omega (arith, length-resource_names c.cell.units.items c.cell.modules.items c.cell.shared.items)

-- a unit's number is that of its name, among the units and among the resources
pub unit-numbers : (c : ClearedSet) (u : ℕ) → u < length (units_of c.cell)
    → (resource_number c (resource_name c u) ≡ Some u) × (position (same_name (resource_name c u)) (units_of c.cell) ≡ Some u)
unit-numbers c u l =
    let units = c.cell.units.items in
    let few : u < length units = omega (arith, l, length-map units (λ (x : Unit). x.name)) in
    let more : length units ≤ length (resources_of c.cell) = enough c in
    let number : resource_number c (resource_name c u) ≡ Some u = number-at c u (resource_name c u) (name-there (resources_of c.cell) u (omega (arith, few, more))) in
    (number, resource_is_unit (same_name (resource_name c u)) units c.cell.modules.items c.cell.shared.items u number few)

-- a unit of the cell has this number among the units if it has it among the resources
pub unit-is_resource : (c : ClearedSet) (name : Name) (q u : ℕ) → resource_number c name ≡ Some q → u < length (units_of c.cell)
    → (q ≡ u → position (same_name name) (units_of c.cell) ≡ Some u) × (position (same_name name) (units_of c.cell) ≡ Some u → q ≡ u)
unit-is_resource c name q u number below =
    let units = c.cell.units.items in
    let few : u < length units = omega (arith, below, length-map units (λ (x : Unit). x.name)) in (
      λ same. resource_is_unit (same_name name) units c.cell.modules.items c.cell.shared.items u (number ∙ ap (λ k. Some k) same) few,
      λ unit. elim (cases_lt q (length units)) [
        | inr past ↦ absurd (let bad : ◌≡◌ {A = Option ℕ} None (Some u) = sym (resource_is_no_unit (same_name name) units c.cell.modules.items c.cell.shared.items q number past) ∙ unit in cc)
        | inl within ↦ let both : ◌≡◌ {A = Option ℕ} (Some q) (Some u) = sym (resource_is_unit (same_name name) units c.cell.modules.items c.cell.shared.items q number within) ∙ unit in cc
      ],
    )

module _ (c : ClearedSet) (recipe : ℕ) (r : Recipe) (at : slice_get c.recipes recipe ≡ Some r) (units : List ℕ) (own : AreUnits c units) where
  few-roles : length (roles_at c recipe) ≤ length (map (resource_name c) units)
  few-roles =
      omega (
        arith,
        ap (λ (ns : List Name). length ns) (roles-read c recipe r at),
        length-map r.roles.items (λ (x : document.Role). x.name),
        length-map units (resource_name c),
        own.count,
        r.few_roles,
      )

  -- the unit that takes a role
  pub role-taken : (role : ℕ) → role < length (roles_at c recipe) → bound_to c recipe units (get_or (roles_at c recipe) role []) ≡ resource_name c (get_or units role 0)
  role-taken role l =
      bound-at (roles_at c recipe) (map (resource_name c) units) role
      (subst (λ ns. are_distinct ns ≡ true) (sym (roles-read c recipe r at)) (names-differ r)) few-roles l
      ∙ get_or-map (resource_name c) units role 0 [] (omega (arith, l, few-roles, length-map units (resource_name c)))

  pub unit-within : (role : ℕ) → role < length (roles_at c recipe) → get_or units role 0 < length (units_of c.cell)
  unit-within role l = each-at (λ u. u < length (units_of c.cell)) units role 0 own.within (omega (arith, l, few-roles, length-map units (resource_name c)))

  -- its number, among the resources and among the units
  pub role-numbers : (role : ℕ) → role < length (roles_at c recipe)
      → (resource_number c (bound_to c recipe units (get_or (roles_at c recipe) role [])) ≡ Some (get_or units role 0))
      × (position (same_name (bound_to c recipe units (get_or (roles_at c recipe) role []))) (units_of c.cell) ≡ Some (get_or units role 0))
  role-numbers role l =
      subst (λ name. (resource_number c name ≡ Some (get_or units role 0)) × (position (same_name name) (units_of c.cell) ≡ Some (get_or units role 0)))
      (sym (role-taken role l)) (unit-numbers c (get_or units role 0) (unit-within role l))

  -- the number of the resource that a source is of
  pub source-number : (source : Source) (name : Name) → IsSource c.cell r.roles.items (bound_to c recipe units) source name → number_for units source ≡ resource_number c name
  source-number (Resource number) name h = sym (number-at c number name h)
  source-number Unknown name h = sym h
  source-number (Role number) name h =
      let own : Name = h.0.name in
      let there : slice_get (roles_at c recipe) number ≡ Some own =
      ap (λ (ns : List Name). slice_get ns number) (roles-read c recipe r at) ∙ slice_get-map (λ (x : document.Role). x.name) r.roles.items number ∙ ap (option_map (λ (x : document.Role). x.name)) h.1 in
      let known : number < length (roles_at c recipe) = slice_get_within (roles_at c recipe) number own there in
      slice_get-get_or units number 0 (omega (arith, known, few-roles, length-map units (resource_name c)))
      ∙ sym (role-numbers number known).0
      ∙ ap (resource_number c) (ap (bound_to c recipe units) (get_or_from_slice_get (roles_at c recipe) number own [] there) ∙ h.2)
