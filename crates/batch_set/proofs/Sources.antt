-- The numbers of a linked recipe mean the same as its names.
use Rattle.std.proofs.Common.{◌≡◌, ℕ, zero, suc, List, [], ◌∷◌, ◌++◌, map, Bool, true, false, Option, Some, None, position, slice_get, refl, sym, ap, ◌∙◌, subst}
use Rattle.std.{specs.List.list_all, specs.Prelude.option_and_then, specs.Cmp.Lexicographic.bytes_decides, proofs.lemmas.Bool.and_parts}
use Rattle.batch_cell.specs.{LookUps.resources_of, declared.cell.Cell.Cell}
use Rattle.batch_recipe.specs.{Conditions.Name, Conditions.same_name, Expanding.Binding, Expanding.asked_in_order, Expanding.needs_with, Expanding.unit_chosen, Expanding.unit_named, Expanding.unit_with, Needs.one_unit, Outlines.act_of_kind, Procedure.sites, WellFormed.act_names, WellFormed.is_among, declared.act.Act.Act, declared.act.UnitChoice.UnitChoice, declared.acts.LabelTable.TheVariants.UnitProcedures, declared.acts.LabelTable.TheVariants.Operations, declared.acts.LabelTable.TheVariants.Phases, declared.entry.Kind.Kind, declared.need.Need.Need, declared.recipe.Recipe.Recipe, declared.role.Role.Role}
use Rattle.batch_recipe.specs.declared.act.UnitChoice.TheVariants as Choice
use Rattle.batch_recipe.specs.declared.entry.Kind.TheVariants as kind
use Rattle.batch_set.{specs.Linking.IsLinked, specs.Linking.by_role, specs.Linking.chosen_source, specs.Linking.need_linked, specs.Linking.needs_linked, specs.Linking.named, specs.Linking.reserved, specs.Linking.reserved_need, specs.Linking.resource_found, specs.Linking.role_found, specs.Linking.unit_found, specs.Linking.unit_needs, specs.Linking.unit_source, specs.Looked.first_source, specs.Looked.needs_by, specs.Looked.unit_procedure_source, specs.Sources.IsSource, specs.Sources.SayNeeds, specs.Sources.NeedsSayNames, specs.Sources.UnitsSayNames, specs.declared.cell_phases.CellPhases.CellPhases, specs.declared.linked.LinkedNeed.LinkedNeed, specs.declared.linked.LinkedRecipe.LinkedRecipe, specs.declared.linked.Source.Source, proofs.DeclaredRoles.declared, proofs.DeclaredRoles.named-unit, proofs.DeclaredRoles.reserves-units, proofs.DeclaredRoles.unit-declared, proofs.TableRows.row-there, proofs.Positions.any-map, proofs.Positions.any-position, proofs.Positions.found-at, proofs.Positions.name-at}

module _ (cell : Cell) (roles : List Role) (bound : Binding) where
  named-source : (name : Name) → IsSource cell roles bound (named cell name) name
  named-source name = go (position (same_name name) (resources_of cell)) refl
    where
      go : (o : Option ℕ) → position (same_name name) (resources_of cell) ≡ o → IsSource cell roles bound (resource_found o) name
      go None e = e
      go (Some number) e = name-at (resources_of cell) name number e

  role-source : (name : Name) → is_among (map (λ (role : Role). role.name) roles) name ≡ true → IsSource cell roles bound (by_role roles name) (bound name)
  role-source name among =
      let own : Role → Bool = λ role. same_name name role.name in
      let there = any-position own roles (any-map (same_name name) (λ (role : Role). role.name) roles ∙ among) in
      let found = found-at own roles there.0 there.1 in
      subst (λ (o : Option ℕ). IsSource cell roles bound (role_found o) (bound name)) (sym there.1) (found.0, found.1, ap bound (sym ((bytes_decides name found.0.name).0 found.2)))

  own-says : (needs : List Need) → SayNeeds cell roles bound (map (need_linked cell) needs) needs
  own-says [] = tt
  own-says (need ∷ needs) = (named-source need.resource, refl, own-says needs)

module _ (cell : Cell) (r : Recipe) (bound : Binding) where
  abbrev units : List Act
  units = r.acts.unit_procedures.items

  abbrev IsDeclared : UnitChoice → Type 0
  IsDeclared choice = elim choice [ Choice.Unit unit ↦ true | Choice.Role role ↦ is_among (map (λ (role : Role). role.name) r.roles.items) role ] ≡ true

  chosen-source : (choice : UnitChoice) → IsDeclared choice → IsSource cell r.roles.items bound (chosen_source cell r choice) (unit_chosen bound choice)
  chosen-source (Choice.Unit name) h = named-source cell r.roles.items bound name
  chosen-source (Choice.Role name) h = role-source cell r.roles.items bound name h

  -- the unit of a unit procedure that is reserved
  reserved-source : (name : Name) → is_among (act_names units) name ≡ true → IsSource cell r.roles.items bound (reserved cell r name) (unit_named (sites bound r.acts) name)
  reserved-source name among =
      let u = named-unit r name among in
      subst (λ (found : Option Act). IsSource cell r.roles.items bound (unit_found cell r found) (elim (option_and_then (λ (a : Act). unit_with bound a.unit) found) [ None ↦ [] | Some unit ↦ unit ])) (sym u.1) (go u.0.unit u.2 u.3)
    where
      go : (o : Option UnitChoice) → elim o [ None ↦ false | Some unit ↦ true ] ≡ true
          → elim o [ None ↦ true | Some choice ↦ elim choice [ Choice.Unit unit ↦ true | Choice.Role role ↦ is_among (map (λ (role : Role). role.name) r.roles.items) role ] ] ≡ true
          → IsSource cell r.roles.items bound (unit_source cell r o) (elim (unit_with bound o) [ None ↦ [] | Some unit ↦ unit ])
      go None h d = absurd cc
      go (Some choice) h d = chosen-source choice d

  -- those, and then the other needs
  reserved-say : (names : List Name) → list_all (is_among (act_names units)) names ≡ true → (more : List LinkedNeed) (needs : List Need) → SayNeeds cell r.roles.items bound more needs
      → SayNeeds cell r.roles.items bound (map (reserved_need cell r) names ++ more) (map one_unit (map (unit_named (sites bound r.acts)) names) ++ needs)
  reserved-say [] among more needs h = h
  reserved-say (name ∷ names) among more needs h =
      let own = and_parts (is_among (act_names units) name) (list_all (is_among (act_names units)) names) among in
      (reserved-source name own.0, refl, reserved-say names own.1 more needs h)

  act-says : (k : Kind) (a : Act) → act_of_kind r.acts k ≡ Some a → SayNeeds cell r.roles.items bound (needs_linked cell r a) (needs_with (sites bound r.acts) a)
  act-says k a is = go a.unit (declared r k a is)
    where
      rest : SayNeeds cell r.roles.items bound (map (reserved_need cell r) a.reserves.items ++ map (need_linked cell) a.needs.items) (map one_unit (map (unit_named (sites bound r.acts)) a.reserves.items) ++ a.needs.items)
      rest = reserved-say a.reserves.items (reserves-units r k a is) (map (need_linked cell) a.needs.items) a.needs.items (own-says cell r.roles.items bound a.needs.items)

      go : (o : Option UnitChoice)
          → elim o [ None ↦ true | Some choice ↦ elim choice [ Choice.Unit unit ↦ true | Choice.Role role ↦ is_among (map (λ (role : Role). role.name) r.roles.items) role ] ] ≡ true
          → SayNeeds cell r.roles.items bound ((unit_needs cell r o ++ map (reserved_need cell r) a.reserves.items) ++ map (need_linked cell) a.needs.items)
          (asked_in_order (unit_with bound o) (map (unit_named (sites bound r.acts)) a.reserves.items) a.needs.items)
      go None d = rest
      go (Some choice) d = (chosen-source choice d, refl, rest)

-- the rows of a linked recipe
module _ (cell : Cell) (phases : CellPhases) (r : Recipe) (linked : LinkedRecipe) (h : IsLinked cell phases r linked) where
  needs-linked : (k : Kind) (a : Act) → act_of_kind r.acts k ≡ Some a → needs_by linked k ≡ needs_linked cell r a
  needs-linked kind.Procedure a is = (let same : r.acts.procedure ≡ a = cc in h.procedure ∙ ap (needs_linked cell r) same)
  needs-linked (kind.Act UnitProcedures n) a is = row-there (needs_linked cell r) linked.unit_procedures.items r.acts.unit_procedures.items h.unit_procedures n a is
  needs-linked (kind.Act Operations n) a is = row-there (needs_linked cell r) linked.operations.items r.acts.operations.items h.operations n a is
  needs-linked (kind.Act Phases n) a is = row-there (needs_linked cell r) linked.phases.items r.acts.phases.items h.phases n a is
  needs-linked _ a is = let bad : None ≡ Some a = is in cc

pub needs-said : NeedsSayNames
needs-said cell phases r linked h bound k a is =
    subst (λ (needs : List LinkedNeed). SayNeeds cell r.roles.items bound needs (needs_with (sites bound r.acts) a)) (sym (needs-linked cell phases r linked h k a is)) (act-says cell r bound k a is)

pub units-said : UnitsSayNames
units-said cell phases r linked h bound k a choice at e =
    let own : unit_procedure_source linked k ≡ chosen_source cell r choice =
    ap first_source (row-there (needs_linked cell r) linked.unit_procedures.items r.acts.unit_procedures.items h.unit_procedures k a at)
    ∙ ap (λ (o : Option UnitChoice). first_source ((unit_needs cell r o ++ map (reserved_need cell r) a.reserves.items) ++ map (need_linked cell) a.needs.items)) e in
    subst (λ (source : Source). IsSource cell r.roles.items bound source (unit_chosen bound choice)) (sym own)
    (chosen-source cell r bound choice
    (subst (λ (o : Option UnitChoice). elim o [ None ↦ true | Some own ↦ elim own [ Choice.Unit unit ↦ true | Choice.Role role ↦ is_among (map (λ (role : Role). role.name) r.roles.items) role ] ] ≡ true) e
    (unit-declared r k a at)))

-- need i by number means the same as need i by name
pub said-at : (cell : Cell) (roles : List Role) (bound : Binding) (links : List LinkedNeed) (needs : List Need) → SayNeeds cell roles bound links needs → (i : ℕ) (need : Need) → slice_get needs i ≡ Some need
    → (linked : LinkedNeed) × (slice_get links i ≡ Some linked) × IsSource cell roles bound linked.source need.resource × (linked.units ≡ need.units)
said-at cell roles bound [] [] h i need e = absurd cc
said-at cell roles bound [] (n ∷ needs) h i need e = absurd h
said-at cell roles bound (l ∷ links) [] h i need e = absurd h
said-at cell roles bound (l ∷ links) (n ∷ needs) h zero need e =
    let same : n ≡ need = cc in
    (l, refl, subst (λ (z : Need). IsSource cell roles bound l.source z.resource) same h.0, subst (λ (z : Need). l.units ≡ z.units) same h.1)
said-at cell roles bound (l ∷ links) (n ∷ needs) h (suc i) need e = said-at cell roles bound links needs h.2 i need e
