-- Recipes without the charts that no node follows make the same set for a cell.
use Rattle.std.proofs.Common.{◌≡◌, refl, ap, ap₂, ◌∙◌, ℕ, List, [], ◌∷◌, map, ◌++◌, Bool, true, false, not, find, ◌||◌, Option, Some, None, Vec, Global, option_and_then}
use Rattle.std.specs.List.{list_any}
use Rattle.batch_cell.specs.LookUps.{units_of_class}
use Rattle.batch_cell.specs.declared.cell.Cell as equipment
use Rattle.batch_recipe.specs.{ActsAtNodes.procedure_acts, Conditions.Name, Conditions.ValueList, Conditions.same_name, Formula.batch_values, Formula.is_in_range, Formula.is_size, Formula.quantities_of, declared.quantity.Quantity.Quantity, Expanding.Binding, Expanding.act_named, Procedure.bound_tree, declared.act.Act.Act, declared.act.UnitChoice.UnitChoice, declared.act.UnitChoice.TheVariants.Unit, declared.act.UnitChoice.TheVariants.Role, declared.role.Role.Role as RecipeRole}
use Rattle.batch_recipe.specs.declared.recipe.Recipe as document
use Rattle.batch_model.specs.{Plant.Formula, Plant.Master, Plant.Recipe, Plant.scaled, Plant.size_out_of_range, Plant.value_out_of_range, Recipes.formula_of, Recipes.recipe_of, Setups.labels_of, Setups.master_of, Setups.role_of, Setups.setup_of}
use Rattle.batch_outline.{specs.Trimmed.AreTrimmedRecipes, specs.Trimmed.IsTrimmed, proofs.TrimmedRecipes.acts_stay, proofs.TrimmedRecipes.tree_stays, proofs.TrimmedRecipes.unit_stays_of}

-- the role of the unit procedure with a name
abbrev Roles : Type 0
Roles = Name → Option Name

abbrev name_role : Roles → List Name → Name → Bool
name_role own names role = list_any (λ name. elim (own name) [ None ↦ false | Some other ↦ same_name other role ]) names

-- a master recipe, by all that it depends on
abbrev made : equipment.Cell → Name → List RecipeRole → Roles → List Name → List (Option Act) → (Binding → Recipe) → Master
made cell name roles own labels acts control = record {
  name = name;
  roles = map (λ role. record { name = role.name; candidates = units_of_class cell role.class }) roles;
  names_role = λ role. name_role own labels role || list_any (λ found. elim found [ None ↦ false | Some a ↦ name_role own a.reserves.items role ]) acts;
  control = control;
}

abbrev role_in : Option UnitChoice → Option Name
role_in unit = elim unit [ None ↦ None | Some choice ↦ elim choice [ Unit unit ↦ None | Role role ↦ Some role ] ]

abbrev roles_of : document.Recipe → Roles
roles_of r name = option_and_then role_of (act_named r.acts.unit_procedures.items name)

-- a formula, by all that it depends on
abbrev formula_with : ℕ → List Quantity → ValueList → ℕ → Formula
formula_with basis quantities values size = elim (is_size size) [
  | true ↦ elim (find (λ quantity. not (is_in_range basis size quantity)) quantities) [ None ↦ scaled values | Some quantity ↦ value_out_of_range quantity.name ]
  | false ↦ size_out_of_range
]

module _ (whole trimmed : document.Recipe) (is : IsTrimmed whole trimmed) where
  formula_stays : (size : ℕ) → formula_of trimmed size ≡ formula_of whole size
  formula_stays size =
      let quantities : quantities_of trimmed ≡ quantities_of whole = ap₂ (λ (inputs parameters : Vec Quantity Global). inputs.items ++ parameters.items) is.inputs is.parameters in
      let values : batch_values trimmed size ≡ batch_values whole size = rw (batch_values, is.basis, is.inputs, is.parameters, is.outputs) refl in
      ap (λ basis. formula_with basis (quantities_of trimmed) (batch_values trimmed size) size) is.basis
      ∙ ap₂ (λ qs vs. formula_with whole.basis qs vs size) quantities values

  control_stays : (bound : Binding) → recipe_of trimmed bound ≡ recipe_of whole bound
  control_stays bound =
      ap (λ (a : Act). record { name = a.name; formula = formula_of trimmed; outputs = trimmed.outputs.items; procedure = bound_tree bound trimmed.acts }) is.acts.procedure
      ∙ ap (λ (f : ℕ → Formula). record { name = whole.acts.procedure.name; formula = f; outputs = trimmed.outputs.items; procedure = bound_tree bound trimmed.acts }) (λ i size. formula_stays size i)
      ∙ ap₂ (λ (outputs : Vec Name Global) procedure. record { name = whole.acts.procedure.name; formula = formula_of whole; outputs = outputs.items; procedure = procedure })
      is.outputs (tree_stays whole.outline.entries.items whole.acts trimmed.acts is.acts whole.outlined bound)

  master_stays : (cell : equipment.Cell) → master_of cell trimmed ≡ master_of cell whole
  master_stays cell =
      ap (λ (a : Act). made cell a.name trimmed.roles.items (roles_of trimmed) (labels_of a) (procedure_acts trimmed.acts) (recipe_of trimmed)) is.acts.procedure
      ∙ ap₂ (λ (roles : Vec RecipeRole Global) (own : Roles). made cell whole.acts.procedure.name roles.items own (labels_of whole.acts.procedure) (procedure_acts trimmed.acts) (recipe_of trimmed))
      is.roles (λ i name. unit_stays_of whole.outline.entries.items whole.acts trimmed.acts is.acts role_in name i)
      ∙ ap₂ (λ (acts : List (Option Act)) (control : Binding → Recipe). made cell whole.acts.procedure.name whole.roles.items (roles_of whole) (labels_of whole.acts.procedure) acts control)
      (acts_stay whole.outline.entries.items whole.acts trimmed.acts is.acts whole.outlined) (λ i bound. control_stays bound i)

masters_stay : (cell : equipment.Cell) (whole trimmed : List document.Recipe) → AreTrimmedRecipes whole trimmed → map (master_of cell) trimmed ≡ map (master_of cell) whole
masters_stay cell [] [] are = refl
masters_stay cell (w ∷ whole) (t ∷ trimmed) (is, are) = ap₂ (λ m ms. m ∷ ms) (master_stays w t is cell) (masters_stay cell whole trimmed are)
masters_stay cell [] (t ∷ trimmed) are = absurd are
masters_stay cell (w ∷ whole) [] are = absurd are

pub sets_stay : (cell : equipment.Cell) (whole trimmed : List document.Recipe) → AreTrimmedRecipes whole trimmed → setup_of cell trimmed ≡ setup_of cell whole
sets_stay cell whole trimmed are =
    ap (λ recipes. record {
      units = (setup_of cell whole).units;
      resources = (setup_of cell whole).resources;
      capacity = (setup_of cell whole).capacity;
      offers = (setup_of cell whole).offers;
      recipes = recipes;
      batch_limit = (setup_of cell whole).batch_limit;
    }) (masters_stay cell whole trimmed are)
