-- The tables of a recipe stand for one form of their parts at most.
use Rattle.std.proofs.Common.{arith, ◌≡◌, ℕ, List, map, codes, sym, ap, ap₂, ◌∙◌}
use Rattle.std.proofs.lemmas.List.{map-id}
use Rattle.toml.specs.Data.{Members}
use Rattle.batch_recipe.specs.{Conditions.Name, Diagram.diagram_of, declared.act.Act.Act, declared.acts.Acts.Acts, declared.quantity.Quantity.Quantity, declared.recipe.Recipe.Recipe, declared.role.Role.Role}
use Rattle.batch_reader.{proofs.ActForms.follows, proofs.ActForms.runs, proofs.ActForms.work_form, proofs.ActForms.form, proofs.ActForms.sound_along, proofs.Items.HasTables_same, proofs.OneEntry.HasName_unique, proofs.OneEntry.HasLabel_unique, proofs.OneEntry.HasNameOr_unique, proofs.OneEntry.HasChart_unique, proofs.OneEntry.HasFewNames_unique, proofs.OneEntry.HasFewNeeds_unique, proofs.UnitChoices.same_unit, specs.Entries.HasTables, specs.RecipeTables.HasCourse, specs.RecipeTables.HasNeeds, specs.RecipeTables.HasReserves, specs.RecipeTables.IsQuantityTable, specs.RecipeTables.IsOutputTable, specs.RecipeTables.IsRoleTable, specs.RecipeTables.IsProcedureTable, specs.RecipeTables.IsUnitProcedureTable, specs.RecipeTables.IsOperationTable, specs.RecipeTables.IsPhaseTable, specs.RecipeDocument.HasActs, specs.RecipeDocument.IsRecipeTable, specs.SoundRecipe.IsSoundRecipe}

same_needs : (ms : Members) (a b : Act) → HasNeeds ms a → HasNeeds ms b → a.needs.items ≡ b.needs.items
same_needs ms a b h k = HasFewNeeds_unique _ ms _ a.needs.items b.needs.items h k

same_reserves : (ms : Members) (a b : Act) → HasReserves ms a → HasReserves ms b → a.reserves.items ≡ b.reserves.items
same_reserves ms a b h k = HasFewNames_unique _ ms _ a.reserves.items b.reserves.items h k

same_work : (ms : Members) (a b : Act) → HasCourse ms a → HasCourse ms b → work_form a.work ≡ work_form b.work
same_work ms a b h k =
    ap work_form h.follows ∙ ap follows (HasChart_unique _ ms (diagram_of h.chart) (diagram_of k.chart) h.text k.text) ∙ sym (ap work_form k.follows)

same_form : (a b : Act) → a.name ≡ b.name → a.unit ≡ b.unit → a.reserves.items ≡ b.reserves.items → a.needs.items ≡ b.needs.items → work_form a.work ≡ work_form b.work
    → form a ≡ form b
same_form a b name unit reserves needs work = cc

same_unit_procedure : (ms : Members) (a b : Act) → IsUnitProcedureTable ms a → IsUnitProcedureTable ms b → form a ≡ form b
same_unit_procedure ms a b h k = grind (arith, same_unit ms a b h k, same_reserves ms a b h.reserves k.reserves, same_needs ms a b h.needs k.needs, same_work ms a b h.course k.course, same_form, HasLabel_unique)

same_operation : (ms : Members) (a b : Act) → IsOperationTable ms a → IsOperationTable ms b → form a ≡ form b
same_operation ms a b h k = grind (arith, same_reserves ms a b h.reserves k.reserves, same_needs ms a b h.needs k.needs, same_work ms a b h.course k.course, same_form, HasLabel_unique)

same_phase : (ms : Members) (a b : Act) → IsPhaseTable ms a → IsPhaseTable ms b → form a ≡ form b
same_phase ms a b h k =
    let name : a.name ≡ b.name = HasLabel_unique _ ms a.name b.name h.name k.name in
    let phase : h.phase ≡ k.phase = HasNameOr_unique _ ms b.name h.phase k.phase (rw name at h.runs) k.runs in
    let values : h.handed.items ≡ k.handed.items = HasFewNames_unique _ ms _ h.handed.items k.handed.items h.values k.values in
    let reports : h.reported.items ≡ k.reported.items = HasFewNames_unique _ ms _ h.reported.items k.reported.items h.reports k.reports in
    same_form a b name (h.no_unit ∙ sym k.no_unit) (same_reserves ms a b h.reserves k.reserves) (same_needs ms a b h.needs k.needs)
    (ap work_form h.work ∙ ap (λ p. runs p h.handed.items h.reported.items) phase ∙ ap₂ (runs k.phase) values reports ∙ sym (ap work_form k.work))

-- of the procedure's table, which doesn't have its name
same_course : (ms : Members) (a b : Act) → IsProcedureTable ms a → IsProcedureTable ms b
    → (a.unit ≡ b.unit) × (a.reserves.items ≡ b.reserves.items) × (a.needs.items ≡ b.needs.items) × (work_form a.work ≡ work_form b.work)
same_course ms a b h k = (h.no_unit ∙ sym k.no_unit, h.no_reserves ∙ sym k.no_reserves, same_needs ms a b h.needs k.needs, same_work ms a b h.course k.course)

same_procedure : (ms : Members) (a b : Acts) → HasActs ms a → HasActs ms b → form a.procedure ≡ form b.procedure
same_procedure ms a b h k = grind (arith, same_course, same_form, HasName_unique)

same_quantities : (key : List ℕ) (ms : Members) (xs ys : List Quantity) → HasTables IsQuantityTable key ms xs → HasTables IsQuantityTable key ms ys
    → map (λ q. q.name) xs ≡ map (λ q. q.name) ys
same_quantities key ms xs ys h k = HasTables_same IsQuantityTable (λ q. q.name) (λ ns x y a b. HasLabel_unique _ ns x.name y.name a.name b.name) key ms xs ys h k

same_outputs : (ms : Members) (xs ys : List Name) → HasTables IsOutputTable (codes "output") ms xs → HasTables IsOutputTable (codes "output") ms ys → xs ≡ ys
same_outputs ms xs ys h k =
    sym (map-id xs) ∙ HasTables_same IsOutputTable (λ name. name) (λ ns x y a b. HasLabel_unique _ ns x y a.name b.name) _ ms xs ys h k ∙ map-id ys

same_role : (ms : Members) (x y : Role) → IsRoleTable ms x → IsRoleTable ms y → x ≡ y
same_role ms x y h k = grind (arith, HasName_unique)

same_roles : (ms : Members) (xs ys : List Role) → HasTables IsRoleTable (codes "role") ms xs → HasTables IsRoleTable (codes "role") ms ys → xs ≡ ys
same_roles ms xs ys h k = sym (map-id xs) ∙ HasTables_same IsRoleTable (λ role. role) same_role _ ms xs ys h k ∙ map-id ys

-- where the parts that a table stands for aren't sound, the table stands for no recipe
pub unsound_recipe_refused : (ms : Members) (inputs parameters : List Quantity) (outputs : List Name) (roles : List Role) (acts : Acts)
    → HasTables IsQuantityTable (codes "input") ms inputs → HasTables IsQuantityTable (codes "parameter") ms parameters → HasTables IsOutputTable (codes "output") ms outputs
    → HasTables IsRoleTable (codes "role") ms roles → HasActs ms acts → (IsSoundRecipe inputs parameters outputs roles acts → ⊥) → (recipe : Recipe) → IsRecipeTable ms recipe → ⊥
unsound_recipe_refused ms inputs parameters outputs roles acts hi hp ho hr ha unsound recipe h =
    unsound (sound_along recipe.inputs.items recipe.parameters.items inputs parameters recipe.outputs.items outputs recipe.roles.items roles recipe.acts acts
    (same_quantities _ ms recipe.inputs.items inputs h.inputs hi)
    (same_quantities _ ms recipe.parameters.items parameters h.parameters hp)
    (same_outputs ms recipe.outputs.items outputs h.outputs ho)
    (same_roles ms recipe.roles.items roles h.roles hr)
    (same_procedure ms recipe.acts acts h.acts ha)
    (HasTables_same IsUnitProcedureTable form same_unit_procedure _ ms recipe.acts.unit_procedures.items acts.unit_procedures.items h.acts.unit_procedures ha.unit_procedures)
    (HasTables_same IsOperationTable form same_operation _ ms recipe.acts.operations.items acts.operations.items h.acts.operations ha.operations)
    (HasTables_same IsPhaseTable form same_phase _ ms recipe.acts.phases.items acts.phases.items h.acts.phases ha.phases)
    h.sound)
