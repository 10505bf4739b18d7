use Rattle.std.proofs.lemmas.Result.{err_from_is_err_and}
use Rattle.std.proofs.Common.{inl, inr, refl}
use Rattle.toml.specs.View.{table_view}
use Rattle.batch_reader.{proofs.ArrayFaults.in_among, proofs.ArrayFaults.in_told, proofs.ArrayFaults.tells_weaker, proofs.OneRecipe.unsound_recipe_refused, proofs.RecipeParts.formed_of_tables, specs.FaultStands.IsWrongAt, specs.Faults.is_of_recipe, specs.declared.fault.TableKind.TheVariants.Role}
use Rattle.batch_reader.proofs.recipe_document.parts_at.Goals as goal

pub returns-in_err-values-clause-refused : goal.returns-in_err-values-clause-refused
returns-in_err-values-clause-refused c =
    let p = err_from_is_err_and c.from_residual.result c.from_residual.ensures.1 in
    rw (p.1, p.2) c.in_err-values.ensures.refused

pub returns-in_err-values-clause-told : goal.returns-in_err-values-clause-told
returns-in_err-values-clause-told c =
    let p = err_from_is_err_and c.from_residual.result c.from_residual.ensures.1 in
    rw (p.1, p.2) c.in_err-values.ensures.told

pub returns-in_err-values-clause-stands : goal.returns-in_err-values-clause-stands
returns-in_err-values-clause-stands c =
    let p = err_from_is_err_and c.from_residual.result c.from_residual.ensures.1 in
    rw (p.1, p.2) (tells_weaker _ (IsWrongAt (table_view c.args.table.now)) (λ spot wrong h. inl h) _ c.in_err-values.ensures.stands)

pub returns-in_err-roles-clause-refused : goal.returns-in_err-roles-clause-refused
returns-in_err-roles-clause-refused c =
    let p = err_from_is_err_and c.from_residual-in_err-roles.result c.from_residual-in_err-roles.ensures.1 in
    rw (p.1, p.2) (λ known recipe h. c.in_err-roles.ensures.refused known recipe.roles.items h.roles)

pub returns-in_err-roles-clause-told : goal.returns-in_err-roles-clause-told
returns-in_err-roles-clause-told c =
    let p = err_from_is_err_and c.from_residual-in_err-roles.result c.from_residual-in_err-roles.ensures.1 in
    rw (p.1, p.2) (in_among is_of_recipe Role _ refl _ c.in_err-roles.ensures.told)

pub returns-in_err-roles-clause-stands : goal.returns-in_err-roles-clause-stands
returns-in_err-roles-clause-stands c =
    let p = err_from_is_err_and c.from_residual-in_err-roles.result c.from_residual-in_err-roles.ensures.1 in
    rw (p.1, p.2) (in_told Role _ (IsWrongAt (table_view c.args.table.now)) (λ entry wrong h. inl h) _ c.in_err-roles.ensures.told)

pub returns-in_err-acts-clause-refused : goal.returns-in_err-acts-clause-refused
returns-in_err-acts-clause-refused c =
    let p = err_from_is_err_and c.from_residual-in_err-acts.result c.from_residual-in_err-acts.ensures.1 in
    rw (p.1, p.2) (λ known recipe h. c.in_err-acts.ensures.refused known recipe.acts h.acts)

pub returns-in_err-acts-clause-told : goal.returns-in_err-acts-clause-told
returns-in_err-acts-clause-told c =
    let p = err_from_is_err_and c.from_residual-in_err-acts.result c.from_residual-in_err-acts.ensures.1 in
    rw (p.1, p.2) c.in_err-acts.ensures.told

pub returns-in_err-acts-clause-stands : goal.returns-in_err-acts-clause-stands
returns-in_err-acts-clause-stands c =
    let p = err_from_is_err_and c.from_residual-in_err-acts.result c.from_residual-in_err-acts.ensures.1 in
    rw (p.1, p.2) (tells_weaker _ (IsWrongAt (table_view c.args.table.now)) (λ spot wrong h. inl h) _ c.in_err-acts.ensures.stands)

pub check_recipe-requires : goal.check_recipe-requires
check_recipe-requires c = formed_of_tables _ c.in_ok-acts.acts c.in_ok-acts.ensures.ok

pub returns-in_err-names-clause-refused : goal.returns-in_err-names-clause-refused
returns-in_err-names-clause-refused c =
    let p = err_from_is_err_and c.from_residual-in_err-names.result c.from_residual-in_err-names.ensures.1 in
    rw (p.1, p.2) (λ known. unsound_recipe_refused _ c.in_ok-values.values.inputs.items c.in_ok-values.values.parameters.items c.in_ok-values.values.outputs.items c.in_ok-roles.roles.items c.in_ok-acts.acts
    c.in_ok-values.ensures.inputs c.in_ok-values.ensures.parameters c.in_ok-values.ensures.outputs c.in_ok-roles.ensures.ok c.in_ok-acts.ensures.ok
    (rw (c.deref.ensures.value, c.deref-2.ensures.value, c.deref-3.ensures.value, c.deref-4.ensures.value) at (c.in_err-names.ensures.refused known)))

pub returns-in_err-names-clause-told : goal.returns-in_err-names-clause-told
returns-in_err-names-clause-told c =
    let p = err_from_is_err_and c.from_residual-in_err-names.result c.from_residual-in_err-names.ensures.1 in
    rw (p.1, p.2) c.in_err-names.ensures.told

pub returns-in_err-names-clause-stands : goal.returns-in_err-names-clause-stands
returns-in_err-names-clause-stands c =
    let p = err_from_is_err_and c.from_residual-in_err-names.result c.from_residual-in_err-names.ensures.1 in
    rw (p.1, p.2) (tells_weaker _ (IsWrongAt (table_view c.args.table.now)) (λ spot wrong h. inr (inr (record {
      parts = record { inputs = c.in_ok-values.values.inputs.items; parameters = c.in_ok-values.values.parameters.items; outputs = c.in_ok-values.values.outputs.items; roles = c.in_ok-roles.roles.items; acts = c.in_ok-acts.acts };
      inputs = c.in_ok-values.ensures.inputs;
      parameters = c.in_ok-values.ensures.parameters;
      outputs = c.in_ok-values.ensures.outputs;
      roles = c.in_ok-roles.ensures.ok;
      acts = c.in_ok-acts.ensures.ok;
      fault = h;
    }))) _ (rw (c.deref.ensures.value, c.deref-2.ensures.value, c.deref-3.ensures.value, c.deref-4.ensures.value) at c.in_err-names.ensures.stands))

pub returns-clause-sound : goal.returns-clause-sound
returns-clause-sound c =
    rw (c.deref.ensures.value, c.deref-2.ensures.value, c.deref-3.ensures.value, c.deref-4.ensures.value) at c.in_ok-names.ensures.ok
