use Rattle.std.proofs.lemmas.Result.{err_from_is_err_and}
use Rattle.std.proofs.Common.{inl, inr, refl}
use Rattle.toml.specs.View.{table_view}
use Rattle.batch_reader.{proofs.ArrayFaults.at_among, proofs.ArrayFaults.at_told, proofs.ArrayFaults.tells_weaker, proofs.OneRecipe.unsound_recipe_refused, proofs.FaultsAmongTables.large_refused, proofs.FaultsAmongTables.large_told, proofs.RecipeParts.kinds_of_tables, proofs.RecipeParts.free_names_of_tables, specs.FaultStands.IsWrongAt, specs.Faults.is_of_recipe, specs.PartFaults.Parts}
use Rattle.batch_reader.proofs.recipe_document.recipe_from_table.Goals as goal

pub returns-in_err-top-clause-refused : goal.returns-in_err-top-clause-refused
returns-in_err-top-clause-refused c =
    let p = err_from_is_err_and c.from_residual.result c.from_residual.ensures.1 in
    rw (p.1, p.2) c.in_err-top.ensures.refused

pub returns-in_err-top-clause-told : goal.returns-in_err-top-clause-told
returns-in_err-top-clause-told c =
    let p = err_from_is_err_and c.from_residual.result c.from_residual.ensures.1 in
    rw (p.1, p.2) (at_among is_of_recipe _ _ refl _ c.in_err-top.ensures.told)

pub returns-in_err-top-clause-stands : goal.returns-in_err-top-clause-stands
returns-in_err-top-clause-stands c =
    let p = err_from_is_err_and c.from_residual.result c.from_residual.ensures.1 in
    rw (p.1, p.2) (at_told _ _ (IsWrongAt (table_view c.args.table.now)) (λ wrong h. inl (refl, h)) _ c.in_err-top.ensures.told)

pub returns-in_err-parts-clause-refused : goal.returns-in_err-parts-clause-refused
returns-in_err-parts-clause-refused c =
    let p = err_from_is_err_and c.from_residual-in_err-parts.result c.from_residual-in_err-parts.ensures.1 in
    rw (p.1, p.2) c.in_err-parts.ensures.refused

pub returns-in_err-parts-clause-told : goal.returns-in_err-parts-clause-told
returns-in_err-parts-clause-told c =
    let p = err_from_is_err_and c.from_residual-in_err-parts.result c.from_residual-in_err-parts.ensures.1 in
    rw (p.1, p.2) c.in_err-parts.ensures.told

pub returns-in_err-parts-clause-stands : goal.returns-in_err-parts-clause-stands
returns-in_err-parts-clause-stands c =
    let p = err_from_is_err_and c.from_residual-in_err-parts.result c.from_residual-in_err-parts.ensures.1 in
    rw (p.1, p.2) c.in_err-parts.ensures.stands

pub new-requires : goal.new-requires
new-requires c =
    let values = c.in_ok-parts.parts.values in
    let tables = c.in_ok-parts.ensures in
    let sound = tables.sound in
    record {
      some_basis = c.in_ok-top.ensures.basis.at_least;
      basis_limit = c.in_ok-top.ensures.basis.at_most;
      few_inputs = sound.few_inputs;
      few_parameters = sound.few_parameters;
      few_outputs = sound.few_outputs;
      few_roles = sound.few_roles;
      own_roles = sound.own_roles;
      own_reports = sound.own_reports;
      own_reserves = sound.own_reserves;
      some_unit_procedures = sound.some_unit_procedures;
      few_unit_procedures = sound.few_unit_procedures;
      some_operations = sound.some_operations;
      few_operations = sound.few_operations;
      some_phases = sound.some_phases;
      few_phases = sound.few_phases;
      kinds = kinds_of_tables _ c.in_ok-parts.parts.acts tables.acts;
      names = tables.names;
      well_formed = sound.well_formed;
      free_names = free_names_of_tables _ values.inputs.items values.parameters.items values.outputs.items c.in_ok-parts.parts.acts tables.inputs tables.parameters tables.outputs tables.acts;
    }

pub returns-in-Err-clause-refused : goal.returns-in-Err-clause-refused
returns-in-Err-clause-refused c =
    let parts = c.in_ok-parts.parts in
    let tables = c.in_ok-parts.ensures in
    rw c.outline_fault.ensures (λ known. unsound_recipe_refused (table_view c.args.table.now) parts.values.inputs.items parts.values.parameters.items parts.values.outputs.items parts.roles.items parts.acts
    tables.inputs tables.parameters tables.outputs tables.roles tables.acts
    (λ sound. large_refused parts.acts c.in-Err.fault c.in-Err.ensures.many known sound.small))

pub returns-in-Err-clause-stands : goal.returns-in-Err-clause-stands
returns-in-Err-clause-stands c =
    let of : Parts = record {
      inputs = c.in_ok-parts.parts.values.inputs.items;
      parameters = c.in_ok-parts.parts.values.parameters.items;
      outputs = c.in_ok-parts.parts.values.outputs.items;
      roles = c.in_ok-parts.parts.roles.items;
      acts = c.in_ok-parts.parts.acts;
    } in
    let tables = c.in_ok-parts.ensures in
    rw c.outline_fault.ensures (tells_weaker _ (IsWrongAt (table_view c.args.table.now)) (λ spot wrong h. inr (inr (record {
      parts = of;
      inputs = tables.inputs;
      parameters = tables.parameters;
      outputs = tables.outputs;
      roles = tables.roles;
      acts = tables.acts;
      fault = h;
    }))) _ (large_told of c.in-Err.fault c.in-Err.ensures.many))
