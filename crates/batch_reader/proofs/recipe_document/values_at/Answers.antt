use Rattle.std.proofs.Common.{refl}
use Rattle.std.proofs.lemmas.Result.{err_from_is_err_and}
use Rattle.batch_reader.{proofs.ArrayFaults.in_among, proofs.ArrayFaults.in_told, specs.Faults.is_of_recipe, specs.Keys.is_known, specs.TableFaults.IsFaultOfTable, specs.declared.fault.TableKind.TheVariants.Input, specs.declared.fault.TableKind.TheVariants.Parameter, specs.declared.fault.TableKind.TheVariants.Output}
use Rattle.toml.specs.View.{table_view}
use Rattle.batch_reader.proofs.recipe_document.values_at.Goals as goal

pub returns-in_err-inputs-clause-refused : goal.returns-in_err-inputs-clause-refused
returns-in_err-inputs-clause-refused c =
    let p = err_from_is_err_and c.from_residual.result c.from_residual.ensures.1 in
    rw (p.1, p.2) (λ known recipe h. c.in_err-inputs.ensures.refused known recipe.inputs.items h.inputs)

pub returns-in_err-inputs-clause-told : goal.returns-in_err-inputs-clause-told
returns-in_err-inputs-clause-told c =
    let p = err_from_is_err_and c.from_residual.result c.from_residual.ensures.1 in
    rw (p.1, p.2) (in_among is_of_recipe Input _ refl _ c.in_err-inputs.ensures.told)

pub returns-in_err-inputs-clause-stands : goal.returns-in_err-inputs-clause-stands
returns-in_err-inputs-clause-stands c =
    let p = err_from_is_err_and c.from_residual.result c.from_residual.ensures.1 in
    rw (p.1, p.2) (in_told Input _ (λ spot. IsFaultOfTable (table_view c.args.table.now) spot.kind spot.entry) (λ entry wrong h. h) _ c.in_err-inputs.ensures.told)

pub returns-in_err-parameters-clause-refused : goal.returns-in_err-parameters-clause-refused
returns-in_err-parameters-clause-refused c =
    let p = err_from_is_err_and c.from_residual-in_err-parameters.result c.from_residual-in_err-parameters.ensures.1 in
    rw (p.1, p.2) (λ known recipe h. c.in_err-parameters.ensures.refused known recipe.parameters.items h.parameters)

pub returns-in_err-parameters-clause-told : goal.returns-in_err-parameters-clause-told
returns-in_err-parameters-clause-told c =
    let p = err_from_is_err_and c.from_residual-in_err-parameters.result c.from_residual-in_err-parameters.ensures.1 in
    rw (p.1, p.2) (in_among is_of_recipe Parameter _ refl _ c.in_err-parameters.ensures.told)

pub returns-in_err-parameters-clause-stands : goal.returns-in_err-parameters-clause-stands
unfolding is_known
returns-in_err-parameters-clause-stands c =
    let p = err_from_is_err_and c.from_residual-in_err-parameters.result c.from_residual-in_err-parameters.ensures.1 in
    rw (p.1, p.2) (in_told Parameter _ (λ spot. IsFaultOfTable (table_view c.args.table.now) spot.kind spot.entry) (λ entry wrong h. h) _ c.in_err-parameters.ensures.told)

pub returns-in_err-outputs-clause-refused : goal.returns-in_err-outputs-clause-refused
returns-in_err-outputs-clause-refused c =
    let p = err_from_is_err_and c.from_residual-in_err-outputs.result c.from_residual-in_err-outputs.ensures.1 in
    rw (p.1, p.2) (λ known recipe h. c.in_err-outputs.ensures.refused known recipe.outputs.items h.outputs)

pub returns-in_err-outputs-clause-told : goal.returns-in_err-outputs-clause-told
returns-in_err-outputs-clause-told c =
    let p = err_from_is_err_and c.from_residual-in_err-outputs.result c.from_residual-in_err-outputs.ensures.1 in
    rw (p.1, p.2) (in_among is_of_recipe Output _ refl _ c.in_err-outputs.ensures.told)

pub returns-in_err-outputs-clause-stands : goal.returns-in_err-outputs-clause-stands
returns-in_err-outputs-clause-stands c =
    let p = err_from_is_err_and c.from_residual-in_err-outputs.result c.from_residual-in_err-outputs.ensures.1 in
    rw (p.1, p.2) (in_told Output _ (λ spot. IsFaultOfTable (table_view c.args.table.now) spot.kind spot.entry) (λ entry wrong h. h) _ c.in_err-outputs.ensures.told)
