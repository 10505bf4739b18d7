use Rattle.std.proofs.Common.{refl}
use Rattle.std.proofs.lemmas.Result.{err_from_is_err_and}
use Rattle.batch_reader.{proofs.ArrayFaults.in_among, proofs.ArrayFaults.in_told, specs.Faults.is_of_recipe, specs.TableFaults.IsFaultOfTable, specs.declared.fault.TableKind.TheVariants.UnitProcedure, specs.declared.fault.TableKind.TheVariants.Operation, specs.declared.fault.TableKind.TheVariants.Phase}
use Rattle.toml.specs.View.{table_view}
use Rattle.batch_reader.proofs.recipe_document.act_tables_at.Goals as goal

pub returns-in_err-unit_procedures-clause-refused : goal.returns-in_err-unit_procedures-clause-refused
returns-in_err-unit_procedures-clause-refused c =
    let p = err_from_is_err_and c.from_residual.result c.from_residual.ensures.1 in
    rw (p.1, p.2) (λ known acts h. c.in_err-unit_procedures.ensures.refused known acts.unit_procedures.items h.unit_procedures)

pub returns-in_err-unit_procedures-clause-told : goal.returns-in_err-unit_procedures-clause-told
returns-in_err-unit_procedures-clause-told c =
    let p = err_from_is_err_and c.from_residual.result c.from_residual.ensures.1 in
    rw (p.1, p.2) (in_among is_of_recipe UnitProcedure _ refl _ c.in_err-unit_procedures.ensures.told)

pub returns-in_err-unit_procedures-clause-stands : goal.returns-in_err-unit_procedures-clause-stands
returns-in_err-unit_procedures-clause-stands c =
    let p = err_from_is_err_and c.from_residual.result c.from_residual.ensures.1 in
    rw (p.1, p.2) (in_told UnitProcedure _ (λ spot. IsFaultOfTable (table_view c.args.table.now) spot.kind spot.entry) (λ entry wrong h. h) _ c.in_err-unit_procedures.ensures.told)

pub returns-in_err-operations-clause-refused : goal.returns-in_err-operations-clause-refused
returns-in_err-operations-clause-refused c =
    let p = err_from_is_err_and c.from_residual-in_err-operations.result c.from_residual-in_err-operations.ensures.1 in
    rw (p.1, p.2) (λ known acts h. c.in_err-operations.ensures.refused known acts.operations.items h.operations)

pub returns-in_err-operations-clause-told : goal.returns-in_err-operations-clause-told
returns-in_err-operations-clause-told c =
    let p = err_from_is_err_and c.from_residual-in_err-operations.result c.from_residual-in_err-operations.ensures.1 in
    rw (p.1, p.2) (in_among is_of_recipe Operation _ refl _ c.in_err-operations.ensures.told)

pub returns-in_err-operations-clause-stands : goal.returns-in_err-operations-clause-stands
returns-in_err-operations-clause-stands c =
    let p = err_from_is_err_and c.from_residual-in_err-operations.result c.from_residual-in_err-operations.ensures.1 in
    rw (p.1, p.2) (in_told Operation _ (λ spot. IsFaultOfTable (table_view c.args.table.now) spot.kind spot.entry) (λ entry wrong h. h) _ c.in_err-operations.ensures.told)

pub returns-in_err-phases-clause-refused : goal.returns-in_err-phases-clause-refused
returns-in_err-phases-clause-refused c =
    let p = err_from_is_err_and c.from_residual-in_err-phases.result c.from_residual-in_err-phases.ensures.1 in
    rw (p.1, p.2) (λ known acts h. c.in_err-phases.ensures.refused known acts.phases.items h.phases)

pub returns-in_err-phases-clause-told : goal.returns-in_err-phases-clause-told
returns-in_err-phases-clause-told c =
    let p = err_from_is_err_and c.from_residual-in_err-phases.result c.from_residual-in_err-phases.ensures.1 in
    rw (p.1, p.2) (in_among is_of_recipe Phase _ refl _ c.in_err-phases.ensures.told)

pub returns-in_err-phases-clause-stands : goal.returns-in_err-phases-clause-stands
returns-in_err-phases-clause-stands c =
    let p = err_from_is_err_and c.from_residual-in_err-phases.result c.from_residual-in_err-phases.ensures.1 in
    rw (p.1, p.2) (in_told Phase _ (λ spot. IsFaultOfTable (table_view c.args.table.now) spot.kind spot.entry) (λ entry wrong h. h) _ c.in_err-phases.ensures.told)
