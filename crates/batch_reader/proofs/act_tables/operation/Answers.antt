use Rattle.std.proofs.lemmas.Result.{err_from_is_err_and}
use Rattle.batch_recipe.specs.{Diagram.diagram_of, declared.act.TheConstants.MAX_RESERVES}
use Rattle.std.proofs.Common.{refl}
use Rattle.toml.specs.View.{table_view}
use Rattle.batch_reader.{proofs.EntryFaults.few_told, proofs.EntryFaults.label_told, proofs.EntryFaults.table_told, specs.declared.fault.TableKind.TheVariants.Operation}
use Rattle.batch_reader.proofs.act_tables.operation.Goals as goal

pub returns-in_err-needs-clause-refused : goal.returns-in_err-needs-clause-refused
returns-in_err-needs-clause-refused c =
    let p = err_from_is_err_and c.from_residual-in_err-needs.result c.from_residual-in_err-needs.ensures.1 in
    rw (p.1, p.2) (λ known act h. c.in_err-needs.ensures.refused known act.needs.items h.needs)

pub returns-in_err-chart-clause-refused : goal.returns-in_err-chart-clause-refused
returns-in_err-chart-clause-refused c =
    let p = err_from_is_err_and c.from_residual-in_err-chart.result c.from_residual-in_err-chart.ensures.1 in
    rw (p.1, p.2) (λ known act h. c.in_err-chart.ensures.refused known (diagram_of h.course.chart) h.course.text)

pub returns-in_err-name-clause-told : goal.returns-in_err-name-clause-told
returns-in_err-name-clause-told c =
    let p = err_from_is_err_and c.from_residual.result c.from_residual.ensures.1 in
    rw (p.1, p.2) (table_told Operation (table_view c.args.table.now) 0 _ refl refl _ _ (label_told _ (table_view c.args.table.now) _ _ c.in_err-name.ensures.refused c.in_err-name.ensures.told))

pub returns-in_err-needs-clause-told : goal.returns-in_err-needs-clause-told
returns-in_err-needs-clause-told c =
    let p = err_from_is_err_and c.from_residual-in_err-needs.result c.from_residual-in_err-needs.ensures.1 in
    rw (p.1, p.2) (table_told Operation (table_view c.args.table.now) 2 _ refl refl _ _ (c.in_err-needs.ensures.told))

pub returns-in_err-chart-clause-told : goal.returns-in_err-chart-clause-told
returns-in_err-chart-clause-told c =
    let p = err_from_is_err_and c.from_residual-in_err-chart.result c.from_residual-in_err-chart.ensures.1 in
    rw (p.1, p.2) (table_told Operation (table_view c.args.table.now) 1 _ refl refl _ _ (c.in_err-chart.ensures.told))

pub returns-in_err-reserves-clause-refused : goal.returns-in_err-reserves-clause-refused
returns-in_err-reserves-clause-refused c =
    let p = err_from_is_err_and c.from_residual-in_err-reserves.result c.from_residual-in_err-reserves.ensures.1 in
    rw (p.1, p.2) (λ known act h. c.in_err-reserves.ensures.refused known act.reserves.items h.reserves)

pub returns-in_err-reserves-clause-told : goal.returns-in_err-reserves-clause-told
returns-in_err-reserves-clause-told c =
    let p = err_from_is_err_and c.from_residual-in_err-reserves.result c.from_residual-in_err-reserves.ensures.1 in
    rw (p.1, p.2) (table_told Operation (table_view c.args.table.now) 3 _ refl refl _ _ (few_told _ (table_view c.args.table.now) MAX_RESERVES _ _ c.in_err-reserves.ensures.refused c.in_err-reserves.ensures.told))
