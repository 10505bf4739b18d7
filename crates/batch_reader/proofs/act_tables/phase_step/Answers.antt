use Rattle.std.proofs.Common.{refl, rules}
use Rattle.std.proofs.lemmas.Result.{err_from_is_err_and}
use Rattle.batch_recipe.specs.declared.act.TheConstants.{MAX_REPORTS, MAX_RESERVES, MAX_VALUES}
use Rattle.toml.specs.View.{table_view}
use Rattle.batch_reader.{proofs.EntryFaults.few_told, proofs.EntryFaults.label_told, proofs.EntryFaults.name_or_told, proofs.EntryFaults.table_told, specs.declared.fault.TableKind.TheVariants.Phase}
use Rattle.batch_reader.proofs.act_tables.phase_step.Goals as goal

pub returns-in_err-needs-clause-refused : goal.returns-in_err-needs-clause-refused
returns-in_err-needs-clause-refused c =
    let p = err_from_is_err_and c.from_residual-in_err-needs.result c.from_residual-in_err-needs.ensures.1 in
    rw (p.1, p.2) (λ known act h. c.in_err-needs.ensures.refused known act.needs.items h.needs)

pub returns-in_err-values-clause-refused : goal.returns-in_err-values-clause-refused
returns-in_err-values-clause-refused c =
    let p = err_from_is_err_and c.from_residual-in_err-values.result c.from_residual-in_err-values.ensures.1 in
    rw (p.1, p.2) (λ known act h. c.in_err-values.ensures.refused known h.handed.items h.values)

pub returns-in_err-reports-clause-refused : goal.returns-in_err-reports-clause-refused
returns-in_err-reports-clause-refused c =
    let p = err_from_is_err_and c.from_residual-in_err-reports.result c.from_residual-in_err-reports.ensures.1 in
    rw (p.1, p.2) (λ known act h. c.in_err-reports.ensures.refused known h.reported.items h.reports)

pub returns-clause-ok : goal.returns-clause-ok
returns-clause-ok c = record {
  keys = search rules;
  name = c.in_ok-name.ensures.ok;
  no_unit = refl;
  needs = c.in_ok-needs.ensures.ok;
  phase = c.in_ok-phase.phase;
  handed = c.in_ok-values.values;
  reported = c.in_ok-reports.reports;
  work = refl;
  runs = c.in_ok-phase.ensures.ok;
  values = c.in_ok-values.ensures.ok;
  reports = c.in_ok-reports.ensures.ok;
  reserves = c.in_ok-reserves.ensures.ok;
}

pub returns-in_err-name-clause-told : goal.returns-in_err-name-clause-told
returns-in_err-name-clause-told c =
    let p = err_from_is_err_and c.from_residual.result c.from_residual.ensures.1 in
    rw (p.1, p.2) (table_told Phase (table_view c.args.table.now) 0 _ refl refl _ _ (label_told _ (table_view c.args.table.now) _ _ c.in_err-name.ensures.refused c.in_err-name.ensures.told))

pub returns-in_err-phase-clause-told : goal.returns-in_err-phase-clause-told
returns-in_err-phase-clause-told c =
    let p = err_from_is_err_and c.from_residual-in_err-phase.result c.from_residual-in_err-phase.ensures.1 in
    rw (p.1, p.2) (table_told Phase (table_view c.args.table.now) 1 _ refl refl _ _ (name_or_told _ (table_view c.args.table.now) _ _ _ c.in_err-phase.ensures.refused c.in_err-phase.ensures.told))

pub returns-in_err-needs-clause-told : goal.returns-in_err-needs-clause-told
returns-in_err-needs-clause-told c =
    let p = err_from_is_err_and c.from_residual-in_err-needs.result c.from_residual-in_err-needs.ensures.1 in
    rw (p.1, p.2) (table_told Phase (table_view c.args.table.now) 2 _ refl refl _ _ (c.in_err-needs.ensures.told))

pub returns-in_err-values-clause-told : goal.returns-in_err-values-clause-told
returns-in_err-values-clause-told c =
    let p = err_from_is_err_and c.from_residual-in_err-values.result c.from_residual-in_err-values.ensures.1 in
    rw (p.1, p.2) (table_told Phase (table_view c.args.table.now) 3 _ refl refl _ _ (few_told _ (table_view c.args.table.now) MAX_VALUES _ _ c.in_err-values.ensures.refused c.in_err-values.ensures.told))

pub returns-in_err-reports-clause-told : goal.returns-in_err-reports-clause-told
returns-in_err-reports-clause-told c =
    let p = err_from_is_err_and c.from_residual-in_err-reports.result c.from_residual-in_err-reports.ensures.1 in
    rw (p.1, p.2) (table_told Phase (table_view c.args.table.now) 4 _ refl refl _ _ (few_told _ (table_view c.args.table.now) MAX_REPORTS _ _ c.in_err-reports.ensures.refused c.in_err-reports.ensures.told))

pub returns-in_err-reserves-clause-refused : goal.returns-in_err-reserves-clause-refused
returns-in_err-reserves-clause-refused c =
    let p = err_from_is_err_and c.from_residual-in_err-reserves.result c.from_residual-in_err-reserves.ensures.1 in
    rw (p.1, p.2) (λ known act h. c.in_err-reserves.ensures.refused known act.reserves.items h.reserves)

pub returns-in_err-reserves-clause-told : goal.returns-in_err-reserves-clause-told
returns-in_err-reserves-clause-told c =
    let p = err_from_is_err_and c.from_residual-in_err-reserves.result c.from_residual-in_err-reserves.ensures.1 in
    rw (p.1, p.2) (table_told Phase (table_view c.args.table.now) 5 _ refl refl _ _ (few_told _ (table_view c.args.table.now) MAX_RESERVES _ _ c.in_err-reserves.ensures.refused c.in_err-reserves.ensures.told))
