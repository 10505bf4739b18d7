use Rattle.std.proofs.Common.{◌≡◌, true, inl, inr}
use Rattle.std.{proofs.lemmas.Result.err_from_is_err_and, proofs.lemmas.Result.on_ok_weaker, proofs.lemmas.Result.IfErr-weaker, specs.List.list_all}
use Rattle.batch_recipe.specs.WellFormed.{reports_among, reports_once}
use Rattle.batch_reader.{proofs.EntryFaults.err_both, proofs.FaultsAmongTables.kind_told, proofs.Conjunctions.both_true, proofs.Conjunctions.and_true, specs.PartFaults.FailsFirst, specs.PartFaults.IsReportFault, specs.declared.fault.TableKind.TheVariants.Phase}
use Rattle.batch_reader.proofs.reports.check_reports.Goals as goal

pub returns-in_err-check_once-clause-refused : goal.returns-in_err-check_once-clause-refused
returns-in_err-check_once-clause-refused c =
    let p = err_from_is_err_and c.from_residual.result c.from_residual.ensures.1 in
    let steps = c.args.acts.now.phases.items in
    rw p.1 (λ are. (rw c.deref.ensures.value at c.in_err-check_once.ensures.refused) (both_true (list_all reports_once steps) (list_all (reports_among c.args.outputs.now) steps) are).0)

pub returns-in_err-check_once-clause-stands : goal.returns-in_err-check_once-clause-stands
returns-in_err-check_once-clause-stands c =
    let p = err_from_is_err_and c.from_residual.result c.from_residual.ensures.1 in
    rw (p.1, p.2) (kind_told Phase _ (λ entry. FailsFirst (λ front. list_all reports_once front ≡ true) c.args.acts.now.phases.items entry)
    (λ spot. IsReportFault c.args.outputs.now c.args.acts.now spot.kind spot.entry) (λ entry wrong is h. inl (is, h)) _ c.in_err-check_once.ensures.told
    (rw c.deref.ensures.value at c.in_err-check_once.ensures.stands))

pub returns-clause-ok : goal.returns-clause-ok
returns-clause-ok c =
    let steps = c.args.acts.now.phases.items in
    on_ok_weaker c.check_declared.result (λ declared. and_true (list_all reports_once steps) (list_all (reports_among c.args.outputs.now) steps)
    (rw c.deref.ensures.value at c.in_ok-check_once.ensures.ok) declared)
    (rw c.deref-2.ensures.value at c.check_declared.ensures.ok)

pub returns-clause-refused : goal.returns-clause-refused
returns-clause-refused c =
    let steps = c.args.acts.now.phases.items in
    IfErr-weaker c.check_declared.result _ _ (λ fault undeclared are.
    undeclared (both_true (list_all reports_once steps) (list_all (reports_among c.args.outputs.now) steps) are).1)
    (rw c.deref-2.ensures.value at c.check_declared.ensures.refused)

pub returns-clause-stands : goal.returns-clause-stands
returns-clause-stands c =
    err_both c.check_declared.result _ _ _ (λ fault. kind_told Phase _ (λ entry. FailsFirst (λ front. list_all (reports_among c.args.outputs.now) front ≡ true) c.args.acts.now.phases.items entry)
    (λ spot. IsReportFault c.args.outputs.now c.args.acts.now spot.kind spot.entry) (λ entry wrong is h. inr (is, h)) fault)
    c.check_declared.ensures.told (rw c.deref-2.ensures.value at c.check_declared.ensures.stands)
