use Rattle.std.proofs.lemmas.Result.{err_from_is_err_and, IfErr-weaker}
use Rattle.batch_reader.{proofs.ArrayFaults.in_told, specs.PartFaults.HasReserveFault, specs.declared.fault.TableKind.TheVariants.Operation, specs.declared.fault.TableKind.TheVariants.Phase}
use Rattle.batch_reader.proofs.reserves.check_reserves.Goals as goal

pub returns-in_err-check_table-2-clause-stands : goal.returns-in_err-check_table-2-clause-stands
returns-in_err-check_table-2-clause-stands c =
    let p = err_from_is_err_and c.from_residual-in_err-check_table-2.result c.from_residual-in_err-check_table-2.ensures.1 in
    rw (p.1, p.2) (in_told Operation _ (λ spot. HasReserveFault c.args.acts.now spot.kind spot.entry) (λ entry wrong h. h) _
    (rw (c.deref-3.ensures.value, c.deref-4.ensures.value) at c.in_err-check_table-2.ensures.told))

pub returns-clause-stands : goal.returns-clause-stands
returns-clause-stands c =
    IfErr-weaker c.check_table-3.result _ _ (λ fault. in_told Phase _ (λ spot. HasReserveFault c.args.acts.now spot.kind spot.entry) (λ entry wrong h. h) fault)
    (rw (c.deref-5.ensures.value, c.deref-6.ensures.value) at c.check_table-3.ensures.told)
