use Rattle.std.proofs.lemmas.Result.{err_from_is_err_and}
use Rattle.batch_reader.proofs.FaultsAmongTables.{offered_turn, offers_told}
use Rattle.batch_reader.proofs.offered.check_offered_phases.Goals as goal

pub returns-in_err-check_unit_phases-clause-stands : goal.returns-in_err-check_unit_phases-clause-stands
returns-in_err-check_unit_phases-clause-stands c =
    let p = err_from_is_err_and c.from_residual.result c.from_residual.ensures.1 in
    rw (p.1, p.2) (offers_told c.args.units.now c.args.modules.now c.loop-unit.unit-index c.unit-item.result c.unit-item.result c.unit-item.is c.loop-unit-test.true _
    (λ spot wrong is_fault. c.in_err-check_unit_phases.ensures.first spot wrong (cc is_fault)))

pub loop-unit-preserved : goal.loop-unit-preserved
loop-unit-preserved c =
    offered_turn c.args.units.now c.args.modules.now c.loop-unit.unit-index c.unit-item.result c.unit-item.result c.unit-item.is
    c.loop-unit-test.true c.loop-unit.invariant c.in_ok-check_unit_phases.ensures.ok

pub returns-in_err-check_unit_phases-clause-refused : goal.returns-in_err-check_unit_phases-clause-refused
returns-in_err-check_unit_phases-clause-refused c =
    let p = err_from_is_err_and c.from_residual.result c.from_residual.ensures.1 in
    rw (p.1, p.2) (λ known once. c.in_err-check_unit_phases.ensures.refused known (rw (← c.unit-item.is) at (once c.loop-unit.unit-index c.unit-item.result c.loop-unit-test.true)))

pub returns-in_err-check_unit_phases-clause-told : goal.returns-in_err-check_unit_phases-clause-told
returns-in_err-check_unit_phases-clause-told c =
    let p = err_from_is_err_and c.from_residual.result c.from_residual.ensures.1 in
    rw (p.1, p.2) c.in_err-check_unit_phases.ensures.told
