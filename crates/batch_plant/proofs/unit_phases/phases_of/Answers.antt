use Rattle.std.proofs.Common.{refl, sym, ◌∙◌, [], get_or, arith}
use Rattle.std.proofs.lemmas.List.{take_all}
use Rattle.batch_cell.{specs.LookUps.phases_of, specs.LookUps.units_of, proofs.OfferedPhases.few_unit_phases}
use Rattle.batch_verify.proofs.NamesInList.{take_next}
use Rattle.batch_plant.proofs.unit_phases.phases_of.Goals as goal

pub loop-number-preserved : goal.loop-number-preserved
loop-number-preserved c =
    let next = take_next (phases_of c.args.cell.now c.args.unit) c.loop-number.number c.in-Some.phase.now (sym c.in-Some.ensures) in
    rw (c.in_ok-push-in-Some.ensures.items, c.loop-number.invariant, c.in_ok-copied-in-Some.ensures, next) refl

pub returns : goal.returns
returns c =
    let cell = c.args.cell.now in
    let few = few_unit_phases cell.modules.items (get_or (units_of cell) c.args.unit []) in
    c.loop-number.invariant ∙ take_all _ _ (omega (arith, few, cell.few_modules, c.loop-number-test.false))
