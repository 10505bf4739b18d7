use Rattle.std.proofs.Common.{refl, ap}
use Rattle.batch_plant.{specs.LinkSteps.kept_in, proofs.Deeds.ticked_next}
use Rattle.batch_plant.proofs.linking.tick_next.Goals as goal

pub returns-clause-links : goal.returns-clause-links
returns-clause-links g c desk =
    let told = c.tick_unit-link.ensures.ticks in
    ticked_next g.D.UnitDriver.command_gives g.D.UnitDriver.tick_gives c.args.cell.now _ _ told.answer refl told.ticks c.unit_after-link.ensures.value
    (ap (kept_in c.args.cell.now) c.requires.none) told.same
