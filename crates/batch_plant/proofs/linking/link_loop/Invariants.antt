use Rattle.std.proofs.Common.{◌≡◌, ◌≤◌, ◌-◌, []}
use Rattle.batch_desk.specs.Consoles.{completes}
use Rattle.batch_plant.specs.{Links.Links, LinkSteps.KnowsUnits, LinkSteps.linked}
use Rattle.batch_plant.proofs.linking.link_loop.Given as goal

abbrev pub invariant-loop-turn : goal.invariant-loop-turn
invariant-loop-turn g l = record {
  knows : KnowsUnits l.cell l.link;
  links : Links g.D.UnitDriver.command_gives g.D.UnitDriver.tick_gives l.cell (record { desk = l.initial.desk; units = l.initial.units; next = 0; kept = [] })
      (linked l.cell l.link l.desk l.units);
  more : completes l.initial.desk.taken ≤ completes l.desk.taken;
  left : l.link.left ≡ l.batches - (completes l.desk.taken - completes l.initial.desk.taken);
}
