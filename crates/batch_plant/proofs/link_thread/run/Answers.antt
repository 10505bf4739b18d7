use Rattle.batch_plant.proofs.PlantPorts.{link_ran}
use Rattle.batch_plant.proofs.link_thread.run.Goals as goal

pub returns : goal.returns
returns g c = link_ran g.D.UnitDriver.command_gives g.D.UnitDriver.tick_gives _ _ _ _ _ c.link_loop-end.ensures.link
