use Rattle.batch_sim.proofs.DriverBoxes.{leads_on}
use Rattle.batch_sim.proofs.any_driver.AnyDriverUnitDriver.tick.Goals as goal

pub returns : goal.returns
returns g c =
    leads_on (λ v x y. (goal.UnitDriver-dyn g (v, x)).tick_gives x c.tick.result y)
    (λ v x. record c.args.self.now.driver { vtable = v; value = x }) _ _ _ _ _ c.tick.ensures search
