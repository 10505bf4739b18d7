use Rattle.std.proofs.Common.{◌≡◌, List, ap, length, subst, sym}
use Rattle.std.specs.List.{All}
use Rattle.batch_sim.specs.SteadyUnit.{SteadyView}
use Rattle.batch_program.proofs.threads.ThreadsOfPlantRunner.run_plant.Goals as goal

pub returns : goal.returns
returns g c =
    let end = c.in_ok-end in
    record {
      hub = end.end.hub;
      account = end.ensures.account;
      over = end.ensures.set;
      complete = end.ensures.complete;
      count = ap length c.history.ensures.value;
      rings = end.ensures.rings;
      units = c.new-simulator.result;
      ticks = subst (λ (units : List SteadyView). All (λ unit. unit.ticks ≡ c.args.options.ticks) units) (sym c.new-simulator.ensures) c.in-Ok.ensures.ticks;
      plan = c.in_ok-plan.plan;
      first = c.in_ok-plan.ensures;
      desks = end.ensures.desks;
      link = end.ensures.link;
    }
