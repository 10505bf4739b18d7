use Rattle.std.proofs.Common.{◌≡◌, take}
use Rattle.batch_engine.specs.View.{setup, plant_of}
use Rattle.batch_serve.specs.Served.{AreServed}
use Rattle.batch_serve.proofs.desks_serving.serve_runs.Given as goal

-- the runs so far were served
abbrev pub invariant-loop-run : goal.invariant-loop-run
invariant-loop-run l = record {
  cleared : l.engine.cleared ≡ l.initial.engine.cleared;
  served : AreServed (setup l.initial.engine.cleared) (plant_of l.initial.engine) (take l.run-index l.runs) l.answers.items (plant_of l.engine);
}
