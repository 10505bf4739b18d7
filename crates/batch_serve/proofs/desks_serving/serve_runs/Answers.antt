use Rattle.std.proofs.Common.{◌∙◌, arith}
use Rattle.batch_engine.specs.View.{plant_of}
use Rattle.batch_serve.proofs.ServedRuns.{served_so_far}
use Rattle.batch_serve.proofs.desks_serving.serve_runs.Goals as goal

pub loop-run-preserved : goal.loop-run-preserved
loop-run-preserved c =
    let so_far = c.loop-run.invariant in
    record {
      cleared = c.serve_run.ensures.cleared ∙ so_far.cleared;
      served = served_so_far c.args.engine.now.cleared c.loop-run.engine.cleared (plant_of c.args.engine.now) (plant_of c.loop-run.engine) (plant_of c.serve_run.new.engine) c.args.runs.now c.loop-run.answers.items _
          c.loop-run.run-index c.run-item.result c.in_ok-answer.answer (omega arith) c.run-item.is so_far.cleared c.in_ok-push.ensures.items so_far.served c.in_ok-answer.ensures.served;
    }
