use Rattle.batch_pipes.proofs.WriterOutputs.{are_ending, settled_all}
use Rattle.batch_pipes.proofs.ending.finish.Goals as goal

pub settle_each-requires : goal.settle_each-requires
settle_each-requires g c =
    are_ending _ c.finish_each.new.outputs.items c.args.writers.items c.finish_each.ensures.kept.of c.finish_each.ensures.finished

pub returns : goal.returns
returns g c =
    settled_all _ c.args.outputs.items c.finish_each.new.outputs.items c.args.writers.items c.in_ok-outcomes.outcomes.items c.finish_each.ensures.kept
    c.finish_each.ensures.finished c.in_ok-outcomes.ensures
