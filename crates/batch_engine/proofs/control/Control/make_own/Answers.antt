use Rattle.std.proofs.Common.{sym, subst}
use Rattle.batch_chart.specs.Seen.{machine_move}
use Rattle.batch_engine.specs.{declared.batch.Batch.Batch, Steps.IsNext, View.EngineView, View.model_batch, View.tree_of}
use Rattle.batch_engine.proofs.control.Control.make_own.Goals as goal
use Rattle.batch_recipe.proofs.ValueUpdates.{same-at}

-- the line of a move of a batch is that of the next one
pub returns-clause-told : goal.returns-clause-told
returns-clause-told c =
    let v : EngineView = c.args.self.now in
    let l = c.own_line-line.ensures in
    let same = same-at v.batches c.args.index c.requires.batch l.batch c.requires.here.at l.at in
    let is = subst (λ (z : Batch). IsNext v (machine_move (tree_of v.cleared z) (model_batch v.cleared z) c.args.made)) same c.requires.is in
    record { is = subst (IsNext v) (sym l.tells.is) is; known = l.tells.known }
