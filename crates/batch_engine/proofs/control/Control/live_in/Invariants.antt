use Rattle.std.proofs.Common.{◌≡◌, ◌≤◌, ◌-◌, Some}
use Rattle.batch_recipe.specs.Conditions.{Name}
use Rattle.batch_model.specs.{Events.live_in, Rest.acts}
use Rattle.batch_chart.specs.Charts.{remains, remains_from}
use Rattle.batch_engine.specs.View.{model_batch, resource_number, tree_of}
use Rattle.batch_engine.proofs.control.Control.live_in.Given as goal

-- no act before has this live phase
abbrev pub invariant-loop-node : goal.invariant-loop-node
invariant-loop-node l =
    let t = tree_of l.self.cleared l.batch in
    (l.from ≤ 4096)
    × ((name : Name) → resource_number l.self.cleared name ≡ Some l.unit
    → live_in (model_batch l.self.cleared l.batch) name l.phase (acts (remains t l.batch.running)) ≡ live_in (model_batch l.self.cleared l.batch) name l.phase (remains_from t l.batch.running l.from))

abbrev pub decreases-loop-node : goal.decreases-loop-node
decreases-loop-node l = 4096 - l.from
