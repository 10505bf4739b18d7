use Rattle.std.proofs.Common.{◌≡◌, ◌<◌, ◌≤◌, ◌-◌, ℕ, true}
use Rattle.batch_model.specs.Moves.{is_served}
use Rattle.batch_chart.specs.{NodesOf.place_at, NodesOf.need_at, Charts.AsksAt, Charts.remains}
use Rattle.batch_engine.specs.View.{setup, plant_of, tree_of}
use Rattle.batch_engine.proofs.control.Control.first_grant.Given as goal

-- no act before is served, and no more were checked than there are
abbrev pub invariant-loop-node : goal.invariant-loop-node
invariant-loop-node l =
    let t = tree_of l.self.cleared l.batch in
    (l.looked ≤ l.from)
    × ((j i : ℕ) → j < l.from → AsksAt t (remains t l.batch.running) j i → is_served (setup l.self.cleared) (plant_of l.self) (need_at t j i) (l.batch.number, place_at t j) ≡ true → ⊥)

abbrev pub decreases-loop-node : goal.decreases-loop-node
decreases-loop-node l = 4096 - l.from
