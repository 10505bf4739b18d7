use Rattle.std.specs.Prelude.{◌≤◌, ◌<◌, ℕ}
use Rattle.batch_recipe.specs.Tree.{Tree}
use Rattle.batch_chart.{specs.Charts.AsksAt, specs.Charts.IsChartOf, specs.Charts.IsRunningOf, specs.Charts.remains, specs.Running.IsAlive, proofs.RunningCharts.some-map}
use Rattle.batch_chart.proofs.running.Running.waiting.Goals as goal

pub returns-clause-before : goal.returns-clause-before
returns-clause-before c =
    some-map (λ (w : ℕ × ℕ). (t : Tree) → IsChartOf t c.args.chart.now → IsAlive t c.args.self.now.stages.items
    → (k i : ℕ) → c.args.from ≤ k → k < w.0 → AsksAt t (remains t c.args.self.now) k i → ⊥)
    (λ (w : ℕ × ℕ). (t : Tree) → IsChartOf t c.args.chart.now → IsRunningOf t c.args.self.now
    → (k i : ℕ) → c.args.from ≤ k → k < w.0 → AsksAt t (remains t c.args.self.now) k i → ⊥)
    (λ w h t laid old. h t laid old.alive) c.next_waiting.result
    (rw (c.scene.ensures.nodes, c.scene.ensures.recipe, c.scene.ensures.stages) at c.next_waiting.ensures).before
