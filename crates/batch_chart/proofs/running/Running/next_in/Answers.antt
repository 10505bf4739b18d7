use Rattle.batch_recipe.specs.Tree.{Tree}
use Rattle.batch_chart.{specs.Charts.IsChartOf, specs.Charts.IsRunningOf, specs.Charts.StandsFor, specs.Charts.remains, specs.Running.IsAlive, specs.Passing.IsTreeOf, specs.declared.chart_move.Move.Move, proofs.RunningCharts.some-map, proofs.NextMoveNodes.next-about}
use Rattle.batch_chart.proofs.running.Running.next_in.Goals as goal

pub returns : goal.returns
returns c =
    let told = rw (c.scene.ensures.nodes, c.scene.ensures.recipe, c.scene.ensures.stages) at c.next.ensures in
    record {
      next = λ t b laid old e r of. told.means t b laid old.alive e r of;
      possible = told.allowed;
      about =
          some-map (λ (m : Move). (t : Tree) → IsChartOf t c.args.chart.now → IsTreeOf c.args.chart.now t → IsAlive t c.args.self.now.stages.items → StandsFor t (remains t c.args.self.now) m)
          (λ (m : Move). (t : Tree) → IsChartOf t c.args.chart.now → IsTreeOf c.args.chart.now t → IsRunningOf t c.args.self.now → StandsFor t (remains t c.args.self.now) m)
          (λ m h t laid of old. h t laid of old.alive) c.next.result (next-about _ _ _ _ _ told);
    }
