-- private: the next move of a running chart.
use Rattle.std.specs.Prelude.{◌≡◌, Option, IfSome, option_map}
use Rattle.batch_matrix.specs.declared.state.State.{State}
use Rattle.batch_recipe.specs.Tree.{Tree}
use Rattle.batch_recipe.specs.declared.recipe.Recipe.{Recipe}
use Rattle.batch_model.specs.Plant.{Batch}
use Rattle.batch_chart.specs.declared.chart_move.Move.{Move}
use Rattle.batch_chart.specs.declared.running.Running.{Running}
use Rattle.batch_chart.specs.Charts.{CanMake, IsChartOf, IsRunningOf, StandsFor, remains}
use Rattle.batch_chart.specs.OwnMoves.{own_next}
use Rattle.batch_chart.specs.Passing.{IsBatchOf, IsTreeOf}
use Rattle.batch_chart.specs.Seen.{machine_move}

-- in this state of the batch the chart's first move is this one
pub record IsChosen (chart : Recipe) (running : Running) (x : State) (result : Option Move) : Type 0 where
  pub next : (t : Tree) (b : Batch) → IsChartOf t chart → IsRunningOf t running → b.state ≡ x → b.rest ≡ remains t running → IsBatchOf chart t b
      → option_map (machine_move t b) result ≡ own_next b
  pub possible : IfSome result (λ m. CanMake chart running m)
  pub about : IfSome result (λ m. (t : Tree) → IsChartOf t chart → IsTreeOf chart t → IsRunningOf t running → StandsFor t (remains t running) m)
