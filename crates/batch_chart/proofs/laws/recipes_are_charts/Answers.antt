use Rattle.batch_chart.proofs.RecipeChart.{is_chart}
use Rattle.batch_chart.proofs.laws.recipes_are_charts.Goals as goal

pub returns : goal.returns
returns c = λ recipe bound. is_chart recipe bound
