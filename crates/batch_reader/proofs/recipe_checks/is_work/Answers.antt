use Rattle.std.proofs.Common.{◌∙◌}
use Rattle.batch_recipe.specs.Diagram.{diagram_of}
use Rattle.batch_reader.{specs.ChartForm.IsFormed, proofs.ChartNames.formed_chart}
use Rattle.batch_reader.proofs.recipe_checks.is_work.Goals as goal

pub returns-in-Follows : goal.returns-in-Follows
returns-in-Follows c =
    let formed : IsFormed (diagram_of c.in-Follows.chart) = rw c.in-Follows.is at c.requires in
    rw c.in-Follows.is (c.is_declared.ensures ∙ formed_chart c.args.labels.now.keys c.args.values.now.keys (diagram_of c.in-Follows.chart) formed)
