use Rattle.batch_chart.proofs.ShownStates.{shown-none, here-first, later-first}
use Rattle.batch_chart.proofs.scene.Scene.+first_shown.Goals as goal

pub returns-in-None : goal.returns-in-None
returns-in-None t c = shown-none c.args.self.now.nodes.now c.args.self.now.recipe.now c.args.self.now.stages.now c.args.self.now.signs.now c.requires.scene.noted c.args.n _ c.in-None.ensures.cases

pub returns-then-has_none : goal.returns-then-has_none
returns-then-has_none t c = later-first c.args.self.now.nodes.now c.args.self.now.recipe.now c.args.self.now.stages.now c.args.self.now.signs.now c.requires.scene.noted c.args.n _ _ _ _ _ c.in-Some.ensures.cases.0 c.of_state.ensures c.if-has_none.ensures c.first_shown.ensures

pub returns-else-has_none : goal.returns-else-has_none
returns-else-has_none t c = here-first c.args.self.now.nodes.now c.args.self.now.recipe.now c.args.self.now.stages.now c.args.self.now.signs.now c.requires.scene.noted c.args.n _ _ _ _ c.in-Some.ensures.cases.0 c.of_state.ensures c.if-has_none.ensures
