use Rattle.std.proofs.Common.{arith}
use Rattle.batch_chart.proofs.ShownStates.{shows-none, shows-past, shows-grave, shows-own, shows-never}
use Rattle.batch_chart.proofs.scene.Scene.shown.Goals as goal

pub returns-in_default : goal.returns-in_default
returns-in_default c = shows-none c.args.self.now.nodes.now c.args.self.now.recipe.now c.args.self.now.stages.now c.args.self.now.signs.now c.requires.scene.noted c.args.n _ c.in_default.ensures

pub returns-then-self-n : goal.returns-then-self-n
returns-then-self-n c = shows-past c.args.self.now.nodes.now c.args.self.now.recipe.now c.args.self.now.stages.now c.args.self.now.signs.now c.requires.scene.noted c.args.n _ _ c.in-Some.ensures (omega (arith, c.if-self-n.true))

pub returns-in-Some-first_shown : goal.returns-in-Some-first_shown
returns-in-Some-first_shown c = shows-grave c.args.self.now.nodes.now c.args.self.now.recipe.now c.args.self.now.stages.now c.args.self.now.signs.now c.requires.scene.noted c.args.n _ c.in-Some.ensures (omega (arith, c.if-self-n.false)) _ _ c.in-Some-first_shown.ensures

pub returns-in-Live : goal.returns-in-Live
returns-in-Live c = shows-own c.args.self.now.nodes.now c.args.self.now.recipe.now c.args.self.now.stages.now c.args.self.now.signs.now c.requires.scene.noted c.args.n _ c.in-Some.ensures (omega (arith, c.if-self-n.false)) _ _ c.in-None.ensures c.in-Live.is

pub returns-in_default-stages : goal.returns-in_default-stages
returns-in_default-stages c = shows-never c.args.self.now.nodes.now c.args.self.now.recipe.now c.args.self.now.stages.now c.args.self.now.signs.now c.requires.scene.noted c.args.n _ c.in-Some.ensures (omega (arith, c.if-self-n.false)) _ c.in_default-stages.not-Live
