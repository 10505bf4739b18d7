use Rattle.batch_chart.{specs.Outlined.is_act_kind, specs.Showing.IsStateAt, proofs.ShownStates.state-none, proofs.ShownStates.state-live, proofs.ShownStates.state-open, proofs.ShownStates.state-idle}
use Rattle.std.proofs.Common.{arith, Some, None, subst, ap, ◌∙◌}
use Rattle.batch_matrix.specs.declared.state.State.TheVariants.{Idle}
use Rattle.batch_chart.proofs.scene.Scene.state_at.Goals as goal

pub shown-requires : goal.shown-requires
shown-requires c = record { node = omega (arith, c.if-n-self.false); scene = c.requires }

pub returns-then-not-is_act : goal.returns-then-not-is_act
returns-then-not-is_act c = subst (λ k. IsStateAt c.args.self.now.nodes.now c.args.self.now.recipe.now c.args.self.now.stages.now k c.args.state (None)) c.from-n.ensures (state-none c.args.self.now.nodes.now c.args.self.now.recipe.now c.args.self.now.stages.now c.args.self.now.signs.now c.requires.noted _ _ c.if-n-eq0.false (omega (arith, c.if-n-self.false)) (c.if-not-is_act.ensures ∙ ap is_act_kind c.kind_of.ensures))

pub returns-in-Live : goal.returns-in-Live
returns-in-Live c = subst (λ k. IsStateAt c.args.self.now.nodes.now c.args.self.now.recipe.now c.args.self.now.stages.now k c.args.state (Some c.in-Live.own)) c.from-n.ensures (state-live c.args.self.now.nodes.now c.args.self.now.recipe.now c.args.self.now.stages.now c.args.self.now.signs.now c.requires.noted _ _ c.if-n-eq0.false (omega (arith, c.if-n-self.false)) (c.if-not-is_act.ensures ∙ ap is_act_kind c.kind_of.ensures) _ c.in-Live.is)

pub returns-in-Open : goal.returns-in-Open
returns-in-Open c = subst (λ k. IsStateAt c.args.self.now.nodes.now c.args.self.now.recipe.now c.args.self.now.stages.now k c.args.state (Some c.shown.result)) c.from-n.ensures (state-open c.args.self.now.nodes.now c.args.self.now.recipe.now c.args.self.now.stages.now c.args.self.now.signs.now c.requires.noted _ _ c.if-n-eq0.false (omega (arith, c.if-n-self.false)) (c.if-not-is_act.ensures ∙ ap is_act_kind c.kind_of.ensures) _ c.in-Open.is c.shown.ensures)

pub returns-in_default : goal.returns-in_default
returns-in_default c = subst (λ k. IsStateAt c.args.self.now.nodes.now c.args.self.now.recipe.now c.args.self.now.stages.now k c.args.state (Some Idle)) c.from-n.ensures (state-idle c.args.self.now.nodes.now c.args.self.now.recipe.now c.args.self.now.stages.now c.args.self.now.signs.now c.requires.noted _ _ c.if-n-eq0.false (omega (arith, c.if-n-self.false)) (c.if-not-is_act.ensures ∙ ap is_act_kind c.kind_of.ensures) c.in_default.not-Open c.in_default.not-Live)
