use Rattle.std.proofs.Common.{◌≡◌, Some, true, false, ap, ◌∙◌, sym}
use Rattle.batch_wire.proofs.NodeNames.{name_with, told_name}
use Rattle.batch_wire.proofs.names.chart_act_in.Goals as goal

pub returns-in-Follows : goal.returns-in-Follows
returns-in-Follows c =
    sym (ap (name_with c.in-Some.act.now.name) c.in-Follows.is)
    ∙ told_name c.args.recipe.now.acts c.args.node (Some c.in-Some.act.now) c.in-Some.ensures.act (λ h. let bad : true ≡ false = c.in-Some.ensures.past h in absurd cc)
