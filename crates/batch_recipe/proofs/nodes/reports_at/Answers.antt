use Rattle.std.proofs.Common.{◌≡◌, Some, true, false, None, refl, ap, ◌∙◌, sym}
use Rattle.batch_recipe.{specs.WellFormed.reports_with, proofs.ReportedOutputs.told-reports}
use Rattle.batch_recipe.proofs.nodes.reports_at.Goals as goal

pub returns-in-Follows : goal.returns-in-Follows
returns-in-Follows c =
    sym (ap reports_with c.in-Follows.is)
    ∙ told-reports c.args.recipe.now.acts c.args.node (Some c.in-Some.act.now) c.in-Some.ensures.act (λ h. let bad : true ≡ false = c.in-Some.ensures.past h in absurd cc)

pub returns-in-Runs : goal.returns-in-Runs
returns-in-Runs c =
    c.deref.ensures.value ∙ sym (ap reports_with c.in-Runs.is)
    ∙ told-reports c.args.recipe.now.acts c.args.node (Some c.in-Some.act.now) c.in-Some.ensures.act (λ h. let bad : true ≡ false = c.in-Some.ensures.past h in absurd cc)

pub returns-in-None : goal.returns-in-None
returns-in-None c = told-reports c.args.recipe.now.acts c.args.node None c.in-None.ensures.act (λ h. refl)
