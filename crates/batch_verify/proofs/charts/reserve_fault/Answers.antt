use Rattle.std.proofs.Common.{◌∙◌, sym, subst}
use Rattle.batch_verify.{specs.Charts.IsChartFault, proofs.Faults.chart_kept, proofs.Faults.reserves_counted}
use Rattle.batch_verify.proofs.charts.reserve_fault.Goals as goal

pub reserves_follow-requires : goal.reserves_follow-requires
reserves_follow-requires c = λ bound at at_is.
    reserves_counted c.args.recipe.now bound c.args.node c.args.entry.now c.requires at at_is ∙ sym c.reserve_count.ensures

pub returns-in-Some : goal.returns-in-Some
returns-in-Some c = λ x h. chart_kept c.args.recipe.now.acts c.args.node x c.in-Some.rule (subst (IsChartFault x) c.in-Some.is h)

pub returns-then-reserves_follow : goal.returns-then-reserves_follow
returns-then-reserves_follow c = λ x h. (subst (IsChartFault x) c.in-None.is h, λ bound at is. c.reserves_follow.ensures.follow c.if-reserves_follow.true bound at is)

pub returns-else-reserves_follow : goal.returns-else-reserves_follow
returns-else-reserves_follow c = λ x h. (subst (IsChartFault x) c.in-None.is h, λ bound at is. c.reserves_follow.ensures.not c.if-reserves_follow.false bound at is)
