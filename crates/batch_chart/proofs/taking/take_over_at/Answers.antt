use Rattle.std.proofs.Common.{◌∙◌, ap}
use Rattle.batch_chart.{specs.Early.first_held, specs.Needs.needs_of_kind, proofs.UnitTakeover.taken-at, proofs.UnitTakeover.idle-at}
use Rattle.batch_chart.proofs.taking.take_over_at.Goals as goal

pub returns-in-Ready : goal.returns-in-Ready
returns-in-Ready c =
    taken-at _ _ _ _ _ _ _ _ c.in-Ready.is (c.first_held-held.ensures ∙ ap first_held (c.needs-needs.ensures ∙ ap needs_of_kind c.kind_of.ensures)) c.set_stage.ensures

pub returns-in_default : goal.returns-in_default
returns-in_default c = idle-at _ _ _ _ c.in_default.not-Ready
