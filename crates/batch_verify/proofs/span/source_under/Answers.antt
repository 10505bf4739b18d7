use Rattle.std.proofs.Common.{sym, ◌∙◌, option_copied}
use Rattle.batch_verify.proofs.Spans.{own_unit_comes}
use Rattle.batch_verify.proofs.span.source_under.Goals as goal

pub returns-in-Ok : goal.returns-in-Ok
returns-in-Ok c = λ roles highest takers between unit from.
    own_unit_comes c.args.low.now.cell.now (option_copied c.args.low.now.ranks) roles c.args.low.now.takers.now takers highest between c.args.act.now.unit c.in-Some-len1-up.field-0-0 c.in-Some-len1-up.is-0
    c.args.needs.now _ c.in-Some-len1-up.len_at_least c.in-Ok.field-0 (sym c.in-Ok.is ∙ c.unit_from.ensures.unit) unit
