use Rattle.std.specs.Prelude.{length, MatchOption}
use Rattle.std.proofs.Common.{sym, subst}
use Rattle.batch_serve.{specs.Holding.StopsAt, proofs.HeldText.stops_where}
use Rattle.batch_serve.proofs.held.first_want.Goals as goal

pub returns : goal.returns
returns c =
    let text = c.args.text.now in
    subst (λ found. MatchOption found (StopsAt text (length text)) (StopsAt text)) (sym c.sooner.ensures)
    (stops_where text c.first_of-event.result c.first_of-line.result c.first_of-event.ensures c.first_of-line.ensures)
