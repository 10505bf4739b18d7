use Rattle.std.proofs.Common.{◌<◌, length, rules}
use Rattle.std.proofs.KnownBytes.{Consumes-trans}
use Rattle.batch_verdicts.proofs.FirstBytes.{has_more}
use Rattle.batch_verdicts.proofs.reading.read_document.Goals as goal

pub returns-then-len-limit-clause-long : goal.returns-then-len-limit-clause-long
returns-then-len-limit-clause-long g c =
    let unread = g.R.Read.remaining c.args.reader.now in
    let left = g.R.Read.remaining c.read.new.self in
    let front = c.extend_from_slice.new.self.items in
    let long : c.args.limit < length front = search rules in
    has_more unread left c.args.limit front
    (rw c.in_ok-extend_from_slice-in-Ok.ensures.items (Consumes-trans _ _ _ c.loop.bytes.items _ c.loop.invariant.consumed c.in-Ok.ensures.bytes.0))
    long
