use Rattle.std.proofs.Common.{sym, ◌∙◌}
use Rattle.batch_keep.proofs.remarking.serve_remarked_at.Goals as goal

pub returns-clause-remarked : goal.returns-clause-remarked
returns-clause-remarked g c =
    let did = c.serve_started-served.ensures in
    let first = c.new-remarked.ensures ∙ sym c.requires.first in
    (_, c.into_inner.ensures, rw first at did.served, rw first at did.never_lost)
