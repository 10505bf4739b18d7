use Rattle.std.proofs.Common.{◌≡◌}
use Rattle.batch_verdicts.proofs.documents.read_cell.Goals as goal

pub returns-clause-read : goal.returns-clause-read
returns-clause-read g c =
    let is = c.deref.ensures.value in
    let taken : c.deref-2.result.now ≡ c.in_ok-bytes.bytes.items = c.deref-2.ensures.value in
    (c.in_ok-bytes.bytes.items, (c.in_ok-bytes.ensures.given, rw is at c.in_ok-cell.ensures.ok), rw taken at c.take_text.ensures)
