use Rattle.std.proofs.Common.{◌++◌, ◌<◌, length, take, sym, ◌∙◌, rules}
use Rattle.std.proofs.{KnownBytes.Consumes-kept, KnownBytes.Consumes-trans, lemmas.Result.err_from_is_err_and}
use Rattle.batch_record.proofs.InputProgress.{all-of-input, gave-nothing, refused-input}
use Rattle.batch_record.proofs.status_reading.read_status.Goals as goal
use Rattle.batch_record.proofs.status_reading.read_status.Goals.{in-Ok+in_ok-feed-in-Ok, in-Err}

pub loop-preserved : goal.loop-preserved
loop-preserved g c = let (read, consumed, has_read) = c.loop.invariant in
    elim c.match-read.branch [
      | in-Ok+in_ok-feed-in-Ok w ↦
          rw (w.reading-is) (_, Consumes-trans _ _ _ read _ consumed w.in-Ok.ensures.bytes.0, w.in_ok-feed-in-Ok.ensures read has_read)
      | in-Err w ↦ rw (w.reading-is) (read, Consumes-kept _ _ _ read consumed w.in-Err.ensures.bytes, has_read)
    ]

pub returns-in-Ok-eq0-clause-told : goal.returns-in-Ok-eq0-clause-told
returns-in-Ok-eq0-clause-told g c = let (read, consumed, has_read) = c.loop.invariant in
    let room : 0 < length c.read.new.buf = search rules in
    let nothing = gave-nothing c.read.result c.in-Ok-eq0.field-0 _ _ _ c.in-Ok-eq0.is c.in-Ok-eq0.field-0-test room c.read.ensures.bytes in
    all-of-input _ _ _ c.loop.reading read consumed nothing.0 nothing.1 has_read

pub returns-in_err-feed-in-Ok-clause-refused : goal.returns-in_err-feed-in-Ok-clause-refused
returns-in_err-feed-in-Ok-clause-refused g c = let (read, consumed, has_read) = c.loop.invariant in
    let p = err_from_is_err_and c.from_residual.result c.from_residual.ensures.1 in
    rw (p.1) (λ number e. refused-input _ _ (read ++ take c.in-Ok.count c.read.new.buf) number (Consumes-trans _ _ _ read _ consumed c.in-Ok.ensures.bytes.0)
    (c.in_err-feed-in-Ok.ensures read has_read number (sym p.2 ∙ e)))
