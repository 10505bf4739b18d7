use Rattle.std.proofs.Common.{length, ap, arith, length-take}
use Rattle.std.proofs.lemmas.Result.{err_from_is_err_and}
use Rattle.batch_serve.proofs.JournalLines.{consumes, keeps_same, gave_none, input_ended}
use Rattle.batch_serve.proofs.clean_lines.CleanReaderRead.read.Goals as goal

pub end_line-requires : goal.end_line-requires
end_line-requires g c = omega (arith, ap length c.as_slice-begun.ensures, c.if-buf-begun.false)

pub clean_piece-written-requires : goal.clean_piece-written-requires
clean_piece-written-requires g c =
    omega (arith, ap length c.as_slice-begun.ensures, c.if-buf-begun.false, c.min-most.ensures, c.in_ok-count.ensures.ok.0, length-take c.in_ok-count.count c.read_front.new.piece)

pub returns-in_err-count-clause-bytes : goal.returns-in_err-count-clause-bytes
returns-in_err-count-clause-bytes g c =
    let p = err_from_is_err_and c.from_residual.result c.from_residual.ensures.1 in
    rw p.1 (keeps_same c.args.self.now.line _ _ c.in_err-count.ensures.err)

pub returns-then-count-eq0-clause-bytes : goal.returns-then-count-eq0-clause-bytes
returns-then-count-eq0-clause-bytes g c =
    let read = c.in_ok-count.ensures.ok in
    let ended = input_ended _ _ _ c.read_front.new.piece _ _ _ c.if-count-eq0.true read.1 read.2 c.end_line.ensures.begun c.end_line.ensures.text in
    (ended.0, λ _ _. ended.1)

pub returns-then-written-eq0-clause-bytes : goal.returns-then-written-eq0-clause-bytes
returns-then-written-eq0-clause-bytes g c =
    gave_none _ _ c.clean_piece-written.new.out _ c.if-written-eq0.true (consumes _ _ _ _ _ _ c.clean_piece-written.ensures.text c.in_ok-count.ensures.ok.1)

pub returns-clause-bytes : goal.returns-clause-bytes
returns-clause-bytes g c = (
  consumes _ _ _ _ _ _ c.clean_piece-written.ensures.text c.in_ok-count.ensures.ok.1,
  λ none room. absurd (c.if-written-eq0.false none),
)
