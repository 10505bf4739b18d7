use Rattle.std.proofs.Common.{◌-◌, ◌++◌, ◌∷◌, [], length, length-append, take, drop, sym, ◌∙◌, ap, subst, arith}
use Rattle.std.proofs.lemmas.List.{append-nil, length-drop}
use Rattle.batch_journal.proofs.{GroupScan.to_end, ClosingLines.NoFeedBefore, ClosingLines.EndsThere, ClosingLines.ends_there, ClosingLines.line_more, ClosingLines.raw_none}
use Rattle.batch_journal.proofs.recovery.line_count.Goals as goal

pub loop-len-preserved : goal.loop-len-preserved
loop-len-preserved c =
    let so_far = c.loop-len.invariant in
    let bytes = c.args.bytes.now in
    let at = c.loop-len.at in
    let len = c.in-Some.len in
    let line = take len (drop at bytes) in
    let found = c.in-Some.ensures in
    let ends : EndsThere len (drop at bytes) = ends_there (take (length bytes - at) (drop at bytes)) (drop at bytes) len (to_end bytes at) (λ k lt is. found.0.before k (omega arith) lt is) found.0.high found.1 in
    record {
      within = omega (arith, so_far.within, ends.within, length-drop at bytes);
      few = omega (arith, so_far.few);
      looked = so_far.looked ++ line ∷ [];
      splits = line_more bytes at len so_far.looked so_far.splits ends.none ends.within ends.feed;
      counts = omega (arith, so_far.counts, length-append so_far.looked (line ∷ []));
    }

pub returns-clause-count : goal.returns-clause-count
returns-clause-count c =
    let so_far = c.loop-len.invariant in
    let bytes = c.args.bytes.now in
    let at = c.loop-len.at in
    let none : NoFeedBefore (length (drop at bytes)) (drop at bytes) =
    subst (λ l. NoFeedBefore (length l) l) (to_end bytes at) (λ k lt is. c.in_default.ensures k (omega arith) lt is) in
    so_far.counts ∙ ap length (sym (append-nil so_far.looked) ∙ ap (λ l. so_far.looked ++ l) (sym (raw_none [] (drop at bytes) none)) ∙ sym so_far.splits)
