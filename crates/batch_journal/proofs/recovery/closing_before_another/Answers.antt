use Rattle.std.proofs.Common.{rules, ◌≡◌, ◌-◌, ◌++◌, ◌∷◌, [], IsSome, true, false, length, length-append, take, drop, sym, ◌∙◌, ap, subst, arith}
use Rattle.std.proofs.lemmas.List.{length-drop}
use Rattle.batch_journal.{specs.Journals.journal_format, specs.Recovery.closings, proofs.GroupScan.line_at, proofs.GroupScan.to_end, proofs.ClosingLines.NoFeedBefore, proofs.ClosingLines.EndsThere, proofs.ClosingLines.ends_there, proofs.ClosingLines.line_more, proofs.ClosingLines.found_twice, proofs.ClosingLines.few_closings, proofs.ClosingLines.closings_both, proofs.ClosingLines.one_closing, proofs.ClosingLines.no_closing, proofs.ClosingLines.count_none, proofs.ClosingLines.first_here, proofs.ClosingLines.first_more}
use Rattle.batch_journal.proofs.recovery.closing_before_another.Goals as goal

pub returns : goal.returns
returns c =
    let so_far = c.loop-len.invariant in
    let bytes = c.args.bytes.now in
    let at = c.loop-len.at in
    let none : NoFeedBefore (length (drop at bytes)) (drop at bytes) =
    subst (λ l. NoFeedBefore (length l) l) (to_end bytes at) (λ k lt is. c.in_default.ensures k (omega arith) lt is) in
    record {
      found = few_closings bytes (drop at bytes) so_far.looked c.loop-len.first so_far.splits none so_far.counts;
      within = tt;
    }

pub loop-len-preserved-then-not-is_closing : goal.loop-len-preserved-then-not-is_closing
loop-len-preserved-then-not-is_closing c =
    let so_far = c.loop-len.invariant in
    let bytes = c.args.bytes.now in
    let at = c.loop-len.at in
    let len = c.in-Some.len in
    let line = take len (drop at bytes) in
    let found = c.in-Some.ensures in
    let ends : EndsThere len (drop at bytes) = ends_there (take (length bytes - at) (drop at bytes)) (drop at bytes) len (to_end bytes at) (λ k lt is. found.0.before k (omega arith) lt is) found.0.high found.1 in
    let other : journal_format.own line ≡ false = ap journal_format.own (sym (line_at bytes at len)) ∙ sym c.is_closing.ensures ∙ c.if-not-is_closing.true in
    record {
      within = omega (arith, so_far.within, ends.within, length-drop at bytes);
      looked = so_far.looked ++ line ∷ [];
      splits = line_more bytes at len so_far.looked so_far.splits ends.none ends.within ends.feed;
      count = omega (arith, so_far.count, length-append so_far.looked (line ∷ []));
      few = omega (arith, so_far.few);
      found = first_more c.loop-len.first so_far.looked line so_far.found;
      before = so_far.before;
      counts = omega (arith, closings_both so_far.looked (line ∷ []), so_far.counts, no_closing line other);
    }

pub returns-then-is_some : goal.returns-then-is_some
returns-then-is_some c =
    let so_far = c.loop-len.invariant in
    let bytes = c.args.bytes.now in
    let at = c.loop-len.at in
    let len = c.in-Some.len in
    let line = take len (drop at bytes) in
    let found = c.in-Some.ensures in
    let ends : EndsThere len (drop at bytes) = ends_there (take (length bytes - at) (drop at bytes)) (drop at bytes) len (to_end bytes at) (λ k lt is. found.0.before k (omega arith) lt is) found.0.high found.1 in
    let own : journal_format.own line ≡ true = ap journal_format.own (sym (line_at bytes at len)) ∙ sym c.is_closing.ensures ∙ c.if-not-is_closing.false in
    let some : IsSome c.loop-len.first = search rules in
    record {
      found = found_twice bytes at len so_far.looked so_far.splits ends.none ends.within ends.feed c.loop-len.first some so_far.found own;
      within = so_far.before;
    }

pub loop-len-preserved : goal.loop-len-preserved
loop-len-preserved c =
    let so_far = c.loop-len.invariant in
    let bytes = c.args.bytes.now in
    let at = c.loop-len.at in
    let len = c.in-Some.len in
    let line = take len (drop at bytes) in
    let found = c.in-Some.ensures in
    let ends : EndsThere len (drop at bytes) = ends_there (take (length bytes - at) (drop at bytes)) (drop at bytes) len (to_end bytes at) (λ k lt is. found.0.before k (omega arith) lt is) found.0.high found.1 in
    let own : journal_format.own line ≡ true = ap journal_format.own (sym (line_at bytes at len)) ∙ sym c.is_closing.ensures ∙ c.if-not-is_closing.false in
    let none : closings so_far.looked ≡ 0 = so_far.counts ∙ count_none c.loop-len.first (search rules) in
    record {
      within = omega (arith, so_far.within, ends.within, length-drop at bytes);
      looked = so_far.looked ++ line ∷ [];
      splits = line_more bytes at len so_far.looked so_far.splits ends.none ends.within ends.feed;
      count = omega (arith, so_far.count, length-append so_far.looked (line ∷ []));
      few = omega (arith, so_far.few);
      found = first_here c.loop-len.count so_far.looked line so_far.count none own;
      before = omega (arith, so_far.few, so_far.within);
      counts = omega (arith, closings_both so_far.looked (line ∷ []), none, one_closing line own);
    }
