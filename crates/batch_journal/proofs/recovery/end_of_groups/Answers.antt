use Rattle.std.proofs.Common.{◌≡◌, ◌+◌, ◌++◌, ◌∷◌, [], true, false, take, drop, slice_range, refl, sym, ◌∙◌, ap, subst, arith}
use Rattle.std.proofs.lemmas.List.{length-drop}
use Rattle.batch_journal.{specs.Journals.journal_format, specs.Journals.sum_text, specs.Journals.IsClosed, specs.Ends.EndsLine, specs.Lines.IsLine, specs.Lines.whole_lines_before_zero, proofs.LineLemmas.lines_both, proofs.GroupScan.none_left, proofs.GroupScan.none_closed, proofs.GroupScan.closed_there, proofs.GroupScan.begun_there, proofs.GroupScan.others_more, proofs.GroupScan.line_at, proofs.GroupScan.none_between, proofs.GroupScan.to_end}
use Rattle.batch_journal.proofs.recovery.end_of_groups.Goals as goal

pub returns-then-not-closes : goal.returns-then-not-closes
returns-then-not-closes c =
    let so_far = c.loop-len.invariant in
    let bytes = c.args.bytes.now in
    let end = c.loop-len.end in
    let at = c.loop-len.at in
    let len = c.in-Some.len in
    let ends : EndsLine len (drop at bytes) = subst (EndsLine len) (to_end bytes at) c.in-Some.ensures in
    let line = slice_range bytes at (at + len) in
    let other : journal_format.closes c.next-next.result line ≡ false = sym c.closes.ensures ∙ c.if-not-closes.true in
    record {
      within = omega (arith, so_far.order, so_far.within);
      closed = so_far.closed;
      left = none_closed c.args.documents.now bytes end at len (sum_text c.loop-len.sum) so_far.begun so_far.order so_far.within so_far.text so_far.are so_far.others
          line ends (line_at bytes at len) (sym c.is_closing.ensures ∙ c.if-is_closing.true)
          (subst (λ s. journal_format.closes s line ≡ false) c.next-next.ensures.sum other);
    }

pub loop-len-preserved-then-is_closing : goal.loop-len-preserved-then-is_closing
loop-len-preserved-then-is_closing c =
    let so_far = c.loop-len.invariant in
    let bytes = c.args.bytes.now in
    let end = c.loop-len.end in
    let at = c.loop-len.at in
    let len = c.in-Some.len in
    let ends : EndsLine len (drop at bytes) = subst (EndsLine len) (to_end bytes at) c.in-Some.ensures in
    let line = slice_range bytes at (at + len) in
    let same : journal_format.closes c.next-next.result line ≡ true = sym c.closes.ensures ∙ c.if-not-closes.false in
    let next = at + (len + 1) in
    record {
      closed = subst (λ s. IsClosed c.args.documents.now (take next bytes) s) (sym c.next-next.ensures.sum)
          (closed_there c.args.documents.now bytes end at len (sum_text c.loop-len.sum) so_far.begun so_far.order so_far.within so_far.text so_far.are so_far.others
          line next ends (line_at bytes at len) refl so_far.closed (sym c.is_closing.ensures ∙ c.if-is_closing.true)
          (subst (λ s. journal_format.closes s line ≡ true) c.next-next.ensures.sum same));
      begun = [];
      are = tt;
      others = tt;
      text = none_between bytes next;
      order = omega arith;
      within = omega (arith, so_far.within, ends.within, length-drop at bytes);
    }

pub loop-len-preserved : goal.loop-len-preserved
loop-len-preserved c =
    let so_far = c.loop-len.invariant in
    let bytes = c.args.bytes.now in
    let end = c.loop-len.end in
    let at = c.loop-len.at in
    let len = c.in-Some.len in
    let ends : EndsLine len (drop at bytes) = subst (EndsLine len) (to_end bytes at) c.in-Some.ensures in
    let line = slice_range bytes at (at + len) in
    let next = at + (len + 1) in
    record {
      closed = so_far.closed;
      begun = so_far.begun ++ line ∷ [];
      are = lines_both so_far.begun (line ∷ []) so_far.are (subst (λ l. IsLine l) (sym (line_at bytes at len)) ends.is_line, tt);
      others = others_more so_far.begun line so_far.others (sym c.is_closing.ensures ∙ c.if-is_closing.false);
      text = begun_there c.args.documents.now bytes end at len (sum_text c.loop-len.sum) so_far.begun so_far.order so_far.within so_far.text so_far.are so_far.others
          line next ends (line_at bytes at len) refl;
      order = omega (arith, so_far.order);
      within = omega (arith, so_far.within, ends.within, length-drop at bytes);
    }

pub returns : goal.returns
returns c =
    let so_far = c.loop-len.invariant in
    let bytes = c.args.bytes.now in
    let end = c.loop-len.end in
    let at = c.loop-len.at in
    record {
      within = omega (arith, so_far.order, so_far.within);
      closed = so_far.closed;
      left = none_left c.args.documents.now bytes end at 0 (sum_text c.loop-len.sum) so_far.begun so_far.order so_far.within so_far.text so_far.are so_far.others
          (ap whole_lines_before_zero (sym (to_end bytes at)) ∙ c.in_default.ensures);
    }
