use Rattle.std.proofs.Common.{rules, ◌+◌, ◌++◌, ◌∷◌, [], length, take, arith, sym, ◌∙◌, ap, append_assoc}
use Rattle.std.proofs.lemmas.List.{length-drop}
use Rattle.batch_journal.{specs.Lines.whole_lines_before_zero, proofs.GroupScan.first_line, proofs.GroupScan.others_more, proofs.GroupScan.to_end}
use Rattle.batch_journal.proofs.lines.has_own.Goals as goal

pub overflow_add-rest : goal.overflow_add-rest
overflow_add-rest c = search (rules, c.in-Some.ensures.within, c.loop-at.invariant.within)

pub loop-at-preserved : goal.loop-at-preserved
loop-at-preserved c =
    let so_far = c.loop-at.invariant in
    let rest = c.loop-at.rest.now in
    let at = c.in-Some.at in
    let line = take at rest in
    record {
      within = omega (arith, so_far.within, ap length (to_end rest (at + 1)), length-drop (at + 1) rest);
      front = so_far.front ++ line ∷ [];
      others = others_more so_far.front line so_far.others (sym c.is_closing.ensures ∙ c.if-is_closing.false);
      splits = so_far.splits ∙ ap (λ l. so_far.front ++ l) (first_line at rest c.in-Some.ensures ∙ ap (λ l. line ∷ whole_lines_before_zero l) (sym (to_end rest (at + 1)))) ∙ sym (append_assoc so_far.front (line ∷ []) _);
    }
