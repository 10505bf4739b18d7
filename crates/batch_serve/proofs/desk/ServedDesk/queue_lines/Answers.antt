use Rattle.std.proofs.Common.{rules, arith, length, ◌+◌, List, ℕ, [], ◌∷◌, ◌++◌, filter, take, drop, sym, ◌∙◌, ap, subst, append-nil}
use Rattle.std.proofs.lemmas.List.{length-drop, take_rest}
use Rattle.batch_serve.{specs.Dues.is_due, specs.Waits.IsAccount, proofs.TextLines.lines_more, proofs.TextLines.told_line, proofs.TextLines.whole_first, proofs.TextLines.whole_none}
use Rattle.batch_wire.specs.Transcript.{whole_lines}
use Rattle.batch_serve.proofs.desk.ServedDesk.queue_lines.Goals as goal

pub overflow_add-rest : goal.overflow_add-rest
overflow_add-rest c = search (rules, c.in-Some.ensures.within, c.loop-at.invariant.within)

pub loop-at-preserved : goal.loop-at-preserved
loop-at-preserved c =
    let so_far = c.loop-at.invariant in
    let rest = c.loop-at.rest.now in
    let at = c.in-Some.at in
    let line = take at rest in
    record {
      within = omega (arith, so_far.within, ap length (take_rest rest (at + 1)), length-drop (at + 1) rest);
      unit = c.queue_line.ensures.unit ∙ so_far.unit;
      cut = λ uncut. so_far.cut (c.queue_line.ensures.cut uncut);
      front = so_far.front ++ line ∷ [];
      splits = lines_more c.args.text.now rest line (drop (at + 1) rest) so_far.front so_far.splits (whole_first rest at c.in-Some.ensures)
          ∙ ap (λ l. (so_far.front ++ line ∷ []) ++ whole_lines l) (sym (take_rest rest (at + 1)));
      account = λ all told h. subst (λ (l : List (List ℕ)). IsAccount l told c.queue_line.new.self.waiting) (told_line c.args.is_own c.args.self.now.unit c.loop-at.self.unit all so_far.front line so_far.unit)
          (c.queue_line.ensures.account (all ++ filter (is_due c.args.is_own c.args.self.now.unit) so_far.front) told (so_far.account all told h));
    }

pub returns-clause-account : goal.returns-clause-account
returns-clause-account c = λ all told h.
    let so_far = c.loop-at.invariant in
    let is = so_far.splits ∙ ap (λ l. so_far.front ++ l) (whole_none c.loop-at.rest.now c.in_default.ensures) ∙ append-nil so_far.front in
    subst (λ (l : List (List ℕ)). IsAccount (all ++ filter (is_due c.args.is_own c.args.self.now.unit) l) told c.loop-at.self.waiting) (sym is) (so_far.account all told h)
