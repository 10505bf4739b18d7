use Rattle.std.proofs.Common.{List, ℕ, ◌++◌, eqb, take, refl, sym, ◌∙◌, ap, subst, append-nil, arith}
use Rattle.batch_serve.{specs.Runs.due_of, specs.Waits.IsAccount, proofs.TextLines.told_run}
use Rattle.batch_serve.proofs.desk.ServedDesk.queue_answers.Goals as goal

pub loop-answer-init : goal.loop-answer-init
loop-answer-init c = record { unit = refl; cut = λ uncut. uncut; account = λ all told h. subst (λ (l : List (List ℕ)). IsAccount l told c.args.self.now.waiting) (sym (append-nil all)) h }

pub loop-answer-preserved : goal.loop-answer-preserved
loop-answer-preserved c =
    let so_far = c.loop-answer.invariant in
    let i = c.loop-answer.answer-index in
    let run = c.answer-item.result in
    record {
      unit = c.queue_lines.ensures.unit ∙ so_far.unit;
      cut = λ uncut. so_far.cut (c.queue_lines.ensures.cut uncut);
      account = λ all told h. subst (λ (l : List (List ℕ)). IsAccount l told c.queue_lines.new.self.waiting)
          (told_run c.args.desk c.args.self.now.unit c.loop-answer.self.unit all c.args.answers.now i run c.text.result.now (eqb c.desk.result c.args.desk)
          (omega arith) c.answer-item.is so_far.unit c.text.ensures (ap (λ n. eqb n c.args.desk) c.desk.ensures))
          (c.queue_lines.ensures.account (all ++ due_of c.args.desk c.args.self.now.unit (take i c.args.answers.now)) told (so_far.account all told h));
    }
