use Rattle.std.proofs.Common.{sym, ◌∙◌, subst}
use Rattle.batch_engine.{specs.Marking.IsFirstMarked, proofs.BatchMarks.same-some}
use Rattle.batch_engine.proofs.marking.mark_moved.Goals as goal

pub returns-in-Some-clause-first : goal.returns-in-Some-clause-first
returns-in-Some-clause-first c q e = subst (λ r. IsFirstMarked c.args.control.now r c.mark_first.new.marks) (sym (same-some q c.in-Some.number (sym e ∙ c.in-Some.is))) c.mark_first.ensures.set
