use Rattle.std.proofs.Common.{subst, arith}
use Rattle.batch_engine.{specs.Marks.IsUnmarked, proofs.BatchMarks.few}
use Rattle.batch_engine.proofs.marking.mark_first.Goals as goal

pub mark-requires : goal.mark-requires
mark-requires c = omega (arith, c.in-Some.ensures.0, few c.args.control.now c.recall_invariant.ensures)

pub returns-in-Some-clause-set : goal.returns-in-Some-clause-set
returns-in-Some-clause-set c i served unmarked = c.mark.ensures.set (subst (IsUnmarked c.mark.new.marks) (c.in-Some.ensures.1 i served) unmarked)
