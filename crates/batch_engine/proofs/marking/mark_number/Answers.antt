use Rattle.std.proofs.Common.{◌<◌, sym, ◌∙◌, subst, arith, length}
use Rattle.batch_engine.{specs.Marks.IsUnmarked, specs.View.EngineView, proofs.BatchMarks.few, proofs.BatchMarks.found-within, proofs.BatchMarks.found-there, proofs.BatchMarks.found-nowhere}
use Rattle.batch_engine.proofs.marking.mark_number.Goals as goal

pub mark-requires : goal.mark-requires
mark-requires c =
    let v : EngineView = c.args.control.now in
    let less : c.in-Some.index < length v.batches = found-within v c.args.number c.in-Some.index (sym c.index_of.ensures ∙ c.in-Some.is) in
    omega (arith, less, few v c.recall_invariant.ensures)

pub returns-in-Some-clause-set : goal.returns-in-Some-clause-set
returns-in-Some-clause-set c i b at n u =
    c.mark.ensures.set (subst (IsUnmarked c.mark.new.marks) (found-there c.args.control.now c.recall_invariant.ensures c.args.number c.in-Some.index i b (sym c.index_of.ensures ∙ c.in-Some.is) at n) u)

pub returns-in_default-clause-set : goal.returns-in_default-clause-set
returns-in_default-clause-set c i b at n u = found-nowhere c.args.control.now c.args.number i b (sym c.index_of.ensures ∙ c.in_default.is) at n
