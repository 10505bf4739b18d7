use Rattle.std.proofs.Common.{◌<◌, ◌+◌, length, get_or, length-drop, refl, sym, ap, subst, ◌∙◌, arith}
use Rattle.std.specs.Vec.Iter.{into_iter_items}
use Rattle.batch_serve.specs.declared.rounds.Writer.{Writer}
use Rattle.batch_pipes.{specs.OutputEnds.IsHandedBack, specs.Outputs.AreOutputsKept, specs.Outputs.AreOutputsOf, specs.Outputs.IsFinished, proofs.Lists.first_left, proofs.Lists.first_set, proofs.WriterOutputs.output_here, proofs.WriterOutputs.outputs_as_they_are, proofs.WriterOutputs.outputs_finished}
use Rattle.batch_pipes.proofs.ending.finish_each.Goals as goal

pub loop-at-init : goal.loop-at-init
loop-at-init g c = record {
  kept = outputs_as_they_are _ c.args.outputs.now.items _
      (subst (λ l. AreOutputsOf (IsHandedBack g.W.Write.contents g.P.Outputs.stands g.P.Outputs.hands_back) c.args.outputs.now.items l) (sym c.into_iter-writers.ensures.rest) c.requires);
  left = refl;
  count = omega (arith, c.into_iter-writers.ensures.len, ap length c.into_iter-writers.ensures.rest, c.args.writers.ok.0);
  finished = λ k o writer below. absurd (omega (arith, below));
}

pub finish-requires : goal.finish-requires
finish-requires g c =
    let at = c.loop-at in
    let so_far = at.invariant in
    let writers = into_iter_items c.into_iter-writers.result in
    let within : at.at < length at.outputs.items = omega (arith, so_far.kept.count) in
    let here = first_left writers at.at c.in-Some.writer (into_iter_items c.next.new.self) c.in-Some.writer (sym so_far.left ∙ c.in-Some.ensures.cases.0) in
    output_here _ at.outputs.items writers at.at c.index_mut.result.now c.in-Some.writer within c.index_mut.ensures.value (sym here.0) so_far.kept.of

pub loop-at-preserved : goal.loop-at-preserved
loop-at-preserved g c =
    let at = c.loop-at in
    let so_far = at.invariant in
    let i = at.at in
    let writers = into_iter_items c.into_iter-writers.result in
    let writer = c.in-Some.writer in
    let (steps, gone) = c.in-Some.ensures.cases in
    let here = λ (w : Writer). first_left writers i writer (into_iter_items c.next.new.self) w (sym so_far.left ∙ steps) in
    let within : i < length at.outputs.items = omega (arith, so_far.kept.count) in
    record {
      kept = outputs_finished _ c.args.outputs.now.items at.outputs.items writers i c.index_mut.result.now c.finish.new.self writer within c.index_mut.ensures.value
          (λ w. (here w).0) c.finish.ensures.kept so_far.kept;
      left = sym (here writer).1;
      count = omega (arith, so_far.count, gone, ap length steps);
      finished = first_set IsFinished at.outputs.items writers i (i + 1) c.finish.new.self within
          (λ w. subst (λ (y : Writer). IsFinished c.finish.new.self y) (sym (here w).0) c.finish.ensures.finished) (λ k o w below apart. so_far.finished k o w (omega (arith, below, apart)));
    }

pub returns-clause-kept : goal.returns-clause-kept
returns-clause-kept g c =
    subst (λ l. AreOutputsKept (IsHandedBack g.W.Write.contents g.P.Outputs.stands g.P.Outputs.hands_back) c.args.outputs.now.items c.loop-at.outputs.items l)
    c.into_iter-writers.ensures.rest c.loop-at.invariant.kept

pub returns-clause-finished : goal.returns-clause-finished
returns-clause-finished g c = λ k o writer within.
    subst (λ l. IsFinished (get_or c.loop-at.outputs.items k o) (get_or l k writer)) c.into_iter-writers.ensures.rest
    (c.loop-at.invariant.finished k o writer (omega (arith, within, c.loop-at.invariant.kept.count)))

pub returns-in-None-clause-kept : goal.returns-in-None-clause-kept
returns-in-None-clause-kept g c =
    subst (λ l. AreOutputsKept (IsHandedBack g.W.Write.contents g.P.Outputs.stands g.P.Outputs.hands_back) c.args.outputs.now.items c.loop-at.outputs.items l)
    c.into_iter-writers.ensures.rest c.loop-at.invariant.kept

pub returns-in-None-clause-finished : goal.returns-in-None-clause-finished
returns-in-None-clause-finished g c = λ k o writer within.
    let so_far = c.loop-at.invariant in
    let (none, nothing) = c.in-None.ensures.cases in
    let short = ap length so_far.left in
    let left = length-drop c.loop-at.at (into_iter_items c.into_iter-writers.result) in
    absurd (omega (arith, none, so_far.count, short, left, so_far.kept.of.count, so_far.kept.count))
