use Rattle.std.proofs.Common.{◌≡◌, ◌∷◌, ◌++◌, [], length, refl, sym, ap, subst, ◌∙◌, append_assoc, append-nil, arith}
use Rattle.std.specs.Vec.Iter.{into_iter_items}
use Rattle.batch_pipes.{specs.OutputEnds.IsHandedBack, specs.Outputs.AreSettledBy, proofs.WriterOutputs.ending_here, proofs.WriterOutputs.settled_more, proofs.DeskRings.nothing_left}
use Rattle.batch_pipes.proofs.ending.settle_each.Goals as goal

pub loop-output-init : goal.loop-output-init
loop-output-init g c = record {
  left = refl;
  count = omega (arith, c.into_iter-output-iterator.ensures.into_iter_gives.1, ap length c.into_iter-output-iterator.ensures.into_iter_gives.0, c.args.outputs.ok.0);
  settled = record { count = ap length c.new-all.ensures.items; each = λ k o w below. absurd (omega (arith, below)) };
}

pub loop-output-preserved : goal.loop-output-preserved
loop-output-preserved g c =
    let at = c.loop-output in
    let so_far = at.invariant in
    let output = c.in-Some.output in
    let steps : into_iter_items at.output-iterator ≡ output ∷ into_iter_items c.next.new.self = c.in-Some.ensures.steps.0 in
    record {
      left = append_assoc at.yielded (output ∷ []) _ ∙ rw (← steps) so_far.left;
      count = (let was = so_far.count in let gone = c.in-Some.ensures.steps.1 in let short = ap length steps in omega arith);
      settled = subst (λ l. AreSettledBy (IsHandedBack g.W.Write.contents g.P.Outputs.stands g.P.Outputs.hands_back) (at.yielded ++ output ∷ []) l) (sym c.in_ok-push.ensures.items)
          (settled_more _ at.yielded output at.all.items c.end_output-outcome.result.0 so_far.settled c.end_output-outcome.ensures);
    }

pub end_output-outcome-requires : goal.end_output-outcome-requires
end_output-outcome-requires g c =
    let at = c.loop-output in
    let output = c.in-Some.output in
    let steps : into_iter_items at.output-iterator ≡ output ∷ into_iter_items c.next.new.self = c.in-Some.ensures.steps.0 in
    ending_here _ c.args.outputs.items at.yielded output (into_iter_items c.next.new.self)
    (rw steps at at.invariant.left ∙ c.into_iter-output-iterator.ensures.into_iter_gives.0) c.requires

pub returns : goal.returns
returns g c =
    let at = c.loop-output in
    let none = c.in-None.ensures.steps in
    let empty : into_iter_items at.output-iterator ≡ [] = nothing_left _ (sym at.invariant.count ∙ none.0) in
    let all = sym (append-nil at.yielded) ∙ rw empty at at.invariant.left ∙ c.into_iter-output-iterator.ensures.into_iter_gives.0 in
    subst (λ l. AreSettledBy (IsHandedBack g.W.Write.contents g.P.Outputs.stands g.P.Outputs.hands_back) l at.all.items) all at.invariant.settled
