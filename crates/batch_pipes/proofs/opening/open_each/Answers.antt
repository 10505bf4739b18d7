use Rattle.std.proofs.Common.{◌≡◌, ◌∷◌, [], length, get_or, sym, ap, subst, ◌∙◌, append_assoc, append-nil, arith}
use Rattle.std.specs.Vec.Iter.{into_iter_items}
use Rattle.batch_pipes.{specs.Opened.IsOpened, specs.OutputEnds.IsHandedBack, specs.Outputs.AreOutputsOpened, proofs.WriterOutputs.outputs_more, proofs.DeskRings.nothing_left, proofs.DeskRings.opened_more, proofs.DeskRings.ports_more}
use Rattle.batch_pipes.proofs.opening.open_each.Goals as goal

pub loop-desk-preserved : goal.loop-desk-preserved
loop-desk-preserved g c =
    let at = c.loop-desk in
    let so_far = at.invariant in
    let desk = c.in-Some.desk in
    let as_many : length at.server.desks.items ≡ length at.yielded = omega (arith, so_far.ports.writers, so_far.outputs.of.count, so_far.outputs.count) in
    let as_long : c.len.result ≡ length at.yielded = omega (arith, c.len.ensures, at.outputs.ok.0, so_far.outputs.count) in
    let steps : into_iter_items at.desk-iterator ≡ desk ∷ into_iter_items c.next.new.self = c.in-Some.ensures.steps.0 in
    record {
      left = append_assoc at.yielded (desk ∷ []) _ ∙ rw (← steps) so_far.left;
      count = (let was = so_far.count in let gone = c.in-Some.ensures.steps.1 in let short = ap length steps in omega arith);
      ports = ports_more desk at.server c.open_desk.new.server at.ports c.open_desk.new.ports c.in_ok-open_desk.ensures.desk so_far.ports;
      opened = opened_more c.args.server.now.engine at.yielded desk at.server c.open_desk.new.server at.ports c.open_desk.new.ports so_far.ports as_many so_far.opened
          c.in_ok-open_desk.ensures.desk;
      outputs = outputs_more _ c.args.fronts.now at.yielded desk c.in_ok-front.front.items at.outputs.items c.open_desk.new.outputs.items
          at.ports.writers.items c.open_desk.new.ports.writers.items so_far.outputs (c.in_ok-front.ensures ∙ ap (λ n. get_or c.args.fronts.now n []) as_long)
          c.in_ok-open_desk.ensures.output;
    }

pub returns-clause-opened : goal.returns-clause-opened
returns-clause-opened g c =
    let at = c.loop-desk in
    let none = c.in-None.ensures.steps in
    let empty : into_iter_items at.desk-iterator ≡ [] = nothing_left _ (sym at.invariant.count ∙ none.0) in
    let all = sym (append-nil at.yielded) ∙ rw empty at at.invariant.left ∙ c.into_iter-desk-iterator.ensures.into_iter_gives.0 in
    subst (λ l. IsOpened c.args.server.now.engine l at.server at.ports) all at.invariant.opened

pub returns-clause-outputs : goal.returns-clause-outputs
returns-clause-outputs g c =
    let at = c.loop-desk in
    let none = c.in-None.ensures.steps in
    let empty : into_iter_items at.desk-iterator ≡ [] = nothing_left _ (sym at.invariant.count ∙ none.0) in
    let all = sym (append-nil at.yielded) ∙ rw empty at at.invariant.left ∙ c.into_iter-desk-iterator.ensures.into_iter_gives.0 in
    subst (λ l. AreOutputsOpened (IsHandedBack g.W.Write.contents g.P.Outputs.stands g.P.Outputs.hands_back) c.args.fronts.now l at.outputs.items at.ports.writers.items) all at.invariant.outputs
