use Rattle.std.proofs.Common.{take, take_all, subst, sym, ap, ◌∙◌, ◌∷◌, [], option_copied, arith}
use Rattle.std.proofs.lemmas.List.{map-append, take_more}
use Rattle.batch_verify.{specs.Asking.ask_by, specs.Asking.asks_by, specs.Spans.AreAsked, proofs.Spans.AreAsked-append}
use Rattle.batch_verify.proofs.span.after_needs.Goals as goal

pub loop-need-preserved : goal.loop-need-preserved
loop-need-preserved c = λ roles takers between before most.
    let cell = c.args.low.now.cell.now in
    let ranks = option_copied c.args.low.now.ranks in
    let needs = c.args.needs.now in
    let i = c.loop-need.need-index in
    subst (λ asks. AreAsked cell ranks before asks c.in_ok-greatest.greatest)
    (sym (ap (asks_by cell takers) (take_more needs i _ c.loop-need-test.true) ∙ map-append (ask_by cell takers) (take i needs) (_ ∷ [])))
    (AreAsked-append cell ranks before (asks_by cell takers (take i needs)) _ c.loop-need.greatest c.in_ok-greatest.greatest
    (c.loop-need.invariant roles takers between before most) (λ last at. c.in_ok-greatest.ensures roles takers between last at))

pub returns : goal.returns
returns c = λ roles takers between before most.
    subst (λ needs. AreAsked c.args.low.now.cell.now (option_copied c.args.low.now.ranks) before (asks_by c.args.low.now.cell.now takers needs) c.loop-need.greatest)
    (take_all c.loop-need.need-index c.args.needs.now (omega (arith, c.loop-need-test.false))) (c.loop-need.invariant roles takers between before most)
