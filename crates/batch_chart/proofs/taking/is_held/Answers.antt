use Rattle.std.proofs.Common.{◌<◌, length, arith, sym, ◌∙◌}
use Rattle.batch_chart.proofs.UnitTakeover.{at-early, early-none, none-more, read-at}
use Rattle.batch_chart.proofs.taking.is_held.Goals as goal

pub loop-j-init : goal.loop-j-init
loop-j-init c = λ i lt. absurd (omega arith)

pub returns-then-index-to : goal.returns-then-index-to
returns-then-index-to c =
    let lt : c.loop-j.j < length c.args.held.now.items = omega (arith, c.args.held.now.ok.0) in
    sym (at-early c.args.held.now.items c.args.to c.loop-j.j lt (read-at c.args.held.now.items c.loop-j.j c.index.result.now lt c.index.ensures ∙ c.if-index-to.true))

pub loop-j-preserved : goal.loop-j-preserved
loop-j-preserved c =
    let lt : c.loop-j.j < length c.args.held.now.items = omega (arith, c.args.held.now.ok.0) in
    none-more c.args.held.now.items c.args.to c.loop-j.j c.loop-j.invariant (λ e. c.if-index-to.false (sym (read-at c.args.held.now.items c.loop-j.j c.index.result.now lt c.index.ensures) ∙ e))

pub returns : goal.returns
returns c = sym (early-none c.args.held.now.items c.args.to (λ i lt. c.loop-j.invariant i (omega (arith, lt, c.args.held.now.ok.0))))
