use Rattle.std.proofs.Common.{◌<◌, ◌∙◌, length, arith, sym}
use Rattle.batch_chart.proofs.UnitTakeover.{taken-first, taken-next, taken-end, as-many-stages, read-at}
use Rattle.batch_chart.proofs.taking.take_over.Goals as goal

pub loop-j-init : goal.loop-j-init
loop-j-init c = taken-first _ _ _ _ _

pub take_over_at-requires : goal.take_over_at-requires
take_over_at-requires c = record {
  node = let lt = c.requires.nodes c.loop-j.j (omega (arith, c.args.held.now.ok.0)) in
      let same = read-at c.args.held.now.items c.loop-j.j c.index.result.now (omega (arith, c.args.held.now.ok.0)) c.index.ensures in
      omega (arith, lt, same, c.from.ensures);
  fits = as-many-stages _ _ _ _ _ _ _ _ c.loop-j.invariant c.requires.order.lives;
  signs = c.loop-j.invariant.kept.count ∙ c.requires.order.count;
}

pub loop-j-preserved : goal.loop-j-preserved
loop-j-preserved c =
    let lt : c.loop-j.j < length c.args.held.now.items = omega (arith, c.args.held.now.ok.0) in
    let same = read-at c.args.held.now.items c.loop-j.j c.index.result.now lt c.index.ensures in
    taken-next _ _ _ _ _ _ _ _ c.loop-j.invariant _ _ (rw (c.from.ensures ∙ sym same) at c.take_over_at.ensures) (c.requires.nodes c.loop-j.j lt) c.requires.order.lives c.requires.order.count

pub returns : goal.returns
returns c = taken-end _ _ _ _ _ _ _ c.loop-j.j (omega (arith, c.args.held.now.ok.0)) c.loop-j.invariant
