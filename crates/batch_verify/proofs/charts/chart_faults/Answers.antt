use Rattle.std.proofs.Common.{◌≡◌, length, Some, get_or, slice_get, sym, ap, ◌∙◌, subst, arith}
use Rattle.std.proofs.lemmas.Option.{slice_get-get_or}
use Rattle.batch_recipe.{specs.Procedure.procedure_nodes, specs.declared.entry.Entry.Entry, proofs.NodesAbove.as_many}
use Rattle.batch_recipe.specs.declared.entry.Kind.TheVariants as kind
use Rattle.batch_verify.{specs.Charts.ReservesAs, proofs.Faults.KeepsFaults-none, proofs.Faults.KeepsFaults-more, proofs.Faults.all_faults}
use Rattle.batch_verify.proofs.charts.chart_faults.Goals as goal

pub chart_fault-requires-clause-known : goal.chart_fault-requires-clause-known
chart_fault-requires-clause-known c = c.loop-entry.invariant.known

pub chart_fault-requires-clause-node : goal.chart_fault-requires-clause-node
chart_fault-requires-clause-node c =
    omega (arith, c.len-node.ensures, c.loop-entry.invariant.faults.many, c.loop-entry-test.true, ap length c.deref-entry-items.ensures.value, as_many c.args.recipe.now)

pub reserve_fault-requires : goal.reserve_fault-requires
reserve_fault-requires c =
    let r = c.args.recipe.now in
    let n = c.loop-entry.entry-index in
    let zero : Entry = record { kind = kind.Skip; end = 0; parent = 0; child = 0; needs = 0; detail = 0 } in
    let entry : Entry = get_or c.deref-entry-items.result.now n zero in
    let is : slice_get r.outline.entries.items n ≡ Some entry =
    ap (λ xs. slice_get xs n) (sym c.deref-entry-items.ensures.value) ∙ slice_get-get_or c.deref-entry-items.result.now n zero c.loop-entry-test.true in
    let node : n ≡ c.len-node.result = omega (arith, c.len-node.ensures, c.loop-entry.invariant.faults.many) in
    subst (λ k. slice_get r.outline.entries.items k ≡ Some entry) node is

pub loop-entry-init : goal.loop-entry-init
loop-entry-init c = record {
  faults = rw (c.in_ok-below.ensures.items, c.in_ok-faults.ensures.items) (KeepsFaults-none c.args.recipe.now);
  known = c.new-trees.ensures c.args.recipe.now;
}

pub loop-entry-preserved : goal.loop-entry-preserved
loop-entry-preserved c =
    let r = c.args.recipe.now in
    let n = c.loop-entry.entry-index in
    let h = c.loop-entry.invariant.faults in
    let zero : Entry = record { kind = kind.Skip; end = 0; parent = 0; child = 0; needs = 0; detail = 0 } in
    let entry : Entry = get_or c.deref-entry-items.result.now n zero in
    let is : slice_get r.outline.entries.items n ≡ Some entry =
    ap (λ xs. slice_get xs n) (sym c.deref-entry-items.ensures.value) ∙ slice_get-get_or c.deref-entry-items.result.now n zero c.loop-entry-test.true in
    let node : n ≡ c.len-node.result = omega (arith, c.len-node.ensures, h.many) in
    let more = KeepsFaults-more r c.loop-entry.below.items c.loop-entry.faults.items n h entry is c.depth_above-depth.result
    (λ d d_is. c.depth_above-depth.ensures.some d (ap (λ xs. slice_get xs entry.parent) c.deref.ensures.value ∙ d_is))
    (λ past. c.depth_above-depth.ensures.none (omega (arith, past, ap length c.deref.ensures.value)))
    c.depth_below.result c.depth_below.ensures.act c.depth_below.ensures.chart c.in_ok-chart.chart c.reserve_fault.result
    (λ x x_is formed. c.in_ok-chart.ensures.fault x (subst (λ k. slice_get (procedure_nodes r.acts) k ≡ Some x) node x_is) formed)
    (λ x broken. let both = c.reserve_fault.ensures x broken in (both.0, subst (λ k. ReservesAs r.acts k c.reserve_fault.result) (sym node) both.1)) in
    record {
      faults = rw (c.in_ok-push.ensures.items, c.in_ok-push-2.ensures.items) more;
      known = c.chart_fault.ensures.known;
    }

pub returns : goal.returns
returns c =
    let entries = ap length c.deref-entry-items.ensures.value in
    all_faults c.args.recipe.now c.loop-entry.below.items c.loop-entry.faults.items c.loop-entry.entry-index c.loop-entry.invariant.faults
    (omega (arith, c.loop-entry-test.false, entries)) (omega (arith, c.loop-entry.auto.entry-index-end, entries))
