use Rattle.std.proofs.Common.{◌≡◌, ◌+◌, ◌<◌, refl, sym, ◌∙◌, ap, subst, ℕ, Some, arith, length, true, false, inl, inr}
use Rattle.std.specs.Prelude.{option_map, slice_get}
use Rattle.batch_arbiter.specs.Allocation.{batch_node, next_grant}
use Rattle.batch_chart.specs.NodesOf.{need_at}
use Rattle.batch_engine.{specs.declared.batch.Batch.Batch, specs.Steps.IsNumberAt, specs.View.EngineView, specs.View.tree_of, proofs.BatchLookups.first-grant, proofs.BatchLookups.first-serves, proofs.BatchLookups.first_here, proofs.BatchLookups.goes-on, proofs.BatchLookups.known-resource, proofs.BatchLookups.no-grants, proofs.BatchLookups.passed, proofs.BatchAtIndex.IsSeat, proofs.BatchAtIndex.linked-here, proofs.BatchAtIndex.needs-there, proofs.BatchAtIndex.read-own, proofs.BatchAtIndex.seat-of, proofs.UnservedNodes.skipped}
use Rattle.batch_engine.proofs.control.Control.first_grant.Goals as goal
use Rattle.batch_engine.proofs.control.Control.first_grant.Goals.{After-recipe-chart, After-resource_at-resource}
use Rattle.batch_signs.proofs.Bits.{within-or_past}

seat : (c : After-recipe-chart) (i : ℕ) → slice_get c.args.self.now.batches i ≡ Some c.args.batch.now → IsSeat c.args.self.now i c.args.batch.now c.recipe-chart.result.now
seat c i at = seat-of c.self.view_is (read-own c.self.view_is c.self.invariant.kept at) c.recipe-chart.ensures

pub resource_at-resource-requires : goal.resource_at-resource-requires
resource_at-resource-requires c =
    let s = seat (goal.at.resource_at-resource-requires c).After-recipe-chart c.requires.0 c.requires.1 in
    let asks = c.in-Some.ensures.some.1 (tree_of c.args.self.now.cleared c.args.batch.now) s.chart s.runs in
    (c.args.self.now, needs-there c.requires.0 (linked-here c.self.view_is c.linked-set.ensures) s.kept s.at s.listed asks.0 asks.1)

-- the number of the resource that the act waits for
number : (c : After-resource_at-resource) → IsSeat c.args.self.now c.requires.0 c.args.batch.now c.recipe-chart.result.now
    → IsNumberAt c.args.self.now.cleared c.args.batch.now c.in-Some.node c.in-Some.need c.resource_at-resource.result.0 c.resource_at-resource.result.1
number c s =
    let asks = c.in-Some.ensures.some.1 (tree_of c.args.self.now.cleared c.args.batch.now) s.chart s.runs in
    c.resource_at-resource.ensures c.args.self.now (needs-there c.requires.0 (linked-here c.self.view_is c.linked-set.ensures) s.kept s.at s.listed asks.0 asks.1)

pub returns-then-serves : goal.returns-then-serves
returns-then-serves c =
    let w = goal.at.returns-then-serves c in
    let v : EngineView = c.args.self.now in
    let b : Batch = c.args.batch.now in
    let is = number w.After-resource_at-resource (seat w.After-recipe-chart c.requires.0 c.requires.1) in
    let resource = c.resource_at-resource.result.0 in λ i at.
    (let s = seat w.After-recipe-chart i at in
    let asks = c.in-Some.ensures.some.1 (tree_of v.cleared b) s.chart s.runs in
    let first : first_here v s.kept i b at resource c.in-Some.node =
    ap (λ (w : EngineView). option_map batch_node (next_grant w.allocation resource)) (sym c.self.view_is) ∙ c.serves.ensures.0 c.if-serves.true in
    record {
      batch = b;
      chart = c.recipe-chart.result.now;
      here = record { at = at; listed = s.listed };
      waits = c.in-Some.ensures.waits;
      need = c.in-Some.need;
      asks = asks;
      number = is.0;
      units_are = is.1;
      first = first;
      is = first-grant v s.kept i b at c.in-Some.node c.in-Some.need asks
          (first-serves v s.kept i b at c.in-Some.node c.in-Some.need resource asks is.0 first)
          (goes-on v s.kept i b at c.recipe-chart.result.now s.listed c.loop-node.from c.in-Some.node c.loop-node.invariant.1 c.in-Some.ensures.before);
    })

pub loop-node-preserved : goal.loop-node-preserved
loop-node-preserved c =
    let w = goal.at.loop-node-preserved c in
    let v : EngineView = c.args.self.now in
    let b : Batch = c.args.batch.now in
    let s = seat w.After-recipe-chart c.requires.0 c.requires.1 in
    let asks = c.in-Some.ensures.some.1 (tree_of v.cleared b) s.chart s.runs in
    let not_first : first_here v s.kept c.requires.0 b s.at c.resource_at-resource.result.0 c.in-Some.node → ⊥ =
    λ f. (let g = c.serves.ensures.1 (ap (λ (w : EngineView). option_map batch_node (next_grant w.allocation c.resource_at-resource.result.0)) c.self.view_is ∙ f) in absurd (let h : ◌≡◌ true false = sym g ∙ c.if-serves.false in cc)) in (
      omega (arith, c.search_from-from.ensures.on, c.in-Some.ensures.some.0),
      skipped v s.kept c.requires.0 b s.at (c.in-Some.node + 1) c.search_from-from.result c.search_from-from.ensures
          (passed v s.kept c.requires.0 b s.at c.recipe-chart.result.now s.listed c.loop-node.from c.in-Some.node c.in-Some.need c.resource_at-resource.result.0 c.loop-node.invariant.1 c.in-Some.ensures.before asks
          (number w.After-resource_at-resource s).0 not_first),
    )

pub returns : goal.returns
returns c =
    let v : EngineView = c.args.self.now in
    let b : Batch = c.args.batch.now in
    let s = seat (goal.at.returns c).After-recipe-chart c.requires.0 c.requires.1 in
    no-grants v s.kept c.requires.0 b s.at (λ j l asks served. elim (within-or_past j c.loop-node.from) [
      | inl q ↦ c.loop-node.invariant.1 j l q asks served
      | inr q ↦ c.in_default.ensures.none refl (tree_of v.cleared b) s.chart s.runs j l q asks
    ])

pub waiting-requires : goal.waiting-requires
waiting-requires c = (seat (goal.at.waiting-requires c).After-recipe-chart c.requires.0 c.requires.1).running

pub serves-requires : goal.serves-requires
serves-requires c =
    let w = goal.at.serves-requires c in
    let s = seat w.After-recipe-chart c.requires.0 c.requires.1 in
    subst (λ (z : EngineView). c.resource_at-resource.result.0 < length z.allocation.capacities) (sym c.self.view_is)
    (known-resource c.args.self.now s.kept (need_at (tree_of c.args.self.now.cleared c.args.batch.now) c.in-Some.node c.in-Some.need).resource c.resource_at-resource.result.0 (number w.After-resource_at-resource s).0)
