-- Nodes that are passed over, since the arbiter would serve no act at them.
use Rattle.std.proofs.Common.{◌≡◌, ◌<◌, ◌≤◌, ℕ, Some, inl, inr, arith}
use Rattle.std.specs.Prelude.{slice_get}
use Rattle.batch_recipe.specs.declared.need.Need.{Need}
use Rattle.batch_arbiter.specs.Allocation.{resource_count}
use Rattle.batch_chart.specs.NodesOf.{need_at, place_at}
use Rattle.batch_engine.{specs.declared.batch.Batch.Batch, specs.Kept.IsKept, specs.Steps.AreUnserved, specs.Steps.IsServedNode, specs.View.EngineView, specs.View.tree_of, proofs.BatchLookups.asks_here, proofs.BatchLookups.known-resource, proofs.BatchLookups.served_here, proofs.BatchLookups.serves-first, proofs.BatchMarks.served-named}
use Rattle.batch_signs.proofs.Bits.{within-or_past}

module _ (v : EngineView) (k : IsKept v) (i : ℕ) (b : Batch) (at : slice_get v.batches i ≡ Some b) where
  -- whom the plant serves the arbiter serves of some resource
  somewhere : (j l : ℕ) → asks_here v k i b at j l → served_here v k i b at j l → (q : ℕ) × (q < resource_count v.allocation) × IsServedNode v.allocation q b.number j
  somewhere j l asks served =
      let need : Need = need_at (tree_of v.cleared b) j l in
      let n = served-named v need (b.number, place_at (tree_of v.cleared b) j) served in
      (n.0, known-resource v k need.resource n.0 n.1, serves-first v k i b at j l n.0 asks n.1 served)

  -- if no act before a node is served, none is before one that is skipped to
  pub skipped : (from to : ℕ) → AreUnserved v b.number from to → ((j l : ℕ) → j < from → asks_here v k i b at j l → served_here v k i b at j l → ⊥)
      → (j l : ℕ) → j < to → asks_here v k i b at j l → served_here v k i b at j l → ⊥
  skipped from to unserved before j l lt asks served = elim (within-or_past j from) [
    | inl q ↦ before j l q asks served
    | inr q ↦
        let n = somewhere j l asks served in
        let past : to ≤ j = unserved.none n.0 j n.1 n.2 q in
        absurd (omega arith)
  ]
