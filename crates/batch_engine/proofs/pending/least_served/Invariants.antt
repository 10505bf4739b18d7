use Rattle.std.proofs.Common.{◌<◌, ◌≤◌, ℕ}
use Rattle.batch_engine.specs.Steps.{IsServedNode}
use Rattle.batch_engine.proofs.pending.least_served.Given as goal

-- none is served of a resource so far before this node
abbrev pub invariant-loop-resource : goal.invariant-loop-resource
invariant-loop-resource l = (q node : ℕ) → q < l.resource → IsServedNode l.arbiter q l.batch node → l.least ≤ node
