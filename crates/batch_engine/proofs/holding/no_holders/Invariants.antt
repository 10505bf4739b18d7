use Rattle.std.proofs.Common.{◌≡◌, length}
use Rattle.batch_engine.proofs.holding.no_holders.Given as goal

-- as many as the resources so far
abbrev pub invariant-loop-resource : goal.invariant-loop-resource
invariant-loop-resource l = length l.holders.items ≡ l._resource
