use Rattle.std.proofs.Common.{◌≡◌, length}
use Rattle.batch_check.specs.Spreading.{IsSpread}
use Rattle.batch_check.proofs.shortest.shorter_through.Given as goal

abbrev pub invariant-loop-level : goal.invariant-loop-level
invariant-loop-level l = IsSpread l.edges l.start l.level l.levels.items l.causes.items × (length l.levels.items ≡ l.fn.count)
