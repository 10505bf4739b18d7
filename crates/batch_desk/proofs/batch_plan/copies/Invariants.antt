use Rattle.std.proofs.Common.{◌≡◌, take}
use Rattle.batch_desk.proofs.batch_plan.copies.Given as goal

abbrev pub invariant-loop-pair : goal.invariant-loop-pair
invariant-loop-pair l = l.copies.items ≡ take l.pair-index l.pairs
