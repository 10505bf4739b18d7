use Rattle.std.proofs.Common.{◌≡◌, ◌<◌, ℕ, false, nat_eq}
use Rattle.batch_chart.specs.Early.{to_at}
use Rattle.batch_chart.proofs.taking.is_held.Given as goal

abbrev pub invariant-loop-j : goal.invariant-loop-j
invariant-loop-j l = (i : ℕ) → i < l.j → nat_eq (to_at l.fn.held.items i) l.fn.to ≡ false
