use Rattle.std.proofs.Common.{◌≡◌, ◌+◌, ◌<◌, ℕ, bit_and, get_or}
use Rattle.batch_check.proofs.edge_set.EdgeSet.has_each.Given as goal

-- the row has the first words whole
abbrev pub invariant-loop-word : goal.invariant-loop-word
invariant-loop-word l = (k : ℕ) → k < l.word → bit_and (get_or l.self.known.items (l.first + k) 0) (get_or l.asked.numbers k 0) ≡ get_or l.asked.numbers k 0
