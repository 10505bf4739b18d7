use Rattle.std.proofs.Common.{◌≡◌, ◌≤◌, ◌+◌, ℕ, List, ◌++◌, length, take}
use Rattle.batch_serve.specs.CleanLines.{clean_from}
use Rattle.batch_serve.proofs.clean_lines.clean_piece.Given as goal

abbrev pub invariant-loop-at : goal.invariant-loop-at
invariant-loop-at l = record {
  room : l.written + (length l.line + length l.rest) ≤ length l.initial.line + length l.piece;
  text : (more : List ℕ) → clean_from l.initial.line (l.piece ++ more) ≡ take l.written l.out ++ clean_from l.line (l.rest ++ more);
}

abbrev pub decreases-loop-at : goal.decreases-loop-at
decreases-loop-at l = length l.rest
