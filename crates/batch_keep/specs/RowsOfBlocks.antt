-- worked rows: recovery blocks, and which lines they count.
use Rattle.std.specs.Prelude.{◌≡◌, List, ℕ, true, false, [], ◌∷◌, codes}
use Rattle.batch_keep.specs.Blocks.{recovery_block_text}
use Rattle.batch_keep.specs.Counts.{count_of, own_lines, sent_lines}

-- a line that `run` kept, and lines of two desks
abbrev pub two_desks : List (List ℕ)
two_desks = codes "create A 1000" ∷ codes "# from A" ∷ codes "start 1" ∷ codes "# from B" ∷ codes "fly" ∷ codes "# from A" ∷ codes "start 2" ∷ []

pub record BlockRows : Type 0 where
  pub none : recovery_block_text 0 [] ≡ codes "# recovered 0 lines\n# end\n"
  pub some : recovery_block_text 3 (codes "# batch 1 A 1000 complete\n") ≡ codes "# recovered 3 lines\n# batch 1 A 1000 complete\n# end\n"
  -- a line that is counted, and lines that aren't
  pub event : count_of true (codes "start 1") ≡ 1
  pub another : count_of false (codes "start 1") ≡ 0
  pub own : count_of true (codes "# sum 0123456789abcdef 7") ≡ 0
  pub comment : count_of true (codes "# from A") ≡ 0
  -- the lines that were sent, and those of each desk
  pub sent : sent_lines two_desks ≡ codes "create A 1000" ∷ codes "start 1" ∷ codes "fly" ∷ codes "start 2" ∷ []
  pub first : own_lines (codes "A") two_desks ≡ codes "start 1" ∷ codes "start 2" ∷ []
  pub second : own_lines (codes "B") two_desks ≡ codes "fly" ∷ []
  pub third : own_lines (codes "C") two_desks ≡ []
