use Rattle.std.proofs.Common.{◌≡◌, length, map, take}
use Rattle.batch_journal.specs.Journals.{recovered}
use Rattle.batch_keep.specs.{Blocks.recovery_block_text, Counts.own_lines}
use Rattle.batch_keep.proofs.block.desk_blocks.Given as goal

-- the blocks of the desks so far
abbrev pub invariant-loop-name : goal.invariant-loop-name
invariant-loop-name l = record {
  blocks : l.blocks.items ≡ map (λ name. recovery_block_text (length (own_lines name (recovered l.documents l.text))) l.rows) (take l.name-index l.names);
}
