use Rattle.std.proofs.Common.{take}
use Rattle.toml.specs.View.{items_view}
use Rattle.batch_reader.specs.Entries.{AllItems, IsNeedItem}
use Rattle.batch_reader.proofs.needs.needs_of.Given as goal

-- the values so far are the needs so far
abbrev pub invariant-loop-value : goal.invariant-loop-value
invariant-loop-value l = AllItems IsNeedItem (items_view (take l.value-index l.values)) l.needs.items
