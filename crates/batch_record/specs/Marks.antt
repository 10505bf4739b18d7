-- private: the meaning of the rows and marks that are read of recovery blocks.
use Rattle.batch_record.specs.Reading.{claim_told, phase_told}
use Rattle.batch_record.specs.Blocks as Blocks
use Rattle.batch_record.specs.Kept.{live_at_step}
use Rattle.batch_record.specs.declared.block.Row.{Row}
use Rattle.batch_record.specs.declared.block.Mark.{Mark}

abbrev pub row_told : Row → Blocks.BlockRow
row_told (Row.Batch number recipe size state) = Blocks.batch_row number (record { recipe = recipe.now; size = size; state = state })
row_told (Row.Holds claim) = Blocks.holder_row (claim_told claim)
row_told (Row.Waits claim) = Blocks.waiter_row (claim_told claim)
row_told (Row.Runs step state) = Blocks.live_row (live_at_step (phase_told step) state)

abbrev pub mark_told : Mark → Blocks.Mark
mark_told Mark.Begins = Blocks.begins
mark_told Mark.Ends = Blocks.ends
mark_told (Mark.Row row) = Blocks.row (row_told row)
