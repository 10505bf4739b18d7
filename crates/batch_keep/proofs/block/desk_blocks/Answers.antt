use Rattle.std.proofs.Common.{length, ◌∙◌, ap, arith}
use Rattle.batch_journal.specs.Journals.{recovered}
use Rattle.batch_keep.{specs.Blocks.recovery_block_text, specs.Counts.own_lines, proofs.RecoveryBlock.blocks_so_far}
use Rattle.batch_keep.proofs.block.desk_blocks.Goals as goal

pub loop-name-preserved : goal.loop-name-preserved
loop-name-preserved c =
    let rows = c.args.rows.now in
    let lines = recovered c.args.documents.now c.args.text.now in
    record {
      blocks = blocks_so_far (λ name. recovery_block_text (length (own_lines name lines)) rows) c.args.names.now c.loop-name.blocks.items _ c.loop-name.name-index c.name-item.result _ (omega arith) c.name-item.is
          c.loop-name.invariant.blocks (c.new.ensures ∙ c.in_ok-block.ensures ∙ ap (λ n. recovery_block_text n rows) c.own_count-count.ensures) c.in_ok-push.ensures.items;
    }
