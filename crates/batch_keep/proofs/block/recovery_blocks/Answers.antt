use Rattle.std.proofs.Common.{ℕ, List, length, map, ◌∙◌, ap, subst}
use Rattle.batch_engine.specs.View.{setup, plant_of}
use Rattle.batch_journal.specs.Journals.{recovered}
use Rattle.batch_record.specs.StatusReading.{LeadsTo}
use Rattle.batch_keep.{specs.Blocks.recovery_block_text, specs.Counts.own_lines, proofs.RecoveryBlock.are_blocks}
use Rattle.batch_keep.proofs.block.recovery_blocks.Goals as goal

pub returns-clause-blocks : goal.returns-clause-blocks
returns-clause-blocks c =
    let status = c.in_ok-status.ensures in
    let stage = status.0 in
    are_blocks (setup c.args.engine.now.cleared) (plant_of c.args.engine.now) (plant_of c.replayed.new.engine) (recovered c.args.documents.now c.args.text.now) c.args.names.now
    c.in_ok-record.record.items c.in_ok-block.block.items c.in_ok-desks.desks.items c.sent_count.result stage c.in_ok-rows.rows.items
    c.in_ok-record.ensures.replayed (subst (λ l. LeadsTo l stage) c.deref.ensures.value status.1) (c.in_ok-rows.ensures stage.tale status.2) c.sent_count.ensures
    (c.in_ok-block.ensures ∙ ap (λ (r : List ℕ). recovery_block_text c.sent_count.result r) c.deref-2.ensures.value)
    (c.in_ok-desks.ensures ∙ ap (λ (r : List ℕ). map (λ name. recovery_block_text (length (own_lines name (recovered c.args.documents.now c.args.text.now))) r) c.args.names.now) c.deref-3.ensures.value)
