use Rattle.std.proofs.Common.{◌≡◌, ap, ◌∙◌, arith, rules, slice_set}
use Rattle.std.proofs.lemmas.List.Edits.{map_over_more}
use Rattle.batch_record.specs.Kept.{phase_changed}
use Rattle.batch_record.proofs.live.change_each.Goals as goal

pub loop-phase-preserved : goal.loop-phase-preserved
loop-phase-preserved c =
    let is : c.change.new.self ≡ phase_changed (c.args.batch, c.args.place.now) c.args.change c.phase-item.result = search rules in
    ap (λ phase. slice_set c.loop-phase.phases c.loop-phase.phase-index phase) is
    ∙ map_over_more (phase_changed (c.args.batch, c.args.place.now) c.args.change) c.args.phases.now c.loop-phase.phases c.loop-phase.phase-index c.phase-item.result
    (omega arith) c.loop-phase.invariant (search rules)
