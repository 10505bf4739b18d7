use Rattle.std.proofs.Common.{◌<◌, ◌∙◌, Some, Bool, false, ap, length, rules}
use Rattle.std.proofs.lemmas.Option.{slice_get-get_or}
use Rattle.batch_outline.proofs.TrimmedActs.{one_dropped, same_acts}
use Rattle.batch_outline.proofs.trimming.drop_charts.Goals as goal
use Rattle.batch_outline.proofs.trimming.drop_charts.Goals.{then-not-has_node+then-number-acts, else-not-has_node}

pub loop-number-init : goal.loop-number-init
loop-number-init c = same_acts c.args.entries.now c.args.table 0 c.args.acts.now

pub loop-number-preserved : goal.loop-number-preserved
loop-number-preserved c =
    let number = c.loop-number.number in
    let marks = c.acts_with_nodes-marks.result in
    let within : number < length marks = search rules in
    elim c.if-not-has_node.branch [
      | then-not-has_node+then-number-acts w ↦ rw w.acts-is (one_dropped c.args.entries.now c.args.table number c.args.acts.now c.loop-number.acts _ _ c.loop-number.invariant
          w.if-number-acts.true (c.acts_with_nodes-marks.ensures number (slice_get-get_or marks number false within ∙ ap (λ (b : Bool). Some b) w.if-not-has_node.true))
          w.drop_chart.ensures)
      | else-not-has_node w ↦ rw w.acts-is c.loop-number.invariant
    ]
