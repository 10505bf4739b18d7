use Rattle.std.proofs.Common.{◌+◌, ◌*◌, map}
use Rattle.batch_recipe.{specs.Procedure.tables_from, specs.Diagram.diagram_of, specs.Diagram.diagrams_of, specs.Diagram.cases_of, proofs.NodeCounts.counted, proofs.NodeCounts.counted_each, proofs.NodeCounts.counted_cases, proofs.NodeCounts.counted_act, proofs.NodeCounts.counted_name, proofs.Growth.KeepsGrowing, proofs.Growth.KeepsChoosing}
use Rattle.batch_recipe.proofs.growing.+grow.Given as goal

abbrev pub decreases-grow_act : goal.decreases-grow_act
decreases-grow_act l = 4 * counted_act (counted_name (tables_from l.labels.now.acts.now l.seat.level)) l.act.now

abbrev pub decreases-grow : goal.decreases-grow
decreases-grow l = 4 * counted (counted_name (tables_from l.labels.now.acts.now l.seat.level)) (diagram_of l.chart.now) + 2

abbrev pub decreases-grow_part : goal.decreases-grow_part
decreases-grow_part l = 4 * counted (counted_name (tables_from l.labels.now.acts.now l.seat.level)) (diagram_of l.part.now) + 3

abbrev pub decreases-grow_label : goal.decreases-grow_label
decreases-grow_label l = 4 * counted_name (tables_from l.labels.now.acts.now l.seat.level) l.name.now + 1

abbrev pub decreases-grow_parts : goal.decreases-grow_parts
decreases-grow_parts l = 4 * counted_each (counted_name (tables_from l.labels.now.acts.now l.seat.level)) (diagrams_of (map diagram_of l.parts.now)) + 5

abbrev pub decreases-grow_each : goal.decreases-grow_each
decreases-grow_each l = 4 * counted_each (counted_name (tables_from l.labels.now.acts.now l.seat.level)) (diagrams_of (map diagram_of l.parts.now)) + 4

abbrev pub decreases-grow_selection : goal.decreases-grow_selection
decreases-grow_selection l = 4 * counted_cases (counted_name (tables_from l.labels.now.acts.now l.seat.level)) (cases_of (map (λ choice. (choice.0, diagram_of choice.1)) l.choices.now) (diagram_of l.last.now)) + 5

abbrev pub decreases-grow_choices : goal.decreases-grow_choices
decreases-grow_choices l = 4 * counted_cases (counted_name (tables_from l.labels.now.acts.now l.seat.level)) (cases_of (map (λ choice. (choice.0, diagram_of choice.1)) l.choices.now) (diagram_of l.last.now)) + 4

abbrev pub decreases-grow_loop : goal.decreases-grow_loop
decreases-grow_loop l = 4 * counted (counted_name (tables_from l.labels.now.acts.now l.seat.level)) (diagram_of l.turn.now.1) + 3

abbrev pub invariant-grow_each-loop-part : goal.invariant-grow_each-loop-part
invariant-grow_each-loop-part l = KeepsGrowing l.labels.acts.now l.seat.level l.seat.unit l.seat.parent l.parts l.initial.nodes.items l.initial.conditions.items l.part-index l.child l.nodes.items l.conditions.items

abbrev pub invariant-grow_choices-loop-choice : goal.invariant-grow_choices-loop-choice
invariant-grow_choices-loop-choice l = KeepsChoosing l.labels.acts.now l.seat.level l.seat.unit l.seat.parent l.choices l.last l.initial.nodes.items l.initial.conditions.items l.choice-index l.child l.nodes.items l.conditions.items
