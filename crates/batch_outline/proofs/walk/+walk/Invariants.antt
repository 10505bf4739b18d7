use Rattle.std.proofs.Common.{◌≡◌, ◌+◌, ◌*◌, ◌++◌, drop, map, string_bytes}
use Rattle.batch_recipe.{specs.Procedure.tables_from, specs.Diagram.diagram_of, specs.Diagram.diagrams_of, specs.Diagram.cases_of, proofs.NodeCounts.counted, proofs.NodeCounts.counted_each, proofs.NodeCounts.counted_cases, proofs.NodeCounts.counted_act, proofs.NodeCounts.counted_name}
use Rattle.batch_outline.specs.Along.{choice_lines, part_lines}
use Rattle.batch_outline.proofs.walk.+walk.Given as goal

abbrev pub decreases-put_act : goal.decreases-put_act
decreases-put_act l = 3 * counted_act (counted_name (tables_from l.recipe.now.acts l.level)) l.act.now

abbrev pub decreases-put_chart : goal.decreases-put_chart
decreases-put_chart l = 3 * counted (counted_name (tables_from l.recipe.now.acts l.level)) (diagram_of l.chart.now) + 2

abbrev pub decreases-put_label : goal.decreases-put_label
decreases-put_label l = 3 * counted_name (tables_from l.recipe.now.acts l.level) l.name.now + 1

abbrev pub decreases-put_parts : goal.decreases-put_parts
decreases-put_parts l = 3 * counted_each (counted_name (tables_from l.recipe.now.acts l.level)) (diagrams_of (map diagram_of l.parts.now)) + 3

abbrev pub decreases-put_choices : goal.decreases-put_choices
decreases-put_choices l = 3 * counted_cases (counted_name (tables_from l.recipe.now.acts l.level)) (cases_of (map (λ choice. (choice.0, diagram_of choice.1)) l.choices.now) (diagram_of l.last.now)) + 3

abbrev pub decreases-put_loop : goal.decreases-put_loop
decreases-put_loop l = 3 * counted (counted_name (tables_from l.recipe.now.acts l.level)) (diagram_of l.turn.now.1) + 3

abbrev pub invariant-put_parts-loop-child : goal.invariant-put_parts-loop-child
invariant-put_parts-loop-child l =
    string_bytes l.text ++ part_lines l.recipe l.level l.seat.place.now l.seat.held.now l.child (drop l.child l.parts)
    ≡ string_bytes l.initial.text ++ part_lines l.recipe l.level l.seat.place.now l.seat.held.now 0 l.parts

abbrev pub invariant-put_choices-loop-child : goal.invariant-put_choices-loop-child
invariant-put_choices-loop-child l =
    string_bytes l.text ++ choice_lines l.recipe l.level l.seat.place.now l.seat.held.now l.child (drop l.child l.choices) l.last
    ≡ string_bytes l.initial.text ++ choice_lines l.recipe l.level l.seat.place.now l.seat.held.now 0 l.choices l.last
