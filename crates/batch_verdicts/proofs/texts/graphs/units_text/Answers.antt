use Rattle.std.proofs.Common.{◌<◌, ◌++◌, ◌∙◌, [], length, ap, rules}
use Rattle.batch_verdicts.specs.GraphTexts.{unit_box_text}
use Rattle.batch_verdicts.proofs.texts.graphs.units_text.Goals as goal
use Rattle.batch_outline.proofs.LineSeats.{texts_more}

pub loop-unit-preserved : goal.loop-unit-preserved
loop-unit-preserved c =
    let units = c.args.units.now in
    let within : c.loop-unit.unit-index < length units = search rules in
    c.in_ok-writeln.ensures.bytes ∙ ap (λ text. text ++ unit_box_text c.unit-item.result) c.loop-unit.invariant
    ∙ texts_more unit_box_text [] units c.loop-unit.unit-index c.unit-item.result c.unit-item.result within c.unit-item.is
