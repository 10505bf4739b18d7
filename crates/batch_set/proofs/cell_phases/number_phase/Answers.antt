use Rattle.std.proofs.Common.{◌++◌, ◌∷◌, [], ap, ◌∙◌, arith}
use Rattle.std.proofs.lemmas.List.{length-map}
use Rattle.batch_cell.specs.declared.unit.Unit.{Unit}
use Rattle.batch_set.proofs.NumbersOnUnits.{numbers-next}
use Rattle.batch_set.proofs.cell_phases.number_phase.Goals as goal

pub loop-unit-preserved : goal.loop-unit-preserved
loop-unit-preserved c =
    numbers-next c.args.cell.now c.args.phase.now c.args.cell.now.units.items c.loop-unit.unit c.loop-unit.numbers.items c.push.new.self.items
    (omega (arith, c.loop-unit-test.true, c.units-unit-end.ensures, length-map c.args.cell.now.units.items (λ (u : Unit). u.name)))
    (c.in_ok-push.ensures.items ∙ ap (λ o. c.loop-unit.numbers.items ++ o ∷ []) c.phase_number.ensures)
    ∙ c.loop-unit.invariant
