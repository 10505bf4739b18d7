use Rattle.std.proofs.Common.{◌<◌, [], length, get_or, ◌∙◌, ap, arith}
use Rattle.std.specs.HashSet.{keys}
use Rattle.batch_cell.{proofs.OfferedPhases.offered_at, proofs.OfferedPhases.few_unit_phases, proofs.OfferedPhases.length-unit_names, specs.LookUps.units_of}
use Rattle.batch_cell.proofs.cell.Cell.phases_of.Goals as goal

pub returns : goal.returns
returns c =
    let cell = c.args.self.now in
    let below : c.args.unit < length cell.units.items = omega (arith, length-unit_names cell.units.items) in
    record {
      phases = ap keys (c.index.ensures ∙ ap (λ i. get_or cell.offered.items i c.index.result.now) c.from.ensures)
          ∙ offered_at cell.units.items cell.modules.items cell.offered.items c.args.unit c.index.result.now cell.indexed below;
      few = omega (arith, cell.few_modules, few_unit_phases cell.modules.items (get_or (units_of cell) c.args.unit []));
    }
