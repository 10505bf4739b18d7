use Rattle.std.proofs.Common.{◌<◌, ◌≤◌, ◌∙◌, nat_eq, sym, position, length, rules, ap}
use Rattle.std.specs.Cmp.Lexicographic.{pointwise}
use Rattle.batch_cell.proofs.Resources.{resource_is_unit, resource_is_no_unit, no_resource_no_unit}
use Rattle.batch_cell.proofs.cell.Cell.unit_of.Goals as goal

pub returns-in-Some : goal.returns-in-Some
returns-in-Some c =
    let cell = c.args.self.now in
    let eq = pointwise nat_eq c.args.name.now in
    let below : c.in-Some.number < length cell.units.items = search rules in
    sym (resource_is_unit eq cell.units.items cell.modules.items cell.shared.items c.in-Some.number (ap (position eq) (sym cell.named) ∙ sym c.get_index_of.ensures.index ∙ c.in-Some.is) below)

pub returns-in_default : goal.returns-in_default
returns-in_default c =
    let cell = c.args.self.now in
    let eq = pointwise nat_eq c.args.name.now in
    let past : length cell.units.items ≤ c.in-Some.number = search rules in
    sym (resource_is_no_unit eq cell.units.items cell.modules.items cell.shared.items c.in-Some.number (ap (position eq) (sym cell.named) ∙ sym c.get_index_of.ensures.index ∙ c.in-Some.is) past)

pub returns-in_default-2 : goal.returns-in_default-2
returns-in_default-2 c =
    let cell = c.args.self.now in
    let eq = pointwise nat_eq c.args.name.now in
    sym (no_resource_no_unit eq cell.units.items cell.modules.items cell.shared.items (ap (position eq) (sym cell.named) ∙ sym c.get_index_of.ensures.index ∙ c.in_default.is))
