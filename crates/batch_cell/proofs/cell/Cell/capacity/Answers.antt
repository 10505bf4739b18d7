use Rattle.std.proofs.Common.{◌≡◌, ◌<◌, ◌≤◌, ◌-◌, length, get_or, sym, ap, ◌∙◌, arith, rules}
use Rattle.batch_cell.{proofs.Resources.capacity_of_equipment, proofs.Resources.capacity_of_shared, specs.LookUps.resources_of}
use Rattle.batch_cell.proofs.cell.Cell.capacity.Goals as goal

pub returns-then-number-first_shared : goal.returns-then-number-first_shared
returns-then-number-first_shared c =
    let cell = c.args.self.now in
    let all : c.len.result ≡ length (resources_of cell) = c.len.ensures.len ∙ ap length cell.named in
    let shared : c.len-2.result ≡ length cell.shared.items = search rules in
    let before : c.args.resource < c.len.result - length cell.shared.items = omega (arith, shared) in
    sym (capacity_of_equipment cell.units.items cell.modules.items cell.shared.items c.args.resource c.len.result all before)

pub returns-else-number-first_shared : goal.returns-else-number-first_shared
returns-else-number-first_shared c =
    let cell = c.args.self.now in
    let all : c.len.result ≡ length (resources_of cell) = c.len.ensures.len ∙ ap length cell.named in
    let shared : c.len-2.result ≡ length cell.shared.items = search rules in
    let past : c.len.result - length cell.shared.items ≤ c.args.resource = omega (arith, shared) in
    let below : c.args.resource < c.len.result = omega (arith, all) in
    let read : c.index.result.now ≡ get_or cell.shared.items (c.args.resource - (c.len.result - length cell.shared.items)) c.index.result.now =
    c.index.ensures ∙ ap (λ i. get_or cell.shared.items i c.index.result.now) (omega (arith, shared)) in
    ap (λ s. s.capacity) read ∙ sym (capacity_of_shared cell.units.items cell.modules.items cell.shared.items c.args.resource c.len.result c.index.result.now all past below)
