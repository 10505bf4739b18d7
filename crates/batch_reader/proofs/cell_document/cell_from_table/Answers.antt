use Rattle.std.proofs.lemmas.Result.{err_from_is_err_and}
use Rattle.toml.specs.View.{table_view}
use Rattle.batch_reader.{proofs.OneCell.unsound_refused, proofs.ArrayFaults.at_told, proofs.ArrayFaults.in_among, proofs.ArrayFaults.in_told, proofs.ArrayFaults.tells_weaker, specs.FaultStands.IsWrongAt, proofs.EntryFaults.name_told, proofs.EntryFaults.table_told, specs.declared.fault.TableKind.TheVariants.Cell, specs.declared.fault.TableKind.TheVariants.Unit, specs.declared.fault.TableKind.TheVariants.Module, specs.declared.fault.TableKind.TheVariants.Shared, specs.Faults.is_of_cell}
use Rattle.std.proofs.Common.{inl, inr, refl}
use Rattle.batch_reader.proofs.cell_document.cell_from_table.Goals as goal

pub returns-in_err-units-clause-refused : goal.returns-in_err-units-clause-refused
returns-in_err-units-clause-refused c =
    let p = err_from_is_err_and c.from_residual-in_err-units.result c.from_residual-in_err-units.ensures.1 in
    rw (p.1, p.2) (λ known cell h. c.in_err-units.ensures.refused known cell.units.items h.units)

pub returns-in_err-modules-clause-refused : goal.returns-in_err-modules-clause-refused
returns-in_err-modules-clause-refused c =
    let p = err_from_is_err_and c.from_residual-in_err-modules.result c.from_residual-in_err-modules.ensures.1 in
    rw (p.1, p.2) (λ known cell h. c.in_err-modules.ensures.refused known cell.modules.items h.modules)

pub returns-in_err-shared-clause-refused : goal.returns-in_err-shared-clause-refused
returns-in_err-shared-clause-refused c =
    let p = err_from_is_err_and c.from_residual-in_err-shared.result c.from_residual-in_err-shared.ensures.1 in
    rw (p.1, p.2) (λ known cell h. c.in_err-shared.ensures.refused known cell.shared.items h.shared)

pub returns-in_err-check_equipment-clause-refused : goal.returns-in_err-check_equipment-clause-refused
returns-in_err-check_equipment-clause-refused c =
    let p = err_from_is_err_and c.from_residual-in_err-check_equipment.result c.from_residual-in_err-check_equipment.ensures.1 in
    rw (p.1, p.2) (λ known. unsound_refused _ c.in_ok-units.units.items c.in_ok-modules.modules.items c.in_ok-shared.shared.items
    c.in_ok-units.ensures.ok c.in_ok-modules.ensures.ok c.in_ok-shared.ensures.ok
    (rw (c.deref.ensures.value, c.deref-2.ensures.value, c.deref-3.ensures.value) at (c.in_err-check_equipment.ensures.refused known)))

pub returns-in_err-name-clause-stands : goal.returns-in_err-name-clause-stands
returns-in_err-name-clause-stands c =
    let p = err_from_is_err_and c.from_residual.result c.from_residual.ensures.1 in
    rw (p.1, p.2) (at_told _ _ (IsWrongAt _) (λ wrong h. inl (refl, h)) _ (table_told Cell (table_view c.args.table.now) 0 _ refl refl _ _ (name_told _ (table_view c.args.table.now) _ _ c.in_err-name.ensures.refused c.in_err-name.ensures.told)))

pub returns-in_err-units-clause-told : goal.returns-in_err-units-clause-told
returns-in_err-units-clause-told c =
    let p = err_from_is_err_and c.from_residual-in_err-units.result c.from_residual-in_err-units.ensures.1 in
    rw (p.1, p.2) (in_among is_of_cell Unit _ refl _ c.in_err-units.ensures.told)

pub returns-in_err-units-clause-stands : goal.returns-in_err-units-clause-stands
returns-in_err-units-clause-stands c =
    let p = err_from_is_err_and c.from_residual-in_err-units.result c.from_residual-in_err-units.ensures.1 in
    rw (p.1, p.2) (in_told Unit _ (IsWrongAt (table_view c.args.table.now)) (λ entry wrong h. inl h) _ c.in_err-units.ensures.told)

pub returns-in_err-modules-clause-told : goal.returns-in_err-modules-clause-told
returns-in_err-modules-clause-told c =
    let p = err_from_is_err_and c.from_residual-in_err-modules.result c.from_residual-in_err-modules.ensures.1 in
    rw (p.1, p.2) (in_among is_of_cell Module _ refl _ c.in_err-modules.ensures.told)

pub returns-in_err-modules-clause-stands : goal.returns-in_err-modules-clause-stands
returns-in_err-modules-clause-stands c =
    let p = err_from_is_err_and c.from_residual-in_err-modules.result c.from_residual-in_err-modules.ensures.1 in
    rw (p.1, p.2) (in_told Module _ (IsWrongAt (table_view c.args.table.now)) (λ entry wrong h. inl h) _ c.in_err-modules.ensures.told)

pub returns-in_err-shared-clause-told : goal.returns-in_err-shared-clause-told
returns-in_err-shared-clause-told c =
    let p = err_from_is_err_and c.from_residual-in_err-shared.result c.from_residual-in_err-shared.ensures.1 in
    rw (p.1, p.2) (in_among is_of_cell Shared _ refl _ c.in_err-shared.ensures.told)

pub returns-in_err-shared-clause-stands : goal.returns-in_err-shared-clause-stands
returns-in_err-shared-clause-stands c =
    let p = err_from_is_err_and c.from_residual-in_err-shared.result c.from_residual-in_err-shared.ensures.1 in
    rw (p.1, p.2) (in_told Shared _ (IsWrongAt (table_view c.args.table.now)) (λ entry wrong h. inl h) _ c.in_err-shared.ensures.told)

pub returns-in_err-check_equipment-clause-told : goal.returns-in_err-check_equipment-clause-told
returns-in_err-check_equipment-clause-told c =
    let p = err_from_is_err_and c.from_residual-in_err-check_equipment.result c.from_residual-in_err-check_equipment.ensures.1 in
    rw (p.1, p.2) c.in_err-check_equipment.ensures.told

pub returns-in_err-check_equipment-clause-stands : goal.returns-in_err-check_equipment-clause-stands
returns-in_err-check_equipment-clause-stands c =
    let p = err_from_is_err_and c.from_residual-in_err-check_equipment.result c.from_residual-in_err-check_equipment.ensures.1 in
    rw (p.1, p.2) (tells_weaker _ (IsWrongAt (table_view c.args.table.now)) (λ spot wrong h. inr (inl (record {
      equipment = record { units = c.in_ok-units.units.items; modules = c.in_ok-modules.modules.items; shared = c.in_ok-shared.shared.items };
      units = c.in_ok-units.ensures.ok;
      modules = c.in_ok-modules.ensures.ok;
      shared = c.in_ok-shared.ensures.ok;
      fault = h;
    }))) _ (rw (c.deref.ensures.value, c.deref-2.ensures.value, c.deref-3.ensures.value) at c.in_err-check_equipment.ensures.stands))
