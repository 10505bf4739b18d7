use Rattle.std.proofs.Common.{◌≡◌, rules, ◌++◌, [], List, map}
use Rattle.std.proofs.lemmas.Result.{err_from_is_err_and}
use Rattle.batch_cell.specs.{Equipment.unit_names, Equipment.declared_names, declared.module.Module.Module, declared.unit.Unit.Unit}
use Rattle.batch_reader.{proofs.CellNames.declared_units_refused, proofs.CellNames.declared_modules_refused, proofs.FaultsAmongTables.after_names, proofs.FaultsAmongTables.after_no_name, proofs.FaultsAmongTables.twice_told, specs.PartFaults.Equipment, specs.PartFaults.HasNameTwice}
use Rattle.batch_reader.specs.declared.fault.TableKind.TheVariants as table_kind
use Rattle.batch_reader.proofs.resources.add_declared.Goals as goal

pub returns-in_err-add_names-clause-refused : goal.returns-in_err-add_names-clause-refused
returns-in_err-add_names-clause-refused c =
    let p = err_from_is_err_and c.from_residual.result c.from_residual.ensures.1 in
    rw (p.1, p.2) (λ known. declared_units_refused c.args.units.now c.args.modules.now c.args.shared.now c.args.names.now.keys c.requires.none (c.in_err-add_names.ensures.refused known))

pub returns-in_err-add_names-2-clause-refused : goal.returns-in_err-add_names-2-clause-refused
returns-in_err-add_names-2-clause-refused c =
    let p = err_from_is_err_and c.from_residual-in_err-add_names-2.result c.from_residual-in_err-add_names-2.ensures.1 in
    let so_far : c.add_names.new.names.keys ≡ unit_names c.args.units.now = search rules in
    rw (p.1, p.2) (λ known. declared_modules_refused c.args.units.now c.args.modules.now c.args.shared.now c.add_names.new.names.keys so_far (c.in_err-add_names-2.ensures.refused known))

pub returns-in_err-add_names-clause-stands : goal.returns-in_err-add_names-clause-stands
returns-in_err-add_names-clause-stands c =
    let p = err_from_is_err_and c.from_residual.result c.from_residual.ensures.1 in
    let e : Equipment = record { units = c.args.units.now; modules = c.args.modules.now; shared = c.args.shared.now } in
    rw (p.1, p.2) (twice_told (λ (front : List Unit). c.args.names.now.keys ++ map (λ u. u.name) front) (λ front. declared_names front [] []) (after_no_name (λ (u : Unit). u.name) c.args.names.now.keys c.requires.none)
    c.args.units.now table_kind.Unit _ (HasNameTwice e) (λ entry h. h) _ (λ spot wrong is_fault. c.in_err-add_names.ensures.first spot wrong (cc is_fault)) c.in_err-add_names.ensures.told)

pub returns-in_err-add_names-2-clause-stands : goal.returns-in_err-add_names-2-clause-stands
returns-in_err-add_names-2-clause-stands c =
    let p = err_from_is_err_and c.from_residual-in_err-add_names-2.result c.from_residual-in_err-add_names-2.ensures.1 in
    let e : Equipment = record { units = c.args.units.now; modules = c.args.modules.now; shared = c.args.shared.now } in
    let so_far : c.add_names.new.names.keys ≡ unit_names c.args.units.now = search rules in
    rw (p.1, p.2) (twice_told (λ (front : List Module). c.add_names.new.names.keys ++ map (λ m. m.name) front) (λ front. declared_names c.args.units.now front [])
    (after_names (λ (m : Module). m.name) c.add_names.new.names.keys (unit_names c.args.units.now) so_far)
    c.args.modules.now table_kind.Module _ (HasNameTwice e) (λ entry h. h) _ (λ spot wrong is_fault. c.in_err-add_names-2.ensures.first spot wrong (cc is_fault)) c.in_err-add_names-2.ensures.told)
