use Rattle.std.proofs.lemmas.Result.{err_from_is_err_and}
use Rattle.batch_reader.{proofs.FaultsAmongTables.kind_told, proofs.FaultsAmongTables.wrong_told, specs.PartFaults.Equipment, specs.PartFaults.HasNameTwice, specs.PartFaults.IsEquipmentFault, specs.PartFaults.OffersTwice, specs.declared.fault.TableKind.TheVariants.Module}
use Rattle.std.proofs.Common.{inl, inr}
use Rattle.batch_reader.proofs.equipment.check_equipment.Goals as goal

pub returns-in_err-check_names-clause-refused : goal.returns-in_err-check_names-clause-refused
returns-in_err-check_names-clause-refused c =
    let p = err_from_is_err_and c.from_residual-in_err-check_names.result c.from_residual-in_err-check_names.ensures.1 in
    rw (p.1, p.2) (λ known sound. c.in_err-check_names.ensures.refused known sound.declared_once)

pub returns-in_err-check_names-clause-told : goal.returns-in_err-check_names-clause-told
returns-in_err-check_names-clause-told c =
    let p = err_from_is_err_and c.from_residual-in_err-check_names.result c.from_residual-in_err-check_names.ensures.1 in
    rw (p.1, p.2) (c.in_err-check_names.ensures.told.0)

pub returns-in_err-check_names-clause-stands : goal.returns-in_err-check_names-clause-stands
returns-in_err-check_names-clause-stands c =
    let p = err_from_is_err_and c.from_residual-in_err-check_names.result c.from_residual-in_err-check_names.ensures.1 in
    let e : Equipment = record { units = c.args.units.now; modules = c.args.modules.now; shared = c.args.shared.now } in
    rw (p.1, p.2) (wrong_told _ (λ spot _. HasNameTwice e spot.kind spot.entry) (λ spot. IsEquipmentFault e spot.kind spot.entry) (λ spot wrong is h. inr (inl (is, h))) _ c.in_err-check_names.ensures.told.1 c.in_err-check_names.ensures.stands)

pub returns-in_err-check_units-clause-refused : goal.returns-in_err-check_units-clause-refused
returns-in_err-check_units-clause-refused c =
    let p = err_from_is_err_and c.from_residual-in_err-check_units.result c.from_residual-in_err-check_units.ensures.1 in
    rw (p.1, p.2) (λ known sound. c.in_err-check_units.ensures.refused sound.declared_units)

pub returns-in_err-check_offered_phases-clause-refused : goal.returns-in_err-check_offered_phases-clause-refused
returns-in_err-check_offered_phases-clause-refused c =
    let p = err_from_is_err_and c.from_residual-in_err-check_offered_phases.result c.from_residual-in_err-check_offered_phases.ensures.1 in
    rw (p.1, p.2) (λ known sound. c.in_err-check_offered_phases.ensures.refused known sound.phases_once)

pub returns-in_err-check_offered_phases-clause-stands : goal.returns-in_err-check_offered_phases-clause-stands
returns-in_err-check_offered_phases-clause-stands c =
    let p = err_from_is_err_and c.from_residual-in_err-check_offered_phases.result c.from_residual-in_err-check_offered_phases.ensures.1 in
    let e : Equipment = record { units = c.args.units.now; modules = c.args.modules.now; shared = c.args.shared.now } in
    rw (p.1, p.2) (kind_told Module _ (OffersTwice c.args.units.now c.args.modules.now) (λ spot. IsEquipmentFault e spot.kind spot.entry) (λ entry wrong is h. inr (inr (inr (is, h)))) _ c.in_err-check_offered_phases.ensures.told c.in_err-check_offered_phases.ensures.stands)
