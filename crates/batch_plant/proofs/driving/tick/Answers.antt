use Rattle.std.proofs.Common.{◌∙◌, IsSome, Option, option_map, refl, sym, ap, subst}
use Rattle.std.proofs.lemmas.Result.{err_from_is_err_and}
use Rattle.batch_model.specs.Events.{Event}
use Rattle.batch_verify.specs.ClearedSet.{ClearedSet}
use Rattle.batch_engine.specs.{Surface.event_of, View.plant_of}
use Rattle.batch_plant.{specs.Drive.Standing, proofs.Deeds.report_numbered, proofs.TickEffects.quiet_tick, proofs.TickEffects.handled_tick, proofs.TickEffects.cut_tick, proofs.TickEffects.lost_tick}
use Rattle.batch_plant.proofs.driving.tick.Goals as goal

pub returns-in_default-clause-driven : goal.returns-in_default-clause-driven
returns-in_default-clause-driven g c =
    let old : Standing g.row.D.Denot = record { plant = plant_of c.args.engine.now; units = c.args.units.now } in
    let new : Standing g.row.D.Denot = record { plant = plant_of c.args.engine.now; units = c.tick.new.self } in
    quiet_tick g.D.UnitDriver.command_gives g.D.UnitDriver.tick_gives c.args.engine.now.cleared c.args.unit old new _ _ c.in_default.ensures refl refl

pub returns-in-None-clause-driven : goal.returns-in-None-clause-driven
returns-in-None-clause-driven g c =
    let old : Standing g.row.D.Denot = record { plant = plant_of c.args.engine.now; units = c.args.units.now } in
    let new : Standing g.row.D.Denot = record { plant = plant_of c.args.engine.now; units = c.tick.new.self } in
    let cell = c.cell-cell.ensures.value ∙ ap (λ (k : ClearedSet). k.cell) c.cleared.ensures.value in
    let told = c.in-Ok.ensures.event
    ∙ report_numbered c.args.engine.now.cleared.cell _ c.args.unit c.in-Some.phase c.in-Some.word _ _ cell c.name_of.ensures c.phase_name-phase.ensures in
    quiet_tick g.D.UnitDriver.command_gives g.D.UnitDriver.tick_gives c.args.engine.now.cleared c.args.unit old new _ _ c.in-Some.ensures refl
    (sym told ∙ ap (option_map event_of) c.in-None.is)

pub returns-in_default-report_event-clause-driven : goal.returns-in_default-report_event-clause-driven
returns-in_default-report_event-clause-driven g c =
    let old : Standing g.row.D.Denot = record { plant = plant_of c.args.engine.now; units = c.args.units.now } in
    let new : Standing g.row.D.Denot = record { plant = plant_of c.args.engine.now; units = c.tick.new.self } in
    let cell = c.cell-cell.ensures.value ∙ ap (λ (k : ClearedSet). k.cell) c.cleared.ensures.value in
    let numbered = report_numbered c.args.engine.now.cleared.cell _ c.args.unit c.in-Some.phase c.in-Some.word _ _ cell c.name_of.ensures c.phase_name-phase.ensures in
    lost_tick g.D.UnitDriver.command_gives g.D.UnitDriver.tick_gives c.args.engine.now.cleared c.args.unit old new _ _ c.in-Some.ensures refl
    (subst (λ (event : Option Event). IsSome event) numbered c.in_default-report_event.ensures.lost)

pub returns-in_ok-handle-in-Some-event-clause-driven : goal.returns-in_ok-handle-in-Some-event-clause-driven
returns-in_ok-handle-in-Some-event-clause-driven g c =
    let old : Standing g.row.D.Denot = record { plant = plant_of c.args.engine.now; units = c.args.units.now } in
    let mid : Standing g.row.D.Denot = record { plant = plant_of c.args.engine.now; units = c.tick.new.self } in
    let new : Standing g.row.D.Denot = record { plant = plant_of c.handle.new.engine; units = c.handle.new.units } in
    let cell = c.cell-cell.ensures.value ∙ ap (λ (k : ClearedSet). k.cell) c.cleared.ensures.value in
    let told = c.in-Ok.ensures.event
    ∙ report_numbered c.args.engine.now.cleared.cell _ c.args.unit c.in-Some.phase c.in-Some.word _ _ cell c.name_of.ensures c.phase_name-phase.ensures in
    handled_tick g.D.UnitDriver.command_gives g.D.UnitDriver.tick_gives c.args.engine.now.cleared c.args.unit old mid new _ _ _ _ c.in-Some.ensures refl
    (sym told ∙ ap (option_map event_of) c.in-Some-event.is) c.in_ok-handle-in-Some-event.ensures.reported

pub returns-in_err-handle-in-Some-event-clause-driven : goal.returns-in_err-handle-in-Some-event-clause-driven
returns-in_err-handle-in-Some-event-clause-driven g c =
    let old : Standing g.row.D.Denot = record { plant = plant_of c.args.engine.now; units = c.args.units.now } in
    let mid : Standing g.row.D.Denot = record { plant = plant_of c.args.engine.now; units = c.tick.new.self } in
    let new : Standing g.row.D.Denot = record { plant = plant_of c.handle.new.engine; units = c.handle.new.units } in
    let p = err_from_is_err_and c.from_residual.result c.from_residual.ensures.1 in
    let cell = c.cell-cell.ensures.value ∙ ap (λ (k : ClearedSet). k.cell) c.cleared.ensures.value in
    let told = c.in-Ok.ensures.event
    ∙ report_numbered c.args.engine.now.cleared.cell _ c.args.unit c.in-Some.phase c.in-Some.word _ _ cell c.name_of.ensures c.phase_name-phase.ensures in
    rw (p.1, p.2) (cut_tick g.D.UnitDriver.command_gives g.D.UnitDriver.tick_gives c.args.engine.now.cleared c.args.unit old mid new _ _ _ _ _ c.in-Some.ensures refl
    (sym told ∙ ap (option_map event_of) c.in-Some-event.is) c.in_err-handle-in-Some-event.ensures.reported)
