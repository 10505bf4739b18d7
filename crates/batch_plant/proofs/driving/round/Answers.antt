use Rattle.std.proofs.Common.{◌≡◌, ◌∙◌, ◌-◌, ◌+◌, ℕ, ◌∷◌, [], Ok, Err, refl, ap, subst, length, arith}
use Rattle.std.{proofs.lemmas.Result.err_from_is_err_and, specs.List.range_with_len}
use Rattle.batch_cell.specs.{LookUps.units_of, declared.cell.Cell.Cell}
use Rattle.batch_verify.specs.ClearedSet.{ClearedSet}
use Rattle.batch_engine.specs.View.{plant_of}
use Rattle.batch_plant.{specs.Drive.Standing, specs.Handling.DrivesSome, specs.declared.drive_fault.DriveFault.TheVariants.Write, proofs.TickEffects.fewer_left, proofs.TickEffects.left_stopped, proofs.TickEffects.none_left, proofs.TickEffects.none_driven, proofs.TickEffects.not_handed_on, proofs.TickEffects.unit_next, proofs.TickEffects.no_unit}
use Rattle.batch_plant.proofs.driving.round.Goals as goal

pub loop-unit-preserved : goal.loop-unit-preserved
loop-unit-preserved g c =
    let set = c.args.engine.now.cleared in
    let before = c.loop-unit.invariant in
    let first : Standing g.row.D.Denot = record { plant = plant_of c.args.engine.now; units = c.args.units.now } in
    let now : Standing g.row.D.Denot = record { plant = plant_of c.loop-unit.engine; units = c.loop-unit.units } in
    let new : Standing g.row.D.Denot = record { plant = plant_of c.tick.new.engine; units = c.tick.new.units } in
    let step : DrivesSome g.D.UnitDriver.command_gives g.D.UnitDriver.tick_gives set (c.loop-unit.unit ∷ []) now (Ok tt) new (g.W.Write.contents c.loop-unit.writer) (g.W.Write.contents c.tick.new.writer) =
    subst (λ (k : ClearedSet). DrivesSome g.D.UnitDriver.command_gives g.D.UnitDriver.tick_gives k (c.loop-unit.unit ∷ []) now (Ok tt) new (g.W.Write.contents c.loop-unit.writer) (g.W.Write.contents c.tick.new.writer)) before.kept c.in_ok-tick.ensures.driven in
    record {
      kept = c.in_ok-tick.ensures.cleared ∙ before.kept;
      leaves = fewer_left g.D.UnitDriver.command_gives g.D.UnitDriver.tick_gives set (range_with_len 0 c.units-count.result) (c.loop-unit.unit ∷ [])
          (range_with_len (c.loop-unit.unit + 1) (c.units-count.result - (c.loop-unit.unit + 1))) _ first now new _ _ _
          (unit_next c.loop-unit.unit c.units-count.result c.loop-unit-test.true) before.leaves step;
    }

pub returns-in_err-tick-clause-driven : goal.returns-in_err-tick-clause-driven
returns-in_err-tick-clause-driven g c =
    let set = c.args.engine.now.cleared in
    let before = c.loop-unit.invariant in
    let first : Standing g.row.D.Denot = record { plant = plant_of c.args.engine.now; units = c.args.units.now } in
    let now : Standing g.row.D.Denot = record { plant = plant_of c.loop-unit.engine; units = c.loop-unit.units } in
    let new : Standing g.row.D.Denot = record { plant = plant_of c.tick.new.engine; units = c.tick.new.units } in
    let p = err_from_is_err_and c.from_residual.result c.from_residual.ensures.1 in
    let count : c.units-count.result ≡ length (units_of set.cell) =
    c.units-count.ensures ∙ ap (λ (k : Cell). length (units_of k)) (c.cell.ensures.value ∙ ap (λ (k : ClearedSet). k.cell) c.cleared.ensures.value) in
    let step : DrivesSome g.D.UnitDriver.command_gives g.D.UnitDriver.tick_gives set (c.loop-unit.unit ∷ []) now (Err c.in_err-tick.field-0.0) new (g.W.Write.contents c.loop-unit.writer) (g.W.Write.contents c.tick.new.writer) =
    subst (λ (k : ClearedSet). DrivesSome g.D.UnitDriver.command_gives g.D.UnitDriver.tick_gives k (c.loop-unit.unit ∷ []) now (Err c.in_err-tick.field-0.0) new (g.W.Write.contents c.loop-unit.writer) (g.W.Write.contents c.tick.new.writer)) before.kept c.in_err-tick.ensures.driven in
    rw (← count, p.1, p.2) (left_stopped g.D.UnitDriver.command_gives g.D.UnitDriver.tick_gives set (range_with_len 0 c.units-count.result) (c.loop-unit.unit ∷ [])
    (range_with_len (c.loop-unit.unit + 1) (c.units-count.result - (c.loop-unit.unit + 1))) _ first now new c.in_err-tick.field-0.0 _ _ _
    (unit_next c.loop-unit.unit c.units-count.result c.loop-unit-test.true) before.leaves step)

pub returns-in_err-flush-clause-driven : goal.returns-in_err-flush-clause-driven
returns-in_err-flush-clause-driven g c =
    let set = c.args.engine.now.cleared in
    let before = c.loop-unit.invariant in
    let first : Standing g.row.D.Denot = record { plant = plant_of c.args.engine.now; units = c.args.units.now } in
    let now : Standing g.row.D.Denot = record { plant = plant_of c.loop-unit.engine; units = c.loop-unit.units } in
    let p = err_from_is_err_and c.from_residual-in_err-flush.result c.from_residual-in_err-flush.ensures.1 in
    let count : c.units-count.result ≡ length (units_of set.cell) =
    c.units-count.ensures ∙ ap (λ (k : Cell). length (units_of k)) (c.cell.ensures.value ∙ ap (λ (k : ClearedSet). k.cell) c.cleared.ensures.value) in
    rw (← count, p.1, p.2) (none_left g.D.UnitDriver.command_gives g.D.UnitDriver.tick_gives set (range_with_len 0 c.units-count.result) _ first now (Err Write) now _ _ (g.W.Write.contents c.flush.new.writer)
    (no_unit c.loop-unit.unit c.units-count.result (omega arith)) before.leaves
    (not_handed_on g.D.UnitDriver.command_gives g.D.UnitDriver.tick_gives set now _ _ c.flush.ensures))

pub returns-clause-driven : goal.returns-clause-driven
returns-clause-driven g c =
    let set = c.args.engine.now.cleared in
    let before = c.loop-unit.invariant in
    let first : Standing g.row.D.Denot = record { plant = plant_of c.args.engine.now; units = c.args.units.now } in
    let now : Standing g.row.D.Denot = record { plant = plant_of c.loop-unit.engine; units = c.loop-unit.units } in
    let count : c.units-count.result ≡ length (units_of set.cell) =
    c.units-count.ensures ∙ ap (λ (k : Cell). length (units_of k)) (c.cell.ensures.value ∙ ap (λ (k : ClearedSet). k.cell) c.cleared.ensures.value) in
    subst (λ (n : ℕ). DrivesSome g.D.UnitDriver.command_gives g.D.UnitDriver.tick_gives set (range_with_len 0 n) first (Ok tt) now (g.W.Write.contents c.args.writer.now) (g.W.Write.contents c.flush.new.writer)) count
    (none_left g.D.UnitDriver.command_gives g.D.UnitDriver.tick_gives set (range_with_len 0 c.units-count.result) _ first now (Ok tt) now _ _ _
    (no_unit c.loop-unit.unit c.units-count.result (omega arith)) before.leaves
    (none_driven g.D.UnitDriver.command_gives g.D.UnitDriver.tick_gives set now now _ _ refl c.flush.ensures))
