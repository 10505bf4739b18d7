use Rattle.std.proofs.Common.{◌≡◌, ◌∙◌, ◌-◌, ◌+◌, ℕ, Ok, Err, refl, sym, subst, length, arith}
use Rattle.std.{proofs.lemmas.Result.err_from_is_err_and, specs.List.range_with_len}
use Rattle.batch_cell.specs.LookUps.{units_of}
use Rattle.batch_safety.specs.Sets.{RunsSafely}
use Rattle.batch_verify.specs.ClearedSet.{ClearedSet}
use Rattle.batch_engine.specs.View.{plant_of}
use Rattle.batch_serve.proofs.UnchangedSet.{settled_in}
use Rattle.batch_plant.{specs.Drive.Standing, specs.Drive.in_rounds, specs.Handling.DrivesSome, proofs.TickEffects.fewer_left, proofs.TickEffects.left_stopped, proofs.TickEffects.none_left, proofs.TickEffects.done_driven, proofs.TickEffects.driven, proofs.TickEffects.some_settle, proofs.TickEffects.round_next, proofs.TickEffects.no_round}
use Rattle.batch_plant.proofs.driving.drive.Goals as goal

pub loop-preserved : goal.loop-preserved
loop-preserved g c =
    let set = c.args.engine.now.cleared in
    let before = c.loop.invariant in
    let n : ℕ = length (units_of set.cell) in
    let first : Standing g.row.D.Denot = record { plant = plant_of c.args.engine.now; units = c.args.units.now } in
    let now : Standing g.row.D.Denot = record { plant = plant_of c.loop.engine; units = c.loop.units } in
    let new : Standing g.row.D.Denot = record { plant = plant_of c.round.new.engine; units = c.round.new.units } in
    let step : DrivesSome g.D.UnitDriver.command_gives g.D.UnitDriver.tick_gives set (range_with_len 0 n) now (Ok tt) new (g.W.Write.contents c.loop.writer) (g.W.Write.contents c.round.new.writer) =
    subst (λ (k : ClearedSet). DrivesSome g.D.UnitDriver.command_gives g.D.UnitDriver.tick_gives k (range_with_len 0 (length (units_of k.cell))) now (Ok tt) new (g.W.Write.contents c.loop.writer) (g.W.Write.contents c.round.new.writer)) before.kept c.in_ok-round.ensures.driven in
    record {
      kept = c.in_ok-round.ensures.cleared ∙ before.kept;
      leaves = fewer_left g.D.UnitDriver.command_gives g.D.UnitDriver.tick_gives set (in_rounds n c.args.rounds) (range_with_len 0 n)
          (in_rounds n (c.args.rounds - (c.loop.counter + 1))) _ first now new _ _ _ (round_next n c.loop.counter c.args.rounds c.loop-test.true) before.leaves step;
    }

pub returns-in_err-round-clause-driven : goal.returns-in_err-round-clause-driven
returns-in_err-round-clause-driven g c =
    let set = c.args.engine.now.cleared in
    let before = c.loop.invariant in
    let n : ℕ = length (units_of set.cell) in
    let first : Standing g.row.D.Denot = record { plant = plant_of c.args.engine.now; units = c.args.units.now } in
    let now : Standing g.row.D.Denot = record { plant = plant_of c.loop.engine; units = c.loop.units } in
    let new : Standing g.row.D.Denot = record { plant = plant_of c.round.new.engine; units = c.round.new.units } in
    let p = err_from_is_err_and c.from_residual.result c.from_residual.ensures.1 in
    let runs : RunsSafely set.cell set.recipes = subst (λ (k : ClearedSet). RunsSafely k.cell k.recipes) c.cleared.ensures.value c.cleared_runs_safely.ensures in
    let step : DrivesSome g.D.UnitDriver.command_gives g.D.UnitDriver.tick_gives set (range_with_len 0 n) now (Err c.in_err-round.field-0.0) new (g.W.Write.contents c.loop.writer) (g.W.Write.contents c.round.new.writer) =
    subst (λ (k : ClearedSet). DrivesSome g.D.UnitDriver.command_gives g.D.UnitDriver.tick_gives k (range_with_len 0 (length (units_of k.cell))) now (Err c.in_err-round.field-0.0) new (g.W.Write.contents c.loop.writer) (g.W.Write.contents c.round.new.writer)) before.kept c.in_err-round.ensures.driven in
    rw (p.1, p.2) (driven g.D.UnitDriver.command_gives g.D.UnitDriver.tick_gives set (in_rounds n c.args.rounds) first (Err c.in_err-round.field-0.0) new _ _ runs
    (left_stopped g.D.UnitDriver.command_gives g.D.UnitDriver.tick_gives set (in_rounds n c.args.rounds) (range_with_len 0 n)
    (in_rounds n (c.args.rounds - (c.loop.counter + 1))) _ first now new c.in_err-round.field-0.0 _ _ _ (round_next n c.loop.counter c.args.rounds c.loop-test.true) before.leaves step))

pub returns-in_err-round-clause-settled : goal.returns-in_err-round-clause-settled
returns-in_err-round-clause-settled g c = λ other k.
    let set = c.args.engine.now.cleared in
    let before = c.loop.invariant in
    let n : ℕ = length (units_of set.cell) in
    let first : Standing g.row.D.Denot = record { plant = plant_of c.args.engine.now; units = c.args.units.now } in
    let now : Standing g.row.D.Denot = record { plant = plant_of c.loop.engine; units = c.loop.units } in
    let new : Standing g.row.D.Denot = record { plant = plant_of c.round.new.engine; units = c.round.new.units } in
    let p = err_from_is_err_and c.from_residual.result c.from_residual.ensures.1 in
    let step : DrivesSome g.D.UnitDriver.command_gives g.D.UnitDriver.tick_gives set (range_with_len 0 n) now (Err c.in_err-round.field-0.0) new (g.W.Write.contents c.loop.writer) (g.W.Write.contents c.round.new.writer) =
    subst (λ (k : ClearedSet). DrivesSome g.D.UnitDriver.command_gives g.D.UnitDriver.tick_gives k (range_with_len 0 (length (units_of k.cell))) now (Err c.in_err-round.field-0.0) new (g.W.Write.contents c.loop.writer) (g.W.Write.contents c.round.new.writer)) before.kept c.in_err-round.ensures.driven in
    let told : c.from_residual.result ≡ Err c.in_err-round.field-0.0 = rw (p.1, p.2) refl in
    settled_in set _ (plant_of c.round.new.engine) (sym (c.in_err-round.ensures.cleared ∙ before.kept))
    (some_settle g.D.UnitDriver.command_gives g.D.UnitDriver.tick_gives set (in_rounds n c.args.rounds) first (Err c.in_err-round.field-0.0) new _ _ (λ e. other (told ∙ e)) k
    (left_stopped g.D.UnitDriver.command_gives g.D.UnitDriver.tick_gives set (in_rounds n c.args.rounds) (range_with_len 0 n)
    (in_rounds n (c.args.rounds - (c.loop.counter + 1))) _ first now new c.in_err-round.field-0.0 _ _ _ (round_next n c.loop.counter c.args.rounds c.loop-test.true) before.leaves step))

pub returns-clause-driven : goal.returns-clause-driven
returns-clause-driven g c =
    let set = c.args.engine.now.cleared in
    let n : ℕ = length (units_of set.cell) in
    let first : Standing g.row.D.Denot = record { plant = plant_of c.args.engine.now; units = c.args.units.now } in
    let now : Standing g.row.D.Denot = record { plant = plant_of c.loop.engine; units = c.loop.units } in
    let runs : RunsSafely set.cell set.recipes = subst (λ (k : ClearedSet). RunsSafely k.cell k.recipes) c.cleared.ensures.value c.cleared_runs_safely.ensures in
    driven g.D.UnitDriver.command_gives g.D.UnitDriver.tick_gives set (in_rounds n c.args.rounds) first (Ok tt) now _ (g.W.Write.contents c.loop.writer) runs
    (none_left g.D.UnitDriver.command_gives g.D.UnitDriver.tick_gives set (in_rounds n c.args.rounds) _ first now (Ok tt) now _ (g.W.Write.contents c.loop.writer) _
    (no_round n c.loop.counter c.args.rounds (omega arith)) c.loop.invariant.leaves (done_driven g.D.UnitDriver.command_gives g.D.UnitDriver.tick_gives set now _))

pub returns-clause-settled : goal.returns-clause-settled
returns-clause-settled g c = λ other k.
    let set = c.args.engine.now.cleared in
    let n : ℕ = length (units_of set.cell) in
    let first : Standing g.row.D.Denot = record { plant = plant_of c.args.engine.now; units = c.args.units.now } in
    let now : Standing g.row.D.Denot = record { plant = plant_of c.loop.engine; units = c.loop.units } in
    settled_in set _ (plant_of c.loop.engine) (sym c.loop.invariant.kept)
    (some_settle g.D.UnitDriver.command_gives g.D.UnitDriver.tick_gives set (in_rounds n c.args.rounds) first (Ok tt) now _ (g.W.Write.contents c.loop.writer) other k
    (none_left g.D.UnitDriver.command_gives g.D.UnitDriver.tick_gives set (in_rounds n c.args.rounds) _ first now (Ok tt) now _ (g.W.Write.contents c.loop.writer) _
    (no_round n c.loop.counter c.args.rounds (omega arith)) c.loop.invariant.leaves (done_driven g.D.UnitDriver.command_gives g.D.UnitDriver.tick_gives set now _)))
