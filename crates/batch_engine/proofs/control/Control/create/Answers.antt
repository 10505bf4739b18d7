use Rattle.std.proofs.Common.{◌≡◌, refl, sym, subst, inl, Some}
use Rattle.std.specs.Prelude.{slice_get}
use Rattle.batch_model.specs.Events as Events
use Rattle.batch_model.specs.Runs.{Reacts}
use Rattle.batch_engine.{specs.Surface.refusal_of, specs.View.EngineView, specs.View.plant_of, specs.View.setup, specs.declared.refusal.Refusal.Refusal, proofs.CreateAnswers.can-create, proofs.CreateAnswers.refused-for, proofs.BatchLookups.got-chart}
use Rattle.batch_engine.proofs.control.Control.create.Goals as goal
use Rattle.batch_engine.proofs.control.Control.create.Goals.{After-recipe}

-- the recipe that was chosen
read : (c : After-recipe) → slice_get c.args.self.now.cleared.recipes c.in-Ok.choice.recipe ≡ Some c.recipe.result.now
read c = got-chart c.args.self.now _ c.in-Ok.choice.recipe c.recipe.result.now c.self.view_is c.recipe.ensures

pub returns-in-Err : goal.returns-in-Err
returns-in-Err c = record { cleared = refl; reacts = inl (c.in-Err.ensures c.args.size).says }

pub add-requires : goal.add-requires
add-requires c =
    let v : EngineView = c.args.self.now in (
      c.args.name.now,
      c.args.pairs.now,
      can-create v c.args.name.now c.args.size c.args.pairs.now c.in-Ok.choice.recipe c.recipe.result.now c.requires (read (goal.at.add-requires c).After-recipe) c.in-Ok.choice.units c.in-Ok.ensures
          c.in-Ok-values_for.values c.in-Ok-values_for.ensures,
    )

pub returns-in-Ok-values_for : goal.returns-in-Ok-values_for
returns-in-Ok-values_for c =
    let v : EngineView = c.args.self.now in
    c.add.ensures c.args.name.now c.args.pairs.now
    (can-create v c.args.name.now c.args.size c.args.pairs.now c.in-Ok.choice.recipe c.recipe.result.now c.requires (read (goal.at.returns-in-Ok-values_for c).After-recipe) c.in-Ok.choice.units
    c.in-Ok.ensures c.in-Ok-values_for.values c.in-Ok-values_for.ensures)

pub returns-in-Err-values_for : goal.returns-in-Err-values_for
returns-in-Err-values_for c =
    let v : EngineView = c.args.self.now in
    record {
      cleared = refl;
      reacts = subst (λ (x : Refusal). Reacts (setup v.cleared) (plant_of v) (Events.create c.args.name.now c.args.size c.args.pairs.now) (Events.refused (refusal_of v.cleared x)) (plant_of v)) (sym c.refusal_for.ensures)
          (refused-for v c.args.name.now c.args.size c.args.pairs.now c.in-Ok.choice.recipe c.recipe.result.now c.requires (read (goal.at.returns-in-Err-values_for c).After-recipe) c.in-Ok.choice.units
          c.in-Ok.ensures c.in-Err-values_for.bad c.in-Err-values_for.ensures);
    }
