-- The record that leads to the engine's plant tells its holders, its asks and its live phases, and these are in order.
use Rattle.std.proofs.Common.{[]}
use Rattle.batch_model.specs.{Plant.opening, Cleared.CanBeCleared, Standing.HasPlacedTrees, Standing.IsStanding}
use Rattle.batch_step_laws.proofs.PlantAlongRecord.{led-stands, opening-stands}
use Rattle.batch_record_laws.{specs.Telling.IsTold, proofs.ClearanceDownTrees.AreClearedDown, proofs.ClearanceOverNodes.cleared-down, proofs.Sets.sets_are_documents, proofs.PlantByRecord.tells_the_plant, proofs.InvariantAlongRecord.kept-along, proofs.InvariantAlongRecord.kept-at_first, proofs.InvariantAlongRecord.placed-trees}
use Rattle.batch_record_laws.proofs.Invariant as Safety
use Rattle.batch_verify.specs.ClearedSet.{ClearedSet}
use Rattle.batch_engine.specs.{View.EngineView, View.setup, View.plant_of, Kept.IsKept}

module _ (c : ClearedSet) (cleared : CanBeCleared (setup c)) where
  pub down : AreClearedDown (setup c) cleared.0
  down = cleared-down (setup c) cleared.0 (sets_are_documents c.cell c.recipes) cleared.1

  pub placed : HasPlacedTrees (setup c)
  placed = placed-trees (setup c) cleared.0 down

module _ (v : EngineView) (k : IsKept v) where
  pub told : IsTold k.tracked.outs (plant_of v)
  told = tells_the_plant (setup v.cleared) k.cleared.0 (down v.cleared k.cleared) k.tracked.events k.tracked.outs (plant_of v) k.tracked.leads

  pub standing : IsStanding (setup v.cleared) (plant_of v)
  standing = led-stands (setup v.cleared) (placed v.cleared k.cleared) k.tracked.events k.tracked.outs (plant_of v) k.tracked.leads

  pub safe : Safety.IsKept (setup v.cleared) k.cleared.0 k.tracked.outs (plant_of v)
  safe =
      kept-along (setup v.cleared) k.cleared.0 (down v.cleared k.cleared) [] opening (opening-stands (setup v.cleared)) (kept-at_first (setup v.cleared) k.cleared.0)
      k.tracked.events k.tracked.outs (plant_of v) k.tracked.leads
