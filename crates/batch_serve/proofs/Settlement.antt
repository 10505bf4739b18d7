-- From a plant that the engine may hold, the machine comes to rest, and each move lowers the work left.
use Rattle.std.proofs.Common.{◌≡◌, ◌<◌, List, [], ◌∷◌, Some, None, map, refl, sym, subst}
use Rattle.batch_cell.specs.declared.cell.Cell.{Cell}
use Rattle.batch_recipe.specs.declared.recipe.Recipe.{Recipe}
use Rattle.batch_model.specs.{Lists.Each, Moves.Move, Moves.after_move, Moves.next, Plant.Setup, Plant.Plant, Runs.Leads, Runs.move, Runs.work_left, Setups.master_of, Standing.HasPlacedTrees, Standing.IsStanding}
use Rattle.batch_step_laws.{specs.Laws.IsExpanded, proofs.PlantAlongRecord.led-stands, proofs.WorkAfterMove.possible-falls, proofs.WorkAfterMove.next-possible, proofs.ActPlaces.expanded-HasPlacedTrees, proofs.Settlement.settling-rests}
use Rattle.batch_verify.specs.ClearedSet.{ClearedSet}
use Rattle.batch_wire.specs.Transcript.{Settles}
use Rattle.batch_engine.specs.{View.EngineView, View.setup, View.plant_of, Led.IsLed}

-- moves that can be made until there is none
pub record CanSettle (c : Setup) (old : Plant) : Type 0 where
  pub moves : List Move
  pub new : Plant
  pub settles : Settles c old moves new

settles_from : (c : Setup) (s t : Plant) (ms : List Move) → Leads c s [] (map move ms) t → next c t ≡ None → Settles c s ms t
settles_from c s t [] h e = (subst (λ (z : Plant). next c z ≡ None) (sym h) e, sym h)
settles_from c s t (m ∷ ms) h e = (h.0, settles_from c (after_move s m) t ms h.1 e)

have_trees : (cell : Cell) (rs : List Recipe) → Each IsExpanded (map (master_of cell) rs)
have_trees cell [] = tt
have_trees cell (r ∷ rs) = ((r.acts, λ bound. refl), have_trees cell rs)

placed : (c : ClearedSet) → HasPlacedTrees (setup c)
placed c = expanded-HasPlacedTrees (setup c) (have_trees c.cell c.recipes)

stands : (v : EngineView) → IsLed v → IsStanding (setup v.cleared) (plant_of v)
stands v (events, outs, leads) = led-stands (setup v.cleared) (placed v.cleared) events outs (plant_of v) leads

-- the machine comes to rest
pub settle : (v : EngineView) → IsLed v → CanSettle (setup v.cleared) (plant_of v)
settle v led =
    let c = setup v.cleared in
    let rest = settling-rests c (placed v.cleared) (plant_of v) (stands v led) in
    record { moves = rest.0; new = rest.1.0; settles = settles_from c (plant_of v) rest.1.0 rest.0 rest.1.1 rest.1.2 }

-- each move lowers the work left
pub falls : (v : EngineView) (new : Plant) (m : Move) → IsLed v → next (setup v.cleared) (plant_of v) ≡ Some m → new ≡ after_move (plant_of v) m
    → work_left new < work_left (plant_of v)
falls v new m led e is =
    let c = setup v.cleared in
    subst (λ (p : Plant). work_left p < work_left (plant_of v)) (sym is)
    (possible-falls c (plant_of v) m (placed v.cleared) (stands v led) (next-possible c (plant_of v) m e))
