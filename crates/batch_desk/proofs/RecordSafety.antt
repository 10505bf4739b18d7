-- The record of a hub is safe.
use Rattle.std.proofs.Common.{◌≡◌, subst}
use Rattle.batch_model.specs.Records.{IsSafe}
use Rattle.batch_safety.specs.Sets.{RunsSafely}
use Rattle.batch_verify.specs.ClearedSet.{ClearedSet}
use Rattle.batch_engine.specs.View.{setup, plant_of}
use Rattle.batch_desk.specs.HubState.{HubState, IsHub, events_in, outs_in}

safe_hub : (h : HubState) (c : ClearedSet) → c ≡ h.engine.cleared → IsHub h → RunsSafely c.cell c.recipes → IsSafe (setup h.engine.cleared) (outs_in h.engine.cleared h.outs)
safe_hub h c same is runs =
    (subst (λ (k : ClearedSet). RunsSafely k.cell k.recipes) same runs).safe (events_in h.history) (outs_in h.engine.cleared h.outs) (plant_of h.engine) is.leads

pub safe_record : (h g : HubState) (c : ClearedSet) → h ≡ g → c ≡ h.engine.cleared → IsHub h → RunsSafely c.cell c.recipes
    → IsSafe (setup g.engine.cleared) (outs_in g.engine.cleared g.outs)
safe_record h g c e same is runs = subst (λ (k : HubState). IsSafe (setup k.engine.cleared) (outs_in k.engine.cleared k.outs)) e (safe_hub h c same is runs)
