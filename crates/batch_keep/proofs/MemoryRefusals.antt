-- Lines of a record that are no refusals for want of memory.
use Rattle.std.proofs.Common.{ℕ, false, List, codes, Option, Some, None, Result, Ok, Err, IsTrue, inl, inr}
use Rattle.std.specs.Prelude.{◌≢◌, ◌↔◌}
use Rattle.batch_model.specs.{Events.Event, Plant.Setup, Plant.Plant}
use Rattle.batch_wire.specs.declared.fault.WireFault.{WireFault}
use Rattle.batch_keep.specs.Auditing.{IsFree}

module _ (c : Setup) (plant : Plant) (line : List ℕ) where
  -- a line that says neither
  pub no_want : (says : Result (Option Event) WireFault) → (line ≢ codes "refused W6") × (line ≢ codes "refused E11") → IsTrue false ↔ IsFree c plant says line
  no_want says other = (λ is. absurd (cc is), λ free. absurd (none says free))
    where
      none : (says : Result (Option Event) WireFault) → IsFree c plant says line → ⊥
      none (Ok (Some event)) (inl is) = other.0 is
      none (Ok (Some event)) (inr free) = other.1 free.0
      none (Ok None) free = free
      none (Err fault) free = free
