-- The outcome of the demo.
use Rattle.std.proofs.Common.{◌≡◌, List, ℕ, [], ◌∷◌, subst, Result, Ok, Err, IfErr}
use Rattle.batch_verify.specs.ClearedSet.{ClearedSet}
use Rattle.batch_verdicts.specs.{Halting.HaltsClearing, Requests.demo_gives, Requests.HaltsDemo, declared.demo.TheConstants.CELL_PATH, declared.demo.TheConstants.CERTIFICATE_PATH, declared.demo.TheConstants.RECIPE_PATH, declared.refusal.Halt.Halt}

-- the demo's documents end it, at the path of its recipe
pub halted_by_demo : (path : List ℕ) (set : Result ClearedSet Halt) → path ≡ RECIPE_PATH.now
    → IfErr set (HaltsClearing demo_gives CELL_PATH.now CERTIFICATE_PATH.now (path ∷ [])) → IfErr set HaltsDemo
halted_by_demo path (Ok set) at halted = tt
halted_by_demo path (Err h) same halted =
    subst (λ p. HaltsClearing demo_gives CELL_PATH.now CERTIFICATE_PATH.now (p ∷ []) h) same halted
