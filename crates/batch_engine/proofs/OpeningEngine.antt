-- The engine in which nothing has happened.
use Rattle.std.proofs.Common.{◌≡◌, refl, sym, ◌∙◌, ap, subst, ℕ, zero, suc, List, [], Option, Some, None, arith, length, get_or}
use Rattle.std.{specs.Prelude.replicate, proofs.lemmas.List.length-replicate}
use Rattle.batch_cell.specs.LookUps.{capacities_of}
use Rattle.batch_recipe.specs.Conditions.{Name}
use Rattle.batch_model.specs.{Cleared.CanBeCleared, Plant.Share, Plant.Plant, Plant.opening}
use Rattle.batch_record_laws.proofs.Entries.{IsOnce}
use Rattle.batch_verify.specs.ClearedSet.{ClearedSet}
use Rattle.batch_arbiter.{specs.Allocation.Claim, specs.Allocation.idle, proofs.CellCapacities.length-capacities}
use Rattle.batch_engine.{specs.View.seen, specs.View.setup, specs.View.claimed_shares, specs.View.resource_number, specs.View.line_in, specs.View.line_at, specs.View.plant_of, specs.Kept.IsKept, proofs.BatchAfterMove.fun_ext}

nothing : (n q : ℕ) → get_or (replicate n (let xs : List Claim = [] in xs)) q [] ≡ []
nothing zero q = refl
nothing (suc n) zero = refl
nothing (suc n) (suc q) = nothing n q

module _ (c : ClearedSet) where
  line : (name : Name) → line_in (seen c [] 1 (idle (capacities_of c.cell))) name ≡ []
  line name = go (resource_number c name)
    where
      go : (m : Option ℕ) → line_at (seen c [] 1 (idle (capacities_of c.cell))) m ≡ []
      go None = refl
      go (Some q) = ap (claimed_shares c []) (nothing (length (capacities_of c.cell)) q)

  pub opening-plant : plant_of (seen c [] 1 (idle (capacities_of c.cell))) ≡ opening
  opening-plant = ap (λ (l : Name → List Share). let p : Plant = record { batches = []; next_number = 1; line = l } in p) (fun_ext line)

  pub opening-kept : CanBeCleared (setup c) → IsKept (seen c [] 1 (idle (capacities_of c.cell)))
  opening-kept cleared =
      record {
        cleared = cleared;
        batches = tt;
        cell = record {
          capacities = refl;
          shares = length-replicate (length (capacities_of c.cell)) (let xs : List Claim = [] in xs) ∙ length-capacities c.cell;
          lines = length-replicate (length (capacities_of c.cell)) (let xs : List Claim = [] in xs) ∙ length-capacities c.cell;
        };
        tracked = record { events = []; outs = []; leads = sym opening-plant; shares = λ q name e. ap (claimed_shares c []) (nothing (length (capacities_of c.cell)) q) };
        once = λ name q e. subst (λ xs. IsOnce (claimed_shares c [] xs)) (sym (nothing (length (capacities_of c.cell)) q)) tt;
        room = omega arith;
      }
