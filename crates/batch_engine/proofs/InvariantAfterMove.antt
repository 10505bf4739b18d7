-- The invariant when one batch makes the next move.
use Rattle.std.proofs.Common.{◌≡◌, ◌<◌, refl, sym, ◌∙◌, ap, ap₂, subst, ℕ, zero, suc, List, [], ◌∷◌, ◌++◌, Option, Some, None, length, map, set}
use Rattle.std.specs.Prelude.{slice_get}
use Rattle.batch_recipe.specs.Conditions.{Name}
use Rattle.batch_model.specs.{Lists.Each, Plant.Share, Plant.Plant, Plant.opening, Moves.Move, Moves.batch_of, Moves.batch_after, Moves.line_after, Moves.after_move, Runs.move, Runs.Leads, Records.holders_after}
use Rattle.batch_model.specs.Plant as Model
use Rattle.batch_step_laws.proofs.{Batches.only, RecordGrowth.Leads-move, LastLineEffect.holders_told-last}
use Rattle.batch_record_laws.proofs.Entries.{IsOnce}
use Rattle.batch_arbiter.specs.Allocation.{Allocation, shares_at, line_of_asks}
use Rattle.batch_chart.specs.Charts.{IsRunningOf}
use Rattle.batch_engine.{specs.declared.batch.Batch.Batch, specs.View.EngineView, specs.View.setup, specs.View.tree_at, specs.View.claimed_shares, specs.View.resource_number, specs.View.line_in, specs.View.line_at, specs.View.plant_of, specs.View.tree_of, specs.Kept.AreUnits, specs.Kept.IsTracked, specs.Kept.IsOfCell, specs.Kept.IsRunningBatch, specs.Kept.HasRoom, specs.Kept.IsKept, specs.Steps.IsNext, proofs.BatchPlaces.made_by, proofs.RecordOfPlant.standing, proofs.BatchAfterMove.fun_ext, proofs.BatchAfterMove.acts-same, proofs.BatchAfterMove.batches-same}
use Rattle.batch_engine.specs.View as View

-- the engine after batch i became b' and the arbiter a'
abbrev pub changed : EngineView → ℕ → Batch → Allocation → EngineView
changed v i b' a' = record v { batches = set v.batches i b'; allocation = a' }

pub Each-set : {X : Type 0} (P : X → Type 0) (xs : List X) (i : ℕ) (y : X) → Each P xs → P y → Each P (set xs i y)
Each-set P [] i y h k = tt
Each-set P (x ∷ xs) zero y h k = (k, h.1)
Each-set P (x ∷ xs) (suc i) y h k = (h.0, Each-set P xs i y h.1 k)

-- batch i becomes b' by the next move, which is of this batch
pub record IsMove (v : EngineView) (i : ℕ) (b b' : Batch) (m : Move) : Type 0 where
  pub at : slice_get v.batches i ≡ Some b
  pub number : b'.number ≡ b.number
  pub made : made_by b' ≡ made_by b
  pub runs : IsRunningOf (tree_of v.cleared b) b'.running
  pub is : IsNext v m
  pub of_batch : batch_of m ≡ b.number
  pub becomes : View.model_batch v.cleared b' ≡ batch_after m (View.model_batch v.cleared b)

module _ (v : EngineView) (k : IsKept v) (i : ℕ) (b b' : Batch) (m : Move) (t : IsMove v i b b' m) (a' : Allocation)
    (lines : (name : Name) → line_in (record v { allocation = a' }) name ≡ line_after m (line_in v) name) where
  line-same : (name : Name) → line_in (changed v i b' a') name ≡ line_in (record v { allocation = a' }) name
  line-same name = go (resource_number v.cleared name)
    where
      go : (o : Option ℕ) → line_at (changed v i b' a') o ≡ line_at (record v { allocation = a' }) o
      go None = refl
      go (Some q) = acts-same v.cleared v.next_number b' v.batches i b t.at t.number t.made (line_of_asks a' q)

  pub plant-after : plant_of (changed v i b' a') ≡ after_move (plant_of v) m
  plant-after =
      ap₂ (λ (bs : List Model.Batch) (l : Name → List Share). let p : Plant = record { batches = bs; next_number = v.next_number; line = l } in p)
      (batches-same v.cleared v.next_number b' v.batches i b (batch_after m) (standing v k).numbers t.at t.becomes
      ∙ ap (λ n. map (only n (batch_after m)) (map (View.model_batch v.cleared) v.batches)) (sym t.of_batch))
      (fun_ext (λ name. line-same name ∙ lines name))

  pub tracked-after : ((name : Name) (q : ℕ) → resource_number v.cleared name ≡ Some q
      → claimed_shares v.cleared v.batches (shares_at a' q) ≡ holders_after name (claimed_shares v.cleared v.batches (shares_at v.allocation q)) (move m))
      → IsTracked (changed v i b' a')
  tracked-after shares =
      record {
        events = k.tracked.events;
        outs = k.tracked.outs ++ move m ∷ [];
        leads = subst (Leads (setup v.cleared) opening k.tracked.events (k.tracked.outs ++ move m ∷ [])) (sym plant-after)
            (Leads-move (setup v.cleared) opening (plant_of v) m k.tracked.events k.tracked.outs k.tracked.leads t.is);
        shares = λ q name e.
            acts-same v.cleared v.next_number b' v.batches i b t.at t.number t.made (shares_at a' q) ∙ shares name q e
            ∙ ap (λ hs. holders_after name hs (move m)) (k.tracked.shares q name e) ∙ sym (holders_told-last k.tracked.outs (move m) name);
      }

  pub kept-after : ((name : Name) (q : ℕ) → resource_number v.cleared name ≡ Some q
      → claimed_shares v.cleared v.batches (shares_at a' q) ≡ holders_after name (claimed_shares v.cleared v.batches (shares_at v.allocation q)) (move m))
      → IsOfCell v.cleared a' → ((name : Name) (q : ℕ) → resource_number v.cleared name ≡ Some q → IsOnce (claimed_shares v.cleared v.batches (line_of_asks a' q))) → HasRoom (changed v i b' a') → IsKept (changed v i b' a')
  kept-after shares cell once room =
      record {
        cleared = k.cleared;
        batches = Each-set (IsRunningBatch v.cleared) v.batches i b' k.batches
            (record {
              known = subst (λ (r : ℕ × List ℕ). r.0 < length v.cleared.recipes) (sym t.made) (Rattle.batch_engine.proofs.BatchLookups.batch-runs v k i b t.at).known;
              units = subst (λ (r : ℕ × List ℕ). AreUnits v.cleared r.1) (sym t.made) (Rattle.batch_engine.proofs.BatchLookups.batch-runs v k i b t.at).units;
              runs = subst (λ (r : ℕ × List ℕ). IsRunningOf (tree_at v.cleared r.0 r.1) b'.running) (sym t.made) t.runs;
            });
        cell = cell;
        tracked = tracked-after shares;
        once = λ name q e. subst IsOnce (sym (acts-same v.cleared v.next_number b' v.batches i b t.at t.number t.made (line_of_asks a' q))) (once name q e);
        room = room;
      }
