-- The invariant when an event is answered.
use Rattle.std.proofs.Common.{◌≡◌, sym, ◌∙◌, ℕ, List, [], ◌∷◌, ◌++◌, Some}
use Rattle.batch_recipe.specs.Conditions.{Name}
use Rattle.batch_model.specs.{Lists.Each, Plant.opening, Events.Event, Events.Reply, Runs.reply, Runs.Reacts}
use Rattle.batch_step_laws.proofs.{RecordGrowth.Leads-reply, LastLineEffect.holders_told-last}
use Rattle.batch_record_laws.proofs.Entries.{IsOnce}
use Rattle.batch_arbiter.specs.Allocation.{Allocation, shares_at, line_of_asks}
use Rattle.batch_engine.specs.{declared.batch.Batch.Batch, View.EngineView, View.setup, View.claimed_shares, View.resource_number, View.plant_of, Kept.IsOfCell, Kept.IsRunningBatch, Kept.HasRoom, Kept.IsKept}

-- the engine with other batches, another next number and another arbiter
abbrev pub with : EngineView → List Batch → ℕ → Allocation → EngineView
with v bs n a = record v { batches = bs; next_number = n; allocation = a }

pub event-kept : (v : EngineView) → IsKept v → (bs : List Batch) (n : ℕ) (a : Allocation) (e : Event) (r : Reply)
    → Reacts (setup v.cleared) (plant_of v) e r (plant_of (with v bs n a))
    → ((name : Name) (q : ℕ) → resource_number v.cleared name ≡ Some q → claimed_shares v.cleared bs (shares_at a q) ≡ claimed_shares v.cleared v.batches (shares_at v.allocation q))
    → Each (IsRunningBatch v.cleared) bs → IsOfCell v.cleared a → ((name : Name) (q : ℕ) → resource_number v.cleared name ≡ Some q → IsOnce (claimed_shares v.cleared bs (line_of_asks a q))) → HasRoom (with v bs n a)
    → IsKept (with v bs n a)
event-kept v k bs n a e r reacts shares batches cell once room =
    record {
      cleared = k.cleared;
      batches = batches;
      cell = cell;
      tracked = record {
        events = k.tracked.events ++ e ∷ [];
        outs = k.tracked.outs ++ reply r ∷ [];
        leads = Leads-reply (setup v.cleared) opening (plant_of v) (plant_of (with v bs n a)) e r k.tracked.events k.tracked.outs k.tracked.leads reacts;
        shares = λ q name f. shares name q f ∙ k.tracked.shares q name f ∙ sym (holders_told-last k.tracked.outs (reply r) name);
      };
      once = once;
      room = room;
    }
