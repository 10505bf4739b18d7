-- Desks that are served over a journal.
use Rattle.std.proofs.Common.{◌≡◌, ◌++◌, ◌∙◌, ℕ, Bool, true, List, [], Option, None, Result, Ok, Err, ap, inl, inr, subst}
use Rattle.std.specs.Prelude.{IsOk, OnOk}
use Rattle.batch_model.specs.Plant.{Plant, opening}
use Rattle.batch_engine.specs.View.{setup}
use Rattle.batch_journal.specs.{Journals.recovered, Recovery.HasNoFault}
use Rattle.batch_keep.specs.Blocks.{IsBlockOf}
use Rattle.batch_pipes.specs.Service.{AreDesksServed}
use Rattle.batch_serve.specs.Runs.{runs_text}
use Rattle.batch_verify.specs.ClearedSet.{ClearedSet}
use Rattle.batch_verdicts.specs.Running.{Stream}
use Rattle.batch_program.specs.{DeskRuns.AreDesksOn, JournalRuns.DiskKind, JournalRuns.IsJournalTold, JournalRuns.fails, JournalRuns.serves, Keeping.AreDesksToldBehind}

pub well_served : {T E : Type 0} (r : Result T E) (P : Type 0) → OnOk r P → IsOk r → P
well_served (Ok x) P so ok = so
well_served (Err e) P so ok = absurd cc

-- a file of which nothing was given at first
served_from : (times : Bool) (set : ClearedSet) (names : List (List ℕ)) (plant : Plant) (is_disk : Type 0) (first given : List ℕ) (middle after : Option (List ℕ)) → (is_disk → first ≡ [])
    → AreDesksServed times (record { set = set; names = names; plant = plant; kept = first; recorded = middle; again = true }) is_disk given after
    → AreDesksServed times (record { set = set; names = names; plant = plant; kept = []; recorded = middle; again = true }) is_disk given after
served_from times set names plant is_disk first given middle after none s = record {
  runs = s.runs;
  answers = s.answers;
  new = s.new;
  served = s.served;
  whole = s.whole;
  well = s.well;
  is_kept = λ d. s.is_kept d ∙ ap (λ l. l ++ runs_text names None s.runs) (none d);
  is_recorded = s.is_recorded;
}

behind_from : (times : Bool) (set : ClearedSet) (names : List (List ℕ)) (plant : Plant) (is_disk : Type 0) (first given block : List ℕ) (output : Stream) (status : ℕ) → (is_disk → first ≡ [])
    → AreDesksToldBehind times set names plant is_disk first given block output status → AreDesksToldBehind times set names plant is_disk [] given block output status
behind_from times set names plant is_disk first given block output status none (inl (middle, appends, behind)) =
    inl (middle, appends, record { served = λ well. served_from times set names plant is_disk first given middle output.after none (behind.served well); ends = behind.ends })
behind_from times set names plant is_disk first given block output status none (inr stopped) = inr stopped

-- the outcome behind the block, by the set and the block of the start
pub desks_told_as : (times : Bool) (set now_set : ClearedSet) (names : List (List ℕ)) (plant : Plant) (is_disk : Type 0) (first given block now_block : List ℕ) (output : Stream) (status : ℕ)
    → set ≡ now_set → block ≡ now_block → (is_disk → first ≡ []) → AreDesksToldBehind times set names plant is_disk first given block output status
    → AreDesksToldBehind times now_set names plant is_disk [] given now_block output status
desks_told_as times set now_set names plant is_disk first given block now_block output status same_set same_block none told =
    subst (λ (b : List ℕ). AreDesksToldBehind times now_set names plant is_disk [] given b output status) same_block
    (subst (λ (s : ClearedSet). AreDesksToldBehind times s names plant is_disk [] given block output status) same_set
    (behind_from times set names plant is_disk first given block output status none told))

pub desks_told : (disks : DiskKind) (set : ClearedSet) (digits path : List ℕ) (names : List (List ℕ)) (times : Bool) (start end : disks.File) (output : Stream) (status : ℕ)
    (lines : List (List ℕ)) (plant : Plant) (block : List ℕ) → (disks.is_disk end → HasNoFault digits (disks.seen start)) → (disks.is_disk end → lines ≡ recovered digits (disks.seen start))
    → IsBlockOf (setup set) opening lines plant block → AreDesksToldBehind times set names plant (disks.is_disk end) [] (disks.given end) block output status
    → IsJournalTold disks set digits path start end (AreDesksOn disks times set names end output.after status) output status
desks_told disks set digits path names times start end output status lines plant block taken are is_block (inl (middle, appends, behind)) =
    serves lines plant block middle (λ d. (taken d, are d)) is_block appends behind
desks_told disks set digits path names times start end output status lines plant block taken are is_block (inr (begins, is)) = fails lines plant block taken is_block begins is
