-- The answers behind a recovery block go on a safe transcript.
use Rattle.std.proofs.Common.{◌≡◌, ℕ, Bool, ◌||◌, List, Option, Some, None, IfSome, inl, inr, refl, sym, subst}
use Rattle.std.specs.Io.KnownBytes.{Appends}
use Rattle.clap.specs.Walk.{Text}
use Rattle.batch_model.specs.{Cleared.CanBeCleared, Plant.Plant, Plant.opening}
use Rattle.batch_verify.specs.{ClearedSet.ClearedSet, Ranked.rank_of}
use Rattle.batch_engine.specs.View.{setup}
use Rattle.batch_wire.specs.{Transcript.lines_of, WrittenTranscript.WritesTranscript}
use Rattle.batch_serve.specs.Safe.{GoesOnSafely, TranscriptsGoOnSafely}
use Rattle.batch_serve.specs.Serves as serving
use Rattle.batch_keep.specs.Blocks.{IsBlockOf}
use Rattle.batch_cli.specs.CommandLine.{keep}
use Rattle.batch_verdicts.{specs.Digested.AreDigested, specs.Reading.Gives, specs.Running.AskFor, specs.Running.Stream, proofs.Successes.same_request}
use Rattle.batch_program.specs.Programs as program
use Rattle.batch_program.{specs.JournalRuns.AreServedSafely, specs.JournalRuns.DiskKind, specs.JournalRuns.IsJournalRun, specs.JournalRuns.IsJournalTold, specs.JournalRuns.IsShownBehind, specs.JournalRuns.JournalFiles, specs.JournalRuns.fails, specs.JournalRuns.refuses, specs.JournalRuns.serves, specs.JournalRuns.stops, specs.RecordRuns.Holds, specs.RecordRuns.IsUntold, specs.RecordRuns.output_of, proofs.ProgramRuns.told_at_once}

pub can_be_cleared : (gives : Gives) (cell certificate : Text) (recipes : List Text) (set : ClearedSet) (digits : List ℕ) → AreDigested gives cell certificate recipes set digits → CanBeCleared (setup set)
can_be_cleared gives cell certificate recipes set digits d = (rank_of d.ranks, d.cleared.1)

module _ (on : TranscriptsGoOnSafely) (set : ClearedSet) (can : CanBeCleared (setup set)) where
  goes_on : (lines : List (List ℕ)) (plant : Plant) (block : List ℕ) (is_block : IsBlockOf (setup set) opening lines plant block) (unread middle plain : Option (List ℕ))
      → IfSome unread (λ input. (new : Plant) × WritesTranscript (setup set) plant (lines_of input) new middle plain)
      → IfSome unread (λ input. (answers : List ℕ) × Appends middle plain answers × GoesOnSafely (setup set) lines (lines_of input) is_block.told answers)
  goes_on lines plant block is_block None middle plain h = h
  goes_on lines plant block is_block (Some input) middle plain (new, written) = (
    written.said.text,
    written.appends,
    subst (λ t. GoesOnSafely (setup set) lines (lines_of input) t written.said.text) (sym is_block.replayed.is)
        (on set plant new lines (lines_of input) is_block.replayed.said written.said can is_block.replayed.transcript written.transcript),
  )

  module _ (disks : DiskKind) (digits path : List ℕ) (commented : Bool) (start end : disks.File) (ends : serving.Ends) where
    told_safely : (status : ℕ) → IsJournalTold disks set digits path start end (IsShownBehind disks set digits commented start end ends.unread ends.after status) (output_of ends) status
        → status ≡ 0 → AreServedSafely disks set digits commented start end ends
    told_safely status (refuses fault _ (inl (_, refused))) is = absurd cc
    told_safely status (refuses fault _ (inr (inl failed))) is = absurd cc
    told_safely status (refuses fault _ (inr (inr (_, memory)))) is = absurd cc
    told_safely status (stops (_, inl failed)) is = absurd cc
    told_safely status (stops (_, inr memory)) is = absurd cc
    told_safely status (fails _ _ _ _ _ _ failed) is = absurd cc
    told_safely status (serves lines plant block middle are is_block appends (plain, shown, served)) is = record {
      lines = lines;
      plant = plant;
      block = block;
      middle = middle;
      plain = plain;
      are_lines = λ d. (are d).1;
      is_block = is_block;
      begun = appends;
      shown = shown;
      safe = goes_on lines plant block is_block ends.unread middle plain (served.answers is);
    }

-- a run that was to serve over a journal, and ends with status 0, has done so
module _ (gives : Gives) (holds : Holds) (files : JournalFiles) (words : List Text) (ends : serving.Ends) (errors : Stream) (journal cell certificate : Text) (recipes : List Text) (echo times : Bool) where
  kept : AskFor words (keep journal cell certificate recipes echo times) → (status : ℕ) → program.IsProgramRun gives holds files words ends errors status → status ≡ 0
      → (set : ClearedSet) × (digits : List ℕ) × AreDigested gives cell certificate recipes set digits × IsJournalRun files set digits journal (echo || times) ends status
  kept asked _ (program.keeps j c k rs e t set digits status asked2 digested run) is =
      let same = same_request words (keep j c k rs e t) (keep journal cell certificate recipes echo times) asked2 asked in
      let same_path : j ≡ journal = cc in
      let same_cell : c ≡ cell = cc in
      let same_certificate : k ≡ certificate = cc in
      let same_recipes : rs ≡ recipes = cc in
      let same_echo : e ≡ echo = cc in
      let same_times : t ≡ times = cc in (
        set,
        digits,
        subst (λ x. AreDigested gives x certificate recipes set digits) same_cell
            (subst (λ x. AreDigested gives c x recipes set digits) same_certificate (subst (λ x. AreDigested gives c k x set digits) same_recipes digested)),
        subst (λ x. IsJournalRun files set digits x (echo || times) ends status) same_path
            (subst (λ x. IsJournalRun files set digits j (x || times) ends status) same_echo (subst (λ x. IsJournalRun files set digits j (e || x) ends status) same_times run)),
      )
  kept asked _ (program.tells status came _) is = absurd (told_at_once gives words (output_of ends) errors (keep journal cell certificate recipes echo times) status asked came is)
  kept asked _ (program.writes file judgement _ _ _ asked2 _ _ _ _) is = absurd (let same = same_request words _ _ asked asked2 in cc)
  kept asked _ (program.serves source _ _ asked2 _ _ _) is = absurd (let same = same_request words _ _ asked asked2 in cc)
  kept asked _ (program.remarks source e t _ _ asked2 _ _ _) is = absurd (let same = same_request words _ _ asked asked2 in cc)
  kept asked _ (program.serves_desks other p c k rs t _ _ _ _ asked2 _ _ _) is = absurd (let same = same_request words _ _ asked asked2 in cc)
  kept asked _ (program.reads path _ asked2 _) is = absurd (let same = same_request words _ _ asked asked2 in cc)
  kept asked _ (program.draws path _ asked2 _) is = absurd (let same = same_request words _ _ asked asked2 in cc)
  kept asked _ (program.audits beginning path source _ _ asked2 _ _) is = absurd (let same = same_request words _ _ asked asked2 in cc)
  kept asked _ (program.plants source _ options _ _ asked2 _ _ _ _) is = absurd (let same = same_request words _ _ asked asked2 in cc)

-- no file was opened
pub not_opened : (output : Stream) (status : ℕ) → IsUntold output status → status ≡ 0 → ⊥
not_opened output status (_, inl failed) is = cc
not_opened output status (_, inr memory) is = cc

pub journalled_serving_is_safe : TranscriptsGoOnSafely → (gives : Gives) (holds : Holds) (files : JournalFiles) → program.JournalledServingIsSafe gives holds files
journalled_serving_is_safe on gives holds files words ends errors journal cell certificate recipes echo times asked came =
    let (set, digits, digested, run) = kept gives holds files words ends errors journal cell certificate recipes echo times asked 0 came refl in
    over set digits digested run
  where
    over : (set : ClearedSet) (digits : List ℕ) → AreDigested gives cell certificate recipes set digits → IsJournalRun files set digits journal (echo || times) ends 0
        → (set : ClearedSet) × (digits : List ℕ) × AreDigested gives cell certificate recipes set digits
        × (start : files.disks.File) × (end : files.disks.File) × files.opens journal start × AreServedSafely files.disks set digits (echo || times) start end ends
    over set digits digested (inl (start, end, opens, fresh, run)) =
        let can = can_be_cleared gives cell certificate recipes set digits digested in
        (set, digits, digested, start, end, opens, told_safely on set can files.disks digits journal (echo || times) start end ends 0 run.told refl)
    over set digits digested (inr untold) = absurd (not_opened (output_of ends) 0 untold refl)
