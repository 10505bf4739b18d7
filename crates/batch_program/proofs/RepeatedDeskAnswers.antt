-- The answers to desks over a journal are written again.
use Rattle.std.proofs.Common.{◌≡◌, ◌++◌, ◌∙◌, ℕ, zero, suc, Bool, true, false, List, [], ◌∷◌, Option, Some, None, inl, inr, refl, sym, subst, arith}
use Rattle.std.{proofs.lemmas.Bool.and_parts, proofs.lemmas.Bool.Decides.nat_tests, specs.Prelude.◌==◌, specs.List.list_all}
use Rattle.toml.specs.Data.{Items, item, no_items}
use Rattle.clap.specs.Walk.{Text}
use Rattle.batch_model.specs.{Plant.Plant, Plant.opening, Cleared.CanBeCleared}
use Rattle.batch_text.specs.NameText.{IsName, is_name_byte}
use Rattle.batch_engine.specs.View.{setup}
use Rattle.batch_wire.specs.Transcript.{Exchange, Transcript}
use Rattle.batch_serve.specs.{Replays.BeginsText, Replays.ShowsNoWant, Runs.runs_text, Safe.GoesOnSafely, Served.RunsGoOnSafely, Served.plain_text, Served.run_lines}
use Rattle.batch_journal.specs.{Disks.Left, Journals.recovered, Lines.IsLine, Lines.text_of, Readers.HasRecalled, Readers.StartsText}
use Rattle.batch_keep.specs.{Blocks.IsBlockOf, Desks.AreShort, Desks.DesksAreToldAgain}
use Rattle.batch_pipes.specs.Service.{AreDesksServed}
use Rattle.batch_verify.specs.ClearedSet.{ClearedSet}
use Rattle.batch_reader.specs.{Entries.AllItems, Entries.IsTableOf, DeskNames.desk_names, DesksDocument.IsDeskTable, declared.desk.Desk.Desk, declared.desk_set.Desks.Desks}
use Rattle.batch_verdicts.specs.{DeskSets.AreDesksCleared, Reading.Gives, Running.Stream}
use Rattle.batch_program.{specs.DeskRuns.AreDesksKept, specs.DeskRuns.AreDesksOn, specs.DeskRuns.AreDesksOver, specs.DeskRuns.AreDesksRun, specs.JournalRuns.DiskKind, specs.JournalRuns.IsJournalTold, specs.JournalRuns.JournalFiles, specs.JournalRuns.fails, specs.JournalRuns.refuses, specs.JournalRuns.serves, specs.JournalRuns.stops, specs.Programs.DesksAreKept, specs.RecordRuns.Holds, specs.RecordRuns.output_of, proofs.DeskService.desks_ran, proofs.SafeJournals.can_be_cleared, proofs.SafeJournals.not_opened}

-- Names

not_zero : (b : ℕ) → is_name_byte b ≡ true → (b == 0) ≡ false
not_zero b is = grind (arith, nat_tests)

no_feed : (b : ℕ) → is_name_byte b ≡ true → (b == 10) ≡ false
no_feed b is = grind (arith, nat_tests)

line_from : (bytes : List ℕ) → list_all is_name_byte bytes ≡ true → IsLine bytes
line_from [] all = tt
line_from (b ∷ bs) all =
    let (is, rest) = and_parts (is_name_byte b) (list_all is_name_byte bs) all in
    (not_zero b is, no_feed b is, line_from bs rest)

name_line : (name : List ℕ) → IsName name → IsLine name
name_line name is = line_from name (and_parts _ (list_all is_name_byte name) is.spelled).1

-- those of the desks of a document
pub names_short : (items : Items) (desks : List Desk) → AllItems (IsTableOf IsDeskTable) items desks → AreShort (desk_names desks)
names_short no_items [] are k = (tt, omega arith)
names_short no_items (desk ∷ desks) are k = absurd are
names_short (item d ds) [] are k = absurd are
names_short (item d ds) (desk ∷ desks) are zero = (name_line desk.name are.0.stands_for.name.valid, are.0.stands_for.name.valid.short)
names_short (item d ds) (desk ∷ desks) are (suc k) = names_short ds desks are.1 k

-- Written again

module _ (law : DesksAreToldAgain) (on : RunsGoOnSafely) (disks : DiskKind) (times : Bool) (set : ClearedSet) (can : CanBeCleared (setup set)) (digits : List ℕ) (names : List (List ℕ))
    (short : AreShort names) (start end : disks.File) (output : Stream) where
  again : (lines : List (List ℕ)) (plant : Plant) (block : List ℕ) (middle : Option (List ℕ)) (is_block : IsBlockOf (setup set) opening lines plant block)
      (s : AreDesksServed times (record { set = set; names = names; plant = plant; kept = []; recorded = middle; again = true }) (disks.is_disk end) (disks.given end) output.after)
      → HasRecalled digits (text_of (recovered digits (disks.seen start))) (disks.moment start) (disks.moment end) (disks.left_since end) → lines ≡ recovered digits (disks.seen start)
      → disks.is_disk end → (left : Left) → disks.left_since end (disks.moment start) left → left.given ≡ disks.given end → (last : Plant) (whole : Exchange)
      → Transcript (setup set) opening (recovered digits left.file) whole last → ShowsNoWant whole.text → BeginsText (is_block.told ++ plain_text s.answers) whole.text
  again lines plant block middle is_block s recalled are d left since given last whole transcript shows =
      let replay = is_block.replayed in
      let base = text_of (recovered digits (disks.seen start)) in
      let had : Transcript (setup set) opening (recovered digits (disks.seen start)) replay.said plant =
      subst (λ (l : List (List ℕ)). Transcript (setup set) opening l replay.said plant) are replay.transcript in
      let starts : StartsText (base ++ runs_text names None s.runs) (text_of (recovered digits left.file)) =
      subst (λ (g : List ℕ). StartsText (base ++ g) (text_of (recovered digits left.file))) (given ∙ s.is_kept d) (recalled.each left since) in
      subst (λ (t : List ℕ). BeginsText (t ++ plain_text s.answers) whole.text) (sym replay.is)
      (law (setup set) opening plant s.new last digits (disks.seen start) left.file names s.runs s.answers replay.said whole had replay.shows s.served (s.well refl) (s.whole refl) short
      starts transcript shows)

  told_kept : (path : List ℕ) (status : ℕ)
      → (disks.is_disk end → HasRecalled digits (text_of (recovered digits (disks.seen start))) (disks.moment start) (disks.moment end) (disks.left_since end))
      → IsJournalTold disks set digits path start end (AreDesksOn disks times set names end output.after status) output status → status ≡ 0
      → AreDesksKept disks times set digits names start end output
  told_kept path status recalled (refuses fault _ (inl (_, refused))) is = absurd cc
  told_kept path status recalled (refuses fault _ (inr (inl failed))) is = absurd cc
  told_kept path status recalled (refuses fault _ (inr (inr (_, memory)))) is = absurd cc
  told_kept path status recalled (stops (_, inl failed)) is = absurd cc
  told_kept path status recalled (stops (_, inr memory)) is = absurd cc
  told_kept path status recalled (fails _ _ _ _ _ _ failed) is = absurd cc
  told_kept path status recalled (serves lines plant block middle are is_block appends behind) is = record {
    lines = lines;
    plant = plant;
    block = block;
    middle = middle;
    are_lines = λ d. (are d).1;
    is_block = is_block;
    begun = appends;
    served = behind.served is;
    safe = subst (λ t. GoesOnSafely (setup set) lines (run_lines (behind.served is).runs) t (plain_text (behind.served is).answers)) (sym is_block.replayed.is)
        (on set plant (behind.served is).new lines is_block.replayed.said (behind.served is).runs (behind.served is).answers can is_block.replayed.transcript (behind.served is).served);
    told_again = λ d left since given last whole transcript shows.
        again lines plant block middle is_block (behind.served is) (recalled d) (are d).1 d left since given last whole transcript shows;
  }

  pub over_kept : (path : List ℕ) (status : ℕ) → AreDesksOver disks set digits names path times start end output status → status ≡ 0
      → AreDesksKept disks times set digits names start end output
  over_kept path status over is = told_kept path status over.any_moment over.told is

pub desks_are_kept : DesksAreToldAgain → RunsGoOnSafely → (gives : Gives) (holds : Holds) (files : JournalFiles) → DesksAreKept gives holds files
desks_are_kept law on gives holds files words ends errors journal path cell certificate recipes times asked came =
    let (desks, set, digits, cleared, run) = desks_ran gives holds files words ends errors (Some journal) path cell certificate recipes times 0 asked came refl in
    let document = cleared.read.2 in
    let short = names_short document.stands_for.tables.items desks.desks.items document.stands_for.tables.tables in
    kept_by law on gives files journal path cell certificate recipes times desks set digits (output_of ends) short cleared run
  where
    kept_by : DesksAreToldAgain → RunsGoOnSafely → (gives : Gives) (files : JournalFiles) (journal path cell certificate : Text) (recipes : List Text) (times : Bool) (desks : Desks) (set : ClearedSet)
        (digits : List ℕ) (output : Stream) → AreShort (desk_names desks.desks.items) → AreDesksCleared gives path cell certificate recipes desks set digits
        → AreDesksRun files set digits (desk_names desks.desks.items) (Some journal) times output 0
        → (desks : Desks) × (set : ClearedSet) × (digits : List ℕ) × AreDesksCleared gives path cell certificate recipes desks set digits
        × (start : files.disks.File) × (end : files.disks.File) × files.opens journal start
        × AreDesksKept files.disks times set digits (desk_names desks.desks.items) start end output
    kept_by law on gives files journal path cell certificate recipes times desks set digits output short cleared (inl (start, end, opens, fresh, over)) =
        (desks, set, digits, cleared, start, end, opens, over_kept law on files.disks times set (can_be_cleared gives cell certificate recipes set digits cleared.cleared) digits (desk_names desks.desks.items) short start end output journal 0 over refl)
    kept_by law on gives files journal path cell certificate recipes times desks set digits output short cleared (inr untold) = absurd (not_opened output 0 untold refl)
