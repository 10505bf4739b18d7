-- A run over a journal.
use Rattle.std.proofs.Common.{◌≡◌, ◌⊎◌, ℕ, Bool, ◌++◌, List, [], Option, Some, None, Result, Ok, Err, IfErr, OnOk, IsOk, inl, inr, refl, sym, ◌∙◌, ap, subst}
use Rattle.std.{specs.Prelude.IfSome, proofs.lemmas.List.append-nil, proofs.KnownBytes.Appends-kept, proofs.KnownBytes.prepend_known-nil, specs.Io.KnownBytes.Appends, specs.Io.KnownBytes.Keeps, specs.Io.KnownBytes.prepend_known}
use Rattle.batch_model.specs.Plant.{Setup, Plant, opening}
use Rattle.batch_wire.specs.{Transcript.lines_of, Written.Writes, WrittenTranscript.WritesTranscript}
use Rattle.batch_serve.specs.CleanLines.{CleanLinesServeAlike, clean_lines}
use Rattle.batch_journal.{specs.Journals.IsJournal, specs.Journals.recovered, specs.Lines.text_of, specs.Readers.IsAccounted, specs.Readers.IsJournalKept, specs.Readers.IsWhole, specs.Recovery.AreRests, specs.Recovery.HasNoFault, specs.Recovery.IsOfDisk, specs.Recovery.IsRecoverable, specs.Recovery.IsRefusedFor, proofs.FilesWithoutRefusal.not_refused, specs.declared.recovery.RecoveryFault.RecoveryFault, specs.declared.recovery.RecoveryFault.TheVariants.Disk, specs.declared.recovery.RecoveryFault.TheVariants.NoJournal, specs.declared.recovery.RecoveryFault.TheVariants.OtherDocuments, specs.declared.recovery.RecoveryFault.TheVariants.Damaged, specs.Disks.Left, specs.Readers.HasRecalled}
use mathlib.Core.HLevel.{Unit-prop, Π_prop, ⊥_prop}
use Rattle.batch_keep.specs.{Starts.IsStartRefused, declared.starting.StartFault.StartFault, declared.starting.StartFault.TheVariants.Recovery, Blocks.IsBlockOf}
use Rattle.batch_verify.specs.ClearedSet.{ClearedSet}
use Rattle.batch_engine.specs.View.{setup}
use Rattle.batch_verdicts.specs.Running.{IsPrinted, Stream, fault_status, memory_status}
use Rattle.batch_program.specs.{JournalRuns.Behind, JournalRuns.DiskKind, JournalRuns.IsJournalRefused, JournalRuns.IsJournalTold, JournalRuns.IsShownBehind, JournalRuns.journal_text, JournalRuns.refuses, JournalRuns.stops, JournalRuns.serves, JournalRuns.fails, PlantRuns.refused_status, Keeping.IsStartTold, Keeping.IsToldBehind, Keeping.cleaned}

-- The block

pub then_flushed : {A E : Type 0} (old mid new : Option (List ℕ)) (r : Result A E) (text : List ℕ) → Appends old mid text → Keeps mid new → Writes old new r text
then_flushed old mid new (Ok x) text appends kept = Appends-kept old mid new text appends kept
then_flushed old mid new (Err e) text appends kept =
    record { written = text; rest = []; splits = sym (append-nil text); appends = Appends-kept old mid new text appends kept }

-- Behind the block

pub answered : (c : Setup) (plant new : Plant) {A E : Type 0} (r : Result A E) (unread given middle after : Option (List ℕ)) → CleanLinesServeAlike → given ≡ cleaned unread → IsOk r
    → OnOk r (IfSome given (λ all. WritesTranscript c plant (lines_of all) new middle after)) → IfSome unread (λ input. (last : Plant) × WritesTranscript c plant (lines_of input) last middle after)
answered c plant new r None given middle after alike is ok served = tt
answered c plant new (Err e) (Some input) given middle after alike is ok served = absurd cc
answered c plant new (Ok x) (Some input) given middle after alike is ok served =
    let w = subst (λ (g : Option (List ℕ)). IfSome g (λ all. WritesTranscript c plant (lines_of all) new middle after)) is served in
    (new, record { said = w.said; transcript = alike c plant new input w.said w.transcript; leads = w.leads; appends = w.appends })

pub where_known : (unread given : Option (List ℕ)) (P : Type 0) → given ≡ cleaned unread → ((all : List ℕ) → given ≡ Some all → P) → IfSome unread (λ input. P)
where_known None given P is so = tt
where_known (Some input) given P is so = so (clean_lines (lines_of input)) is

-- The start

pub kept_started : (documents base text sum durable seen given old_seen old_given : List ℕ) → AreRests documents text sum durable seen
    → recovered documents text ≡ recovered documents old_seen → base ≡ text_of (recovered documents old_seen) → given ≡ old_given → old_given ≡ []
    → IsJournalKept documents base durable seen given [] sum
kept_started documents base text sum durable seen given old_seen old_given rests same base_is given_is none = record {
  journal = subst (λ l. IsJournal documents l sum) (sym rests.seen_is) rests.journal;
  synced = rests.synced;
  holds = ap (λ l. text_of (recovered documents l)) rests.seen_is ∙ ap text_of same ∙ sym base_is ∙ sym (append-nil base) ∙ ap (λ l. base ++ (l ++ [])) (sym none ∙ sym given_is);
}

pub none_whole : (given : List ℕ) → given ≡ [] → IsWhole given
none_whole given none = subst IsWhole (sym none) refl

pub none_accounted : (input given_input : Option (List ℕ)) (given : List ℕ) → input ≡ given_input → given ≡ [] → IsAccounted input given given_input
none_accounted input given_input given same none all known =
    ap (λ l. prepend_known l given_input) none ∙ prepend_known-nil given_input ∙ sym same ∙ known

pub start_refused : {A : Type 0} (documents file : List ℕ) (r : Result A StartFault) (fault : StartFault) (refusal : RecoveryFault) → r ≡ Err fault → fault ≡ Recovery refusal
    → IfErr r (IsStartRefused documents file) → IsRefusedFor documents file refusal
start_refused documents file r fault refusal is recovery refused =
    subst (λ f. IsStartRefused documents file f) recovery (subst (λ (x : Result _ StartFault). IfErr x (IsStartRefused documents file)) is refused)

-- Refusals

of_disk_prop : (fault : RecoveryFault) → IsProp (IsOfDisk fault)
of_disk_prop (Disk fault) = Unit-prop
of_disk_prop NoJournal = ⊥_prop
of_disk_prop OtherDocuments = ⊥_prop
of_disk_prop (Damaged line) = ⊥_prop

pub no_fault_prop : (documents file : List ℕ) → IsProp (HasNoFault documents file)
no_fault_prop documents file = Π_prop λ fault. Π_prop λ refused. of_disk_prop fault

pub untouched_of : (documents file now : List ℕ) → IsRecoverable documents file ⊎ (now ≡ file) → HasNoFault documents file ⊎ (now ≡ file)
untouched_of documents file now (inl taken) = inl (not_refused documents file taken)
untouched_of documents file now (inr same) = inr same

pub journal_refused : (path : List ℕ) (fault : RecoveryFault) (output errors : Stream) (text : List ℕ) (status : ℕ) → text ≡ journal_text path fault
    → IsPrinted output errors text refused_status status → IsJournalRefused path fault output status
journal_refused path fault output errors text status is (inl (appends, _, refused)) = inl (subst (Appends output.before output.after) is appends, refused)
journal_refused path fault output errors text status is (inr failed) = inr (inl failed)

pub journal_starved : (path : List ℕ) (fault : RecoveryFault) (output : Stream) (status : ℕ) → Keeps output.before output.after → status ≡ memory_status
    → IsJournalRefused path fault output status
journal_starved path fault output status kept memory = inr (inr (kept, memory))

pub start_told : (path : List ℕ) (fault : StartFault) (refusal : RecoveryFault) (output : Stream) (status : ℕ) → fault ≡ Recovery refusal
    → IsJournalRefused path refusal output status → IsStartTold path fault output status
start_told path fault refusal output status is told = inl (refusal, is, told)

pub start_untold : (path : List ℕ) (fault : StartFault) (output : Stream) (status : ℕ) → Keeps output.before output.after
    → (status ≡ fault_status) ⊎ (status ≡ memory_status) → IsStartTold path fault output status
start_untold path fault output status kept is = inr (kept, is)

-- Over the file

-- the outcome behind the block, by the set, the digits and the block of the start
pub told_as : (set now_set : ClearedSet) (plant : Plant) (digits now_digits base : List ℕ) (commented : Bool) (is_disk : Type 0) (durable seen given block now_block : List ℕ) (unread before after : Option (List ℕ)) (status : ℕ)
    → set ≡ now_set → digits ≡ now_digits → block ≡ now_block
    → IsToldBehind (setup set) plant digits base commented is_disk durable seen given block unread before after status
    → IsToldBehind (setup now_set) plant now_digits base commented is_disk durable seen given now_block unread before after status
told_as set now_set plant digits now_digits base commented is_disk durable seen given block now_block unread before after status same_set same_digits same_block told =
    subst (λ (b : List ℕ). IsToldBehind (setup now_set) plant now_digits base commented is_disk durable seen given b unread before after status) same_block
    (subst (λ (d : List ℕ). IsToldBehind (setup now_set) plant d base commented is_disk durable seen given block unread before after status) same_digits
    (subst (λ (s : ClearedSet). IsToldBehind (setup s) plant digits base commented is_disk durable seen given block unread before after status) same_set told))

pub moments_as : {documents base now_documents now_base : List ℕ} {since now_since moment : ℕ} {left_since : ℕ → Left → Type 0} → documents ≡ now_documents → base ≡ now_base → since ≡ now_since
    → HasRecalled documents base since moment left_since → HasRecalled now_documents now_base now_since moment left_since
moments_as {documents = documents} {base = base} {now_documents = now_documents} {now_base = now_base} {since = since} {moment = moment} {left_since = left_since} same base_is since_is recalled =
    subst (λ (t : ℕ). HasRecalled now_documents now_base t moment left_since) since_is
    (subst (λ (b : List ℕ). HasRecalled now_documents b since moment left_since) base_is
    (subst (λ (d : List ℕ). HasRecalled d base since moment left_since) same recalled))

module _ (disks : DiskKind) (set : ClearedSet) (digits path : List ℕ) (start end : disks.File) (behind : Behind) (output : Stream) (status : ℕ) where
  pub told_refused : (fault : StartFault) → ((refusal : RecoveryFault) → fault ≡ Recovery refusal → disks.is_disk end → IsRefusedFor digits (disks.seen start) refusal)
      → IsStartTold path fault output status → IsJournalTold disks set digits path start end behind output status
  told_refused fault refused (inl (refusal, is, told)) = refuses refusal (refused refusal is) told
  told_refused fault refused (inr untold) = stops untold

module _ (disks : DiskKind) (set : ClearedSet) (digits path : List ℕ) (commented : Bool) (start end : disks.File) (unread before after : Option (List ℕ)) (status : ℕ) where
  pub told_behind : (lines : List (List ℕ)) (plant : Plant) (block base : List ℕ) → (disks.is_disk end → HasNoFault digits (disks.seen start)) → (disks.is_disk end → lines ≡ recovered digits (disks.seen start))
      → IsBlockOf (setup set) opening lines plant block → base ≡ text_of (recovered digits (disks.seen start))
      → IsToldBehind (setup set) plant digits base commented (disks.is_disk end) (disks.durable end) (disks.seen end) (disks.given end) block unread before after status
      → IsJournalTold disks set digits path start end (IsShownBehind disks set digits commented start end unread after status) (record { before = before; after = after }) status
  told_behind lines plant block base taken are is_block base_is (inl (middle, plain, appends, shown, told)) =
      serves lines plant block middle (λ d. (taken d, are d)) is_block appends
      (plain, shown, record { answers = told.answers; never_lost = λ d. told.never_lost d (disks.seen start) base_is; ends = told.ends })
  told_behind lines plant block base taken are is_block base_is (inr (begins, is)) = fails lines plant block taken is_block begins is
