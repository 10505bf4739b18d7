-- The facts about documents that follow from the result of a run.
use Rattle.std.proofs.Common.{arith, ◌≡◌, ◌⊎◌, ◌≤◌, ℕ, Bool, true, false, List, inl, inr, refl, sym, subst, ◌∙◌}
use Rattle.std.specs.{Io.KnownBytes.Appends, Prelude.String, Prelude.if◌then◌else◌, Prelude.string_bytes, List.list_any, Global.Global}
use Rattle.clap.specs.{Kinds.IsAmong, Walk.Text, declared.error.kind.ErrorKind.ErrorKind}
use Rattle.batch_cli.specs.{declared.comments.Comments.Comments, CommandLine.Request, CommandLine.SetSource, CommandLine.demo, CommandLine.faults_of, CommandLine.keep, CommandLine.serve}
use Rattle.batch_verify.specs.ClearedSet.{ClearedSet}
use Rattle.batch_verdicts.{specs.Judging.is_for_memory, specs.Judging.status_of, specs.Reading.Gives, specs.Requests.Halts, specs.Requests.HaltsDemo, specs.Requests.IsDemoSet, specs.Requests.IsSetOf, specs.Running.AskFor, specs.Running.IsAnnounced, specs.Running.IsDone, specs.Running.IsExplained, specs.Running.IsPrinted, specs.Running.IsRun, specs.Running.IsUnwritten, specs.Running.Stream, specs.Running.ask_quiet, specs.Running.memory_status, specs.Running.success_status, specs.Running.commands, specs.Running.status_of_every, specs.Running.serves, specs.Running.reads, specs.Running.serves_desks, specs.Running.audits, specs.Running.plants, specs.Running.halts, specs.Running.judges, specs.Running.explains, specs.Running.helps, specs.Running.misuses, specs.Running.starves, specs.Running.keeps, specs.Running.writes, specs.Running.remarks, specs.Running.draws, specs.Saying.IsWarned, specs.Statuses.AreCodesTold, specs.Statuses.IsSuccess, specs.Statuses.NoCommandServes, specs.Statuses.ServesClearedSets, specs.Statuses.SuccessIsTold, proofs.WarningEffects.verdict_more, proofs.WarningEffects.warned_kept, specs.declared.course.Course.Course, specs.declared.course.Course.TheVariants.Ends, specs.declared.course.Course.TheVariants.Serves, specs.declared.course.Course.TheVariants.Keeps, specs.Digested.AreDigested, specs.declared.digested.Digested.Digested, specs.declared.refusal.DocumentRefusal.DocumentRefusal, specs.declared.refusal.Halt.Halt, specs.declared.refusal.RefusalKind.RefusalKind, specs.declared.refusal.RefusalKind.TheVariants.Fault, specs.declared.refusal.RefusalKind.TheVariants.OutOfMemory}
use Rattle.batch_verdicts.specs.declared.refusal.Halt.TheVariants as halt

-- words that ask for something have no fault
no_fault : (words : List Text) (request : Request) (kind : ErrorKind) → AskFor words request → IsAmong kind (faults_of words) → ⊥
no_fault words request kind asked among = rw asked.0 at among

-- words ask for one thing
pub same_request : (words : List Text) (a b : Request) → AskFor words a → AskFor words b → a ≡ b
same_request words a b one other = one.1 ∙ sym other.1

printed_success : (output errors : Stream) (text : List ℕ) (status : ℕ) → IsPrinted output errors text success_status status → status ≡ 0
    → Appends output.before output.after text × IsUnwritten errors
printed_success output errors text status (inl (appends, silent, _)) is = (appends, silent)
printed_success output errors text status (inr fault) is = absurd cc

-- a command that halts ends with another status

kind_fails : (kind : RefusalKind) → status_of kind ≡ 0 → ⊥
kind_fails Fault is = cc
kind_fails OutOfMemory is = cc

either_fails : (wanting : Bool) → (if wanting then memory_status else status_of Fault) ≡ 0 → ⊥
either_fails true is = cc
either_fails false is = cc

every_fails : (refusals : List DocumentRefusal) → status_of_every refusals ≡ 0 → ⊥
every_fails refusals is = either_fails (list_any (λ r. is_for_memory r.kind) refusals) is

either_in_range : (wanting : Bool) → (if wanting then memory_status else status_of Fault) ≤ 4
either_in_range true = omega arith
either_in_range false = omega arith

pub every_in_range : (refusals : List DocumentRefusal) → status_of_every refusals ≤ 4
every_in_range refusals = either_in_range (list_any (λ r. is_for_memory r.kind) refusals)

no_success : (quiet : Bool) (output errors : Stream) (h : Halt) (status : ℕ) → IsAnnounced quiet output errors h status → status ≡ 0 → ⊥
no_success quiet output errors (halt.Refused refusal) status (inl (_, _, same)) is = kind_fails refusal.kind (sym same ∙ is)
no_success quiet output errors (halt.Refused refusal) status (inr fault) is = cc
no_success quiet output errors (halt.Every refusals) status (inl (_, _, same)) is = every_fails refusals.items (sym same ∙ is)
no_success quiet output errors (halt.Every refusals) status (inr (inl fault)) is = cc
no_success quiet output errors (halt.Every refusals) status (inr (inr (_, memory))) is = cc
no_success quiet output errors (halt.Unread message) status (_, fault) is = cc
no_success quiet output errors halt.Memory status (_, fault) is = cc

explained_success : (texts : List Text) (output errors : Stream) (status : ℕ) → IsExplained texts output errors status → status ≡ 0 → AreCodesTold texts output
explained_success texts output errors status (inl (text, tells, printed)) is =
    (text, tells, (printed_success output errors text status printed is).0)
explained_success texts output errors status (inr (_, inl (_, usage))) is = absurd cc
explained_success texts output errors status (inr (_, inr memory)) is = absurd cc

done_success : (gives : Gives) (request : Request) (quiet : Bool) (output errors : Stream) (course : Course)
    → IsDone gives request quiet output errors course → course ≡ Ends 0 → IsSuccess gives quiet request output errors
done_success gives request quiet output errors _ (judges judgement text status warned asked told printed) is =
    let (appends, silent) = printed_success output (record { before = warned; after = errors.after }) text status printed cc in
    rw asked (
      text,
      appends,
      verdict_more gives (IsWarned quiet errors.before warned) (IsWarned quiet errors.before errors.after) judgement text
          (λ lines. warned_kept quiet errors.before warned errors.after lines silent) told,
    )
done_success gives request quiet output errors _ (explains texts status asked told) is =
    rw asked (explained_success texts output errors status told cc)
done_success gives request quiet output errors _ (halts h status warned _ told) is =
    absurd (no_success quiet output (record { before = warned; after = errors.after }) h status told cc)
done_success gives request quiet output errors _ (serves _ _ _ _ _ _) is = absurd cc
done_success gives request quiet output errors _ (keeps _ _ _ _ _ _ _ _ _ _) is = absurd cc
done_success gives request quiet output errors _ (writes _ _ _ _ _ _) is = absurd cc
done_success gives request quiet output errors _ (remarks _ _ _ _ _ _ _) is = absurd cc
done_success gives request quiet output errors _ (reads _ _ _ _) is = absurd cc
done_success gives request quiet output errors _ (draws _ _ _ _) is = absurd cc
done_success gives request quiet output errors _ (audits _ _ _ _ _ _) is = absurd cc
done_success gives request quiet output errors _ (serves_desks _ _ _ _ _ _ _ _ _ _ _) is = absurd cc
done_success gives request quiet output errors _ (plants _ _ _ _ _ _ _) is = absurd cc

told_success : (gives : Gives) (words : List Text) (output errors : Stream) (request : Request) (course : Course)
    → AskFor words request → IsRun gives words output errors course → course ≡ Ends 0 → IsSuccess gives (ask_quiet words) request output errors
told_success gives words output errors request _ asked (commands other course asked2 came) is =
    subst (λ r. IsSuccess gives (ask_quiet words) r output errors) (same_request words other request asked2 asked) (done_success gives other (ask_quiet words) output errors course came is)
told_success gives words output errors request _ asked (helps text status (kind, among, _) _) is = absurd (no_fault words request kind asked among)
told_success gives words output errors request _ asked (misuses _ _) is = absurd cc
told_success gives words output errors request _ asked (starves _) is = absurd cc

pub success_is_told : (gives : Gives) → SuccessIsTold gives
success_is_told gives words output errors request asked came = told_success gives words output errors request (Ends 0) asked came refl

-- the set that was to be served, with nothing written before
pub record IsServing (gives : Gives) (request : Request) (set : ClearedSet) (output errors : Stream) : Type 0 where
  pub source : SetSource
  pub asked : request ≡ serve source
  pub is_set : IsSetOf gives source set
  pub unwritten : IsUnwritten output
  pub silent : IsUnwritten errors

pub done_serving : (gives : Gives) (request : Request) (quiet : Bool) (output errors : Stream) (set : ClearedSet) (hushed : Bool) (course : Course)
    → IsDone gives request quiet output errors course → course ≡ Serves set hushed
    → IsServing gives request set output errors × (hushed ≡ quiet)
done_serving gives request quiet output errors set hushed _ (serves source set2 asked served kept silent) is =
    let same : set2 ≡ set = cc in
    (record { source = source; asked = asked; is_set = rw (← same) served; unwritten = kept; silent = silent }, cc)
done_serving gives request quiet output errors set hushed _ (judges _ _ _ _ _ _ _) is = absurd cc
done_serving gives request quiet output errors set hushed _ (writes _ _ _ _ _ _) is = absurd cc
done_serving gives request quiet output errors set hushed _ (explains _ _ _ _) is = absurd cc
done_serving gives request quiet output errors set hushed _ (halts _ _ _ _ _) is = absurd cc
done_serving gives request quiet output errors set hushed _ (keeps _ _ _ _ _ _ _ _ _ _) is = absurd cc
done_serving gives request quiet output errors set hushed _ (remarks _ _ _ _ _ _ _) is = absurd cc
done_serving gives request quiet output errors set hushed _ (reads _ _ _ _) is = absurd cc
done_serving gives request quiet output errors set hushed _ (draws _ _ _ _) is = absurd cc
done_serving gives request quiet output errors set hushed _ (audits _ _ _ _ _ _) is = absurd cc
done_serving gives request quiet output errors set hushed _ (serves_desks _ _ _ _ _ _ _ _ _ _ _) is = absurd cc
done_serving gives request quiet output errors set hushed _ (plants _ _ _ _ _ _ _) is = absurd cc

-- the set that was to be served with a journal, with nothing written before
pub record IsKeeping (gives : Gives) (request : Request) (digested : Digested) (journal : String Global) (comments : Comments) (output errors : Stream) : Type 0 where
  pub cell : Text
  pub certificate : Text
  pub recipes : List Text
  pub asked : request ≡ keep (string_bytes journal) cell certificate recipes comments.echo comments.times
  pub is_set : AreDigested gives cell certificate recipes digested.set digested.documents.text
  pub unwritten : IsUnwritten output
  pub silent : IsUnwritten errors

pub done_keeping : (gives : Gives) (request : Request) (quiet : Bool) (output errors : Stream) (digested : Digested) (hushed : Bool) (journal : String Global) (comments : Comments) (course : Course)
    → IsDone gives request quiet output errors course → course ≡ Keeps digested hushed journal comments
    → IsKeeping gives request digested journal comments output errors × (hushed ≡ quiet)
done_keeping gives request quiet output errors digested hushed journal comments _ (keeps cell certificate recipes other own said asked is_set kept silent) is =
    let same : own ≡ digested = cc in
    let named : other ≡ journal = cc in
    let chosen : said ≡ comments = cc in (
      record {
        cell = cell;
        certificate = certificate;
        recipes = recipes;
        asked = subst (λ (o : Comments). request ≡ keep (string_bytes journal) cell certificate recipes o.echo o.times) chosen
            (subst (λ (path : String Global). request ≡ keep (string_bytes path) cell certificate recipes said.echo said.times) named asked);
        is_set = subst (λ (d : Digested). AreDigested gives cell certificate recipes d.set d.documents.text) same is_set;
        unwritten = kept;
        silent = silent;
      },
      cc,
    )
done_keeping gives request quiet output errors digested hushed journal comments _ (serves _ _ _ _ _ _) is = absurd cc
done_keeping gives request quiet output errors digested hushed journal comments _ (remarks _ _ _ _ _ _ _) is = absurd cc
done_keeping gives request quiet output errors digested hushed journal comments _ (judges _ _ _ _ _ _ _) is = absurd cc
done_keeping gives request quiet output errors digested hushed journal comments _ (explains _ _ _ _) is = absurd cc
done_keeping gives request quiet output errors digested hushed journal comments _ (halts _ _ _ _ _) is = absurd cc
done_keeping gives request quiet output errors digested hushed journal comments _ (reads _ _ _ _) is = absurd cc
done_keeping gives request quiet output errors digested hushed journal comments _ (draws _ _ _ _) is = absurd cc
done_keeping gives request quiet output errors digested hushed journal comments _ (audits _ _ _ _ _ _) is = absurd cc
done_keeping gives request quiet output errors digested hushed journal comments _ (serves_desks _ _ _ _ _ _ _ _ _ _ _) is = absurd cc
done_keeping gives request quiet output errors digested hushed journal comments _ (plants _ _ _ _ _ _ _) is = absurd cc
done_keeping gives request quiet output errors digested hushed journal comments _ (writes _ _ _ _ _ _) is = absurd cc

served_set : (gives : Gives) (words : List Text) (output errors : Stream) (request : Request) (set : ClearedSet) (quiet : Bool) (course : Course)
    → AskFor words request → IsRun gives words output errors course → course ≡ Serves set quiet
    → (source : SetSource) × (request ≡ serve source) × IsSetOf gives source set × (quiet ≡ ask_quiet words)
served_set gives words output errors request set quiet _ asked (commands other course asked2 came) is =
    let (serving, hushed) = done_serving gives other (ask_quiet words) output errors set quiet course came is in
    (serving.source, same_request words request other asked asked2 ∙ serving.asked, serving.is_set, hushed)
served_set gives words output errors request set quiet _ asked (helps _ _ _ _) is = absurd cc
served_set gives words output errors request set quiet _ asked (misuses _ _) is = absurd cc
served_set gives words output errors request set quiet _ asked (starves _) is = absurd cc

pub cleared_sets_are_served : (gives : Gives) → ServesClearedSets gives
cleared_sets_are_served gives words output errors request set quiet asked came = served_set gives words output errors request set quiet _ asked came refl

demo_done : (gives : Gives) (request : Request) (quiet : Bool) (output errors : Stream) (course : Course) → request ≡ serve demo
    → IsDone gives request quiet output errors course
    → ((set : ClearedSet) × IsDemoSet set × (course ≡ Serves set quiet)) ⊎ ((h : Halt) × HaltsDemo h) ⊎ (course ≡ Ends memory_status)
demo_done gives request quiet output errors _ demo_asked (serves source set asked served _ _) =
    let same : source ≡ demo = cc in
    inl (set, subst (λ s. IsSetOf gives s set) same served, refl)
demo_done gives request quiet output errors _ demo_asked (halts h status warned halted _) =
    inr (inl (h, (subst (λ r. Halts gives (IsWarned quiet errors.before warned) r h) demo_asked halted).0))
demo_done gives request quiet output errors _ demo_asked (judges _ _ _ _ asked _ _) = absurd cc
demo_done gives request quiet output errors _ demo_asked (writes _ _ _ asked _ _) = absurd cc
demo_done gives request quiet output errors _ demo_asked (explains _ _ asked _) = absurd cc
demo_done gives request quiet output errors _ demo_asked (keeps _ _ _ _ _ _ asked _ _ _) = absurd cc
demo_done gives request quiet output errors _ demo_asked (remarks _ _ _ asked _ _ _) = absurd cc
demo_done gives request quiet output errors _ demo_asked (reads _ asked _ _) = absurd cc
demo_done gives request quiet output errors _ demo_asked (draws _ asked _ _) = absurd cc
demo_done gives request quiet output errors _ demo_asked (audits _ _ asked _ _ _) = absurd cc
demo_done gives request quiet output errors _ demo_asked (serves_desks _ _ _ _ _ _ _ asked _ _ _) = absurd cc
demo_done gives request quiet output errors _ demo_asked (plants _ _ _ asked _ _ _) = absurd cc

pub no_command_serves : (gives : Gives) → NoCommandServes gives
no_command_serves gives words output errors _ asked (commands other course asked2 came) =
    demo_done gives other (ask_quiet words) output errors course (same_request words other (serve demo) asked2 asked) came
no_command_serves gives words output errors _ asked (helps text status (kind, among, _) _) = absurd (no_fault words (serve demo) kind asked among)
no_command_serves gives words output errors _ asked (misuses (kind, among, _) _) = absurd (no_fault words (serve demo) kind asked among)
no_command_serves gives words output errors _ asked (starves _) = inr (inr refl)
