-- Runs that write a file.
use Rattle.std.proofs.Common.{◌≡◌, ℕ, Bool, List, Some, inl, inr, refl, subst}
use Rattle.std.specs.{Prelude.String, Prelude.string_bytes, Global.Global}
use Rattle.clap.specs.Walk.{Text}
use Rattle.batch_cli.specs.CommandLine.{Judgement, Request, write}
use Rattle.batch_verdicts.{specs.Reading.Gives, specs.Requests.IsVerdictText, specs.Running.AskFor, specs.Running.IsDone, specs.Running.IsRun, specs.Running.IsUnwritten, specs.Running.Stream, specs.Running.ask_quiet, specs.Saying.IsWarned, specs.declared.course.Course.Course, proofs.Successes.same_request, proofs.WarningEffects.verdict_more, proofs.WarningEffects.warned_kept}
use Rattle.batch_verdicts.specs.Running as running
use Rattle.batch_verdicts.specs.declared.course.Course.TheVariants as course_of
use Rattle.batch_serve.specs.Serves as serving
use Rattle.batch_program.{specs.Programs.CertificatesAreKept, specs.Programs.IsProgramRun, specs.Programs.tells, specs.Programs.writes, specs.Programs.serves, specs.Programs.serves_desks, specs.Programs.remarks, specs.Programs.keeps, specs.Programs.reads, specs.Programs.draws, specs.Programs.audits, specs.Programs.plants, specs.JournalRuns.JournalFiles, specs.RecordRuns.Holds, specs.RecordRuns.output_of, proofs.ProgramRuns.told_at_once}

done_to_write : (gives : Gives) (request : Request) (quiet : Bool) (output errors : Stream) (course : Course) (path text : String Global)
    → IsDone gives request quiet output errors course → course ≡ course_of.Writes path text
    → (judgement : Judgement) × (request ≡ write (string_bytes path) judgement)
    × IsVerdictText gives (IsWarned quiet errors.before errors.after) judgement (string_bytes text) × IsUnwritten output
done_to_write gives request quiet output errors _ path text (running.writes judgement own said asked told kept) is =
    let same_path : own ≡ path = cc in
    let same_text : said ≡ text = cc in (
      judgement,
      subst (λ (p : String Global). request ≡ write (string_bytes p) judgement) same_path asked,
      subst (λ (t : String Global). IsVerdictText gives (IsWarned quiet errors.before errors.after) judgement (string_bytes t)) same_text told,
      kept,
    )
done_to_write gives request quiet output errors _ path text (running.serves _ _ _ _ _ _) is = absurd cc
done_to_write gives request quiet output errors _ path text (running.reads _ _ _ _) is = absurd cc
done_to_write gives request quiet output errors _ path text (running.plants _ _ _ _ _ _ _) is = absurd cc
done_to_write gives request quiet output errors _ path text (running.halts _ _ _ _ _) is = absurd cc
done_to_write gives request quiet output errors _ path text (running.judges _ _ _ _ _ _ _) is = absurd cc
done_to_write gives request quiet output errors _ path text (running.explains _ _ _ _) is = absurd cc
done_to_write gives request quiet output errors _ path text (running.keeps _ _ _ _ _ _ _ _ _ _) is = absurd cc
done_to_write gives request quiet output errors _ path text (running.remarks _ _ _ _ _ _ _) is = absurd cc
done_to_write gives request quiet output errors _ path text (running.audits _ _ _ _ _ _) is = absurd cc
done_to_write gives request quiet output errors _ path text (running.serves_desks _ _ _ _ _ _ _ _ _ _ _) is = absurd cc
done_to_write gives request quiet output errors _ path text (running.draws _ _ _ _) is = absurd cc

-- the text that is to be written is that of a verdict that accepts, and nothing was written but warnings
pub file_to_write : (gives : Gives) (words : List Text) (output errors : Stream) (course : Course) (path text : String Global)
    → IsRun gives words output errors course → course ≡ course_of.Writes path text
    → (judgement : Judgement) × AskFor words (write (string_bytes path) judgement)
    × IsVerdictText gives (IsWarned (ask_quiet words) errors.before errors.after) judgement (string_bytes text) × IsUnwritten output
file_to_write gives words output errors _ path text (running.commands request course asked came) is =
    let (judgement, named, told, kept) = done_to_write gives request (ask_quiet words) output errors course path text came is in
    (judgement, rw (← named) asked, told, kept)
file_to_write gives words output errors _ path text (running.helps _ _ _ _) is = absurd cc
file_to_write gives words output errors _ path text (running.misuses _ _) is = absurd cc
file_to_write gives words output errors _ path text (running.starves _) is = absurd cc

same_path : (a b : Text) (c d : Judgement) → write a c ≡ write b d → a ≡ b
same_path a b c d is = cc

same_judgement : (a b : Text) (c d : Judgement) → write a c ≡ write b d → c ≡ d
same_judgement a b c d is = cc

kept_at : (gives : Gives) (holds : Holds) (files : JournalFiles) (words : List Text) (ends : serving.Ends) (errors : Stream) (path : Text) (judgement : Judgement) (status : ℕ)
    → AskFor words (write path judgement) → IsProgramRun gives holds files words ends errors status → status ≡ 0
    → (text : List ℕ) × IsVerdictText gives (IsWarned (ask_quiet words) errors.before errors.after) judgement text × holds path (Some text)
    × IsUnwritten (output_of ends)
kept_at gives holds files words ends errors path judgement _ asked (tells status came _) is =
    absurd (told_at_once gives words (output_of ends) errors (write path judgement) status asked came is)
kept_at gives holds files words ends errors path judgement status asked (writes own other text warned _ asked2 told (inl (kept, silent, _)) unwritten _) is =
    let same = same_request words (write own other) (write path judgement) asked2 asked in
    let quiet = ask_quiet words in
    let more = verdict_more gives (IsWarned quiet errors.before warned) (IsWarned quiet errors.before errors.after) other text
    (λ lines. warned_kept quiet errors.before warned errors.after lines silent) told in (
      text,
      subst (λ j. IsVerdictText gives (IsWarned quiet errors.before errors.after) j text) (same_judgement own path other judgement same) more,
      subst (λ p. holds p (Some text)) (same_path own path other judgement same) kept,
      unwritten,
    )
kept_at gives holds files words ends errors path judgement status asked (writes _ _ _ _ _ _ _ (inr (inl fault)) _ _) is = absurd cc
kept_at gives holds files words ends errors path judgement status asked (writes _ _ _ _ _ _ _ (inr (inr memory)) _ _) is = absurd cc
kept_at gives holds files words ends errors path judgement _ asked (serves source _ _ asked2 _ _ _) is =
    absurd (let same = same_request words _ _ asked2 asked in cc)
kept_at gives holds files words ends errors path judgement _ asked (remarks source echo times _ _ asked2 _ _ _) is =
    absurd (let same = same_request words _ _ asked2 asked in cc)
kept_at gives holds files words ends errors path judgement _ asked (keeps journal cell certificate recipes echo times _ _ _ asked2 _ _) is =
    absurd (let same = same_request words _ _ asked2 asked in cc)
kept_at gives holds files words ends errors path judgement _ asked (serves_desks named desks cell certificate recipes times _ _ _ _ asked2 _ _ _) is =
    absurd (let same = same_request words _ _ asked2 asked in cc)
kept_at gives holds files words ends errors path judgement _ asked (audits beginning record_path source _ _ asked2 _ _) is =
    absurd (let same = same_request words _ _ asked2 asked in cc)
kept_at gives holds files words ends errors path judgement _ asked (draws record_path _ asked2 _) is =
    absurd (let same = same_request words _ _ asked2 asked in cc)
kept_at gives holds files words ends errors path judgement _ asked (reads record_path _ asked2 _) is =
    absurd (let same = same_request words _ _ asked2 asked in cc)
kept_at gives holds files words ends errors path judgement _ asked (plants planted _ options _ _ asked2 _ _ _ _) is =
    absurd (let same = same_request words _ _ asked2 asked in cc)

pub certificates_are_kept : (gives : Gives) (holds : Holds) (files : JournalFiles) → CertificatesAreKept gives holds files
certificates_are_kept gives holds files words ends errors path judgement asked came =
    kept_at gives holds files words ends errors path judgement 0 asked came refl
