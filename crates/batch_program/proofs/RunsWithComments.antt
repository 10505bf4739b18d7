-- Runs that serve with comments in the record.
use Rattle.std.proofs.Common.{◌≡◌, ℕ, Bool, List, Option, Some, None, Result, refl, subst, ap, ◌∙◌}
use Rattle.std.specs.Io.KnownBytes.{Keeps}
use Rattle.clap.specs.Walk.{Text}
use Rattle.batch_verify.specs.ClearedSet.{ClearedSet}
use Rattle.batch_cli.specs.{CommandLine.Request, CommandLine.SetSource, CommandLine.remark, declared.comments.Comments.Comments}
use Rattle.batch_verdicts.{specs.Reading.Gives, specs.Requests.IsSetOf, specs.Running.AskFor, specs.Running.IsDone, specs.Running.IsRun, specs.Running.IsUnwritten, specs.Running.Stream, specs.Running.ask_quiet, specs.declared.course.Course.Course, proofs.Successes.same_request}
use Rattle.batch_verdicts.specs.Running as running
use Rattle.batch_verdicts.specs.declared.course.Course.TheVariants as course_of
use Rattle.batch_serve.specs.{Comments.IsRemarked, RemarkedSet.ServesRemarked, Serves.AnswersAll, declared.fault.SetFault.SetFault}
use Rattle.batch_serve.specs.Serves as serving
use Rattle.batch_program.{specs.Programs.IsLeftTold, specs.Programs.IsProgramRun, specs.Programs.RemarkedServingIsSafe, specs.Programs.tells, specs.Programs.writes, specs.Programs.serves, specs.Programs.serves_desks, specs.Programs.keeps, specs.Programs.remarks, specs.Programs.reads, specs.Programs.audits, specs.Programs.plants, specs.Programs.draws, specs.JournalRuns.JournalFiles, specs.RecordRuns.Holds, specs.RecordRuns.output_of, proofs.ProgramRuns.ran_to_the_end, proofs.ProgramRuns.served_kept, proofs.ProgramRuns.told_at_once}

-- contents that are known before are known after it
same_held : (before mid : Option (List ℕ)) (held : List ℕ) → Keeps before mid → before ≡ Some held → mid ≡ Some held
same_held None mid held kept is = absurd (cc is)
same_held (Some x) None held kept is = absurd kept
same_held (Some x) (Some y) held kept is = ap Some kept ∙ is

-- serving, after the writer was left as it was
pub remarked_kept : (set : ClearedSet) (n : ℕ) (served : Result ℕ SetFault) (unread left before mid after : Option (List ℕ)) → Keeps before mid
    → ServesRemarked set n served (record { unread = unread; left = left; before = mid; after = after })
    → ServesRemarked set n served (record { unread = unread; left = left; before = before; after = after })
remarked_kept set n served unread left before mid after kept all = record {
  plain = all.plain;
  remarked = record { known = λ held is. all.remarked.known held (same_held before mid held kept is) };
  serves = served_kept set n served unread left before mid all.plain kept all.serves;
}

-- the set that is to be served is that of the documents that the words name, with the comments that they ask for, and nothing was
-- written
pub record IsToRemark (gives : Gives) (request : Request) (output errors : Stream) (set : ClearedSet) (comments : Comments) : Type 0 where
  pub source : SetSource
  pub asked : request ≡ remark source comments.echo comments.times
  pub is_set : IsSetOf gives source set
  pub unwritten : IsUnwritten output
  pub silent : IsUnwritten errors

done_remarking : (gives : Gives) (request : Request) (quiet : Bool) (output errors : Stream) (set : ClearedSet) (hushed : Bool) (comments : Comments) (course : Course)
    → IsDone gives request quiet output errors course → course ≡ course_of.Remarks set hushed comments
    → IsToRemark gives request output errors set comments × (hushed ≡ quiet)
done_remarking gives request quiet output errors set hushed comments _ (running.remarks source set2 own asked served kept silent) is =
    let same : set2 ≡ set = cc in
    let chosen : own ≡ comments = cc in (
      record {
        source = source;
        asked = subst (λ (o : Comments). request ≡ remark source o.echo o.times) chosen asked;
        is_set = subst (λ s. IsSetOf gives source s) same served;
        unwritten = kept;
        silent = silent;
      },
      cc,
    )
done_remarking gives request quiet output errors set hushed comments _ (running.serves _ _ _ _ _ _) is = absurd cc
done_remarking gives request quiet output errors set hushed comments _ (running.judges _ _ _ _ _ _ _) is = absurd cc
done_remarking gives request quiet output errors set hushed comments _ (running.explains _ _ _ _) is = absurd cc
done_remarking gives request quiet output errors set hushed comments _ (running.halts _ _ _ _ _) is = absurd cc
done_remarking gives request quiet output errors set hushed comments _ (running.keeps _ _ _ _ _ _ _ _ _ _) is = absurd cc
done_remarking gives request quiet output errors set hushed comments _ (running.reads _ _ _ _) is = absurd cc
done_remarking gives request quiet output errors set hushed comments _ (running.draws _ _ _ _) is = absurd cc
done_remarking gives request quiet output errors set hushed comments _ (running.audits _ _ _ _ _ _) is = absurd cc
done_remarking gives request quiet output errors set hushed comments _ (running.serves_desks _ _ _ _ _ _ _ _ _ _ _) is = absurd cc
done_remarking gives request quiet output errors set hushed comments _ (running.plants _ _ _ _ _ _ _) is = absurd cc
done_remarking gives request quiet output errors set hushed comments _ (running.writes _ _ _ _ _ _) is = absurd cc

pub set_to_remark : (gives : Gives) (words : List Text) (output errors : Stream) (course : Course) (set : ClearedSet) (quiet : Bool) (comments : Comments)
    → IsRun gives words output errors course → course ≡ course_of.Remarks set quiet comments
    → (request : Request) × AskFor words request × IsToRemark gives request output errors set comments × (quiet ≡ ask_quiet words)
set_to_remark gives words output errors _ set quiet comments (running.commands request course asked came) is =
    let (remarking, hushed) = done_remarking gives request (ask_quiet words) output errors set quiet comments course came is in
    (request, asked, remarking, hushed)
set_to_remark gives words output errors _ set quiet comments (running.helps _ _ _ _) is = absurd cc
set_to_remark gives words output errors _ set quiet comments (running.misuses _ _) is = absurd cc
set_to_remark gives words output errors _ set quiet comments (running.starves _) is = absurd cc

-- Exit statuses

same_source : (a b : SetSource) (echo times e t : Bool) → remark a e t ≡ remark b echo times → a ≡ b
same_source a b echo times e t is = cc

safe_at : (gives : Gives) (holds : Holds) (files : JournalFiles) (words : List Text) (ends : serving.Ends) (errors : Stream) (source : SetSource) (echo times : Bool) (status : ℕ)
    → AskFor words (remark source echo times) → IsProgramRun gives holds files words ends errors status → status ≡ 0
    → (set : ClearedSet) × (left : ℕ) × (plain : Option (List ℕ)) × IsSetOf gives source set × IsRemarked ends.before ends.after plain
    × AnswersAll set left (record ends { after = plain }) × IsLeftTold (ask_quiet words) errors left
safe_at gives holds files words ends errors source echo times _ asked (tells status came _) is =
    absurd (told_at_once gives words (output_of ends) errors (remark source echo times) status asked came is)
safe_at gives holds files words ends errors source echo times _ asked (writes path judgement _ _ _ asked2 _ _ _ _) is =
    absurd (let same = same_request words _ _ asked2 asked in cc)
safe_at gives holds files words ends errors source echo times _ asked (serves other _ _ asked2 _ _ _) is =
    absurd (let same = same_request words _ _ asked2 asked in cc)
safe_at gives holds files words ends errors source echo times _ asked (remarks other e t set served asked2 is_set all told) is =
    let same = same_source other source echo times e t (same_request words (remark other e t) (remark source echo times) asked2 asked) in
    let (left, answers, says) = ran_to_the_end set served (record ends { after = all.plain }) (ask_quiet words) errors all.serves told is in
    (set, left, all.plain, subst (λ s. IsSetOf gives s set) same is_set, all.remarked, answers, says)
safe_at gives holds files words ends errors source echo times _ asked (keeps path cell certificate recipes e t _ _ _ asked2 _ _) is =
    absurd (let same = same_request words _ _ asked2 asked in cc)
safe_at gives holds files words ends errors source echo times _ asked (audits beginning path other _ _ asked2 _ _) is =
    absurd (let same = same_request words _ _ asked2 asked in cc)
safe_at gives holds files words ends errors source echo times _ asked (serves_desks named desks cell certificate recipes stamped _ _ _ _ asked2 _ _ _) is =
    absurd (let same = same_request words _ _ asked2 asked in cc)
safe_at gives holds files words ends errors source echo times _ asked (reads path _ asked2 _) is =
    absurd (let same = same_request words _ _ asked2 asked in cc)
safe_at gives holds files words ends errors source echo times _ asked (draws path _ asked2 _) is =
    absurd (let same = same_request words _ _ asked2 asked in cc)
safe_at gives holds files words ends errors source echo times _ asked (plants planted _ options _ _ asked2 _ _ _ _) is =
    absurd (let same = same_request words _ _ asked2 asked in cc)

pub remarked_serving_is_safe : (gives : Gives) (holds : Holds) (files : JournalFiles) → RemarkedServingIsSafe gives holds files
remarked_serving_is_safe gives holds files words ends errors source echo times asked came = safe_at gives holds files words ends errors source echo times 0 asked came refl
