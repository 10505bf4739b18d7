-- The record of an audit that accepts.
use Rattle.std.proofs.Common.{◌≡◌, ◌⊎◌, ◌++◌, ℕ, Bool, true, false, List, [], Option, Some, None, inl, inr, refl, sym, subst, append-nil, ◌∙◌}
use Rattle.std.specs.{Prelude.IfSome, Io.KnownBytes.Appends}
use Rattle.clap.specs.Walk.{Text}
use Rattle.batch_verify.specs.ClearedSet.{ClearedSet}
use Rattle.batch_wire.specs.Transcript.{lines_of}
use Rattle.batch_cli.specs.CommandLine.{SetSource, audit}
use Rattle.batch_keep.specs.Audits as findings
use Rattle.batch_keep.specs.{Audits.Finds, Audits.told_text, declared.finding.Finding.Finding, declared.finding.Finding.TheVariants.Agrees, declared.finding.Finding.TheVariants.Differs, declared.finding.Finding.TheVariants.EndsBefore}
use Rattle.batch_verdicts.{specs.Reading.Gives, specs.Requests.IsSetOf, specs.Running.AskFor, specs.Running.IsPrinted, specs.Running.IsUnwritten, specs.Running.Stream, specs.Running.memory_status, specs.VerdictTexts.accepted_text, proofs.Successes.same_request}
use Rattle.batch_serve.specs.Serves as serving
use Rattle.batch_program.{specs.AuditRuns.IsAccepted, specs.AuditRuns.IsAuditTold, specs.AuditRuns.finding_status, specs.AuditRuns.finding_text, specs.AuditRuns.finds, specs.AuditRuns.stops, specs.JournalRuns.JournalFiles, specs.Programs.AuditsAreTrue, specs.Programs.IsProgramRun, specs.Programs.tells, specs.Programs.writes, specs.Programs.serves, specs.Programs.serves_desks, specs.Programs.keeps, specs.Programs.remarks, specs.Programs.reads, specs.Programs.audits, specs.Programs.plants, specs.Programs.draws, specs.RecordRuns.Holds, specs.RecordRuns.IsUntold, specs.RecordRuns.output_of, specs.Telling.IsFindingTold, proofs.ProgramRuns.told_at_once}

-- The bytes that were read

pub read_all : (given : Option (List ℕ)) (before after : List ℕ) → before ≡ [] → IfSome given (λ xs. after ≡ before ++ xs) → IfSome given (λ xs. after ≡ xs)
read_all None before after none is = tt
read_all (Some xs) before after none is = rw none at is

found_there : (set : ClearedSet) (finding : Finding) (given unread : Option (List ℕ)) (text : List ℕ) → IfSome given (λ bytes. text ≡ bytes)
    → IfSome unread (λ input. Finds set (lines_of input) text finding)
    → IfSome given (λ bytes. IfSome unread (λ input. Finds set (lines_of input) bytes finding))
found_there set finding None unread text read found = tt
found_there set finding (Some bytes) unread text read found = rw read at found

-- the finding on the text at the path
pub told_at : (holds : Holds) (set : ClearedSet) (beginning : Bool) (path text : List ℕ) (ends : serving.Ends) (errors : Stream) (status : ℕ)
    → (given : Option (List ℕ)) × holds path given × IfSome given (λ bytes. text ≡ bytes)
    → IsFindingTold set beginning ends.unread text (output_of ends) errors status ⊎ IsUntold (output_of ends) status
    → IsAuditTold holds set beginning path ends errors status
told_at holds set beginning path text ends errors status (given, held, read) (inl told) =
    finds given told.finding held (found_there set told.finding given ends.unread text read told.found) told.printed
told_at holds set beginning path text ends errors status read (inr untold) = stops untold

pub finding_told : (set : ClearedSet) (beginning : Bool) (unread : Option (List ℕ)) (text : List ℕ) (output errors : Stream) (status : ℕ) (finding : Finding)
    → IfSome unread (λ input. Finds set (lines_of input) text finding)
    → IsPrinted output errors (finding_text beginning finding) (finding_status beginning finding) status ⊎ (IsUnwritten output × (status ≡ memory_status))
    → IsFindingTold set beginning unread text output errors status ⊎ IsUntold output status
finding_told set beginning unread text output errors status finding found (inl printed) = inl (record { finding = finding; found = found; printed = printed })
finding_told set beginning unread text output errors status finding found (inr (untouched, memory)) = inr (untouched, inr memory)

-- The finding with status 0

accepted_finding : (set : ClearedSet) (beginning : Bool) (sent : List (List ℕ)) (text : List ℕ) (finding : Finding)
    → Finds set sent text finding → finding_status beginning finding ≡ 0 → IsAccepted set beginning sent text
accepted_finding set false sent text _ (findings.agrees lines has found) is = (lines, has, found)
accepted_finding set true sent text _ (findings.agrees lines has found) is = (
  lines,
  [],
  has,
  record {
    said = found.said;
    new = found.new;
    transcript = found.transcript;
    begins = record { rest = []; splits = sym found.is ∙ sym (append-nil (told_text lines)) };
  },
)
accepted_finding set beginning sent text _ (findings.differs _ _ _ _ _ _ _) is = absurd cc
accepted_finding set false sent text _ (findings.ends _ _ _ _ _) is = absurd cc
accepted_finding set true sent text _ (findings.ends lines last has begins more) is = (lines, last, has, begins)

accepted_where : (set : ClearedSet) (beginning : Bool) (finding : Finding) (given unread : Option (List ℕ)) → finding_status beginning finding ≡ 0
    → IfSome given (λ text. IfSome unread (λ input. Finds set (lines_of input) text finding))
    → IfSome given (λ text. IfSome unread (λ input. IsAccepted set beginning (lines_of input) text))
accepted_where set beginning finding None unread is found = tt
accepted_where set beginning finding (Some text) None is found = tt
accepted_where set beginning finding (Some text) (Some input) is found = accepted_finding set beginning (lines_of input) text finding found is

accepted_line : (beginning : Bool) (finding : Finding) → finding_status beginning finding ≡ 0 → finding_text beginning finding ≡ accepted_text
accepted_line beginning Agrees is = refl
accepted_line beginning (Differs line) is = absurd cc
accepted_line true (EndsBefore line) is = refl
accepted_line false (EndsBefore line) is = absurd cc

-- the finding, if the status is 0
pub record IsFound (holds : Holds) (set : ClearedSet) (beginning : Bool) (path : Text) (ends : serving.Ends) : Type 0 where
  pub given : Option (List ℕ)
  pub held : holds path given
  pub written : Appends ends.before ends.after accepted_text
  pub accepted : IfSome given (λ text. IfSome ends.unread (λ input. IsAccepted set beginning (lines_of input) text))

is_found : (holds : Holds) (set : ClearedSet) (beginning : Bool) (path : Text) (ends : serving.Ends) (errors : Stream) (status : ℕ)
    → IsAuditTold holds set beginning path ends errors status → status ≡ 0 → IsFound holds set beginning path ends
is_found holds set beginning path ends errors status (finds given finding held found (inl (appends, _, same))) is = record {
  given = given;
  held = held;
  written = subst (Appends ends.before ends.after) (accepted_line beginning finding (sym same ∙ is)) appends;
  accepted = accepted_where set beginning finding given ends.unread (sym same ∙ is) found;
}
is_found holds set beginning path ends errors status (finds _ _ _ _ (inr fault)) is = absurd cc
is_found holds set beginning path ends errors status (stops (_, inl fault)) is = absurd cc
is_found holds set beginning path ends errors status (stops (_, inr memory)) is = absurd cc

same_beginning : (a b : Bool) (one other : Text) (x y : SetSource) → audit a one x ≡ audit b other y → a ≡ b
same_beginning a b one other x y is = cc

same_path : (a b : Bool) (one other : Text) (x y : SetSource) → audit a one x ≡ audit b other y → one ≡ other
same_path a b one other x y is = cc

same_documents : (a b : Bool) (one other : Text) (x y : SetSource) → audit a one x ≡ audit b other y → x ≡ y
same_documents a b one other x y is = cc

true_at : (gives : Gives) (holds : Holds) (files : JournalFiles) (words : List Text) (ends : serving.Ends) (errors : Stream) (beginning : Bool) (path : Text) (source : SetSource) (status : ℕ)
    → AskFor words (audit beginning path source) → IsProgramRun gives holds files words ends errors status → status ≡ 0
    → (set : ClearedSet) × IsSetOf gives source set × IsFound holds set beginning path ends
true_at gives holds files words ends errors beginning path source _ asked (tells status came _) is =
    absurd (told_at_once gives words (output_of ends) errors (audit beginning path source) status asked came is)
true_at gives holds files words ends errors beginning path source _ asked (writes other judgement _ _ _ asked2 _ _ _ _) is =
    absurd (let same = same_request words _ _ asked asked2 in cc)
true_at gives holds files words ends errors beginning path source _ asked (serves other _ _ asked2 _ _ _) is =
    absurd (let same = same_request words _ _ asked2 asked in cc)
true_at gives holds files words ends errors beginning path source _ asked (keeps other cell certificate recipes echo times _ _ _ asked2 _ _) is =
    absurd (let same = same_request words _ _ asked asked2 in cc)
true_at gives holds files words ends errors beginning path source _ asked (remarks other echo times _ _ asked2 _ _ _) is =
    absurd (let same = same_request words _ _ asked asked2 in cc)
true_at gives holds files words ends errors beginning path source _ asked (serves_desks named desks cell certificate recipes times _ _ _ _ asked2 _ _ _) is =
    absurd (let same = same_request words _ _ asked2 asked in cc)
true_at gives holds files words ends errors beginning path source _ asked (reads other _ asked2 _) is =
    absurd (let same = same_request words _ _ asked asked2 in cc)
true_at gives holds files words ends errors beginning path source _ asked (draws other _ asked2 _) is =
    absurd (let same = same_request words _ _ asked asked2 in cc)
true_at gives holds files words ends errors beginning path source _ asked (plants planted _ options _ _ asked2 _ _ _ _) is =
    absurd (let same = same_request words _ _ asked2 asked in cc)
true_at gives holds files words ends errors beginning path source _ asked (audits wide other from set status asked2 is_set told) is =
    let same = same_request words (audit wide other from) (audit beginning path source) asked2 asked in (
      set,
      subst (λ s. IsSetOf gives s set) (same_documents wide beginning other path from source same) is_set,
      subst (λ p. IsFound holds set beginning p ends) (same_path wide beginning other path from source same)
          (subst (λ b. IsFound holds set b other ends) (same_beginning wide beginning other path from source same)
          (is_found holds set wide other ends errors status told is)),
    )

pub audits_are_true : (gives : Gives) (holds : Holds) (files : JournalFiles) → AuditsAreTrue gives holds files
audits_are_true gives holds files words ends errors beginning path source asked came =
    let (set, is_set, found) = true_at gives holds files words ends errors beginning path source 0 asked came refl in
    (set, found.given, is_set, found.held, found.written, found.accepted)
