-- The answers to several desks are written again.
use Rattle.std.proofs.Common.{rules, ◌≡◌, ℕ, Bool, true, false, cond, ◌+◌, List, [], ◌∷◌, ◌++◌, length, length-append, get_or, Option, Some, None, Ok, codes, refl, sym, ◌∙◌, ap, subst, append_assoc, arith}
use Rattle.batch_model.specs.Plant.{Setup, Plant}
use Rattle.batch_wire.specs.{EventLine.event_of_line, Transcript.Exchange, Transcript.Transcript, Transcript.lines_of, Transcript.silence, Transcript.followed_by}
use Rattle.batch_serve.{proofs.Exchanges.followed-assoc, proofs.Replays.answers_once, specs.Replays.NoWantIsWell, specs.Replays.ShowsNoWant, specs.Replays.WellServed, specs.Runs.Run, specs.Runs.is_same, specs.Runs.runs_text, specs.Served.AreServed, specs.Served.AreWhole, specs.Served.ShowNoWant, specs.Served.plain_text}
use Rattle.batch_journal.specs.{Journals.recovered, Lines.IsLine, Lines.AreLines, Lines.text_of, Lines.whole_lines_before_zero, Readers.LinesBegin, Readers.StartsText, Recovery.RecoveredAreLines, Recovery.WholeLinesAreLines}
use Rattle.batch_keep.{specs.Desks.AreShort, specs.Desks.DesksAreToldAgain, proofs.RepeatedAnswers.lines_both, proofs.RepeatedAnswers.text_both, proofs.Comments.comment, proofs.Comments.line_both, proofs.AnswersToLines.lines_of_text, proofs.AnswersToLines.no_last}

-- The lines of a journal

abbrev from_line : List (List ℕ) → ℕ → List ℕ
from_line names desk = codes "# from " ++ get_or names desk []

abbrev from_lines : List (List ℕ) → Option ℕ → ℕ → List (List ℕ)
from_lines names before desk = cond (is_same before desk) [] (from_line names desk ∷ [])

abbrev kept_lines : List (List ℕ) → Option ℕ → List Run → List (List ℕ)
kept_lines names before [] = []
kept_lines names before (run ∷ runs) = from_lines names before run.desk ++ (whole_lines_before_zero run.text ++ kept_lines names (Some run.desk) runs)

from_if : (same : Bool) (name : List ℕ) → cond same [] (codes "# from " ++ (name ++ 10 ∷ [])) ≡ text_of (cond same [] ((codes "# from " ++ name) ∷ []))
from_if true name = refl
from_if false name = sym (append_assoc (codes "# from ") name (10 ∷ []))

kept_text : (names : List (List ℕ)) (before : Option ℕ) (runs : List Run) → AreWhole runs → runs_text names before runs ≡ text_of (kept_lines names before runs)
kept_text names before [] whole = refl
kept_text names before (run ∷ runs) whole =
    let from = from_lines names before run.desk in
    let own = whole_lines_before_zero run.text in
    let rest = kept_lines names (Some run.desk) runs in
    ap (λ l. l ++ (run.text ++ runs_text names (Some run.desk) runs)) (from_if (is_same before run.desk) (get_or names run.desk []))
    ∙ ap (λ l. text_of from ++ (l ++ runs_text names (Some run.desk) runs)) whole.0
    ∙ ap (λ l. text_of from ++ (text_of own ++ l)) (kept_text names (Some run.desk) runs whole.1)
    ∙ ap (λ l. text_of from ++ l) (sym (text_both own rest)) ∙ sym (text_both from (own ++ rest))

start_line : IsLine (codes "# from ")
start_line = search rules

from_are : (same : Bool) (line : List ℕ) → IsLine line → AreLines (cond same [] (line ∷ []))
from_are true line is = tt
from_are false line is = (is, tt)

kept_are : WholeLinesAreLines → (names : List (List ℕ)) (before : Option ℕ) (runs : List Run) → AreShort names → AreLines (kept_lines names before runs)
kept_are are names before [] short = tt
kept_are are names before (run ∷ runs) short =
    lines_both (from_lines names before run.desk) (whole_lines_before_zero run.text ++ kept_lines names (Some run.desk) runs)
    (from_are (is_same before run.desk) (from_line names run.desk) (line_both (codes "# from ") (get_or names run.desk []) start_line (short run.desk).0))
    (lines_both (whole_lines_before_zero run.text) (kept_lines names (Some run.desk) runs) (are run.text) (kept_are are names (Some run.desk) runs short))

-- They are served as the runs are

well_both : (c : Setup) (old mid new : Plant) (lines more : List (List ℕ)) (said told : Exchange)
    → WellServed c old lines said mid → WellServed c mid more told new → WellServed c old (lines ++ more) (followed_by said told) new
well_both c old mid new [] more said told one other =
    subst (λ (x : Exchange). WellServed c old more x new) (sym (ap (λ (x : Exchange). followed_by x told) one.0)) (subst (λ (p : Plant). WellServed c p more told new) one.1 other)
well_both c old mid new (line ∷ lines) more said told (first, others, on, answers, rest, is) other =
    (first, followed_by others told, on, answers, well_both c on mid new lines more others told rest other, ap (λ (x : Exchange). followed_by x told) is ∙ followed-assoc first others told)

from_gives_nothing : (names : List (List ℕ)) (desk : ℕ) → AreShort names → event_of_line (from_line names desk) ≡ Ok None
from_gives_nothing names desk short =
    let name = get_or names desk [] in
    let size : length (codes " from " ++ name) ≡ 6 + length name = length-append (codes " from ") name in
    comment (codes " from " ++ name) (omega (arith, size)) (omega (arith, size, (short desk).1))

well_from : (c : Setup) (old new : Plant) (same : Bool) (line : List ℕ) (lines : List (List ℕ)) (said : Exchange) → event_of_line line ≡ Ok None
    → WellServed c old lines said new → WellServed c old (cond same [] (line ∷ []) ++ lines) said new
well_from c old new true line lines said none well = well
well_from c old new false line lines said none well = rw none (silence, said, old, (refl, refl), well, refl)

record AreWell (c : Setup) (old : Plant) (lines : List (List ℕ)) (answers : List Run) (new : Plant) : Type 0 where
  pub said : Exchange
  pub well : WellServed c old lines said new
  pub text : said.text ≡ plain_text answers

kept_well : NoWantIsWell → WholeLinesAreLines → (c : Setup) (old new : Plant) (names : List (List ℕ)) (before : Option ℕ) (runs answers : List Run) → AreShort names → AreWhole runs
    → ShowNoWant answers → AreServed c old runs answers new → AreWell c old (kept_lines names before runs) answers new
kept_well law are c old new names before [] answers short whole shows served = record { said = silence; well = (refl, served.1); text = ap plain_text (sym served.0) }
kept_well law are c old new names before (run ∷ runs) answers short whole shows (first, others, mid, is, served, all) =
    let own = whole_lines_before_zero run.text in
    let shown = subst ShowNoWant all shows in
    let split : lines_of run.text ≡ own ++ [] ∷ [] = ap lines_of whole.0 ∙ lines_of_text own (are run.text) in
    let one : WellServed c old own is.said mid =
    law c old mid own is.said (no_last c old mid own is.said (subst (λ l. Transcript c old l is.said mid) split is.transcript)) (subst ShowsNoWant is.text shown.0) in
    let rest = kept_well law are c mid new names (Some run.desk) runs others short whole.1 shown.1 served in
    record {
      said = followed_by is.said rest.said;
      well = well_from c old new (is_same before run.desk) (from_line names run.desk) (own ++ kept_lines names (Some run.desk) runs) (followed_by is.said rest.said) (from_gives_nothing names run.desk short)
          (well_both c old mid new own (kept_lines names (Some run.desk) runs) is.said rest.said one rest.well);
      text = ap (λ l. l ++ rest.said.text) (sym is.text) ∙ ap (λ l. first.text ++ l) rest.text ∙ ap plain_text (sym all);
    }

-- A replay of more lines begins with the answers to the first

record Continues (c : Setup) (mid last : Plant) (more : List (List ℕ)) (said whole : Exchange) : Type 0 where
  pub others : Exchange
  pub goes_on : WellServed c mid more others last
  pub tells : whole.text ≡ said.text ++ others.text

continues : (c : Setup) (old mid last : Plant) (lines more : List (List ℕ)) (said whole : Exchange)
    → WellServed c old lines said mid → WellServed c old (lines ++ more) whole last → Continues c mid last more said whole
continues c old mid last [] more said whole one all = record {
  others = whole;
  goes_on = subst (λ (p : Plant). WellServed c p more whole last) (sym one.1) all;
  tells = ap (λ (x : Exchange). x.text ++ whole.text) (sym one.0);
}
continues c old mid last (line ∷ lines) more said whole (first, others, on, answers, rest, is) (first_all, others_all, on_all, answers_all, rest_all, is_all) =
    let same = answers_once c old (event_of_line line) first first_all on on_all answers answers_all in
    let below = continues c on mid last lines more others others_all rest (subst (λ (p : Plant). WellServed c p (lines ++ more) others_all last) (sym same.1) rest_all) in
    record {
      others = below.others;
      goes_on = below.goes_on;
      tells = ap (λ (x : Exchange). x.text) is_all ∙ ap (λ (x : Exchange). x.text ++ others_all.text) (sym same.0) ∙ ap (λ l. first.text ++ l) below.tells
          ∙ sym (append_assoc first.text others.text below.others.text) ∙ ap (λ (x : Exchange). x.text ++ below.others.text) (sym is);
    }

pub desks_again : WholeLinesAreLines → RecoveredAreLines → LinesBegin → NoWantIsWell → DesksAreToldAgain
desks_again are are_recovered begin law c first old new last documents start file names runs answers replayed whole before shows served no_want runs_whole short starts all shows_all =
    let b = recovered documents start in
    let kept = kept_lines names None runs in
    let text : text_of b ++ runs_text names None runs ≡ text_of (b ++ kept) = ap (λ l. text_of b ++ l) (kept_text names None runs runs_whole) ∙ sym (text_both b kept) in
    let found = begin documents (b ++ kept) file (lines_both b kept (are_recovered documents start) (kept_are are names None runs short))
    (subst (λ l. StartsText l (text_of (recovered documents file))) text starts) in
    let split : recovered documents file ≡ b ++ (kept ++ found.0) = found.1 ∙ append_assoc b kept found.0 in
    let whole_well : WellServed c first (b ++ (kept ++ found.0)) whole last = subst (λ l. WellServed c first l whole last) split (law c first last (recovered documents file) whole all shows_all) in
    let well = kept_well law are c old new names None runs answers short runs_whole no_want served in
    let one = continues c first old last b (kept ++ found.0) replayed whole (law c first old b replayed before shows) whole_well in
    let two = continues c old new last kept found.0 well.said one.others well.well one.goes_on in
    record {
      rest = two.others.text;
      splits = one.tells ∙ ap (λ l. replayed.text ++ l) (two.tells ∙ ap (λ l. l ++ two.others.text) well.text) ∙ sym (append_assoc replayed.text (plain_text answers) two.others.text);
    }
