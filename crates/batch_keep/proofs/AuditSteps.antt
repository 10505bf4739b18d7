-- The step of an audit by a line that was sent, and its finding.
use Rattle.std.proofs.Common.{◌≡◌, ◌⊎◌, ℕ, ◌+◌, ◌-◌, ◌^◌, true, false, not, List, [], ◌∷◌, ◌++◌, Option, Some, None, Result, Ok, Err, length, min, take, drop, refl, sym, ap, subst, ◌∙◌, append_assoc, append-nil, codes, IfSome, inl, inr, arith}
use Rattle.std.{specs.Prelude.◌≢◌, specs.List.list_all, proofs.lemmas.List.append_cancel_left, proofs.lemmas.List.length-append, proofs.lemmas.List.take_rest, proofs.lemmas.List.Sums.list_all-from_AllPass}
use Rattle.batch_model.specs.{Events.Event, Plant.Setup, Plant.Plant, Plant.opening}
use Rattle.batch_verify.specs.ClearedSet.{ClearedSet}
use Rattle.batch_engine.specs.View.{setup}
use Rattle.batch_wire.{specs.EventLine.event_of_line, specs.EventLine.is_comment, specs.Transcript.Answers, specs.Transcript.Exchange, specs.Transcript.Transcript, specs.Transcript.followed_by, specs.Transcript.lines_of, specs.Transcript.refusal, specs.Transcript.silence, specs.declared.fault.WireFault.WireFault, specs.declared.fault.WireFault.TheVariants.Memory, specs.LineEnds.EndsLine, specs.LineEnds.HasNoFeed, proofs.LineEnds.last_of, proofs.LineEnds.lines_apart}
use Rattle.batch_serve.{specs.Replays.AnswersWell, specs.Replays.BeginsText, specs.Replays.IsWholeLines, specs.Safe.TranscriptsAreSafe, proofs.Replays.is_other, proofs.Replays.whole_line, proofs.Replays.whole_then, proofs.TranscriptLines.answers_whole}
use Rattle.batch_keep.{specs.Auditing.IsAnswered, specs.Auditing.IsAudited, specs.Auditing.IsFree, specs.Auditing.IsNotFree, specs.Auditing.IsPassedOver, specs.Auditing.Reaches, specs.Audits.BeginsNoRecord, specs.Audits.BeginsRecordOf, specs.Audits.Finds, specs.Audits.IsRecordOfNone, specs.Audits.agrees, specs.Audits.differs, specs.Audits.ends, specs.Audits.number_behind, specs.Audits.told_line, specs.Audits.told_text, specs.Comparing.Compares, specs.Comparing.Finishes, specs.Comparing.Halts, specs.Comparing.IsCompared, specs.Comparing.IsEnd, specs.Comparing.IsNextLine, specs.Comparing.TakesLines, specs.declared.finding.Finding.Finding, specs.declared.finding.Finding.TheVariants.Differs, specs.declared.finding.Finding.TheVariants.EndsBefore, proofs.LineOutcomes.free_answers, proofs.LineOutcomes.free_once, proofs.LineOutcomes.silent_once, proofs.LineOutcomes.well_once, proofs.LineOutcomes.well_told, proofs.RecordComparison.comments_tell, proofs.RecordComparison.some_lines, proofs.RecordComparison.takes_both, proofs.RecordComparison.told_both, proofs.RecordComparison.told_first, proofs.RecordComparison.told_of}
use Rattle.batch_keep.specs.Comparing as comparing

-- Transcripts

-- each line has an answer that leaves the plant: one that gives an event may be refused for want of memory
may_be_refused : (c : Setup) (plant : Plant) (says : Result (Option Event) WireFault) → (said : Exchange) × Answers c plant says said plant
may_be_refused c plant (Ok None) = (silence, (refl, refl))
may_be_refused c plant (Err fault) = (refusal fault, (refl, refl))
may_be_refused c plant (Ok (Some event)) = (refusal Memory, inl (refl, refl))

some_transcript : (c : Setup) (plant : Plant) (lines : List (List ℕ)) → (said : Exchange) × Transcript c plant lines said plant
some_transcript c plant [] = (silence, (refl, refl))
some_transcript c plant (line ∷ lines) =
    let others = some_transcript c plant lines in
    let first = may_be_refused c plant (event_of_line line) in
    (followed_by first.0 others.0, (first.0, others.0, plant, first.1, others.1, refl))

-- nothing was answered yet
pub starts : (c : Setup) (all : List (List ℕ)) → Reaches c all all opening []
starts c all = record {
  onward = λ others last t. (others, t, refl);
  only = λ whole last t begins. record { others = whole; transcript = t; tells = refl };
}

-- Reaches of a text that is the same
reaches_so : (c : Setup) (all left : List (List ℕ)) (plant : Plant) (text other : List ℕ) → text ≡ other → Reaches c all left plant text → Reaches c all left plant other
reaches_so c all left plant text other is r = subst (Reaches c all left plant) is r

module _ (c : Setup) (all left : List (List ℕ)) (line : List ℕ) (plant : Plant) (text : List ℕ) (so_far : Reaches c all (line ∷ left) plant text) where
  -- the text of a transcript of all lines, behind this text, is an answer to the line and a transcript of the others
  record Behind (told : List ℕ) (last : Plant) : Type 0 where
    first : Exchange
    others : Exchange
    mid : Plant
    answers : Answers c plant (event_of_line line) first mid
    goes_on : Transcript c mid left others last
    tells : first.text ++ others.text ≡ told

  behind : (told : List ℕ) (whole : Exchange) (last : Plant) → Transcript c opening all whole last → whole.text ≡ text ++ told → Behind told last
  behind told whole last t is =
      let on = so_far.only whole last t (record { rest = told; splits = is }) in
      from on.others on.transcript on.tells
    where
      from : (said : Exchange) → Transcript c plant (line ∷ left) said last → whole.text ≡ text ++ said.text → Behind told last
      from said (first, others, mid, answers, rest, same) tells = record {
        first = first;
        others = others;
        mid = mid;
        answers = answers;
        goes_on = rest;
        tells = ap (λ (x : Exchange). x.text) (sym same) ∙ append_cancel_left text said.text told (sym tells ∙ is);
      }

  -- an answer that no other has a part of the text with leads on
  pub further : (said : Exchange) (mid : Plant) → Answers c plant (event_of_line line) said mid
      → ((other : Exchange) (then_on : Plant) (s more : List ℕ) → Answers c plant (event_of_line line) other then_on → other.text ++ s ≡ said.text ++ more
      → (other.text ≡ said.text) × (then_on ≡ mid))
      → Reaches c all left mid (text ++ said.text)
  further said mid answers once = record {
    onward = λ others last t.
        (let on = so_far.onward (followed_by said others) last (said, others, mid, answers, t, refl) in
        (on.0, on.1, on.2 ∙ sym (append_assoc text said.text others.text)));
    only = λ whole last t begins.
        (let b = behind (said.text ++ begins.rest) whole last t (begins.splits ∙ append_assoc text said.text begins.rest) in
        let same = once b.first b.mid b.others.text begins.rest b.answers b.tells in
        let rest : b.others.text ≡ begins.rest =
        append_cancel_left said.text b.others.text begins.rest (ap (λ l. l ++ b.others.text) (sym same.0) ∙ b.tells) in
        record {
          others = b.others;
          transcript = subst (λ p. Transcript c p left b.others last) same.1 b.goes_on;
          tells = begins.splits ∙ ap (λ l. (text ++ said.text) ++ l) (sym rest);
        });
  }

  -- a part of an answer begins a transcript
  begins_some : (said : Exchange) (mid : Plant) (told rest : List ℕ) → Answers c plant (event_of_line line) said mid → said.text ≡ told ++ rest
      → (whole : Exchange) × (last : Plant) × Transcript c opening all whole last × BeginsText (text ++ told) whole.text
  begins_some said mid told rest answers is =
      let others = some_transcript c mid left in
      let on = so_far.onward (followed_by said others.0) mid (said, others.0, mid, answers, others.1, refl) in (
        on.0,
        mid,
        on.1,
        record {
          rest = rest ++ others.0.text;
          splits = on.2 ∙ ap (λ l. text ++ (l ++ others.0.text)) is ∙ ap (λ l. text ++ l) (append_assoc told rest others.0.text)
              ∙ sym (append_assoc text told (rest ++ others.0.text));
        },
      )

-- Lines of the record

number_is : (lines : List (List ℕ)) (count number : ℕ) → min count (2 ^ 64 - 1) ≡ min (0 + length lines) (2 ^ 64 - 1) → number ≡ min (count + 1) (2 ^ 64 - 1)
    → number ≡ number_behind lines
number_is lines count number counted is = omega (arith, counted, is)

-- lines, of which the last may be empty, have a last
last_line : (lines : List (List ℕ)) → lines ≢ [] → (front : List (List ℕ)) × (last : List ℕ) × (lines ≡ front ++ last ∷ [])
last_line [] some = absurd (some refl)
last_line (line ∷ []) some = ([], line, refl)
last_line (line ∷ other ∷ lines) some =
    let on = last_line (other ∷ lines) (λ is. absurd (cc is)) in
    (line ∷ on.0, on.1, ap (λ l. line ∷ l) on.2)

-- the first of lines that others follow ends with a line feed
record IsFirst (c : Setup) (plant : Plant) (says : Result (Option Event) WireFault) (line : List ℕ) : Type 0 where
  plain : HasNoFeed line
  words : is_comment line ≡ false
  other : IsFree c plant says line → ⊥

first_line : (c : Setup) (plant : Plant) (says : Result (Option Event) WireFault) (rest : List ℕ) (next : Option ℕ) → IsNotFree c plant says rest next
    → (line : List ℕ) (others : List (List ℕ)) → others ≢ [] → lines_of rest ≡ line ∷ others → IsFirst c plant says line
first_line c plant says rest None none line others some is =
    let alone : rest ∷ [] ≡ line ∷ others = sym (last_of rest none) ∙ is in
    absurd (some (sym (cc alone)))
first_line c plant says rest (Some at) here line others some is =
    let lines : take at rest ∷ lines_of (drop (at + 1) rest) ≡ line ∷ others = sym (lines_apart rest at here.0.0) ∙ is in
    let same : take at rest ≡ line = cc lines in
    subst (IsFirst c plant says) same (record { plain = here.0.0.before; words = here.0.1; other = here.1 })

has_more : (lines : List (List ℕ)) (rest : List ℕ) → lines ++ lines_of rest ≢ []
has_more [] rest is = some_lines rest is
has_more (line ∷ lines) rest is = absurd (cc is)

-- a line has no line feed
fed_not : (line : List ℕ) → HasNoFeed line → list_all is_other line ≡ true
fed_not line plain = list_all-from_AllPass is_other line (λ k d l. ap not (plain k d l))

-- Findings

module _ (set : ClearedSet) (all : List (List ℕ)) (text : List ℕ) where
  record_of : (safe : TranscriptsAreSafe set) (told : List ℕ) → (whole : Exchange) × (last : Plant) × Transcript (setup set) opening all whole last × BeginsText told whole.text → BeginsRecordOf set all told
  record_of safe told (whole, last, t, begins) = record { said = whole; new = last; transcript = safe all whole last t; begins = begins }

  differs_so : (lines : List (List ℕ)) (count number at : ℕ) (rest : List ℕ) → TakesLines 0 text lines count rest → EndsLine at rest → number ≡ min (count + 1) (2 ^ 64 - 1)
      → BeginsRecordOf set all (told_text lines) → BeginsNoRecord set all (told_text lines ++ told_line (take at rest)) → Finds set all text (Differs number)
  differs_so lines count number at rest takes here is begins none =
      let end = last_line (lines_of (drop (at + 1) rest)) (some_lines (drop (at + 1) rest)) in
      subst (λ n. Finds set all text (Differs n)) (sym (number_is lines count number takes.counted is))
      (differs lines end.0 (take at rest) end.1
      (takes.read ∙ ap (λ l. lines ++ l) (lines_apart rest at here ∙ ap (λ l. take at rest ∷ l) end.2) ∙ sym (append_assoc lines (take at rest ∷ end.0) (end.1 ∷ [])))
      begins none)

  ends_so : (lines : List (List ℕ)) (count number : ℕ) (rest : List ℕ) → TakesLines 0 text lines count rest → HasNoFeed rest → number ≡ min (count + 1) (2 ^ 64 - 1)
      → BeginsRecordOf set all (told_text lines) → (rest ≢ []) ⊎ IsRecordOfNone set all (told_text lines) → Finds set all text (EndsBefore number)
  ends_so lines count number rest takes none is begins more =
      subst (λ n. Finds set all text (EndsBefore n)) (sym (number_is lines count number takes.counted is))
      (ends lines rest (takes.read ∙ ap (λ l. lines ++ l) (last_of rest none)) begins more)

-- The lines that were sent

pub begins_audit : (set : ClearedSet) (all : List (List ℕ)) (text : List ℕ) (plant : Plant) (count : ℕ) (rest : List ℕ) → plant ≡ opening → count ≡ 0 → rest ≡ text
    → TranscriptsAreSafe set → IsAudited set all all plant text count rest
begins_audit set all text plant count rest new none is safe = record {
  lines = [];
  takes = record { read = ap lines_of (sym is); counted = omega (arith, none) };
  reaches = subst (λ p. Reaches (setup set) all all p []) (sym new) (starts (setup set) all);
  safe = safe;
}

module _ (set : ClearedSet) (all : List (List ℕ)) (plant : Plant) (text : List ℕ) (count : ℕ) (left rest : List ℕ) where
  pub first_is_next : (at : ℕ) → EndsLine at rest → IsAudited set all (lines_of rest) plant text count left
      → IsAudited set all (take at rest ∷ lines_of (take (length rest - (at + 1)) (drop (at + 1) rest))) plant text count left
  first_is_next at here so_far =
      subst (λ l. IsAudited set all l plant text count left) (lines_apart rest at here ∙ ap (λ l. take at rest ∷ lines_of l) (sym (take_rest rest (at + 1)))) so_far

  pub last_is_next : HasNoFeed rest → IsAudited set all (lines_of rest) plant text count left → IsAudited set all (rest ∷ []) plant text count left
  last_is_next none so_far = subst (λ l. IsAudited set all l plant text count left) (last_of rest none) so_far

-- an audit goes on by the line that comes next, of an engine that keeps its set
pub steps : (a set : ClearedSet) (all left : List (List ℕ)) (line : List ℕ) (plant new : Plant) (text : List ℕ) (count then_on : ℕ) (rest last : List ℕ) (given found : Option Finding)
    → a ≡ set → given ≡ found → IsAudited set all (line ∷ left) plant text count rest
    → ((lines more : List (List ℕ)) (t : List ℕ) → IsAudited a lines (line ∷ more) plant t count rest → IsAnswered a lines more new t then_on last given)
    → IsAnswered set all left new text then_on last found
steps a set all left line plant new text count then_on rest last given found same is so_far answers =
    subst (λ f. IsAnswered set all left new text then_on last f) is
    (subst (λ s. IsAnswered s all left new text then_on last given) same
    (answers all left text (subst (λ s. IsAudited s all (line ∷ left) plant text count rest) (sym same) so_far)))

-- all that was to be read was read
pub finds_of_input : (set : ClearedSet) (unread : Option (List ℕ)) (read text : List ℕ) (finding : Finding) → IfSome unread (λ input. read ≡ input)
    → Finds set (lines_of read) text finding → IfSome unread (λ input. Finds set (lines_of input) text finding)
finds_of_input set None read text finding is f = tt
finds_of_input set (Some input) read text finding is f = subst (λ l. Finds set (lines_of l) text finding) is f

-- A line that was sent

module _ (set : ClearedSet) (all left : List (List ℕ)) (line : List ℕ) (plant : Plant) (text : List ℕ) (count : ℕ) (rest : List ℕ)
    (so_far : IsAudited set all (line ∷ left) plant text count rest) where
  -- a refusal for want of memory that is free is passed over
  pub passes_over : (mid then_on at : ℕ) (between last : List ℕ) → IsCompared count rest [] mid between [] → EndsLine at between → IsFree (setup set) plant (event_of_line line) (take at between)
      → is_comment (take at between) ≡ false → TakesLines mid between (take at between ∷ []) then_on last → IsAudited set all left plant text then_on last
  passes_over mid then_on at between last comments here free words takes =
      let said = free_answers (setup set) plant (event_of_line line) (take at between) free in
      let once : (other : Exchange) (on : Plant) (s more : List ℕ) → Answers (setup set) plant (event_of_line line) other on → other.text ++ s ≡ said.0.text ++ more
      → (other.text ≡ said.0.text) × (on ≡ plant)
      = λ other on s more answers is.
      (let same = free_once (setup set) plant (event_of_line line) (take at between) other on s more free answers (is ∙ ap (λ l. l ++ more) said.2) in
      (same.0 ∙ sym said.2, same.1)) in
      let on = further (setup set) all left line plant (told_text so_far.lines) so_far.reaches said.0 plant said.1 once in
      let lines : List (List ℕ) = comments.lines ++ take at between ∷ [] in
      let told : told_text (so_far.lines ++ lines) ≡ told_text so_far.lines ++ said.0.text =
      told_both so_far.lines lines
      ∙ ap (λ l. told_text so_far.lines ++ l) (told_both comments.lines (take at between ∷ []) ∙ ap (λ l. l ++ told_text (take at between ∷ [])) (comments_tell count rest mid between comments)
      ∙ told_first (take at between) [] words ∙ sym said.2) in
      record {
        lines = so_far.lines ++ lines;
        takes = takes_both 0 text so_far.lines lines count then_on rest last so_far.takes (takes_both count rest comments.lines (take at between ∷ []) mid then_on between last comments.takes takes);
        reaches = reaches_so (setup set) all left plant (told_text so_far.lines ++ said.0.text) (told_text (so_far.lines ++ lines)) (sym told) on;
        safe = so_far.safe;
      }

  -- the engine's own answer, which had memory, was compared with the lines that come next
  module _ (mid then_on : ℕ) (between last due : List ℕ) (new : Plant) (comments : IsCompared count rest [] mid between []) (said : Exchange) (next : Option ℕ)
      (not_free : IsNotFree (setup set) plant (event_of_line line) between next) (answers : Answers (setup set) plant (event_of_line line) said new)
      (well : AnswersWell (setup set) plant (event_of_line line) said new) (is_due : due ≡ said.text) where
    record Compared (left_due : List ℕ) : Type 0 where
      lines : List (List ℕ)
      takes : TakesLines mid between lines then_on last
      told : said.text ≡ told_text lines ++ left_due
      taken : TakesLines 0 text (so_far.lines ++ (comments.lines ++ lines)) then_on last
      tells : told_text (so_far.lines ++ (comments.lines ++ lines)) ≡ told_text so_far.lines ++ told_text lines

    compared : (left_due : List ℕ) → IsCompared mid between due then_on last left_due → Compared left_due
    compared left_due a = record {
      lines = a.lines;
      takes = a.takes;
      told = sym is_due ∙ a.told;
      taken = takes_both 0 text so_far.lines (comments.lines ++ a.lines) count then_on rest last so_far.takes
          (takes_both count rest comments.lines a.lines mid then_on between last comments.takes a.takes);
      tells = told_both so_far.lines (comments.lines ++ a.lines)
          ∙ ap (λ l. told_text so_far.lines ++ l) (told_both comments.lines a.lines ∙ ap (λ l. l ++ told_text a.lines) (comments_tell count rest mid between comments));
    }

    -- an answer that begins with the first of these lines is this one
    same_answer : (first : List ℕ) (others : List (List ℕ)) → others ≢ [] → lines_of between ≡ first ∷ others → (other : Exchange) (on : Plant) (s more : List ℕ)
        → Answers (setup set) plant (event_of_line line) other on → other.text ++ s ≡ first ++ 10 ∷ more → (other.text ≡ said.text) × (on ≡ new)
    same_answer first others some is other on s more a tells =
        let at = first_line (setup set) plant (event_of_line line) between next not_free first others some is in
        well_once (setup set) plant (event_of_line line) first said other new on s more at.other at.plain well a tells

    first_words : (first : List ℕ) (others : List (List ℕ)) → others ≢ [] → lines_of between ≡ first ∷ others → is_comment first ≡ false
    first_words first others some is = (first_line (setup set) plant (event_of_line line) between next not_free first others some is).words

    pub all_told : (left_due : List ℕ) → IsCompared mid between due then_on last left_due → left_due ≡ [] → IsAudited set all left new text then_on last
    all_told left_due a none =
        let k = compared left_due a in
        let told : said.text ≡ told_text k.lines = k.told ∙ ap (λ l. told_text k.lines ++ l) none ∙ append-nil (told_text k.lines) in
        record {
          lines = so_far.lines ++ (comments.lines ++ k.lines);
          takes = k.taken;
          reaches = reaches_so (setup set) all left new (told_text so_far.lines ++ said.text) (told_text (so_far.lines ++ (comments.lines ++ k.lines)))
              (ap (λ l. told_text so_far.lines ++ l) told ∙ sym k.tells)
              (further (setup set) all left line plant (told_text so_far.lines) so_far.reaches said new answers (once k.lines k.takes.read told));
          safe = so_far.safe;
        }
      where
        once : (lines : List (List ℕ)) → lines_of between ≡ lines ++ lines_of last → said.text ≡ told_text lines → (other : Exchange) (on : Plant) (s more : List ℕ)
            → Answers (setup set) plant (event_of_line line) other on → other.text ++ s ≡ said.text ++ more → (other.text ≡ said.text) × (on ≡ new)
        once [] read told other on s more a is = silent_once (setup set) plant (event_of_line line) said other new on told answers a
        once (first ∷ lines) read told other on s more a is =
            let words = first_words first (lines ++ lines_of last) (has_more lines last) read in
            same_answer first (lines ++ lines_of last) (has_more lines last) read other on s (told_text lines ++ more) a
            (is ∙ ap (λ l. l ++ more) (told ∙ told_first first lines words) ∙ append_assoc first (10 ∷ told_text lines) more)

    begins_it : (lines : List (List ℕ)) (left_due : List ℕ) → said.text ≡ told_text lines ++ left_due → (whole : List (List ℕ)) → told_text whole ≡ told_text so_far.lines ++ told_text lines
        → BeginsRecordOf set all (told_text whole)
    begins_it lines left_due told whole tells =
        subst (BeginsRecordOf set all) (sym tells)
        (record_of set all text so_far.safe (told_text so_far.lines ++ told_text lines)
        (begins_some (setup set) all left line plant (told_text so_far.lines) so_far.reaches said new (told_text lines) left_due answers told))

    pub line_differs : (left_due : List ℕ) (number at : ℕ) → IsCompared mid between due then_on last left_due → IsNextLine last (Some at) → left_due ≢ []
        → (BeginsText (take at last ++ 10 ∷ []) left_due → ⊥) → number ≡ min (then_on + 1) (2 ^ 64 - 1) → Finds set all text (Differs number)
    line_differs left_due number at a here some other is =
        let k = compared left_due a in
        differs_so set all text (so_far.lines ++ (comments.lines ++ k.lines)) then_on number at last k.taken here.0 is
        (begins_it k.lines left_due k.told (so_far.lines ++ (comments.lines ++ k.lines)) k.tells)
        (none_begins k.lines k.takes.read k.told (so_far.lines ++ (comments.lines ++ k.lines)) k.tells)
      where
        wrong : List ℕ
        wrong = take at last ++ 10 ∷ []

        -- the first line that was due, and the rest behind it
        clash : (lines : List (List ℕ)) → said.text ≡ told_text lines ++ left_due → (other_said : Exchange) (s more : List ℕ) → other_said.text ≡ said.text
            → other_said.text ++ s ≡ told_text lines ++ (wrong ++ more) → ⊥
        clash lines told other_said s more same tells =
            let rest : left_due ++ s ≡ wrong ++ more =
            append_cancel_left (told_text lines) (left_due ++ s) (wrong ++ more)
            (sym (append_assoc (told_text lines) left_due s) ∙ ap (λ l. l ++ s) (sym told ∙ sym same) ∙ tells) in
            begins (answer_left lines told) rest
          where
            answer_left : (lines : List (List ℕ)) → said.text ≡ told_text lines ++ left_due → IsWholeLines left_due
            answer_left lines told = whole_then said.text (told_text lines) left_due told (answers_whole (setup set) plant (event_of_line line) said new answers)

            begins : IsWholeLines left_due → left_due ++ s ≡ wrong ++ more → ⊥
            begins (inl none) rest = some none
            begins (inr (front, fed)) rest =
                let found = whole_line (take at last) left_due s more (fed_not (take at last) here.0.before) front fed (rest ∙ append_assoc (take at last) (10 ∷ []) more) in
                other (record { rest = found.0; splits = found.1 ∙ sym (append_assoc (take at last) (10 ∷ []) found.0) })

        none_begins : (lines : List (List ℕ)) → lines_of between ≡ lines ++ lines_of last → said.text ≡ told_text lines ++ left_due
            → (whole : List (List ℕ)) → told_text whole ≡ told_text so_far.lines ++ told_text lines → BeginsNoRecord set all (told_text whole ++ told_line (take at last))
        none_begins lines read told whole tells others plant_there t begins =
            let wrong_is : told_line (take at last) ≡ wrong = told_of false (take at last) (λ l. l ≡ wrong) here.1 refl in
            let text_is : others.text ≡ told_text so_far.lines ++ (told_text lines ++ (wrong ++ begins.rest)) =
            begins.splits ∙ ap (λ l. (told_text whole ++ l) ++ begins.rest) wrong_is ∙ ap (λ l. (l ++ wrong) ++ begins.rest) tells
            ∙ append_assoc (told_text so_far.lines ++ told_text lines) wrong begins.rest ∙ append_assoc (told_text so_far.lines) (told_text lines) (wrong ++ begins.rest) in
            let b = behind (setup set) all left line plant (told_text so_far.lines) so_far.reaches (told_text lines ++ (wrong ++ begins.rest)) others plant_there t text_is in
            clash lines told b.first b.others.text begins.rest (same lines read b.first b.mid b.others.text begins.rest b.answers b.tells) b.tells
          where
            same : (lines : List (List ℕ)) → lines_of between ≡ lines ++ lines_of last → (first : Exchange) (on : Plant) (s more : List ℕ) → Answers (setup set) plant (event_of_line line) first on
                → first.text ++ s ≡ told_text lines ++ (wrong ++ more) → first.text ≡ said.text
            same [] read first on s more a is =
                (same_answer (take at last) (lines_of (drop (at + 1) last)) (some_lines (drop (at + 1) last)) (read ∙ lines_apart last at here.0) first on s more a
                (is ∙ append_assoc (take at last) (10 ∷ []) more)).0
            same (l ∷ lines) read first on s more a is =
                let words = first_words l (lines ++ lines_of last) (has_more lines last) read in
                (same_answer l (lines ++ lines_of last) (has_more lines last) read first on s (told_text lines ++ (wrong ++ more)) a
                (is ∙ ap (λ x. x ++ (wrong ++ more)) (told_first l lines words) ∙ append_assoc l (10 ∷ told_text lines) (wrong ++ more))).0

    pub record_ends : (left_due : List ℕ) (number : ℕ) → IsCompared mid between due then_on last left_due → HasNoFeed last → left_due ≢ []
        → number ≡ min (then_on + 1) (2 ^ 64 - 1) → Finds set all text (EndsBefore number)
    record_ends left_due number a none some is =
        let k = compared left_due a in
        ends_so set all text (so_far.lines ++ (comments.lines ++ k.lines)) then_on number last k.taken none is
        (begins_it k.lines left_due k.told (so_far.lines ++ (comments.lines ++ k.lines)) k.tells)
        (inr (of_none k.lines k.takes.read k.told (so_far.lines ++ (comments.lines ++ k.lines)) k.tells))
      where
        none_of : (a b : List ℕ) → a ≡ a ++ b → b ≡ []
        none_of a b is = sym (append_cancel_left a [] b (append-nil a ∙ is))

        none_then : (a b : List ℕ) → a ++ b ≡ [] → a ≡ []
        none_then [] b is = refl
        none_then (x ∷ a) b is = absurd (cc is)

        of_none : (lines : List (List ℕ)) → lines_of between ≡ lines ++ lines_of last → said.text ≡ told_text lines ++ left_due
            → (whole : List (List ℕ)) → told_text whole ≡ told_text so_far.lines ++ told_text lines → IsRecordOfNone set all (told_text whole)
        of_none lines read told whole tells others plant_there t same_text =
            let b = behind (setup set) all left line plant (told_text so_far.lines) so_far.reaches (told_text lines) others plant_there t (sym same_text ∙ tells) in
            some (less lines read told b.first b.mid b.others.text b.answers b.tells)
          where
            shorter : (lines : List (List ℕ)) → said.text ≡ told_text lines ++ left_due → (first : Exchange) (s : List ℕ) → first.text ≡ said.text
                → first.text ++ s ≡ told_text lines → left_due ≡ []
            shorter lines told first s same is =
                none_then left_due s (none_of (told_text lines) (left_due ++ s)
                (sym is ∙ ap (λ l. l ++ s) (same ∙ told) ∙ append_assoc (told_text lines) left_due s))

            less : (lines : List (List ℕ)) → lines_of between ≡ lines ++ lines_of last → said.text ≡ told_text lines ++ left_due
                → (first : Exchange) (on : Plant) (s : List ℕ) → Answers (setup set) plant (event_of_line line) first on → first.text ++ s ≡ told_text lines → left_due ≡ []
            less [] read told first on s a is =
                let silent = none_then first.text s is in
                sym told ∙ (silent_once (setup set) plant (event_of_line line) first said on new silent a answers).0 ∙ silent
            less (l ∷ lines) read told first on s a is =
                let words = first_words l (lines ++ lines_of last) (has_more lines last) read in
                shorter (l ∷ lines) told first s
                (same_answer l (lines ++ lines_of last) (has_more lines last) read first on s (told_text lines) a (is ∙ told_first l lines words)).0
                is

    pub answered : (found : Option Finding) → Compares mid between due then_on last found → IsAnswered set all left new text then_on last found
    answered found a = by found a.left a.compared a.halts
      where
        by : (found : Option Finding) (left_due : List ℕ) → IsCompared mid between due then_on last left_due → Halts then_on last left_due found → IsAnswered set all left new text then_on last found
        by _ left_due a (comparing.all_told none) = all_told left_due a none
        by _ left_due a (comparing.differs number at here some other is) = line_differs left_due number at a here some other is
        by _ left_due a (comparing.ends number none some is) = record_ends left_due number a none some is

-- The end of the lines that were sent

module _ (set : ClearedSet) (all : List (List ℕ)) (plant : Plant) (text : List ℕ) (count : ℕ) (rest : List ℕ) (so_far : IsAudited set all [] plant text count rest) where
  -- no more answers are due
  last_of_all : (whole : Exchange) (last : Plant) → Transcript (setup set) opening all whole last → BeginsText (told_text so_far.lines) whole.text → whole.text ≡ told_text so_far.lines
  last_of_all whole last t begins =
      let on = so_far.reaches.only whole last t begins in
      on.tells ∙ ap (λ (x : Exchange). told_text so_far.lines ++ x.text) on.transcript.0 ∙ append-nil (told_text so_far.lines)

  it_is : (whole : Exchange) × (last : Plant) × Transcript (setup set) opening all whole last × (whole.text ≡ told_text so_far.lines)
  it_is =
      let on = so_far.reaches.onward silence plant (refl, refl) in
      (on.0, plant, on.1, on.2 ∙ append-nil (told_text so_far.lines))

  pub finishes : (found : Finding) → Finishes count rest found → Finds set all text found
  finishes found f = by found f.count f.rest f.passed f.end
    where
      tells : (then_on : ℕ) (last : List ℕ) (a : IsCompared count rest [] then_on last []) → told_text (so_far.lines ++ a.lines) ≡ told_text so_far.lines
      tells then_on last a =
          told_both so_far.lines a.lines ∙ ap (λ l. told_text so_far.lines ++ l) (comments_tell count rest then_on last a) ∙ append-nil (told_text so_far.lines)

      begins : (then_on : ℕ) (last : List ℕ) (a : IsCompared count rest [] then_on last []) → BeginsRecordOf set all (told_text (so_far.lines ++ a.lines))
      begins then_on last a =
          subst (BeginsRecordOf set all) (sym (tells then_on last a))
          (record_of set all text so_far.safe (told_text so_far.lines)
          (it_is.0, it_is.1, it_is.2, record { rest = []; splits = it_is.3 ∙ sym (append-nil (told_text so_far.lines)) }))

      takes : (then_on : ℕ) (last : List ℕ) (a : IsCompared count rest [] then_on last []) → TakesLines 0 text (so_far.lines ++ a.lines) then_on last
      takes then_on last a = takes_both 0 text so_far.lines a.lines count then_on rest last so_far.takes a.takes

      no_more : (at then_on : ℕ) (last : List ℕ) (a : IsCompared count rest [] then_on last []) → is_comment (take at last) ≡ false
          → BeginsNoRecord set all (told_text (so_far.lines ++ a.lines) ++ told_line (take at last))
      no_more at then_on last a words whole there t more =
          let wrong : List ℕ = take at last ++ 10 ∷ [] in
          let wrong_is : told_line (take at last) ≡ wrong = told_of false (take at last) (λ l. l ≡ wrong) words refl in
          let is : whole.text ≡ told_text so_far.lines ++ (wrong ++ more.rest) =
          more.splits ∙ ap (λ l. (told_text (so_far.lines ++ a.lines) ++ l) ++ more.rest) wrong_is ∙ ap (λ l. (l ++ wrong) ++ more.rest) (tells then_on last a)
          ∙ append_assoc (told_text so_far.lines) wrong more.rest in
          let all_of = last_of_all whole there t (record { rest = wrong ++ more.rest; splits = is }) in
          too_long (told_text so_far.lines) (take at last) more.rest (sym all_of ∙ is)
        where
          too_long : (front l r : List ℕ) → front ≡ front ++ ((l ++ 10 ∷ []) ++ r) → ⊥
          too_long front l r is = absurd (omega (arith, ap length is, length-append front ((l ++ 10 ∷ []) ++ r), length-append (l ++ 10 ∷ []) r, length-append l (10 ∷ [])))

      by : (found : Finding) (then_on : ℕ) (last : List ℕ) → IsCompared count rest [] then_on last [] → IsEnd then_on last found → Finds set all text found
      by _ then_on last a (comparing.empty none) =
          agrees (so_far.lines ++ a.lines) ((takes then_on last a).read ∙ ap (λ l. (so_far.lines ++ a.lines) ++ lines_of l) none)
          (record { said = it_is.0; new = it_is.1; transcript = so_far.safe all it_is.0 it_is.1 it_is.2; is = tells then_on last a ∙ sym it_is.3 })
      by _ then_on last a (comparing.more number at here is) =
          differs_so set all text (so_far.lines ++ a.lines) then_on number at last (takes then_on last a) here.0 is (begins then_on last a) (no_more at then_on last a here.1)
      by _ then_on last a (comparing.part number none some is) =
          ends_so set all text (so_far.lines ++ a.lines) then_on number last (takes then_on last a) none is (begins then_on last a) (inl some)

-- The outcome of a line

module _ (set : ClearedSet) (all left : List (List ℕ)) (line : List ℕ) (plant : Plant) (text : List ℕ) (count : ℕ) (rest : List ℕ)
    (so_far : IsAudited set all (line ∷ left) plant text count rest) (mid then_on : ℕ) (between last : List ℕ) (comments : IsCompared count rest [] mid between []) where
  pub goes_over : (at : ℕ) → IsPassedOver (setup set) plant (event_of_line line) between (Some at) → TakesLines mid between (take at between ∷ []) then_on last
      → IsAudited set all left plant text then_on last
  goes_over at over takes = passes_over set all left line plant text count rest so_far mid then_on at between last comments over.0.0 over.1 over.0.1 takes

  pub goes_by : (new : Plant) (due : List ℕ) (found : Option Finding) → IsPassedOver (setup set) plant (event_of_line line) between None
      → ((more : List ℕ) → (due ≢ codes "refused W6\n" ++ more) × (due ≢ codes "refused E11\n" ++ more))
      → (said : Exchange) × Answers (setup set) plant (event_of_line line) said new × (due ≡ said.text)
      → Compares mid between due then_on last found → IsAnswered set all left new text then_on last found
  goes_by new due found (next, not_free) other (said, answers, is) compares =
      let well = well_told (setup set) plant (event_of_line line) said new (λ more. subst (λ l. (l ≢ codes "refused W6\n" ++ more) × (l ≢ codes "refused E11\n" ++ more)) is (other more)) answers in
      answered set all left line plant text count rest so_far mid then_on between last due new comments said next not_free answers well is found compares
