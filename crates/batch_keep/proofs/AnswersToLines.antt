-- The written answers are to lines that were given.
use Rattle.std.proofs.Common.{◌≡◌, ◌⊎◌, ℕ, ◌-◌, ◌<◌, ◌≤◌, ◌∷◌, ◌==◌, zero, suc, get_or, false, true, inl, inr, List, [], ◌++◌, length, take, Option, Some, None, Result, Ok, Err, OnOk, IfSome, IsOk, IsErrOf, refl, sym, ◌∙◌, ap, subst, arith}
use Rattle.std.{proofs.lemmas.List.append-nil, proofs.lemmas.List.append_cancel_right, proofs.lemmas.List.take_all, proofs.lemmas.List.length-append, proofs.lemmas.List.take-append-le, specs.Io.KnownBytes.Appends, specs.Io.KnownBytes.Consumes, specs.Io.KnownBytes.IsAtEnd, specs.Io.KnownBytes.append_known, specs.Io.KnownBytes.prepend_known, specs.List.All, proofs.lemmas.List.Splits.slice_split_at, proofs.lemmas.Bool.cases_lt}
use Rattle.batch_model.specs.Plant.{Setup, Plant}
use Rattle.batch_wire.specs.{Transcript.lines_of, Transcript.whole_lines, Transcript.silence, Transcript.followed_by, WrittenTranscript.WritesTranscript, WrittenTranscript.BeginsTranscript, WrittenTranscript.WritesWholeLines, Transcript.Exchange, Transcript.Transcript}
use Rattle.batch_serve.{specs.Cut.BeginsLinesRead, specs.Held.TellsAll, specs.Replays.IsWholeLines, specs.Replays.TranscriptsAreWhole, specs.declared.fault.ServeFault.ServeFault, proofs.ServiceProgress.begun}
use Rattle.batch_serve.specs.declared.fault.ServeFault.TheVariants as faults
use Rattle.batch_journal.specs.Lines.{IsLine, AreLines, text_of, whole_lines_before_zero as whole_texts}
use Rattle.batch_keep.specs.Told.{TellsLines}

-- of a transcript of the first lines that were given a beginning was written
abbrev TellsGiven : Setup → Plant → List ℕ → Option (List ℕ) → Option (List ℕ) → Type 0
TellsGiven c old given before after = (n : ℕ) × BeginsTranscript c old (take n (lines_of given)) before after

given_is : (left : Option (List ℕ)) (given read all : List ℕ) → prepend_known given left ≡ Some all → Consumes (Some all) left read → given ≡ read
given_is None given read all is consumes = absurd consumes
given_is (Some ys) given read all is consumes =
    let same : given ++ ys ≡ all = cc is in
    append_cancel_right given read ys (same ∙ consumes)

at_end : (left : Option (List ℕ)) (given all : List ℕ) → prepend_known given left ≡ Some all → IsAtEnd left → given ≡ all
at_end None given all is end = absurd (cc is)
at_end (Some ys) given all is end =
    let same : given ++ ys ≡ all = cc is in
    sym (append-nil given) ∙ ap (λ l. given ++ l) (sym end) ∙ same

-- the clauses of serving
pub record IsServedBy (c : Setup) (old new : Plant) (r : Result (Unit {0}) ServeFault) (unread left before after : Option (List ℕ)) : Type 0 where
  pub served : OnOk r (IfSome unread (λ input. WritesTranscript c old (lines_of input) new before after))
  pub ended : OnOk r (IsAtEnd left)
  pub read_fault : IsErrOf r faults.Read → WritesWholeLines c old new unread left before after
  pub too_many_reads : IsErrOf r faults.TooManyReads → WritesWholeLines c old new unread left before after
  pub write_fault : IsErrOf r faults.Write → BeginsLinesRead c old unread left before after

whole : (c : Setup) (old new : Plant) (all given : List ℕ) (left before after : Option (List ℕ)) → prepend_known given left ≡ Some all
    → WritesWholeLines c old new (Some all) left before after → TellsGiven c old given before after
whole c old new all given left before after is w =
    let same = given_is left given w.read all is w.consumes in
    (length (lines_of w.read) - 1, subst (λ l. BeginsTranscript c old (take (length (lines_of w.read) - 1) (lines_of l)) before after) (sym same) (begun c old (whole_lines w.read) new before after w.writes))

tells : (c : Setup) (old new : Plant) (r : Result (Unit {0}) ServeFault) (all given : List ℕ) (left before after : Option (List ℕ)) → prepend_known given left ≡ Some all
    → IsServedBy c old new r (Some all) left before after → TellsGiven c old given before after
tells c old new (Ok done) all given left before after is h =
    let same = at_end left given all is h.ended in
    (length (lines_of all), subst (λ l. BeginsTranscript c old l before after) (sym (take_all (length (lines_of all)) (lines_of given) (omega (arith, ap (λ l. length (lines_of l)) same)) ∙ ap lines_of same)) (begun c old (lines_of all) new before after h.served))
tells c old new (Err faults.Read) all given left before after is h = whole c old new all given left before after is (h.read_fault refl)
tells c old new (Err faults.TooManyReads) all given left before after is h = whole c old new all given left before after is (h.too_many_reads refl)
tells c old new (Err faults.Write) all given left before after is h =
    let w = h.write_fault refl in
    (w.count, subst (λ l. BeginsTranscript c old (take w.count (lines_of l)) before after) (sym (given_is left given w.read all is w.consumes)) w.begins)

unended_at : (line : List ℕ) (k d : ℕ) → IsLine line → k < length line → (get_or line k d == 10) ≡ false
unended_at [] k d is lt = absurd (omega (arith, lt))
unended_at (b ∷ line) zero d is lt = is.1
unended_at (b ∷ line) (suc k) d is lt = unended_at line k d is.2 (omega (arith, lt))

unended : (line : List ℕ) → IsLine line → All (λ b. (b == 10) ≡ false) line
unended line is = λ k d lt. unended_at line k d is lt

pub lines_of_text : (lines : List (List ℕ)) → AreLines lines → lines_of (text_of lines) ≡ lines ++ ([] ∷ [])
lines_of_text [] are = refl
lines_of_text (line ∷ lines) are = slice_split_at (λ b. b == 10) line 10 (text_of lines) (unended line are.0) refl ∙ ap (λ l. line ∷ l) (lines_of_text lines are.1)

-- an empty line at the end says nothing
pub no_last : (c : Setup) (old new : Plant) (lines : List (List ℕ)) (said : Exchange) → Transcript c old (lines ++ ([] ∷ [])) said new → Transcript c old lines said new
no_last c old new [] said (first, others, mid, answers, rest, is) =
    (is ∙ ap (λ x. followed_by x others) answers.0 ∙ ap (λ x. followed_by silence x) rest.0, rest.1 ∙ answers.1)
no_last c old new (line ∷ lines) said (first, others, mid, answers, rest, is) = (first, others, mid, answers, no_last c mid new lines others rest, is)

tells_lines : (c : Setup) (old : Plant) (given : List ℕ) (before after : Option (List ℕ)) → given ≡ text_of (whole_texts given) → AreLines (whole_texts given) → TellsGiven c old given before after → TellsLines c old given before after
tells_lines c old given before after whole are (n, h) = go (cases_lt (length lines) n)
  where
    lines : List (List ℕ)
    lines = whole_texts given

    split : lines_of given ≡ lines ++ ([] ∷ [])
    split = ap lines_of whole ∙ lines_of_text lines are

    told : BeginsTranscript c old (take n (lines ++ ([] ∷ []))) before after
    told = subst (λ l. BeginsTranscript c old (take n l) before after) split h

    go : (length lines < n) ⊎ (n ≤ length lines) → TellsLines c old given before after
    go (inl past) =
        let all = subst (λ l. BeginsTranscript c old l before after) (take_all n (lines ++ ([] ∷ [])) (omega (arith, past, length-append lines ([] ∷ [])))) told in
        record {
          lines = lines;
          are_lines = are;
          given_is = whole;
          count = length lines;
          few = omega arith;
          begins = subst (λ l. BeginsTranscript c old l before after) (sym (take_all (length lines) lines (omega arith)))
              (record { said = all.said; new = all.new; transcript = no_last c old all.new lines all.said all.transcript; leads = all.leads; begins = all.begins });
        }
    go (inr within) = record {
      lines = lines;
      are_lines = are;
      given_is = whole;
      count = n;
      few = within;
      begins = subst (λ l. BeginsTranscript c old l before after) (take-append-le n lines ([] ∷ []) within) told;
    }

from_none : (known unread : Option (List ℕ)) (all : List ℕ) → unread ≡ prepend_known [] known → known ≡ Some all → unread ≡ Some all
from_none known unread all is some = is ∙ ap (λ k. prepend_known [] k) some

pub tells_known : (c : Setup) (old new : Plant) (r : Result (Unit {0}) ServeFault) (known unread left before after : Option (List ℕ)) (all given : List ℕ)
    → unread ≡ prepend_known [] known → known ≡ Some all → prepend_known given left ≡ Some all → given ≡ text_of (whole_texts given) → AreLines (whole_texts given)
    → IsServedBy c old new r unread left before after → TellsLines c old given before after
tells_known c old new r known unread left before after all given is some account whole_lines_given are h =
    tells_lines c old given before after whole_lines_given are (tells c old new r all given left before after account (subst (λ (u : Option (List ℕ)). IsServedBy c old new r u left before after) (from_none known unread all is some) h))

-- Served to the end

prepend_none : (known : Option (List ℕ)) → prepend_known [] known ≡ known
prepend_none None = refl
prepend_none (Some all) = refl

pub served_known : (unread known : Option (List ℕ)) (r : Result (Unit {0}) ServeFault) (P : List ℕ → Type 0) → unread ≡ prepend_known [] known → OnOk r (IfSome unread P) → OnOk r (IfSome known P)
served_known unread known r P is served = subst (λ (u : Option (List ℕ)). OnOk r (IfSome u P)) (is ∙ prepend_none known) served

appended : (x : List ℕ) (now : Option (List ℕ)) (text : List ℕ) → Appends (Some x) now text → now ≡ Some (x ++ text)
appended x None text appends = absurd appends
appended x (Some y) text appends = ap Some appends

appends_all : (first before taken now : Option (List ℕ)) (text : List ℕ) → before ≡ append_known first [] → Appends before taken text → IsWholeLines text → TellsAll first taken now → Appends first now text
appends_all None before taken now text is appends whole tells = tt
appends_all (Some held) before taken now text is appends whole tells =
    let all : taken ≡ Some (held ++ text) =
    appended (held ++ []) taken text (subst (λ (b : Option (List ℕ)). Appends b taken text) is appends) ∙ ap (λ l. Some (l ++ text)) (append-nil held) in
    subst (λ (n : Option (List ℕ)). Appends (Some held) n text) (sym (tells held text refl all whole)) refl

-- a transcript that a writer held back is written once all of it is
pub tells_transcript : (c : Setup) (old : Plant) (lines : List (List ℕ)) (new : Plant) (first before taken now : Option (List ℕ)) → TranscriptsAreWhole → before ≡ append_known first [] → TellsAll first taken now
    → WritesTranscript c old lines new before taken → WritesTranscript c old lines new first now
tells_transcript c old lines new first before taken now are_whole is tells w = record {
  said = w.said;
  transcript = w.transcript;
  leads = w.leads;
  appends = appends_all first before taken now w.said.text is w.appends (are_whole c old new lines w.said w.transcript) tells;
}

pub ok_is : {A E : Type 0} (r : Result A E) (x : A) (P : Type 0) → r ≡ Ok x → OnOk r P → P
ok_is r x P is p = subst (λ s. OnOk s P) is p

-- of a last flush that ended well
pub on_told : {A E F B : Type 0} (r : Result A E) (t : Result B F) (P Q : Type 0) → OnOk r (IsOk t) → OnOk t P → (P → Q) → OnOk r Q
on_told (Ok x) (Ok y) P Q is p f = f p
on_told (Ok x) (Err e) P Q is p f = let clash : false ≡ true = is in absurd (cc clash)
on_told (Err e) t P Q is p f = tt

on_some : (known : Option (List ℕ)) (P Q : List ℕ → Type 0) → ((all : List ℕ) → P all → Q all) → IfSome known P → IfSome known Q
on_some None P Q f p = tt
on_some (Some all) P Q f p = f all p

pub tells_known_transcript : (c : Setup) (old new : Plant) (known first before taken now : Option (List ℕ)) → TranscriptsAreWhole → before ≡ append_known first [] → TellsAll first taken now
    → IfSome known (λ all. WritesTranscript c old (lines_of all) new before taken) → IfSome known (λ all. WritesTranscript c old (lines_of all) new first now)
tells_known_transcript c old new known first before taken now are_whole is tells w =
    on_some known _ _ (λ all written. tells_transcript c old (lines_of all) new first before taken now are_whole is tells written) w
