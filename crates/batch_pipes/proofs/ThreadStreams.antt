-- The lines of inputs that threads hand over, and the text that they write to outputs.
use Rattle.std.proofs.Common.{◌≡◌, ℕ, Bool, true, false, List, [], ◌++◌, Option, Some, None, IfSome, option_map, refl, sym, ap, subst, append_assoc, append-nil, ◌∙◌}
use Rattle.std.{proofs.KnownBytes.Appends-kept, proofs.KnownBytes.Appends-trans, proofs.lemmas.Bool.false≢true, specs.Io.KnownBytes.Appends, specs.Io.KnownBytes.Consumes, specs.Io.KnownBytes.IsAtEnd, specs.Io.KnownBytes.Keeps, specs.Io.KnownBytes.append_known}
use Rattle.batch_wire.specs.{Transcript.lines_of, Written.AppendsBeginning}
use Rattle.batch_serve.specs.{CleanLines.clean_lines, Rounds.text_sent, Threads.IsInputRead, Threads.AreLinesWritten, Threads.lines_text, declared.rounds.ReaderMessage.ReaderMessage}
use Rattle.batch_pipes.specs.{Streams.HandsOver, Streams.HasNoOutput, Streams.HoldsBeginning, Streams.IsWrittenBehind, Streams.IsWrittenOf, Streams.IsWrittenOut, declared.fault.PipeFault.PipeFault, declared.written.Written.Written}

-- Inputs

-- the rest of a text that was consumed in part is still to come, and none is if all was consumed
rest_of : (ended : Bool) (text front more : List ℕ) (old new : Option (List ℕ)) → old ≡ Some text → Consumes old new (front ++ more)
    → (ended ≡ true → more ≡ []) → (ended ≡ true → IsAtEnd new) → (rest : List ℕ) × (text ≡ front ++ rest) × (ended ≡ true → rest ≡ [])
rest_of ended text front more None new is read all end = absurd cc
rest_of ended text front more (Some xs) None is read all end = absurd read
rest_of ended text front more (Some xs) (Some ys) is read all end =
    let same : text ≡ xs = cc in
    (more ++ ys, same ∙ read ∙ append_assoc front more ys, λ t. ap (λ l. l ++ ys) (all t) ∙ end t)

pub hands_over : (ended told : Bool) (input old new : Option (List ℕ)) (before after : List ReaderMessage) → (ended ≡ true → told ≡ true)
    → old ≡ option_map (λ (bytes : List ℕ). clean_lines (lines_of bytes)) input → IsInputRead told old new before after → HandsOver ended input before after
hands_over ended told input old new before after well is read = record {
  items = read.items;
  went = read.went;
  begun = λ bytes known.
      rest_of ended (clean_lines (lines_of bytes)) (text_sent read.items) read.rest old new
      (is ∙ ap (λ (i : Option (List ℕ)). option_map (λ (b : List ℕ). clean_lines (lines_of b)) i) known) read.read (λ t. read.all (well t)) (λ t. read.end (well t));
  told = λ t. read.told (well t);
}

pub nothing_handed : (input : Option (List ℕ)) (items : List ReaderMessage) → HandsOver false input items items
nothing_handed input items = record {
  items = [];
  went = sym (append-nil items);
  begun = λ bytes known. (clean_lines (lines_of bytes), refl, λ t. absurd (false≢true t));
  told = λ t. absurd (false≢true t);
}

-- Outputs

pub written_behind : (front : List ℕ) (ended : Bool) (before after : List (List ℕ)) (old mid new : Option (List ℕ)) → Appends old mid front
    → AreLinesWritten ended before after mid new → IsWrittenBehind front ended before after old new
written_behind front ended before after old mid new first written = record {
  lines = written.lines;
  came = written.came;
  begun = record {
    written = front ++ written.begun.written;
    rest = written.begun.rest;
    splits = ap (λ l. front ++ l) written.begun.splits ∙ sym (append_assoc front written.begun.written written.begun.rest);
    appends = Appends-trans old mid new front written.begun.written first written.begun.appends;
  };
  written = λ t. Appends-trans old mid new front (lines_text written.lines) first (written.written t);
}

pub front_cut : (front : List ℕ) (lines : List (List ℕ)) (old new : Option (List ℕ)) → AppendsBeginning old new front → IsWrittenBehind front false lines lines old new
front_cut front lines old new begun = record {
  lines = [];
  came = sym (append-nil lines);
  begun = subst (AppendsBeginning old new) (sym (append-nil front)) begun;
  written = λ t. absurd (false≢true t);
}

-- nothing more is written
pub written_kept : (front : List ℕ) (ended : Bool) (before after : List (List ℕ)) (old mid new : Option (List ℕ)) → IsWrittenBehind front true before after old mid → Keeps mid new
    → IsWrittenBehind front ended before after old new
written_kept front ended before after old mid new written kept = record {
  lines = written.lines;
  came = written.came;
  begun = record {
    written = front ++ lines_text written.lines;
    rest = [];
    splits = sym (append-nil (front ++ lines_text written.lines));
    appends = all;
  };
  written = λ t. all;
}
  where
    all : Appends old new (front ++ lines_text written.lines)
    all = Appends-kept old mid new (front ++ lines_text written.lines) (written.written refl) kept

-- a part of the written text may be in a buffer
held_of : (stood now : Option (List ℕ)) (buffer text : List ℕ) → AppendsBeginning stood (append_known now buffer) text → HoldsBeginning stood now text
held_of None now buffer text begun = tt
held_of (Some xs) None buffer text begun = absurd begun.appends
held_of (Some xs) (Some ys) buffer text begun = (
  buffer ++ begun.rest,
  ap (λ l. xs ++ l) begun.splits ∙ sym (append_assoc xs begun.written begun.rest) ∙ ap (λ l. l ++ begun.rest) (sym begun.appends) ∙ append_assoc ys buffer begun.rest,
)

nothing_held : (stood now : Option (List ℕ)) (text : List ℕ) → Appends stood (append_known now []) text → Appends stood now text
nothing_held None now text all = tt
nothing_held (Some xs) None text all = absurd all
nothing_held (Some xs) (Some ys) text all = sym (append-nil ys) ∙ all

known_nil : (a : Option (List ℕ)) → append_known a [] ≡ a
known_nil None = refl
known_nil (Some xs) = ap Some (append-nil xs)

-- an output without its buffer
pub written_out : {W : Type 0} (contents : W → Option (List ℕ)) (stood first : Option (List ℕ)) (front : List ℕ) (before after : List (List ℕ)) (ended : Bool) (buffer : List ℕ) (output : W)
    (fault : Option PipeFault) → first ≡ append_known stood [] → IsWrittenBehind front ended before after first (append_known (contents output) buffer) → (ended ≡ true → buffer ≡ [])
    → (fault ≡ None → ended ≡ true) → IsWrittenOut contents stood front before after (record { output = Some output; fault = fault })
written_out contents stood first front before after ended buffer output fault new behind empty well =
    let is : first ≡ stood = new ∙ known_nil stood in
    let text : List ℕ = front ++ lines_text behind.lines in
    record {
      lines = behind.lines;
      came = behind.came;
      written = record {
        begun = held_of stood (contents output) buffer text (subst (λ (o : Option (List ℕ)). AppendsBeginning o (append_known (contents output) buffer) text) is behind.begun);
        whole = λ none. (
          output,
          refl,
          nothing_held stood (contents output) text
              (subst (λ (b : List ℕ). Appends stood (append_known (contents output) b) text) (empty (well none))
              (subst (λ (o : Option (List ℕ)). Appends o (append_known (contents output) buffer) text) is (behind.written (well none)))),
        );
        missing = λ none. absurd cc;
      };
    }

-- an output that wasn't opened
pub nothing_written : {W : Type 0} (contents : W → Option (List ℕ)) (stood : Option (List ℕ)) (text : List ℕ) (w : Written W) (fault : PipeFault) → w.output ≡ None → w.fault ≡ Some fault
    → HasNoOutput (Some fault) → IsWrittenOf contents stood text w
nothing_written {W} contents stood text w fault none failed missing = record {
  begun = subst (λ (o : Option W). IfSome o (λ output. HoldsBeginning stood (contents output) text)) (sym none) tt;
  whole = λ well. absurd cc;
  missing = λ _. subst HasNoOutput (sym failed) missing;
}

-- more text may be to come
pub text_grown : (stood now : Option (List ℕ)) (text more : List ℕ) → HoldsBeginning stood now text → HoldsBeginning stood now (text ++ more)
text_grown None now text more held = tt
text_grown (Some xs) None text more held = absurd held
text_grown (Some xs) (Some ys) text more held =
    let (rest, is) = held in
    (rest ++ more, sym (append_assoc xs text more) ∙ ap (λ l. l ++ more) is ∙ append_assoc ys rest more)
