-- How far reading has come.
use Rattle.std.proofs.Common.{◌≡◌, ℕ, ◌+◌, ◌-◌, ◌^◌, ◌<◌, false, eqb, List, [], ◌∷◌, ◌++◌, length, take, drop, min, Option, Some, None, Result, Ok, IfSome, refl, sym, ap, subst, ◌∙◌, append_assoc, append-nil, arith}
use Rattle.std.{proofs.lemmas.List.take_rest, proofs.lemmas.List.Elements.All-append, proofs.KnownBytes.Consumes-trans, proofs.KnownBytes.Consumes-whole, specs.Io.KnownBytes.Consumes, specs.Io.KnownBytes.IsAtEnd, specs.Io.KnownBytes.ReadConsumes}
use Rattle.batch_model.specs.Lists.{Each}
use Rattle.batch_wire.{specs.LineEnds.EndsLine, specs.LineEnds.HasNoFeed, proofs.LineEnds.line_apart}
use Rattle.batch_record.specs.{Blocks.Stage, Blocks.opening_stage, Blocks.stage_after, Blocks.stages, Kept.Keeps, StatusReading.IsRefusedAt, StatusReading.LeadsTo, StatusReading.lines_text, Standings.HasRead, Standings.IsAt, declared.course.RecordCourse.RecordCourse, declared.status_reading.Reading.Reading}

-- A line more

pub each-more : {X : Type 0} (P : X → Type 0) (xs : List X) (x : X) → Each P xs → P x → Each P (xs ++ x ∷ [])
each-more P [] x h one = (one, tt)
each-more P (y ∷ ys) x h one = (h.0, each-more P ys x h.1 one)

stages-on : (s : Stage) (x : List ℕ) (xs : List (List ℕ)) (l : List ℕ) (t u : Stage)
    → ((mid : Stage) → stages mid xs ≡ Some t → stages mid (xs ++ l ∷ []) ≡ Some u)
    → (o : Option Stage) → stage_after s x ≡ o → stages s (x ∷ xs) ≡ Some t → stages s ((x ∷ xs) ++ l ∷ []) ≡ Some u
stages-on s x xs l t u h None e k =
    let bad : None ≡ Some t = sym (ap (λ o. elim o [ None ↦ None | Some mid ↦ stages mid xs ]) e) ∙ k in absurd (cc bad)
stages-on s x xs l t u h (Some mid) e k =
    ap (λ o. elim o [ None ↦ None | Some mid ↦ stages mid (xs ++ l ∷ []) ]) e
    ∙ h mid (sym (ap (λ o. elim o [ None ↦ None | Some mid ↦ stages mid xs ]) e) ∙ k)

stages-last : (s : Stage) (l : List ℕ) (u : Stage) → stage_after s l ≡ Some u → stages s (l ∷ []) ≡ Some u
stages-last s l u e = ap (λ o. elim o [ None ↦ None | Some mid ↦ stages mid [] ]) e

pub stages-more : (s : Stage) (ls : List (List ℕ)) (l : List ℕ) (t u : Stage) → stages s ls ≡ Some t → stage_after t l ≡ Some u → stages s (ls ++ l ∷ []) ≡ Some u
stages-more s [] l t u e k =
    let same : s ≡ t = cc e in
    stages-last s l u (ap (λ x. stage_after x l) same ∙ k)
stages-more s (x ∷ xs) l t u e k = stages-on s x xs l t u (λ mid h. stages-more mid xs l t u h k) (stage_after s x) refl e

pub text-more : (lines : List (List ℕ)) (line : List ℕ) → lines_text (lines ++ line ∷ []) ≡ lines_text lines ++ (line ++ 10 ∷ [])
text-more [] line = append-nil (line ++ 10 ∷ [])
text-more (x ∷ lines) line = ap (λ t. (x ++ 10 ∷ []) ++ t) (text-more lines line) ∙ sym (append_assoc (x ++ 10 ∷ []) (lines_text lines) (line ++ 10 ∷ []))

pub length-more : {X : Type 0} (xs : List X) (x : X) → length (xs ++ x ∷ []) ≡ length xs + 1
length-more [] x = refl
length-more (y ∷ ys) x = omega (arith, length-more ys x)

-- the line, whose beginning was read, ends
split-line : (whole last read end rest : List ℕ) → read ≡ whole ++ last → read ++ (end ++ 10 ∷ rest) ≡ whole ++ ((last ++ end) ++ 10 ∷ rest)
split-line whole last read end rest e =
    ap (λ t. t ++ (end ++ 10 ∷ rest)) e ∙ append_assoc whole last (end ++ 10 ∷ rest) ∙ ap (λ t. whole ++ t) (sym (append_assoc last end (10 ∷ rest)))

pub counted-more : (count length : ℕ) → count ≡ min length (2 ^ 64 - 1) → min (count + 1) (2 ^ 64 - 1) ≡ min (length + 1) (2 ^ 64 - 1)
counted-more count length e = omega (arith, e)

pub line-taken : (old new : Reading) (read end : List ℕ) (h : HasRead old read) → HasNoFeed end → new.line.items ≡ []
    → (next : Stage) → stage_after h.stage (old.line.items ++ end) ≡ Some next → IsAt new.course next → new.count ≡ min (old.count + 1) (2 ^ 64 - 1)
    → HasRead new (read ++ (end ++ 10 ∷ []))
line-taken old new read end h none empty next after at count = record {
  lines = h.lines ++ (old.line.items ++ end) ∷ [];
  stage = next;
  is_text = record {
    whole = each-more HasNoFeed h.lines _ h.is_text.whole (All-append (λ b. eqb b 10 ≡ false) _ _ h.is_text.unended none);
    unended = subst HasNoFeed (sym empty) (λ k d low. absurd (omega (arith, low)));
    is = split-line (lines_text h.lines) old.line.items read end [] h.is_text.is ∙ sym (text-more h.lines (old.line.items ++ end))
        ∙ sym (append-nil (lines_text (h.lines ++ (old.line.items ++ end) ∷ []))) ∙ ap (λ l. lines_text (h.lines ++ (old.line.items ++ end) ∷ []) ++ l) (sym empty);
  };
  stages = stages-more opening_stage h.lines (old.line.items ++ end) h.stage next h.stages after;
  is_at = at;
  counted = count ∙ counted-more old.count (length h.lines) h.counted ∙ ap (λ n. min n (2 ^ 64 - 1)) (sym (length-more h.lines (old.line.items ++ end)));
}

pub line-refused : (old : Reading) (read end : List ℕ) (h : HasRead old read) → HasNoFeed end → stage_after h.stage (old.line.items ++ end) ≡ None
    → (number : ℕ) → number ≡ min (old.count + 1) (2 ^ 64 - 1) → (rest : List ℕ) → IsRefusedAt (read ++ (end ++ 10 ∷ rest)) number
line-refused old read end h none refused number count rest = record {
  before = h.lines;
  line = old.line.items ++ end;
  rest = rest;
  stage = h.stage;
  whole = h.is_text.whole;
  unended = All-append (λ b. eqb b 10 ≡ false) _ _ h.is_text.unended none;
  is = split-line (lines_text h.lines) old.line.items read end rest h.is_text.is;
  stages = h.stages;
  refused = refused;
  numbered = count ∙ counted-more old.count (length h.lines) h.counted;
}

-- the beginning of a line was read
pub beginning-read : (old new : Reading) (read rest : List ℕ) → HasRead old read → HasNoFeed rest
    → new.line.items ≡ old.line.items ++ rest → new.course ≡ old.course → new.count ≡ old.count → HasRead new (read ++ rest)
beginning-read old new read rest h none line course count = record {
  lines = h.lines;
  stage = h.stage;
  is_text = record {
    whole = h.is_text.whole;
    unended = subst HasNoFeed (sym line) (All-append (λ b. eqb b 10 ≡ false) _ _ h.is_text.unended none);
    is = ap (λ t. t ++ rest) h.is_text.is ∙ append_assoc (lines_text h.lines) old.line.items rest ∙ ap (λ t. lines_text h.lines ++ t) (sym line);
  };
  stages = h.stages;
  is_at = subst (λ (c : RecordCourse). IsAt c h.stage) (sym course) h.is_at;
  counted = count ∙ h.counted;
}

-- Pieces

pub all-read : (reading : Reading) (read : List ℕ) → (h : HasRead reading read) → LeadsTo read h.stage
all-read reading read h = record { lines = h.lines; last = reading.line.items; is_text = h.is_text; stages = h.stages }

pub taken-on : (piece taken rest : List ℕ) (at : ℕ) → piece ≡ taken ++ rest → EndsLine at rest
    → piece ≡ (taken ++ (take at rest ++ 10 ∷ [])) ++ take (length rest - (at + 1)) (drop (at + 1) rest)
taken-on piece taken rest at e h =
    e ∙ ap (λ l. taken ++ l) (line_apart rest at h) ∙ ap (λ l. taken ++ (take at rest ++ 10 ∷ l)) (sym (take_rest rest (at + 1))) ∙ simp append_assoc

-- a piece, apart at the end of a line in it
pub line-apart : (read piece taken rest : List ℕ) (at : ℕ) → piece ≡ taken ++ rest → EndsLine at rest
    → (read ++ taken) ++ (take at rest ++ 10 ∷ drop (at + 1) rest) ≡ read ++ piece
line-apart read piece taken rest at e h =
    ap (λ l. (read ++ taken) ++ l) (sym (line_apart rest at h)) ∙ append_assoc read taken rest ∙ ap (λ l. read ++ l) (sym e)

-- the end of the input
pub gave-nothing : {E : Type 0} (r : Result ℕ E) (n : ℕ) (old new : Option (List ℕ)) (buf : List ℕ) → r ≡ Ok n → n ≡ 0 → 0 < length buf
    → ReadConsumes old new r buf → Consumes old new [] × IsAtEnd new
gave-nothing {E = E} r n old new buf is e room h =
    let bytes : Consumes old new (take n buf) × (n ≡ 0 → 0 < length buf → IsAtEnd new) = subst (λ (q : Result ℕ E). ReadConsumes old new q buf) is h in
    (subst (λ k. Consumes old new (take k buf)) e bytes.0, bytes.1 e room)

pub all-of-input : (unread left now : Option (List ℕ)) (reading : Reading) (read : List ℕ) → Consumes unread left read → Consumes left now [] → IsAtEnd now → HasRead reading read
    → IfSome unread (λ input. (stage : Stage) × LeadsTo input stage × Keeps reading.course.status stage.tale)
all-of-input unread left now reading read p q end h =
    Consumes-whole unread now (read ++ []) (λ input. (stage : Stage) × LeadsTo input stage × Keeps reading.course.status stage.tale)
    (Consumes-trans unread left now read [] p q) end
    (h.stage, subst (λ t. LeadsTo t h.stage) (sym (append-nil read)) (all-read reading read h), h.is_at.tale)

-- a refused line of the bytes read is a refused line of the input
refused-of : (read more : List ℕ) (number : ℕ) → IsRefusedAt read number → IsRefusedAt (read ++ more) number
refused-of read more number h = record {
  before = h.before;
  line = h.line;
  rest = h.rest ++ more;
  stage = h.stage;
  whole = h.whole;
  unended = h.unended;
  is = ap (λ t. t ++ more) h.is ∙ simp append_assoc;
  stages = h.stages;
  refused = h.refused;
  numbered = h.numbered;
}

pub refused-input : (unread left : Option (List ℕ)) (read : List ℕ) (number : ℕ) → Consumes unread left read → IsRefusedAt read number → IfSome unread (λ input. IsRefusedAt input number)
refused-input None left read number p h = tt
refused-input (Some xs) None read number p h = absurd p
refused-input (Some xs) (Some ys) read number p h = subst (λ t. IsRefusedAt t number) (sym p) (refused-of read ys number h)
