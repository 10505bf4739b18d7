-- Lines as a journal has them.
use Rattle.std.proofs.Common.{◌≡◌, ℕ, suc, ◌+◌, ◌-◌, ◌<◌, ◌≤◌, Bool, true, false, not, ◌&&◌, ◌||◌, List, [], ◌∷◌, ◌++◌, length, take, drop, set, map, filter, replicate, Option, Some, None, MatchOption, option_map, Result, Ok, Err, IfOk, OnErr, cond, eqb, get_or, refl, sym, ◌∙◌, ap, subst, append_assoc, append-nil, inl, inr, arith}
use Rattle.std.{proofs.lemmas.Bool.and_parts, proofs.lemmas.Bool.not-true, proofs.lemmas.Bool.cases_lt, proofs.lemmas.Bool.lt-ltb, proofs.lemmas.Bool.le-ltb, proofs.lemmas.List.take_all, proofs.lemmas.List.take_at, proofs.lemmas.List.take_rest, proofs.lemmas.List.take_more_set, proofs.lemmas.List.map_more, proofs.lemmas.List.length-take, proofs.lemmas.List.length-take-le, proofs.lemmas.List.length-append, proofs.lemmas.List.length-drop, proofs.lemmas.List.take-append-le, proofs.Math.Seq.take-append-add, specs.List.slice_split, specs.List.onto_first, specs.List.list_all, specs.Io.ReadsAtMost, specs.Io.KnownBytes.Consumes, specs.Io.KnownBytes.IsAtEnd, specs.Io.KnownBytes.Keeps, specs.Io.KnownBytes.ReadConsumes, specs.Prelude.⊤, specs.Str.Lines.strip_carriage_return}
use borrow.Rule.Slice.PartMut.{put_mid, post_of}
use Rattle.batch_model.specs.Plant.{Setup, Plant}
use Rattle.batch_wire.{specs.EventLine.is_space, specs.EventLine.is_word, specs.EventLine.event_words, specs.EventLine.is_comment, specs.EventLine.event_of_words, specs.EventLine.event_of_line, specs.Transcript.lines_of, specs.Transcript.Exchange, specs.Transcript.silence, specs.Transcript.followed_by, specs.Transcript.Answers, specs.Transcript.Transcript, specs.declared.event_line.TheConstants.MAX_LINE_LEN, specs.declared.fault.WireFault.TheVariants.TooLong, specs.LineEnds.EndsLine, specs.LineEnds.HasNoFeed, proofs.LineEnds.line_apart}
use Rattle.batch_serve.{specs.CleanLines.clean_byte, specs.CleanLines.is_too_long, specs.CleanLines.gives_nothing, specs.CleanLines.clean, specs.CleanLines.clean_text, specs.CleanLines.clean_lines, specs.CleanLines.clean_from, specs.CleanLines.CleansLines, specs.CleanLines.CleanLinesAgree, specs.CleanLines.CleanLinesServeAlike, specs.declared.line_buffer.TheConstants.KEPT, proofs.LineBeginnings.take_twice, proofs.LineBeginnings.length_strip, proofs.CleanWords.bytes_same, proofs.CleanWords.test_all, proofs.Replays.is_other}

-- Each line has the same meaning

long_said : (line : List ℕ) → is_too_long line ≡ true → event_of_line line ≡ Err TooLong
long_said line long = ap (λ t. cond t (Err TooLong) (cond (is_comment (strip_carriage_return line)) (Ok None) (event_of_words (event_words (strip_carriage_return line))))) long

full_line : event_of_line (replicate 1025 63) ≡ Err TooLong
full_line = long_said (replicate 1025 63) refl

no_words : (text : List ℕ) → list_all is_space text ≡ true → event_words text ≡ []
no_words [] all = refl
no_words (b ∷ text) all =
    let parts = and_parts (is_space b) (list_all is_space text) all in
    ap (λ t. filter is_word (cond t ([] ∷ slice_split is_space text) (onto_first b (slice_split is_space text)))) parts.0 ∙ no_words text parts.1

nothing_if : (text : List ℕ) (long comment : Bool) → long ≡ false → is_comment text ≡ comment → gives_nothing text ≡ true
    → cond long (Err TooLong) (cond comment (Ok None) (event_of_words (event_words text))) ≡ Ok None
nothing_if text true comment short is nothing = absurd (cc short)
nothing_if text false true short is nothing = refl
nothing_if text false false short is nothing =
    let spaces : list_all is_space text ≡ true = ap (λ t. t || list_all is_space text) (sym is) ∙ nothing in
    ap event_of_words (no_words text spaces)

agree_if : (line : List ℕ) (long nothing : Bool) → is_too_long line ≡ long → gives_nothing (strip_carriage_return line) ≡ nothing
    → MatchOption (cond long (Some (replicate 1025 63)) (cond nothing None (Some (map clean_byte line)))) (event_of_line line ≡ Ok None) (λ line_kept. event_of_line line_kept ≡ event_of_line line)
agree_if line true nothing long is = full_line ∙ sym (long_said line long)
agree_if line false true short is = nothing_if (strip_carriage_return line) (is_too_long line) (is_comment (strip_carriage_return line)) short refl is
agree_if line false false short is = bytes_same line

pub agree : CleanLinesAgree
agree line = agree_if line (is_too_long line) (gives_nothing (strip_carriage_return line)) refl refl

-- The text of an input

abbrev front : List ℕ → List (List ℕ) → List (List ℕ)
front begun [] = begun ∷ []
front begun (part ∷ parts) = (begun ++ part) ∷ parts

front_none : (input : List ℕ) → front [] (lines_of input) ≡ lines_of input
front_none [] = refl
front_none (b ∷ input) = go (eqb b 10) (lines_of input)
  where
    go : (t : Bool) (parts : List (List ℕ)) → front [] (cond t ([] ∷ parts) (onto_first b parts)) ≡ cond t ([] ∷ parts) (onto_first b parts)
    go true parts = refl
    go false [] = refl
    go false (part ∷ parts) = refl

front_onto : (begun : List ℕ) (b : ℕ) (parts : List (List ℕ)) → front (begun ++ b ∷ []) parts ≡ front begun (onto_first b parts)
front_onto begun b [] = refl
front_onto begun b (part ∷ parts) = ap (λ l. l ∷ parts) (append_assoc begun (b ∷ []) part)

from_if : (t : Bool) (begun : List ℕ) (b : ℕ) (input : List ℕ) → clean_from [] input ≡ clean_lines (front [] (lines_of input))
    → clean_from (begun ++ b ∷ []) input ≡ clean_lines (front (begun ++ b ∷ []) (lines_of input))
    → cond t (clean_text (clean begun) ++ clean_from [] input) (clean_from (begun ++ b ∷ []) input)
    ≡ clean_lines (front begun (cond t ([] ∷ lines_of input) (onto_first b (lines_of input))))
from_if true begun b input others on =
    ap (λ l. clean_text (clean begun) ++ l) (others ∙ ap clean_lines (front_none input)) ∙ ap (λ l. clean_text (clean l) ++ clean_lines (lines_of input)) (sym (append-nil begun))
from_if false begun b input others on = on ∙ ap clean_lines (front_onto begun b (lines_of input))

from_lines : (begun input : List ℕ) → clean_from begun input ≡ clean_lines (front begun (lines_of input))
from_lines begun [] = sym (append-nil (clean_text (clean begun))) ∙ ap (λ l. clean_text (clean l) ++ []) (sym (append-nil begun))
from_lines begun (b ∷ input) = from_if (eqb b 10) begun b input (from_lines [] input) (from_lines (begun ++ b ∷ []) input)

pub cleans : CleansLines
cleans input = from_lines [] input ∙ ap clean_lines (front_none input)

-- Serving them

split_at : (line rest : List ℕ) → list_all is_other line ≡ true → lines_of (line ++ 10 ∷ rest) ≡ line ∷ lines_of rest
split_at [] rest plain = refl
split_at (b ∷ line) rest plain =
    let parts = and_parts (is_other b) (list_all is_other line) plain in
    ap (λ t. cond t ([] ∷ lines_of (line ++ 10 ∷ rest)) (onto_first b (lines_of (line ++ 10 ∷ rest)))) (not-true (eqb b 10) parts.0) ∙ ap (onto_first b) (split_at line rest parts.1)

plain_more : (begun : List ℕ) (b : ℕ) → list_all is_other begun ≡ true → eqb b 10 ≡ false → list_all is_other (begun ++ b ∷ []) ≡ true
plain_more [] b plain is = ap (λ t. not t && true) is
plain_more (x ∷ begun) b plain is =
    let parts = and_parts (is_other x) (list_all is_other begun) plain in
    ap (λ t. t && list_all is_other (begun ++ b ∷ [])) parts.0 ∙ plain_more begun b parts.1 is

-- a line that is kept contains no line feed
plain_if : (line : List ℕ) (long nothing : Bool) → list_all is_other line ≡ true
    → MatchOption (cond long (Some (replicate 1025 63)) (cond nothing None (Some (map clean_byte line)))) ⊤ (λ line_kept. list_all is_other line_kept ≡ true)
plain_if line true nothing plain = refl
plain_if line false true plain = tt
plain_if line false false plain = test_all is_other refl line ∙ plain

module _ (c : Setup) (new : Plant) where
  -- an empty line at the end has no effect
  nothing_last : (old : Plant) (said : Exchange) → Transcript c old ([] ∷ []) said new → Transcript c old [] said new
  nothing_last old said (first, others, mid, answers, t, is) = (is ∙ ap (λ x. followed_by x others) answers.0 ∙ ap (λ x. followed_by silence x) t.0, t.1 ∙ answers.1)

  line_alike : (old : Plant) (said : Exchange) (line rest : List ℕ) (lines : List (List ℕ)) (found : Option (List ℕ))
      → MatchOption found (event_of_line line ≡ Ok None) (λ line_kept. event_of_line line_kept ≡ event_of_line line) → MatchOption found ⊤ (λ line_kept. list_all is_other line_kept ≡ true)
      → ((mid : Plant) (others : Exchange) → Transcript c mid (lines_of rest) others new → Transcript c mid lines others new)
      → Transcript c old (lines_of (clean_text found ++ rest)) said new → Transcript c old (line ∷ lines) said new
  line_alike old said line rest lines None same plain on t = (silence, said, old, subst (λ e. Answers c old e silence old) (sym same) (refl, refl), on old said t, refl)
  line_alike old said line rest lines (Some l) same plain on t =
      let (first, others, mid, answers, behind, is) = subst (λ ls. Transcript c old ls said new) (ap lines_of (append_assoc l (10 ∷ []) rest) ∙ split_at l rest plain) t in
      (first, others, mid, subst (λ e. Answers c old e first mid) same answers, on mid others behind, is)

  step_alike : (t : Bool) (begun : List ℕ) (b : ℕ) (input : List ℕ) (old : Plant) (said : Exchange) → eqb b 10 ≡ t → list_all is_other begun ≡ true
      → ((one : Plant) (told : Exchange) → Transcript c one (lines_of (clean_from [] input)) told new → Transcript c one (lines_of input) told new)
      → (list_all is_other (begun ++ b ∷ []) ≡ true → Transcript c old (lines_of (clean_from (begun ++ b ∷ []) input)) said new → Transcript c old (front (begun ++ b ∷ []) (lines_of input)) said new)
      → Transcript c old (lines_of (cond t (clean_text (clean begun) ++ clean_from [] input) (clean_from (begun ++ b ∷ []) input))) said new
      → Transcript c old (front begun (cond t ([] ∷ lines_of input) (onto_first b (lines_of input)))) said new
  step_alike true begun b input old said is plain others on t =
      subst (λ l. Transcript c old (l ∷ lines_of input) said new) (sym (append-nil begun))
      (line_alike old said begun (clean_from [] input) (lines_of input) (clean begun) (agree begun) (plain_if begun (is_too_long begun) (gives_nothing (strip_carriage_return begun)) plain) others t)
  step_alike false begun b input old said is plain others on t = subst (λ ls. Transcript c old ls said new) (front_onto begun b (lines_of input)) (on (plain_more begun b plain is) t)

  from_alike : (begun input : List ℕ) (old : Plant) (said : Exchange) → list_all is_other begun ≡ true
      → Transcript c old (lines_of (clean_from begun input)) said new → Transcript c old (front begun (lines_of input)) said new
  from_alike begun [] old said plain t =
      subst (λ l. Transcript c old (l ∷ []) said new) (sym (append-nil begun))
      (line_alike old said begun [] [] (clean begun) (agree begun) (plain_if begun (is_too_long begun) (gives_nothing (strip_carriage_return begun)) plain) nothing_last
      (subst (λ l. Transcript c old (lines_of l) said new) (sym (append-nil (clean_text (clean begun)))) t))
  from_alike begun (b ∷ input) old said plain t =
      step_alike (eqb b 10) begun b input old said refl plain
      (λ one told u. subst (λ ls. Transcript c one ls told new) (front_none input) (from_alike [] input one told refl u)) (λ more u. from_alike (begun ++ b ∷ []) input old said more u) t

pub alike : CleanLinesServeAlike
alike c old new input said t =
    subst (λ ls. Transcript c old ls said new) (front_none input) (from_alike c new [] input old said refl (subst (λ l. Transcript c old (lines_of l) said new) (sym (cleans input)) t))

-- As much of a line as is kept of it

pub clean_long : (line : List ℕ) → is_too_long line ≡ true → clean line ≡ Some (replicate 1025 63)
clean_long line long = ap (λ t. cond t (Some (replicate 1025 63)) (cond (gives_nothing (strip_carriage_return line)) None (Some (map clean_byte line)))) long

pub clean_none : (line : List ℕ) → is_too_long line ≡ false → gives_nothing (strip_carriage_return line) ≡ true → clean line ≡ None
clean_none line short nothing =
    ap (λ t. cond t (Some (replicate 1025 63)) (cond (gives_nothing (strip_carriage_return line)) None (Some (map clean_byte line)))) short
    ∙ ap (λ t. cond t None (Some (map clean_byte line))) nothing

pub clean_some : (line : List ℕ) → is_too_long line ≡ false → gives_nothing (strip_carriage_return line) ≡ false → clean line ≡ Some (map clean_byte line)
clean_some line short something =
    ap (λ t. cond t (Some (replicate 1025 63)) (cond (gives_nothing (strip_carriage_return line)) None (Some (map clean_byte line)))) short
    ∙ ap (λ t. cond t None (Some (map clean_byte line))) something

pub strip_within_if : (b : Bool) (xs : List ℕ) → length (cond b (take (length xs - 1) xs) xs) ≤ length xs
strip_within_if true xs = omega (arith, length-take (length xs - 1) xs)
strip_within_if false xs = omega arith

pub strip_within : (xs : List ℕ) → length (strip_carriage_return xs) ≤ length xs
strip_within xs = strip_within_if (eqb (get_or xs (length xs - 1) 0) 13) xs

is_long : (line : List ℕ) → KEPT ≤ length line → is_too_long line ≡ true
is_long line le = lt-ltb MAX_LINE_LEN (length (strip_carriage_return line)) (omega (arith, le, length_strip line))

clean_kept : (line : List ℕ) → clean (take KEPT line) ≡ clean line
clean_kept line = elim (cases_lt KEPT (length line)) [
  | inl lt ↦ let full : KEPT ≤ length (take KEPT line) = simp length-take (omega arith) in
      clean_long (take KEPT line) (is_long (take KEPT line) full) ∙ sym (clean_long line (is_long line (omega (arith, lt))))
  | inr le ↦ ap clean (take_all KEPT line le)
]

from_kept : (line bytes : List ℕ) → clean_from (take KEPT line) bytes ≡ clean_from line bytes
from_kept line [] = ap clean_text (clean_kept line)
from_kept line (b ∷ bytes) =
    ap (λ l. cond (eqb b 10) (clean_text l ++ clean_from [] bytes) (clean_from (take KEPT line ++ b ∷ []) bytes)) (clean_kept line)
    ∙ ap (λ l. cond (eqb b 10) (clean_text (clean line) ++ clean_from [] bytes) l)
    (sym (from_kept (take KEPT line ++ b ∷ []) bytes) ∙ ap (λ l. clean_from l bytes) (take_twice KEPT line (b ∷ [])) ∙ from_kept (line ++ b ∷ []) bytes)

-- bytes in which no line ends
from_unended : (line end bytes : List ℕ) → HasNoFeed end → clean_from line (end ++ bytes) ≡ clean_from (line ++ end) bytes
from_unended line [] bytes none = ap (λ l. clean_from l bytes) (sym (append-nil line))
from_unended line (b ∷ end) bytes none =
    ap (λ t. cond t (clean_text (clean line) ++ clean_from [] (end ++ bytes)) (clean_from (line ++ b ∷ []) (end ++ bytes))) (none 0 0 (omega arith))
    ∙ from_unended (line ++ b ∷ []) end bytes (λ k d lt. none (suc k) d (omega (arith, lt)))
    ∙ ap (λ l. clean_from l bytes) (append_assoc line (b ∷ []) end)

-- the line that ends there
pub ended : (line rest more : List ℕ) (at : ℕ) → EndsLine at rest
    → clean_from line (rest ++ more) ≡ clean_text (clean (take KEPT (line ++ take at rest))) ++ clean_from [] (drop (at + 1) rest ++ more)
ended line rest more at ends =
    ap (λ l. clean_from line (l ++ more)) (line_apart rest at ends)
    ∙ ap (clean_from line) (append_assoc (take at rest) (10 ∷ drop (at + 1) rest) more)
    ∙ from_unended line (take at rest) (10 ∷ (drop (at + 1) rest ++ more)) ends.before
    ∙ ap (λ l. clean_text l ++ clean_from [] (drop (at + 1) rest ++ more)) (sym (clean_kept (line ++ take at rest)))

pub unended : (line rest more : List ℕ) → HasNoFeed rest → clean_from line (rest ++ more) ≡ clean_from (take KEPT (line ++ rest)) more
unended line rest more none = from_unended line rest more none ∙ sym (from_kept (line ++ rest) more)

-- The bytes given for the bytes read

pub consumes : (line now read given : List ℕ) (old new : Option (List ℕ)) → ((more : List ℕ) → clean_from line (read ++ more) ≡ given ++ clean_from now more)
    → Consumes old new read → Consumes (option_map (clean_from line) old) (option_map (clean_from now) new) given
consumes line now read given None new text consumed = tt
consumes line now read given (Some xs) None text consumed = absurd consumed
consumes line now read given (Some xs) (Some ys) text consumed = ap (clean_from line) consumed ∙ text ys

pub keeps_same : (line : List ℕ) (old new : Option (List ℕ)) → Keeps old new → Keeps (option_map (clean_from line) old) (option_map (clean_from line) new)
keeps_same line None new same = tt
keeps_same line (Some xs) None same = absurd same
keeps_same line (Some xs) (Some ys) same = ap (clean_from line) same

-- a read into the front of a piece
pub front_read : {E : Type 0} (r : Result ℕ E) (old new : Option (List ℕ)) (piece put : List ℕ) (k most : ℕ) → 0 < most → length put ≡ most → ReadsAtMost r put → ReadConsumes old new r put
    → IfOk r (λ n. (n ≤ most) × Consumes old new (take n (put_mid 0 k piece put)) × (n ≡ 0 → IsAtEnd new)) × OnErr r (Keeps old new)
front_read (Ok n) old new piece put k most some size bound bytes = (
  (omega (arith, size, bound.0), subst (Consumes old new) (sym (take-append-le n put (post_of 0 k piece) bound.0)) bytes.0, λ none. bytes.1 none (omega (arith, size, some))),
  tt,
)
front_read (Err e) old new piece put k most some size bound bytes = (tt, bytes)

pub gave_none : (old new : Option (List ℕ)) (out : List ℕ) (n : ℕ) → n ≡ 0 → Consumes old new (take n out) → Keeps old new
gave_none None new out n nothing consumed = tt
gave_none (Some xs) None out n nothing consumed = absurd consumed
gave_none (Some xs) (Some ys) out n nothing consumed = sym (consumed ∙ ap (λ k. take k out ++ ys) nothing)

-- A piece of the input

-- bytes written after earlier ones
pub put_behind : (out put : List ℕ) (written k n : ℕ) → written ≤ length out → n ≤ length put → take (written + n) (put_mid written k out put) ≡ take written out ++ take n put
put_behind out put written k n within fits =
    let size : length (take written out) ≡ written = length-take-le written out within in
    ap (λ m. take (m + n) (take written out ++ (put ++ post_of written k out))) (sym size) ∙ take-append-add (take written out) (put ++ post_of written k out) n
    ∙ ap (λ l. take written out ++ l) (take-append-le n put (post_of written k out) fits)

abbrev pub Gives : List ℕ → List ℕ → List ℕ → List ℕ → List ℕ → Type 0
Gives first piece written line rest = (more : List ℕ) → clean_from first (piece ++ more) ≡ written ++ clean_from line (rest ++ more)

-- the rest after the line feed there
abbrev pub behind : ℕ → List ℕ → List ℕ
behind at rest = take (length rest - (at + 1)) (drop (at + 1) rest)

pub stepped : (first piece line rest whole now put written out : List ℕ) (at : ℕ) → Gives first piece written line rest → EndsLine at rest → whole ≡ take KEPT (line ++ take at rest)
    → now ≡ [] → put ≡ clean_text (clean whole) → out ≡ written ++ put → Gives first piece out now (behind at rest)
stepped first piece line rest whole now put written out at so_far ends whole_is none put_is out_is = λ more.
    so_far more ∙ ap (λ l. written ++ l) (ended line rest more at ends)
    ∙ ap (λ l. written ++ (clean_text (clean l) ++ clean_from [] (drop (at + 1) rest ++ more))) (sym whole_is)
    ∙ ap (λ l. written ++ (l ++ clean_from [] (drop (at + 1) rest ++ more))) (sym put_is)
    ∙ sym (append_assoc written put (clean_from [] (drop (at + 1) rest ++ more)))
    ∙ ap (λ l. l ++ clean_from [] (drop (at + 1) rest ++ more)) (sym out_is)
    ∙ ap (λ l. out ++ clean_from l (drop (at + 1) rest ++ more)) (sym none)
    ∙ ap (λ l. out ++ clean_from now (l ++ more)) (sym (take_rest rest (at + 1)))

pub finished : (first piece line rest now written : List ℕ) → Gives first piece written line rest → HasNoFeed rest → now ≡ take KEPT (line ++ rest)
    → (more : List ℕ) → clean_from first (piece ++ more) ≡ written ++ clean_from now more
finished first piece line rest now written so_far none now_is = λ more.
    so_far more ∙ ap (λ l. written ++ l) (unended line rest more none ∙ ap (λ l. clean_from l more) (sym now_is))

-- there is room for the line that ends there, and then for the rest
pub room_here : (line rest whole : List ℕ) (written at most : ℕ) → written + (length line + length rest) ≤ most → EndsLine at rest → whole ≡ take KEPT (line ++ take at rest)
    → written + (length whole + 1) + length (drop (at + 1) rest) ≤ most
room_here line rest whole written at most so_far ends is =
    omega (arith, so_far, ends.within, ap length is, length-take KEPT (line ++ take at rest), length-append line (take at rest), length-take at rest, length-drop (at + 1) rest)

pub room_left : (line rest whole now : List ℕ) (written at count most : ℕ) → written + (length line + length rest) ≤ most → EndsLine at rest → whole ≡ take KEPT (line ++ take at rest)
    → count ≤ length whole + 1 → now ≡ [] → (written + count) + (length now + length (behind at rest)) ≤ most
room_left line rest whole now written at count most so_far ends is few none =
    omega (arith, room_here line rest whole written at most so_far ends is, few, ap length none, ap length (take_rest rest (at + 1)))

pub new_cleans : (line : List ℕ) (known : Option (List ℕ)) → line ≡ [] → option_map (clean_from line) known ≡ option_map (λ input. clean_lines (lines_of input)) known
new_cleans line None is = refl
new_cleans line (Some input) is = ap (λ l. Some (clean_from l input)) is ∙ ap Some (cleans input)

-- The end of the input

pub at_end : (line now put : List ℕ) (old new : Option (List ℕ)) → Consumes old new [] → IsAtEnd new → now ≡ [] → put ≡ clean_text (clean line)
    → Consumes (option_map (clean_from line) old) (option_map (clean_from now) new) put
at_end line now put None new consumed end none put_is = tt
at_end line now put (Some xs) None consumed end none put_is = absurd consumed
at_end line now put (Some xs) (Some ys) consumed end none put_is =
    ap (clean_from line) (consumed ∙ end) ∙ sym put_is ∙ sym (append-nil put) ∙ ap (λ l. put ++ l) (sym (ap (λ l. clean_from l ys) none ∙ ap (clean_from []) end))

pub ends_there : (now : List ℕ) (new : Option (List ℕ)) → IsAtEnd new → now ≡ [] → IsAtEnd (option_map (clean_from now) new)
ends_there now None end none = tt
ends_there now (Some ys) end none = ap (λ l. clean_from l ys) none ∙ ap (clean_from []) end

pub input_ended : (line now put read : List ℕ) (n : ℕ) (old new : Option (List ℕ)) → n ≡ 0 → Consumes old new (take n read) → (n ≡ 0 → IsAtEnd new)
    → now ≡ [] → put ≡ clean_text (clean line) → Consumes (option_map (clean_from line) old) (option_map (clean_from now) new) put × IsAtEnd (option_map (clean_from now) new)
input_ended line now put read n old new nothing consumed end none put_is =
    (at_end line now put old new (subst (λ k. Consumes old new (take k read)) nothing consumed) (end nothing) none put_is, ends_there now new (end nothing) none)

-- The text written of a line

pub long_text : (line text : List ℕ) → text ≡ strip_carriage_return line → MAX_LINE_LEN < length text → (replicate 1025 63 ++ 10 ∷ [] ≡ clean_text (clean line)) × (1026 ≤ length line + 1)
long_text line text is long = (
  sym (ap clean_text (clean_long line (lt-ltb MAX_LINE_LEN (length (strip_carriage_return line)) (omega (arith, long, ap length is))))),
  omega (arith, long, ap length is, strip_within line),
)

is_short : (line text : List ℕ) → text ≡ strip_carriage_return line → length text ≤ MAX_LINE_LEN → is_too_long line ≡ false
is_short line text is short = le-ltb MAX_LINE_LEN (length (strip_carriage_return line)) (omega (arith, short, ap length is))

pub no_text : (line text : List ℕ) → text ≡ strip_carriage_return line → length text ≤ MAX_LINE_LEN → gives_nothing text ≡ true → [] ≡ clean_text (clean line)
no_text line text is short nothing = sym (ap clean_text (clean_none line (is_short line text is short) (ap gives_nothing (sym is) ∙ nothing)))

pub line_text : (line text : List ℕ) → text ≡ strip_carriage_return line → length text ≤ MAX_LINE_LEN → gives_nothing text ≡ false → map clean_byte line ++ 10 ∷ [] ≡ clean_text (clean line)
line_text line text is short something = sym (ap clean_text (clean_some line (is_short line text is short) (ap gives_nothing (sym is) ∙ something)))

pub put_more : (out line : List ℕ) (i b : ℕ) → i < length out → i < length line → take i out ≡ map clean_byte (take i line) → b ≡ clean_byte (get_or line i 0)
    → take (i + 1) (set out i b) ≡ map clean_byte (take (i + 1) line)
put_more out line i b within some so_far is =
    take_more_set out i b within ∙ ap (λ l. l ++ b ∷ []) so_far ∙ ap (λ x. map clean_byte (take i line) ++ x ∷ []) is ∙ sym (map_more clean_byte line i 0 some)

pub put_end : (out line : List ℕ) (i : ℕ) → i ≡ length line → length line < length out → take i out ≡ map clean_byte (take i line)
    → take (length line + 1) (set out (length line) 10) ≡ map clean_byte line ++ 10 ∷ []
put_end out line i all within so_far =
    take_more_set out (length line) 10 within
    ∙ ap (λ l. l ++ 10 ∷ []) (subst (λ n. take n out ≡ map clean_byte (take n line)) all so_far ∙ ap (map clean_byte) (take_all (length line) line (omega arith)))

-- a long line, in the room that was filled
pub put_long : (out put : List ℕ) (n : ℕ) → put ≡ replicate n 63 → n ≡ 1025 → length put ≡ n → 1026 ≤ length out
    → take 1026 (set (put_mid 0 1025 out put) 1025 10) ≡ replicate 1025 63 ++ 10 ∷ []
put_long out put n is count size room =
    take_more_set (put_mid 0 1025 out put) 1025 10 (omega (arith, room, size, count, length-append put (post_of 0 1025 out), length-drop 1025 out))
    ∙ ap (λ l. l ++ 10 ∷ []) (take_at put (post_of 0 1025 out) 1025 (size ∙ count) ∙ is ∙ ap (λ m. replicate m 63) count)
