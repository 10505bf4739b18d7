-- How a record is compared line by line.
use Rattle.std.proofs.Common.{◌≡◌, ◌<◌, ℕ, ◌+◌, ◌-◌, ◌^◌, Bool, true, false, eqb, List, [], ◌∷◌, ◌++◌, Option, Some, None, cond, count_by, length, min, take, drop, refl, sym, ap, subst, ◌∙◌, append_assoc, arith}
use Rattle.std.{specs.Prelude.◌==◌, specs.Prelude.◌≢◌, specs.Prelude.MatchOption, specs.Borrow.Bor, proofs.lemmas.Grind.flat_map-append, proofs.lemmas.Bool.eqb-true, proofs.lemmas.List.append_cancel_left, proofs.lemmas.List.length-append, proofs.lemmas.List.length-drop, proofs.lemmas.List.nil_from_length, proofs.lemmas.List.take_rest, proofs.lemmas.List.Splits.length-slice_split}
use Rattle.batch_wire.{proofs.LineEnds.lines_apart, specs.EventLine.is_comment, specs.Transcript.lines_of, specs.LineEnds.EndsLine}
use Rattle.batch_serve.specs.Replays.{BeginsText}
use Rattle.batch_keep.specs.{Audits.told_line, Audits.told_text, Comparing.IsCompared, Comparing.TakesLines}

abbrev is_end : ℕ → Bool
is_end b = eqb b 10

-- A line

-- there is a last line, which may be empty
pub some_lines : (text : List ℕ) → lines_of text ≢ []
some_lines text none =
    let counted : length (lines_of text) ≡ count_by is_end text + 1 = length-slice_split is_end text in
    absurd (omega (arith, ap length none, counted))

-- The text of lines

fed : (line rest : List ℕ) → (line ++ 10 ∷ []) ++ rest ≡ line ++ 10 ∷ rest
fed line rest = append_assoc line (10 ∷ []) rest

pub told_of : (t : Bool) (line : List ℕ) (P : List ℕ → Type 0) → is_comment line ≡ t → P (cond t [] (line ++ 10 ∷ [])) → P (told_line line)
told_of t line P is p = subst (λ b. P (cond b [] (line ++ 10 ∷ []))) (sym is) p

pub told_both : (lines others : List (List ℕ)) → told_text (lines ++ others) ≡ told_text lines ++ told_text others
told_both lines others = flat_map-append told_line lines others

-- a line that is no comment, and others
pub told_first : (line : List ℕ) (others : List (List ℕ)) → is_comment line ≡ false → told_text (line ∷ others) ≡ line ++ 10 ∷ told_text others
told_first line others is = told_of false line (λ l. l ++ told_text others ≡ line ++ 10 ∷ told_text others) is (append_assoc line (10 ∷ []) (told_text others))

told_comment : (line : List ℕ) → is_comment line ≡ true → told_text (line ∷ []) ≡ []
told_comment line is = told_of true line (λ l. l ++ [] ≡ []) is refl

-- Lines more

pub line_taken : (start : ℕ) (text : List ℕ) (at count : ℕ) → EndsLine at text → count ≡ min (start + 1) (2 ^ 64 - 1)
    → TakesLines start text (take at text ∷ []) count (take (length text - (at + 1)) (drop (at + 1) text))
line_taken start text at count here is =
    subst (TakesLines start text (take at text ∷ []) count) (sym (take_rest text (at + 1)))
    (record { read = lines_apart text at here; counted = omega (arith, is) })

pub line_shorter : (text : List ℕ) (at : ℕ) → EndsLine at text → length (take (length text - (at + 1)) (drop (at + 1) text)) < length text
line_shorter text at here = subst (λ l. length l < length text) (sym (take_rest text (at + 1))) (omega (arith, here.within, length-drop (at + 1) text))

pub takes_both : (start : ℕ) (text : List ℕ) (one two : List (List ℕ)) (mid count : ℕ) (between rest : List ℕ)
    → TakesLines start text one mid between → TakesLines mid between two count rest → TakesLines start text (one ++ two) count rest
takes_both start text one two mid count between rest a b = record {
  read = a.read ∙ ap (λ l. one ++ l) b.read ∙ sym (append_assoc one two (lines_of rest));
  counted = omega (arith, a.counted, b.counted, length-append one two);
}

pub nothing_compared : (start : ℕ) (text due : List ℕ) → IsCompared start text due start text due
nothing_compared start text due = record { lines = []; takes = record { read = refl; counted = omega arith }; told = refl }

pub compared_both : (start : ℕ) (text due : List ℕ) (mid count : ℕ) (between rest left last : List ℕ)
    → IsCompared start text due mid between left → IsCompared mid between left count rest last → IsCompared start text due count rest last
compared_both start text due mid count between rest left last a b = record {
  lines = a.lines ++ b.lines;
  takes = takes_both start text a.lines b.lines mid count between rest a.takes b.takes;
  told = a.told ∙ ap (λ l. told_text a.lines ++ l) b.told ∙ sym (append_assoc (told_text a.lines) (told_text b.lines) last)
      ∙ ap (λ l. l ++ last) (sym (told_both a.lines b.lines));
}

none_first : (a b : List ℕ) → [] ≡ a ++ b → a ≡ []
none_first [] b is = refl
none_first (x ∷ a) b is = absurd (cc is)

-- comments may be taken before any due text
pub comments_compared : (start : ℕ) (text : List ℕ) (count : ℕ) (rest due : List ℕ) → IsCompared start text [] count rest [] → IsCompared start text due count rest due
comments_compared start text count rest due a = record { lines = a.lines; takes = a.takes; told = ap (λ l. l ++ due) (sym (none_first (told_text a.lines) [] a.told)) }

-- the text of the comments is empty
pub comments_tell : (start : ℕ) (text : List ℕ) (count : ℕ) (rest : List ℕ) (a : IsCompared start text [] count rest []) → told_text a.lines ≡ []
comments_tell start text count rest a = none_first (told_text a.lines) [] a.told

pub comment_compared : (start : ℕ) (text : List ℕ) (mid count at : ℕ) (between rest : List ℕ) → IsCompared start text [] mid between [] → is_comment (take at between) ≡ true
    → TakesLines mid between (take at between ∷ []) count rest → IsCompared start text [] count rest []
comment_compared start text mid count at between rest before is takes =
    compared_both start text [] mid count between rest [] [] before
    (record { lines = take at between ∷ []; takes = takes; told = ap (λ l. l ++ []) (sym (told_comment (take at between) is)) })

pub line_compared : (start : ℕ) (text due : List ℕ) (mid count at : ℕ) (between rest left more : List ℕ) → IsCompared start text due mid between left → is_comment (take at between) ≡ false
    → left ≡ take at between ++ 10 ∷ more → TakesLines mid between (take at between ∷ []) count rest → IsCompared start text due count rest more
line_compared start text due mid count at between rest left more before is told takes =
    compared_both start text due mid count between rest left more before
    (record {
      lines = take at between ∷ [];
      takes = takes;
      told = told ∙ sym (fed (take at between) more) ∙ ap (λ l. l ++ more) (sym (told_first (take at between) [] is));
    })

-- The due text behind a line

pub behind_line : (line due more : List ℕ) (o : Option (Bor (List ℕ))) → due ≡ line ++ more
    → MatchOption o ((rest : List ℕ) → more ≢ (10 ∷ []) ++ rest) (λ rest. more ≡ (10 ∷ []) ++ rest.now)
    → MatchOption o (BeginsText (line ++ 10 ∷ []) due → ⊥) (λ left. due ≡ line ++ 10 ∷ left.now)
behind_line line due more None e other = λ begins. other begins.rest (append_cancel_left line more (10 ∷ begins.rest) (sym e ∙ begins.splits ∙ fed line begins.rest))
behind_line line due more (Some left) e f = e ∙ ap (λ l. line ++ l) f

-- Empty lists

pub nothing_left : (l : List ℕ) → (length l == 0) ≡ true → l ≡ []
nothing_left l is = nil_from_length l (eqb-true (length l) 0 is)

pub something_left : (l : List ℕ) → (length l == 0) ≡ false → l ≢ []
something_left l some is =
    let t : true ≡ false = subst (λ k. (length k == 0) ≡ false) is some in
    cc t
