-- A text apart at its first line feed.
use Rattle.std.proofs.Common.{◌≡◌, ℕ, ◌+◌, eqb, List, [], ◌∷◌, ◌++◌, take, drop, refl, sym, ap, ◌∙◌}
use Rattle.std.proofs.lemmas.List.{drop_more, take-append-drop, Splits.slice_split_at, Splits.slice_split_none}
use Rattle.batch_wire.specs.{LineEnds.EndsLine, LineEnds.HasNoFeed, Transcript.lines_of}

-- the line that ends there, and the rest behind it
pub line_apart : (text : List ℕ) (at : ℕ) → EndsLine at text → text ≡ take at text ++ 10 ∷ drop (at + 1) text
line_apart text at here =
    sym (take-append-drop at text) ∙ ap (λ l. take at text ++ l) (drop_more text at 0 here.within ∙ ap (λ b. b ∷ drop (at + 1) text) here.feed)

-- lines of which the first ends with this line feed
pub first_of_lines : (line rest : List ℕ) → HasNoFeed line → lines_of (line ++ 10 ∷ rest) ≡ line ∷ lines_of rest
first_of_lines line rest plain = slice_split_at (λ b. eqb b 10) line 10 rest plain refl

pub lines_apart : (text : List ℕ) (at : ℕ) → EndsLine at text → lines_of text ≡ take at text ∷ lines_of (drop (at + 1) text)
lines_apart text at here = ap lines_of (line_apart text at here) ∙ first_of_lines (take at text) (drop (at + 1) text) here.before

-- the last of the lines, which no line feed ends
pub last_of : (text : List ℕ) → HasNoFeed text → lines_of text ≡ text ∷ []
last_of text none = slice_split_none (λ b. eqb b 10) text none
