-- The whole lines of a text, and those of them that a desk is due.
use Rattle.std.proofs.Common.{◌≡◌, ◌<◌, ◌+◌, ◌-◌, ℕ, suc, Bool, List, [], ◌∷◌, ◌++◌, length, take, drop, filter, Option, ◌==◌, get_or, sym, ap, arith, append_assoc, append-nil, ◌∙◌}
use Rattle.std.proofs.lemmas.{Grind.flat_map-append, List.take_more, List.Elements.filter-append, List.Splits.length-slice_split}
use Rattle.batch_serve.specs.{Lines.is_feed, Dues.is_due, Runs.Run, Runs.due_of}
use Rattle.batch_wire.{specs.LineEnds.EndsLine, specs.LineEnds.HasNoFeed, specs.Transcript.lines_of, specs.Transcript.whole_lines, proofs.LineEnds.last_of, proofs.LineEnds.lines_apart}

-- but for the last, which isn't whole
but_last : (line : List ℕ) (lines : List (List ℕ)) (n : ℕ) → length lines ≡ n + 1 → take (length (line ∷ lines) - 1) (line ∷ lines) ≡ line ∷ take (length lines - 1) lines
but_last line lines n some =
    let count : length (line ∷ lines) - 1 ≡ suc (length lines - 1) = omega (arith, some) in
    ap (λ k. take k (line ∷ lines)) count

-- a line ends there, and the others follow it
pub whole_first : (text : List ℕ) (at : ℕ) → EndsLine at text → whole_lines text ≡ take at text ∷ whole_lines (drop (at + 1) text)
whole_first text at here =
    ap (λ (lines : List (List ℕ)). take (length lines - 1) lines) (lines_apart text at here)
    ∙ but_last (take at text) (lines_of (drop (at + 1) text)) _ (length-slice_split is_feed (drop (at + 1) text))

-- no line ends in it
pub whole_none : (text : List ℕ) → HasNoFeed text → whole_lines text ≡ []
whole_none text none = ap (λ (lines : List (List ℕ)). take (length lines - 1) lines) (last_of text none)

-- one more line was read
pub lines_more : (text rest line behind : List ℕ) (front : List (List ℕ)) → whole_lines text ≡ front ++ whole_lines rest → whole_lines rest ≡ line ∷ whole_lines behind
    → whole_lines text ≡ (front ++ line ∷ []) ++ whole_lines behind
lines_more text rest line behind front so_far first = so_far ∙ ap (λ l. front ++ l) first ∙ sym (append_assoc front (line ∷ []) (whole_lines behind))

filter_more : (p : List ℕ → Bool) (all front : List (List ℕ)) (line : List ℕ) → (all ++ filter p front) ++ filter p (line ∷ []) ≡ all ++ filter p (front ++ line ∷ [])
filter_more p all front line = append_assoc all (filter p front) (filter p (line ∷ [])) ∙ ap (λ l. all ++ l) (sym (filter-append p front (line ∷ [])))

-- one more line was queued, if it is due
pub told_line : (own : Bool) (unit now : Option (List ℕ)) (all front : List (List ℕ)) (line : List ℕ) → now ≡ unit
    → (all ++ filter (is_due own unit) front) ++ filter (is_due own now) (line ∷ []) ≡ all ++ filter (is_due own unit) (front ++ line ∷ [])
told_line own unit now all front line same =
    ap (λ u. (all ++ filter (is_due own unit) front) ++ filter (is_due own u) (line ∷ [])) same ∙ filter_more (is_due own unit) all front line

pub due_both : (desk : ℕ) (unit : Option (List ℕ)) (front others : List Run) → due_of desk unit (front ++ others) ≡ due_of desk unit front ++ due_of desk unit others
due_both desk unit front others = flat_map-append (λ (run : Run). filter (is_due (run.desk == desk) unit) (whole_lines run.text)) front others

-- the due lines of one more run were queued
pub told_run : (desk : ℕ) (unit now : Option (List ℕ)) (all : List (List ℕ)) (answers : List Run) (i : ℕ) (run : Run) (text : List ℕ) (own : Bool)
    → i < length answers → run ≡ get_or answers i run → now ≡ unit → text ≡ run.text → own ≡ (run.desk == desk)
    → (all ++ due_of desk unit (take i answers)) ++ filter (is_due own now) (whole_lines text) ≡ all ++ due_of desk unit (take (i + 1) answers)
told_run desk unit now all answers i run text own within item same text_is own_is =
    append_assoc all (due_of desk unit (take i answers)) (filter (is_due own now) (whole_lines text))
    ∙ ap (λ l. all ++ (due_of desk unit (take i answers) ++ filter (is_due l now) (whole_lines text))) own_is
    ∙ ap (λ l. all ++ (due_of desk unit (take i answers) ++ filter (is_due (run.desk == desk) l) (whole_lines text))) same
    ∙ ap (λ l. all ++ (due_of desk unit (take i answers) ++ filter (is_due (run.desk == desk) unit) (whole_lines l))) text_is
    ∙ ap (λ l. all ++ (due_of desk unit (take i answers) ++ l)) (sym (append-nil (filter (is_due (run.desk == desk) unit) (whole_lines run.text))))
    ∙ ap (λ l. all ++ l) (sym (due_both desk unit (take i answers) (run ∷ [])))
    ∙ ap (λ l. all ++ due_of desk unit (take i answers ++ l ∷ [])) item
    ∙ ap (λ l. all ++ due_of desk unit l) (sym (take_more answers i run within))
