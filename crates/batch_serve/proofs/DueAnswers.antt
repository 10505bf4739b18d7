-- The text behind the first word of a line, and the answers to a run of lines that a desk is due.
use Rattle.std.proofs.Common.{◌≡◌, ◌+◌, ℕ, Bool, true, false, not, cond, List, [], ◌∷◌, ◌++◌, drop, filter, position, Option, Some, None, refl, ap, arith, ◌∙◌}
use Rattle.std.{proofs.lemmas.Bool.and_parts, proofs.lemmas.Bool.Decides.nat_tests, proofs.lemmas.List.drop_all, specs.List.list_all, specs.List.position_or_len}
use Rattle.batch_wire.specs.EventLine.{is_comment, is_space}
use Rattle.batch_serve.{specs.Dues.after_word, specs.Dues.due_lines, specs.Dues.from_behind, specs.Dues.is_due, specs.Dues.is_from, proofs.HeldText.is_false}

-- the text has no space
pub after_none : (text : List ℕ) → position is_space text ≡ None → after_word text ≡ []
after_none text none = grind (arith, nat_tests, drop_all (position_or_len is_space text + 1) text)

-- the first space is there
pub after_some : (text : List ℕ) (at : ℕ) → position is_space text ≡ Some at → after_word text ≡ drop (at + 1) text
after_some text at found = grind (arith, nat_tests)

-- a line that is no comment leaves whose lines are answered
stays : (from : Option (List ℕ)) (line : List ℕ) → is_comment line ≡ false → from_behind from line ≡ from
stays from line plain = rw plain refl

one_sorted : (b : Bool) (line : List ℕ) (kept rest : List (List ℕ)) → (cond b (line ∷ []) []) ++ (kept ++ rest) ≡ (cond b (line ∷ kept) kept) ++ rest
one_sorted true line kept rest = refl
one_sorted false line kept rest = refl

pub runs_sorted : (name : List ℕ) (unit from : Option (List ℕ)) (run rest : List (List ℕ)) → list_all (λ line. not (is_comment line)) run ≡ true
    → due_lines name unit from (run ++ rest) ≡ filter (is_due (is_from name from) unit) run ++ due_lines name unit from rest
runs_sorted name unit from [] rest h = refl
runs_sorted name unit from (line ∷ run) rest h =
    let parts = and_parts (not (is_comment line)) (list_all (λ other. not (is_comment other)) run) h in
    let same : from_behind from line ≡ from = stays from line (is_false (is_comment line) parts.0) in
    let front : List (List ℕ) = cond (is_due (is_from name from) unit line) (line ∷ []) [] in
    ap (λ f. front ++ due_lines name unit f (run ++ rest)) same
    ∙ ap (λ lines. front ++ lines) (runs_sorted name unit from run rest parts.1)
    ∙ one_sorted (is_due (is_from name from) unit line) line (filter (is_due (is_from name from) unit) run) (due_lines name unit from rest)
