-- Texts of runs, as one run more is written.
use Rattle.std.proofs.Common.{◌≡◌, ◌<◌, ◌+◌, ℕ, List, ◌∷◌, ◌++◌, length, drop, get_or, Option, Some, sym, ap, append_assoc, ◌∙◌}
use Rattle.std.proofs.lemmas.List.{drop_more}
use Rattle.batch_serve.specs.Runs.{Run, from_text, last_of, runs_text}

-- the comment and the text of the next run were written
pub run_written : (names : List (List ℕ)) (last : Option ℕ) (runs : List Run) (i desk : ℕ) (run : Run) (text from own done whole : List ℕ)
    → i < length runs → run ≡ get_or runs i run → desk ≡ run.desk → own ≡ run.text → from ≡ text ++ from_text names last desk → done ≡ from ++ own
    → text ++ runs_text names last (drop i runs) ≡ whole
    → done ++ runs_text names (Some desk) (drop (i + 1) runs) ≡ whole
run_written names last runs i desk run text from own done whole within item desk_is own_is from_is done_is so_far =
    let rest : List ℕ = runs_text names (Some desk) (drop (i + 1) runs) in
    let next : drop i runs ≡ run ∷ drop (i + 1) runs = drop_more runs i run within ∙ ap (λ (r : Run). r ∷ drop (i + 1) runs) (sym item) in
    ap (λ l. l ++ rest) done_is
    ∙ ap (λ l. (l ++ own) ++ rest) from_is
    ∙ ap (λ l. l ++ rest) (append_assoc text (from_text names last desk) own)
    ∙ append_assoc text (from_text names last desk ++ own) rest
    ∙ ap (λ l. text ++ l) (append_assoc (from_text names last desk) own rest)
    ∙ ap (λ l. text ++ (from_text names last desk ++ (l ++ rest))) own_is
    ∙ ap (λ d. text ++ (from_text names last d ++ (run.text ++ runs_text names (Some d) (drop (i + 1) runs)))) desk_is
    ∙ ap (λ (l : List Run). text ++ runs_text names last l) (sym next)
    ∙ so_far

-- one more run was read
pub run_seen : (last before whole : Option ℕ) (runs : List Run) (i desk : ℕ) (run : Run) → i < length runs → run ≡ get_or runs i run → desk ≡ run.desk
    → last_of last (drop i runs) ≡ whole → last_of (Some desk) (drop (i + 1) runs) ≡ whole
run_seen last before whole runs i desk run within item desk_is so_far =
    ap (λ d. last_of (Some d) (drop (i + 1) runs)) desk_is
    ∙ ap (λ (l : List Run). last_of last l) (sym (drop_more runs i run within ∙ ap (λ (r : Run). r ∷ drop (i + 1) runs) (sym item)))
    ∙ so_far
