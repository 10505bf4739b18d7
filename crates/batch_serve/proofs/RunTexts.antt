-- Texts of runs one behind the other.
use Rattle.std.proofs.Common.{◌≡◌, ℕ, List, [], ◌∷◌, ◌++◌, Option, Some, cond, ◌==◌, refl, sym, ap, append_assoc, ◌∙◌}
use Rattle.std.proofs.lemmas.Grind.{flat_map-append}
use Rattle.batch_serve.{specs.GoingOn.TextsGoOn, specs.Runs.Run, specs.Runs.from_text, specs.Runs.last_of, specs.Runs.runs_text, proofs.TextLines.due_both}

text_both : (names : List (List ℕ)) (before : Option ℕ) (runs more : List Run)
    → runs_text names before (runs ++ more) ≡ runs_text names before runs ++ runs_text names (last_of before runs) more
text_both names before [] more = refl
text_both names before (run ∷ runs) more =
    let from : List ℕ = from_text names before run.desk in
    let rest : List ℕ = runs_text names (Some run.desk) runs in
    let behind : List ℕ = runs_text names (last_of (Some run.desk) runs) more in
    ap (λ l. from ++ (run.text ++ l)) (text_both names (Some run.desk) runs more)
    ∙ ap (λ l. from ++ l) (sym (append_assoc run.text rest behind))
    ∙ sym (append_assoc from (run.text ++ rest) behind)

last_both : (before : Option ℕ) (runs more : List Run) → last_of before (runs ++ more) ≡ last_of (last_of before runs) more
last_both before [] more = refl
last_both before (run ∷ runs) more = last_both (Some run.desk) runs more

pub texts_go_on : TextsGoOn
texts_go_on names before desk unit runs more = record {
  text = text_both names before runs more;
  last = last_both before runs more;
  due = due_both desk unit runs more;
  own = flat_map-append (λ (run : Run). cond (run.desk == desk) run.text []) runs more;
}
