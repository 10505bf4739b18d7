-- The conditions of choices, copied one after another.
use Rattle.std.proofs.Common.{◌≡◌, ◌<◌, ◌≤◌, ◌+◌, ◌++◌, ℕ, suc, List, [], ◌∷◌, map, drop, length, get_or, sym, ap, ◌∙◌, refl, add-one, drop-cons, drop_of_length-le, append_assoc, append-nil}
use Rattle.batch_recipe.specs.{Diagram.Diagram, Diagram.diagram_of, Diagram.cases_of, Growing.conditions_of_cases, declared.chart.Chart.Chart, declared.condition.Condition.Condition}

pub conditions-are : (cs : List (Condition × Chart)) (last : Diagram)
    → map (λ (choice : Condition × Chart). choice.0) cs ≡ conditions_of_cases (cases_of (map (λ (choice : Condition × Chart). (choice.0, diagram_of choice.1)) cs) last)
conditions-are [] last = refl
conditions-are (c ∷ cs) last = rw (conditions-are cs last) refl

abbrev own : Condition × Chart → Condition
own choice = choice.0

-- those that came and those that are left are all
abbrev pub HavePushed : List (Condition × Chart) → List Condition → ℕ → List Condition → Type 0
HavePushed cs before i now = now ++ map own (drop i cs) ≡ before ++ map own cs

pub HavePushed-more : (cs : List (Condition × Chart)) (before : List Condition) (i : ℕ) (now after : List Condition) → HavePushed cs before i now → (c : Condition × Chart) → i < length cs → c ≡ get_or cs i c → after ≡ now ++ c.0 ∷ []
    → HavePushed cs before (i + 1) after
HavePushed-more cs before i now after h c within is pushed =
    let cut : drop i cs ≡ c ∷ drop (i + 1) cs = drop-cons cs i c within ∙ (ap (λ z. z ∷ drop (suc i) cs) (sym is) ∙ ap (λ z. c ∷ drop z cs) (sym (add-one i))) in
    ap (λ xs. xs ++ map own (drop (i + 1) cs)) pushed
    ∙ (append_assoc now (c.0 ∷ []) (map own (drop (i + 1) cs)) ∙ (ap (λ xs. now ++ map own xs) (sym cut) ∙ h))

pub HavePushed-all : (cs : List (Condition × Chart)) (before : List Condition) (i : ℕ) (now : List Condition) → HavePushed cs before i now → length cs ≤ i → now ≡ before ++ map own cs
HavePushed-all cs before i now h past = sym (append-nil now) ∙ (ap (λ xs. now ++ map own xs) (sym (drop_of_length-le cs past)) ∙ h)
