-- Branches that are written one by one.
use Rattle.std.proofs.Common.{◌≡◌, ◌<◌, ◌≤◌, ◌+◌, ◌++◌, ℕ, suc, List, [], ◌∷◌, map, drop, length, get_or, sym, ap, ◌∙◌, add-one, drop-cons, drop_of_length-le, append_assoc, codes}
use Rattle.batch_recipe.specs.{Diagram.diagram_of, Diagram.diagrams_of, Diagram.cases_of, declared.chart.Chart.Chart, declared.condition.Condition.Condition}
use Rattle.batch_outline.specs.Along.{Labels, along, along_each, along_cases, if_text, seat_below}

cut : {X : Type 0} (xs : List X) (i : ℕ) (x : X) → i < length xs → x ≡ get_or xs i x → drop i xs ≡ x ∷ drop (i + 1) xs
cut {X} xs i x within is = drop-cons xs i x within ∙ (ap (λ (y : X). y ∷ drop (suc i) xs) (sym is) ∙ ap (λ k. x ∷ drop k xs) (sym (add-one i)))

-- one piece more of the remaining text
more : (before after piece rest now whole : List ℕ) → after ≡ before ++ piece → now ≡ piece ++ rest → before ++ now ≡ whole → after ++ rest ≡ whole
more before after piece rest now whole grown split before_is =
    ap (λ t. t ++ rest) grown ∙ (append_assoc before piece rest ∙ (ap (λ t. before ++ t) (sym split) ∙ before_is))

module _ (named : Labels) (p h : List ℕ) where
  abbrev pub parts : ℕ → List Chart → List ℕ
  parts i ds = along_each named p h i (diagrams_of (map diagram_of ds))

  abbrev pub cases : ℕ → List (Condition × Chart) → Chart → List ℕ
  cases i cs last = along_cases named p h i (cases_of (map (λ choice. (choice.0, diagram_of choice.1)) cs) (diagram_of last))

  pub parts_more : (ds : List Chart) (i : ℕ) (d : Chart) (before after whole : List ℕ) → i < length ds → d ≡ get_or ds i d
      → before ++ parts i (drop i ds) ≡ whole → after ≡ before ++ along named (seat_below p h i []) (diagram_of d) → after ++ parts (i + 1) (drop (i + 1) ds) ≡ whole
  parts_more ds i d before after whole within is before_is grown =
      more before after (along named (seat_below p h i []) (diagram_of d)) (parts (i + 1) (drop (i + 1) ds)) (parts i (drop i ds)) whole grown
      (ap (parts i) (cut ds i d within is)) before_is

  pub cases_more : (cs : List (Condition × Chart)) (last : Chart) (i : ℕ) (c : Condition × Chart) (before after whole : List ℕ) → i < length cs → c ≡ get_or cs i c
      → before ++ cases i (drop i cs) last ≡ whole → after ≡ before ++ along named (seat_below p h i (if_text c.0)) (diagram_of c.1) → after ++ cases (i + 1) (drop (i + 1) cs) last ≡ whole
  cases_more cs last i c before after whole within is before_is grown =
      more before after (along named (seat_below p h i (if_text c.0)) (diagram_of c.1)) (cases (i + 1) (drop (i + 1) cs) last) (cases i (drop i cs) last) whole grown
      (ap (λ ds. cases i ds last) (cut cs i c within is)) before_is

  pub cases_last : (cs : List (Condition × Chart)) (last : Chart) (i : ℕ) (text whole : List ℕ) → length cs ≤ i → text ++ cases i (drop i cs) last ≡ whole
      → text ++ along named (seat_below p h i (codes " else")) (diagram_of last) ≡ whole
  cases_last cs last i text whole past is = ap (λ ds. text ++ cases i ds last) (sym (drop_of_length-le cs past)) ∙ is
