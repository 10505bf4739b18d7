-- One more recipe is looked at for the rules that it breaks.
use Rattle.std.proofs.Common.{◌≡◌, ℕ, ◌+◌, ◌<◌, ◌++◌, List, [], ◌∷◌, length, take, get_or, suc, zero, refl, ap, sym, subst, arith, append_assoc, append-nil, ◌∙◌}
use Rattle.std.proofs.lemmas.List.{take_more}
use Rattle.batch_cell.specs.declared.cell.Cell.{Cell}
use Rattle.batch_recipe.specs.declared.recipe.Recipe.{Recipe}
use Rattle.batch_verdicts.specs.{Every.AreRulesRefused, Every.IsRuleRefused, declared.refusal.DocumentRefusal.DocumentRefusal}

length_taken : {X : Type 0} (xs : List X) (i : ℕ) → i < length xs → i ≡ 0 + length (take i xs)
length_taken [] i within = absurd (omega (arith, within))
length_taken (x ∷ xs) zero within = refl
length_taken (x ∷ xs) (suc i) within =
    let more = length_taken xs i (omega (arith, within)) in omega (arith, more)

rules_more : (c : Cell) (rs : List Recipe) (number : ℕ) (seen : List Recipe) (refusals : List DocumentRefusal) (last : ℕ) (r : Recipe) (here : List DocumentRefusal)
    → last ≡ number + length seen → AreRulesRefused c rs number seen refusals → IsRuleRefused c rs last r here
    → AreRulesRefused c rs number (seen ++ r ∷ []) (refusals ++ here)
rules_more c rs number [] refusals last r here is seen broken =
    let same : last ≡ number = omega (arith, is) in
    let At : ℕ → Type 0 = λ n. IsRuleRefused c rs n r here in
    (here, [], subst At same broken, refl, ap (λ xs. xs ++ here) seen ∙ sym (append-nil here))
rules_more c rs number (s ∷ more) refusals last r here is (first, rest, refused, others, joined) broken =
    let next : last ≡ (number + 1) + length more = omega (arith, is) in (
      first,
      rest ++ here,
      refused,
      rules_more c rs (number + 1) more rest last r here next others broken,
      ap (λ xs. xs ++ here) joined ∙ append_assoc first rest here,
    )

pub rules_next : (c : Cell) (rs recipes : List Recipe) (i : ℕ) (r : Recipe) (refusals here after : List DocumentRefusal)
    → i < length recipes → r ≡ get_or recipes i r → AreRulesRefused c rs 0 (take i recipes) refusals → IsRuleRefused c rs i r here → after ≡ refusals ++ here
    → AreRulesRefused c rs 0 (take (i + 1) recipes) after
rules_next c rs recipes i r refusals here after within is seen broken grown =
    let whole : take (i + 1) recipes ≡ take i recipes ++ r ∷ [] = take_more recipes i r within ∙ ap (λ x. take i recipes ++ x ∷ []) (sym is) in
    let Whole : List Recipe → Type 0 = λ xs. AreRulesRefused c rs 0 xs after in
    let Grown : List DocumentRefusal → Type 0 = λ xs. AreRulesRefused c rs 0 (take i recipes ++ r ∷ []) xs in
    let last : i ≡ 0 + length (take i recipes) = length_taken recipes i within in
    subst Whole (sym whole) (subst Grown (sym grown) (rules_more c rs 0 (take i recipes) refusals i r here last seen broken))
