use Rattle.std.proofs.Common.{◌≡◌, ℕ, zero, suc, List, [], ◌∷◌, Bool, true, false, Some, slice_get, length, refl, sym, ap, ◌∙◌, subst, arith}
use Rattle.std.{specs.Prelude.nat_eq, specs.Prelude.position, specs.List.AllByRecursion, specs.List.IsDistinct, specs.Cmp.Lexicographic.pointwise, specs.Cmp.Lexicographic.nat_list_eq_equiv, proofs.lemmas.Bool.Decides.nat_tests, proofs.lemmas.Grind.common_steps, proofs.lemmas.Option.slice_get_read}
use Rattle.batch_recipe.specs.Conditions.{Name, same_name}
use Rattle.batch_recipe.proofs.labels.index_from.Goals as goal

-- of names that differ the one at the place is the first that is the same
position_at : (names : List Name) (place : ℕ) (there name : Name) → IsDistinct (pointwise nat_eq) names → slice_get names place ≡ Some there → same_name name there ≡ true → position (same_name name) names ≡ Some place
unfolding IsDistinct
position_at [] place there name apart is same = absurd cc
position_at (x ∷ xs) zero there name apart is same = grind (arith, nat_tests, is, same)
position_at (x ∷ xs) (suc n) there name apart is same =
    let other : same_name x there ≡ false = apart_at xs n there (λ y. same_name x y) apart.0 is in
    let first : same_name name x ≡ false = nat_list_eq_equiv.congr name there x same ∙ (nat_list_eq_equiv.symm there x ∙ other) in
    grind (arith, nat_tests, first, position_at xs n there name apart.1 is same)
  where
    apart_at : (ys : List Name) (k : ℕ) (y : Name) (p : Name → Bool) → AllByRecursion (λ z. p z ≡ false) ys → slice_get ys k ≡ Some y → p y ≡ false
    apart_at [] k y p all at = absurd cc
    apart_at (z ∷ zs) zero y p all at = let same : z ≡ y = cc in subst (λ w. p w ≡ false) same all.0
    apart_at (z ∷ zs) (suc k) y p all at = apart_at zs k y p all.1 at

pub returns-in-Some : goal.returns-in-Some
returns-in-Some c =
    let names = c.as_slice.result.now in
    let there : slice_get names c.args.guess ≡ Some c.in-Some.guessed.now =
    slice_get_read names (length names) c.args.guess c.in-Some.guessed.now refl (grind (arith, common_steps, c.in-Some.ensures.lookup)) c.in-Some.ensures.lookup.1 in
    sym (position_at c.args.names.now.keys c.args.guess c.in-Some.guessed.now c.args.name.now c.as_slice.ensures.unique
    (ap (λ ns. slice_get ns c.args.guess) (sym c.as_slice.ensures.keys) ∙ there) cc)
