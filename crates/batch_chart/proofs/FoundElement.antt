-- An element that is found passes a test that all pass.
use Rattle.std.proofs.Common.{◌≡◌, Bool, true, false, cond, Option, Some, None, List, [], ◌∷◌, subst}
use Rattle.std.{proofs.lemmas.Bool.and_parts, specs.List.list_all, specs.List.find}
use Rattle.batch_recipe.specs.declared.act.Act.{Act}

found_step : (q : Act → Bool) (b : Bool) (x a : Act) (rest : Option Act) → cond b (Some x) rest ≡ Some a → q x ≡ true → (rest ≡ Some a → q a ≡ true) → q a ≡ true
found_step q true x a rest e first later = let same : x ≡ a = cc in subst (λ y. q y ≡ true) same first
found_step q false x a rest e first later = later e

pub found_passes : (p q : Act → Bool) (xs : List Act) (a : Act) → find p xs ≡ Some a → list_all q xs ≡ true → q a ≡ true
found_passes p q [] a h all = let bad : None ≡ Some a = h in cc
found_passes p q (x ∷ xs) a h all =
    found_step q (p x) x a (find p xs) h ((and_parts (q x) (list_all q xs) all).0) (λ e. found_passes p q xs a e ((and_parts (q x) (list_all q xs) all).1))
