-- The document that ends a command.
use Rattle.std.proofs.Common.{◌≡◌, ℕ, ◌<◌, List, [], ◌∷◌, inl, inr, length, map, take, get_or, suc, zero, refl, subst, ap, arith}
use Rattle.batch_recipe.specs.declared.recipe.Recipe.{Recipe}
use Rattle.batch_verdicts.specs.{Halting.HaltsAtRecipe, Halting.HaltsAtRecipes, Reading.Gives, Reading.ReadsRecipes, declared.refusal.Halt.Halt, declared.refusal.Halt.TheVariants.Memory}

-- memory may be wanting anywhere
pub halts_without_memory : (gives : Gives) (paths : List (List ℕ)) → HaltsAtRecipes gives paths Memory
halts_without_memory gives [] = refl
halts_without_memory gives (p ∷ paths) = inl (inl tt)

-- the documents before it are recipes
pub halts_at : {X : Type 0} (gives : Gives) (text_of : X → List ℕ) (paths : List X) (i : ℕ) (path : X) (rs : List Recipe) (h : Halt)
    → i < length paths → path ≡ get_or paths i path
    → ReadsRecipes gives (map text_of (take i paths)) rs → HaltsAtRecipe gives (text_of path) h → HaltsAtRecipes gives (map text_of paths) h
halts_at gives text_of [] i path rs h within is before here = absurd (omega (arith, within))
halts_at gives text_of (p ∷ paths) zero path rs h within is before here =
    let At : List ℕ → Type 0 = λ t. HaltsAtRecipe gives t h in
    inl (subst At (ap text_of is) here)
halts_at gives text_of (p ∷ paths) (suc i) path [] h within is before here = absurd before
halts_at gives text_of (p ∷ paths) (suc i) path (r ∷ rs) h within is before here =
    inr (r, before.0, halts_at gives text_of paths i path rs h (omega (arith, within)) is before.1 here)
