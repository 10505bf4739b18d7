use Rattle.std.proofs.Common.{◌≡◌, ◌<◌, refl, sym, ap, subst, arith, ℕ, length, List, [], ◌∷◌, ◌++◌, Some, slice_get}
use Rattle.std.proofs.lemmas.{List.length-append, Option.slice_get_read}
use Rattle.batch_recipe.{specs.declared.recipe.Recipe.Recipe, proofs.ValueUpdates.same-at}
use Rattle.batch_set.{specs.Linking.IsLinked, specs.declared.linked.LinkedRecipe.LinkedRecipe, proofs.TableRows.pushed}
use Rattle.batch_set.proofs.linked_set.link_recipes.Goals as goal

pub loop-index-preserved : goal.loop-index-preserved
loop-index-preserved c =
    let cell = c.args.cell.now in
    let phases = c.args.phases.now in
    let recipes = c.args.recipes.now in
    let i : ℕ = c.loop-index.index in
    let r : Recipe = c.index-recipes-index.result in
    let x : LinkedRecipe = c.in_ok-recipe.recipe in
    let few : i < length recipes = omega (arith, c.loop-index-test.true) in
    let at : slice_get recipes i ≡ Some r = slice_get_read recipes (length recipes) i r refl few c.index-recipes-index.is in
    let own : (s : Recipe) → slice_get recipes i ≡ Some s → IsLinked cell phases s x =
    λ s e. subst (λ (z : Recipe). IsLinked cell phases z x) (same-at recipes i r s at e) c.in_ok-recipe.ensures in
    let each : (k : ℕ) (y : LinkedRecipe) → slice_get (c.loop-index.linked.items ++ x ∷ []) k ≡ Some y → (s : Recipe) → slice_get recipes k ≡ Some s → IsLinked cell phases s y =
    pushed (λ k y. (s : Recipe) → slice_get recipes k ≡ Some s → IsLinked cell phases s y) c.loop-index.linked.items x c.loop-index.invariant.1
    (subst (λ k. (s : Recipe) → slice_get recipes k ≡ Some s → IsLinked cell phases s x) (sym c.loop-index.invariant.0) own) in (
      omega (arith, ap (λ (xs : List LinkedRecipe). length xs) c.in_ok-push.ensures.items, length-append c.loop-index.linked.items (x ∷ []), c.loop-index.invariant.0),
      subst (λ (xs : List LinkedRecipe). (k : ℕ) (y : LinkedRecipe) → slice_get xs k ≡ Some y → (s : Recipe) → slice_get recipes k ≡ Some s → IsLinked cell phases s y)
          (sym c.in_ok-push.ensures.items) each,
      omega (arith, few),
    )

pub returns : goal.returns
returns c =
    record {
      count = omega (arith, c.loop-index.invariant.0, c.loop-index.invariant.2, c.loop-index-test.false);
      each = c.loop-index.invariant.1;
    }
