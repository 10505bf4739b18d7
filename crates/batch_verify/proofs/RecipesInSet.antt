-- Recipes of a set, one after another.
use Rattle.std.proofs.Common.{◌≡◌, ℕ, ◌+◌, ◌≤◌, Bool, true, false, ◌||◌, Some, List, [], ◌∷◌, length, take, map, slice_get, refl, sym, ap, ◌∙◌, subst, arith}
use Rattle.std.{specs.Prelude.IsTrue, specs.List.list_any, proofs.lemmas.Bool.false_from_ne_true, proofs.lemmas.List.length-map, proofs.lemmas.List.take-map, proofs.lemmas.Option.slice_get-map}
use Rattle.batch_recipe.specs.{Conditions.Name, Conditions.same_name, WellFormed.is_among, WellFormed.are_distinct}
use Rattle.batch_recipe.specs.declared.recipe.Recipe as document
use Rattle.batch_cell.specs.declared.cell.Cell as equipment
use Rattle.batch_model.specs.{Setups.master_of, declared.limits.TheConstants.MAX_RECIPES}
use Rattle.batch_verify.{specs.Verifying.recipe_names, specs.Verifying.IsRecipeSet, proofs.NamesInList.take_next, proofs.NamesInList.are_distinct-push, proofs.NamesInList.are_distinct-again}

pub recipe_at : (c : equipment.Cell) (recipes : List document.Recipe) (k : ℕ) (recipe : document.Recipe) → slice_get recipes k ≡ Some recipe → slice_get (map (master_of c) recipes) k ≡ Some (master_of c recipe)
recipe_at c recipes k recipe e = rw (slice_get-map (master_of c) recipes k, e) refl

recipe_name_at : (recipes : List document.Recipe) (k : ℕ) (recipe : document.Recipe) → slice_get recipes k ≡ Some recipe
    → slice_get (recipe_names recipes) k ≡ Some recipe.acts.procedure.name
recipe_name_at recipes k recipe e = rw (slice_get-map (λ (r : document.Recipe). r.acts.procedure.name) recipes k, e) refl

-- Names

list_any_map : {X Y : Type 0} (p : Y → Bool) (f : X → Y) (xs : List X) → list_any (λ x. p (f x)) xs ≡ list_any p (map f xs)
list_any_map p f [] = refl
list_any_map p f (x ∷ xs) = ap (λ b. p (f x) || b) (list_any_map p f xs)

-- the test of the names so far
named_before : (recipes : List document.Recipe) (k : ℕ) (name : Name) (b : Bool) → list_any (λ r. same_name name r.acts.procedure.name) (take k recipes) ≡ b
    → is_among (take k (recipe_names recipes)) name ≡ b
named_before recipes k name b e =
    ap (λ names. is_among names name) (take-map (λ (r : document.Recipe). r.acts.procedure.name) k recipes)
    ∙ sym (list_any_map (same_name name) (λ (r : document.Recipe). r.acts.procedure.name) (take k recipes)) ∙ e

pub own_names_next : (recipes : List document.Recipe) (k : ℕ) (recipe : document.Recipe) → slice_get recipes k ≡ Some recipe
    → list_any (λ r. same_name recipe.acts.procedure.name r.acts.procedure.name) (take k recipes) ≡ false
    → IsTrue (are_distinct (take k (recipe_names recipes))) → IsTrue (are_distinct (take (k + 1) (recipe_names recipes)))
own_names_next recipes k recipe at new h =
    let P : List Name → Type 0 = λ names. IsTrue (are_distinct names) in
    let name = recipe.acts.procedure.name in
    subst P (sym (take_next (recipe_names recipes) k name (recipe_name_at recipes k recipe at)))
    (are_distinct-push (take k (recipe_names recipes)) name h (named_before recipes k name false new))

pub name_again : (recipes : List document.Recipe) (k : ℕ) (recipe : document.Recipe) → slice_get recipes k ≡ Some recipe
    → list_any (λ r. same_name recipe.acts.procedure.name r.acts.procedure.name) (take k recipes) ≡ true → are_distinct (recipe_names recipes) ≡ false
name_again recipes k recipe at again =
    let name = recipe.acts.procedure.name in
    false_from_ne_true (are_distinct (recipe_names recipes))
    (are_distinct-again (recipe_names recipes) k name (recipe_name_at recipes k recipe at) (named_before recipes k name true again))

-- Sets

module _ (c : equipment.Cell) where
  model_names : (recipes : List document.Recipe) → map (λ r. r.name) (map (master_of c) recipes) ≡ recipe_names recipes
  model_names [] = refl
  model_names (r ∷ rs) = ap (λ names. r.acts.procedure.name ∷ names) (model_names rs)

  pub recipe_set : (recipes : List document.Recipe) → length recipes ≤ MAX_RECIPES → IsTrue (are_distinct (recipe_names recipes)) → IsRecipeSet (map (master_of c) recipes)
  recipe_set recipes few own = record {
    names_differ = ap are_distinct (model_names recipes) ∙ own;
    few = omega (arith, length-map recipes (master_of c));
  }

  pub own_names : (recipes : List document.Recipe) → IsRecipeSet (map (master_of c) recipes) → IsTrue (are_distinct (recipe_names recipes))
  own_names recipes h = sym (ap are_distinct (model_names recipes)) ∙ h.names_differ

  pub set_length : (recipes : List document.Recipe) → IsRecipeSet (map (master_of c) recipes) → length recipes ≤ MAX_RECIPES
  set_length recipes h = omega (arith, h.few, length-map recipes (master_of c))
