use Rattle.std.proofs.Common.{◌≡◌, refl, sym, ◌∙◌, ap, subst, List, Option, Some, ℕ, length, get_or, false}
use Rattle.std.{specs.Prelude.slice_get, specs.Prelude.position, proofs.lemmas.Option.slice_get_within, proofs.lemmas.Option.slice_get_read}
use Rattle.batch_cell.specs.declared.cell.Cell.{Cell}
use Rattle.batch_recipe.specs.{Conditions.Name, Conditions.same_name, declared.role.Role.Role}
use Rattle.batch_recipe.specs.declared.recipe.Recipe as document
use Rattle.batch_model.specs.{Plant.Master, Setups.master_of, Events.is_full}
use Rattle.batch_engine.{specs.Bindings.IsBoundAs, specs.View.EngineView, specs.View.plant_of, specs.View.setup, proofs.CreateAnswers.refused-unknown, proofs.CreateAnswers.refused-full, proofs.CreateAnswers.refused-binding, proofs.CreateAnswers.is-chosen, proofs.RecipeByName.find-at}
use Rattle.batch_engine.proofs.control.Control.choice.Goals as goal
use Rattle.batch_engine.proofs.control.Control.choice.Goals.{After-recipe_named, After-units_for}

-- the index of the recipe with a name
abbrev named : EngineView → Name → Option ℕ
named v name = position (λ (r : document.Recipe). same_name r.acts.procedure.name name) v.cleared.recipes

searched : (c : After-recipe_named) → named c.args.self.now c.args.name.now ≡ c.recipe_named.result
searched c =
    ap (position (λ (r : document.Recipe). same_name r.acts.procedure.name c.args.name.now)) (sym (c.recipes.ensures.value ∙ ap (λ (z : EngineView). z.cleared.recipes) c.self.view_is)) ∙ sym c.recipe_named.ensures

-- the recipe that stands there
listed : (v : EngineView) (name : Name) (k : ℕ) → named v name ≡ Some k → (r : document.Recipe) × (slice_get v.cleared.recipes k ≡ Some r)
listed v name k at =
    let f = find-at (master_of v.cleared.cell) (λ (m : Master). same_name m.name name) v.cleared.recipes k at in
    (f.0, f.1)

-- the recipe, and the units that take its roles
read : (c : After-units_for) → named c.args.self.now c.args.name.now ≡ Some c.in-Some.recipe → slice_get c.args.self.now.cleared.recipes c.in-Some.recipe ≡ Some c.index-recipes-recipe.result
read c at =
    let v : EngineView = c.args.self.now in
    let f = listed v c.args.name.now c.in-Some.recipe at in
    slice_get_read v.cleared.recipes (length v.cleared.recipes) c.in-Some.recipe c.index-recipes-recipe.result refl (slice_get_within v.cleared.recipes c.in-Some.recipe f.0 f.1)
    (c.index-recipes-recipe.is ∙ ap (λ xs. get_or xs c.in-Some.recipe c.index-recipes-recipe.result) (c.recipes-2.ensures.value ∙ ap (λ (z : EngineView). z.cleared.recipes) c.self.view_is))

bound : (c : After-units_for) → IsBoundAs c.args.self.now.cleared.cell c.index-recipes-recipe.result.roles.items c.args.pairs.now c.units_for.result
bound c =
    subst (λ (z : Cell). IsBoundAs z c.index-recipes-recipe.result.roles.items c.args.pairs.now c.units_for.result) (c.cell.ensures.value ∙ ap (λ (z : EngineView). z.cleared.cell) c.self.view_is)
    (subst (λ (rs : List Role). IsBoundAs c.cell.result.now rs c.args.pairs.now c.units_for.result) c.deref.ensures.value c.units_for.ensures)

pub returns-in_default : goal.returns-in_default
returns-in_default c =
    refused-unknown c.args.self.now c.args.name.now c.args.pairs.now c.requires (searched (goal.at.returns-in_default c).After-recipe_named ∙ c.in_default.is)

pub returns-then-is_full : goal.returns-then-is_full
returns-then-is_full c =
    let v : EngineView = c.args.self.now in
    let at : named v c.args.name.now ≡ Some c.in-Some.recipe = searched (goal.at.returns-then-is_full c).After-recipe_named ∙ c.in-Some.is in
    let f = listed v c.args.name.now c.in-Some.recipe at in
    refused-full v c.args.name.now c.args.pairs.now c.requires c.in-Some.recipe f.0 at f.1 (sym c.is_full.ensures ∙ c.if-is_full.true)

pub returns-in_default-units_for : goal.returns-in_default-units_for
returns-in_default-units_for c =
    let w = goal.at.returns-in_default-units_for c in
    let v : EngineView = c.args.self.now in
    let r : document.Recipe = c.index-recipes-recipe.result in
    let at : named v c.args.name.now ≡ Some c.in-Some.recipe = searched w.After-recipe_named ∙ c.in-Some.is in
    let free : is_full (setup v.cleared) (plant_of v) ≡ false = sym c.is_full.ensures ∙ c.if-is_full.false in
    refused-binding v c.args.name.now c.args.pairs.now c.requires c.in-Some.recipe r at (read w.After-units_for at) free
    (subst (IsBoundAs v.cleared.cell r.roles.items c.args.pairs.now) c.in_default-units_for.is (bound w.After-units_for))

pub returns : goal.returns
returns c =
    let w = goal.at.returns c in
    let v : EngineView = c.args.self.now in
    let r : document.Recipe = c.index-recipes-recipe.result in
    let at : named v c.args.name.now ≡ Some c.in-Some.recipe = searched w.After-recipe_named ∙ c.in-Some.is in
    let free : is_full (setup v.cleared) (plant_of v) ≡ false = sym c.is_full.ensures ∙ c.if-is_full.false in
    is-chosen v c.args.name.now c.args.pairs.now c.requires c.in-Some.recipe r at (read w.After-units_for at) free
    c.in-Some-units_for.units (subst (IsBoundAs v.cleared.cell r.roles.items c.args.pairs.now) c.in-Some-units_for.is (bound w.After-units_for))
