use Rattle.std.proofs.Common.{◌≡◌, ◌<◌, ◌≤◌, ℕ, List, [], Option, length, get_or, ap, refl, sym, ◌∙◌, unwrap_or, option_map}
use Rattle.std.proofs.lemmas.Option.{slice_get_read, slice_get_past}
use Rattle.batch_recipe.specs.declared.recipe.Recipe.{Recipe}
use Rattle.batch_messages.specs.CircleSentence.{recipe_name}
use Rattle.batch_messages.proofs.names.recipe_name.Goals as goal

named : (recipes : List Recipe) (i : ℕ) (r : Recipe) → i < length recipes → r ≡ get_or recipes i r → recipe_name recipes i ≡ r.acts.procedure.name
named recipes i r within read =
    ap (λ (o : Option Recipe). unwrap_or (option_map (λ (r : Recipe). r.acts.procedure.name) o) []) (slice_get_read recipes (length recipes) i r refl within read)

unnamed : (recipes : List Recipe) (i : ℕ) → length recipes ≤ i → recipe_name recipes i ≡ []
unnamed recipes i past =
    ap (λ (o : Option Recipe). unwrap_or (option_map (λ (r : Recipe). r.acts.procedure.name) o) []) (slice_get_past recipes i past)

pub returns-in-Some : goal.returns-in-Some
returns-in-Some c =
    let found = c.in-Some.ensures.lookup in
    rw (← c.from.ensures) (c.text.ensures.value ∙ sym (named c.args.recipes.now c.from.result c.in-Some.recipe.now found.3.0 found.1))

pub returns-in-None : goal.returns-in-None
returns-in-None c = rw (← c.from.ensures) (sym (unnamed c.args.recipes.now c.from.result c.in-None.ensures.lookup.3))
