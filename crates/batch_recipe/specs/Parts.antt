-- surface: a recipe that was made of its parts.
use Rattle.std.specs.Prelude.{◌≡◌}
use Rattle.batch_recipe.specs.declared.recipe.Recipe.{Recipe}
use Rattle.batch_recipe.specs.declared.recipe_parts.RecipeParts.{RecipeParts}

pub record IsMadeOf (r : Recipe) (parts : RecipeParts) : Type 0 where
  pub header : r.header ≡ parts.header
  pub basis : r.basis ≡ parts.basis
  pub inputs : r.inputs ≡ parts.inputs
  pub parameters : r.parameters ≡ parts.parameters
  pub outputs : r.outputs ≡ parts.outputs
  pub roles : r.roles ≡ parts.roles
  pub acts : r.acts ≡ parts.acts
