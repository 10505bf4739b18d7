-- trusted: the control recipes of the machine that a recipe document stands for.
use Rattle.std.specs.Prelude.{ℕ, true, false, not, Some, None, find}
use Rattle.batch_recipe.specs.Formula.{is_size, is_in_range, quantities_of, batch_values}
use Rattle.batch_recipe.specs.Expanding.{Binding}
use Rattle.batch_recipe.specs.Procedure.{bound_tree}
use Rattle.batch_recipe.specs.declared.recipe.Recipe as document
use Rattle.batch_model.specs.Plant.{Formula, size_out_of_range, value_out_of_range, scaled, Recipe}

-- the first value out of its range is refused
abbrev pub values_for : document.Recipe → ℕ → Formula
values_for recipe size =
    elim (find (λ quantity. not (is_in_range recipe.basis size quantity)) (quantities_of recipe))
    [ None ↦ scaled (batch_values recipe size) | Some quantity ↦ value_out_of_range quantity.name ]

abbrev pub formula_of : document.Recipe → ℕ → Formula
formula_of recipe size = elim (is_size size) [ true ↦ values_for recipe size | false ↦ size_out_of_range ]

-- a recipe's name is that of its procedure; its unit procedures run on the units that take their roles
abbrev pub recipe_of : document.Recipe → Binding → Recipe
recipe_of recipe bound =
    record {
      name = recipe.acts.procedure.name;
      formula = formula_of recipe;
      outputs = recipe.outputs.items;
      procedure = bound_tree bound recipe.acts;
    }
