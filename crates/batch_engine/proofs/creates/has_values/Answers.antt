use Rattle.std.proofs.Common.{◌≡◌, refl, subst, sym}
use Rattle.std.specs.Prelude.{◌↔◌, IsTrue}
use Rattle.batch_recipe.specs.Conditions.{ValueList}
use Rattle.batch_model.specs.{Plant.scaled, Recipes.formula_of}
use Rattle.batch_engine.proofs.CreateAnswers.{values-if}
use Rattle.batch_engine.proofs.creates.has_values.Goals as goal

pub returns-in-Ok : goal.returns-in-Ok
returns-in-Ok c = (λ _. (_, c.in-Ok.ensures), λ _. refl)

pub returns : goal.returns
returns c =
    subst (λ b. IsTrue b ↔ ((vs : ValueList) × (formula_of c.args.recipe.now c.args.size ≡ scaled vs))) (sym c.is_want.ensures)
    (values-if c.args.recipe.now c.args.size c.in-Err.bad c.in-Err.ensures)
