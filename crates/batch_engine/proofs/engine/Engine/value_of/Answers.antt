use Rattle.std.proofs.Common.{◌∙◌, None, Some}
use Rattle.batch_recipe.specs.Conditions.{value_of}
use Rattle.batch_engine.proofs.BatchByNumber.{looked}
use Rattle.batch_engine.proofs.engine.Engine.value_of.Goals as goal

pub returns-in_err-find : goal.returns-in_err-find
returns-in_err-find c = c.from_residual.ensures ∙ looked c.args.batch None (λ d. value_of d.values c.args.name.now) c.self.view_is c.in_err-find.ensures

pub returns : goal.returns
returns c = c.value_of.ensures ∙ looked c.args.batch (Some c.in_ok-find.field-0.now) (λ d. value_of d.values c.args.name.now) c.self.view_is c.in_ok-find.ensures
