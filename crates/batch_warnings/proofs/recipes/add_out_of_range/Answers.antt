use Rattle.std.proofs.Common.{arith, ◌++◌, ◌∷◌, [], not, if◌then◌else◌, ap, sym, ◌∙◌}
use Rattle.batch_recipe.specs.Formula.{is_in_range}
use Rattle.batch_warnings.{specs.declared.warning.RecipeWarning.TheVariants.ValueOutOfRange, proofs.NumbersOfMatches.numbers_on, proofs.NumbersOfMatches.numbers_through}
use Rattle.batch_warnings.proofs.recipes.add_out_of_range.Goals as goal

pub loop-number-preserved : goal.loop-number-preserved
loop-number-preserved c =
    c.in_ok-warnings.ensures
    ∙ ap (λ all. all ++ (if c.is_out_of_range-is_told.result then ValueOutOfRange c.args.table c.loop-number.number ∷ [] else [])) c.loop-number.invariant
    ∙ rw c.is_out_of_range-is_told.ensures
    (sym (numbers_on (λ q. not (is_in_range c.args.recipe.now.basis c.args.recipe.now.basis q)) (ValueOutOfRange c.args.table) c.args.warnings.items c.quantities_in-quantity-items.result.now c.loop-number.number c.quantity-item.result c.loop-number-test.true c.quantity-item.is))

pub returns : goal.returns
returns c =
    numbers_through _ _ _ _ _ _ c.loop-number.number (omega (arith, c.loop-number-test.false)) c.quantities_in-quantity-items.ensures c.loop-number.invariant
