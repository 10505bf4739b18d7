use Rattle.std.proofs.Common.{arith, ◌++◌, ◌∷◌, ◌&&◌, [], not, if◌then◌else◌, ap, sym, ◌∙◌}
use Rattle.std.specs.List.{list_any}
use Rattle.batch_warnings.{specs.Warnings.takes_value, specs.declared.warning.RecipeWarning.TheVariants.ScaledParameter, proofs.NumbersOfMatches.numbers_on, proofs.NumbersOfMatches.numbers_through}
use Rattle.batch_warnings.proofs.recipes.add_scaled_parameters.Goals as goal

pub loop-number-preserved : goal.loop-number-preserved
loop-number-preserved c =
    c.in_ok-warnings.ensures
    ∙ ap (λ all. all ++ (if c.scales_for_a_phase-is_told.result then ScaledParameter c.loop-number.number ∷ [] else [])) c.loop-number.invariant
    ∙ rw c.scales_for_a_phase-is_told.ensures
    (sym (numbers_on (λ q. not q.fixed && list_any (takes_value q.name) c.args.recipe.now.acts.phases.items) ScaledParameter c.args.warnings.items c.deref-parameter-items.result.now c.loop-number.number c.parameter-item.result c.loop-number-test.true c.parameter-item.is))

pub returns : goal.returns
returns c =
    numbers_through _ _ _ _ _ _ c.loop-number.number (omega (arith, c.loop-number-test.false)) c.deref-parameter-items.ensures.value c.loop-number.invariant
