use Rattle.std.proofs.Common.{arith, ◌++◌, ◌∷◌, ◌&&◌, [], not, if◌then◌else◌, ap, sym, ◌∙◌}
use Rattle.std.specs.List.{list_any}
use Rattle.batch_warnings.{specs.Warnings.act_reports, specs.Warnings.is_compared, specs.declared.warning.RecipeWarning.TheVariants.UnreportedOutput, proofs.NumbersOfMatches.numbers_on, proofs.NumbersOfMatches.numbers_through}
use Rattle.batch_warnings.proofs.recipes.add_unreported.Goals as goal

pub loop-number-preserved : goal.loop-number-preserved
loop-number-preserved c =
    c.in_ok-warnings.ensures
    ∙ ap (λ all. all ++ (if c.lacks_report-is_told.result then UnreportedOutput c.loop-number.number ∷ [] else [])) c.loop-number.invariant
    ∙ rw c.lacks_report-is_told.ensures
    (sym (numbers_on (λ name. is_compared c.args.recipe.now.acts name && not (list_any (act_reports name) c.args.recipe.now.acts.phases.items)) UnreportedOutput c.args.warnings.items c.deref-output-items.result.now c.loop-number.number c.output-item.result c.loop-number-test.true c.output-item.is))

pub returns : goal.returns
returns c =
    numbers_through _ _ _ _ _ _ c.loop-number.number (omega (arith, c.loop-number-test.false)) c.deref-output-items.ensures.value c.loop-number.invariant
