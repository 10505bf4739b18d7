use Rattle.std.proofs.Common.{arith, ◌++◌, ◌∷◌, [], not, if◌then◌else◌, ap, sym, ◌∙◌}
use Rattle.batch_warnings.{specs.Warnings.is_named, specs.declared.warning.RecipeWarning.TheVariants.UnnamedAct, proofs.NumbersOfMatches.numbers_on, proofs.NumbersOfMatches.numbers_through}
use Rattle.batch_warnings.proofs.recipes.add_unnamed.Goals as goal

pub loop-number-preserved : goal.loop-number-preserved
loop-number-preserved c =
    c.in_ok-warnings.ensures
    ∙ ap (λ all. all ++ (if not c.contains-is_told.result then UnnamedAct c.args.table c.loop-number.number ∷ [] else [])) c.loop-number.invariant
    ∙ rw (c.contains-is_told.ensures ∙ c.in_ok-labels.ensures c.act-item.result.name)
    (sym (numbers_on (λ a. not (is_named c.args.acts.now c.args.table a)) (UnnamedAct c.args.table) c.args.warnings.items c.table-act-items.result.now c.loop-number.number c.act-item.result c.loop-number-test.true c.act-item.is))

pub returns : goal.returns
returns c =
    numbers_through _ _ _ _ _ _ c.loop-number.number (omega (arith, c.loop-number-test.false)) c.table-act-items.ensures c.loop-number.invariant
