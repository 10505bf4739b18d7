use Rattle.std.proofs.Common.{arith, ◌++◌, ◌∷◌, [], not, if◌then◌else◌, ap, sym, ◌∙◌}
use Rattle.std.specs.List.{list_any}
use Rattle.batch_warnings.{specs.Warnings.takes_role, specs.declared.warning.RecipeWarning.TheVariants.UnusedRole, proofs.NumbersOfMatches.numbers_on, proofs.NumbersOfMatches.numbers_through}
use Rattle.batch_warnings.proofs.recipes.add_unused_roles.Goals as goal

pub loop-number-preserved : goal.loop-number-preserved
loop-number-preserved c =
    c.in_ok-warnings.ensures
    ∙ ap (λ all. all ++ (if not c.is_used-is_told.result then UnusedRole c.loop-number.number ∷ [] else [])) c.loop-number.invariant
    ∙ rw c.is_used-is_told.ensures
    (sym (numbers_on (λ role. not (list_any (takes_role role.name) c.args.recipe.now.acts.unit_procedures.items)) UnusedRole c.args.warnings.items c.deref-role-items.result.now c.loop-number.number c.role-item.result c.loop-number-test.true c.role-item.is))

pub returns : goal.returns
returns c =
    numbers_through _ _ _ _ _ _ c.loop-number.number (omega (arith, c.loop-number-test.false)) c.deref-role-items.ensures.value c.loop-number.invariant
