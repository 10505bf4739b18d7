use Rattle.std.proofs.Common.{List}
use Rattle.std.specs.Option.{option_copied}
use Rattle.batch_recipe.specs.declared.recipe.Recipe as document
use Rattle.batch_model.specs.Setups.{master_of, setup_of}
use Rattle.batch_verify.{specs.Refusals.ranking_in, specs.Trials.rank_or_0, specs.Trials.roles_raised, proofs.LeastVerdict.IsLeast, proofs.Trials.Both, proofs.Trials.ByNumber}
use Rattle.batch_verify.proofs.walk.first_broken.Given as goal

abbrev pub invariant-loop-number : goal.invariant-loop-number
invariant-loop-number l =
    (recipes : List document.Recipe) → IsLeast (setup_of l.cell recipes) (ranking_in l.cell (option_copied l.ranks)) (master_of l.cell l.recipe) (ByNumber l.cell recipes l.recipe l.number) l.found

abbrev pub invariant-loop-role : goal.invariant-loop-role
invariant-loop-role l =
    (recipes : List document.Recipe)
    → IsLeast (setup_of l.cell recipes) (ranking_in l.cell (option_copied l.ranks)) (master_of l.cell l.recipe)
    (Both l.cell recipes l.recipe (roles_raised (option_copied l.ranks) l.recipe.roles.items) (rank_or_0 l.cell (option_copied l.ranks)) l.role-index) l.found
