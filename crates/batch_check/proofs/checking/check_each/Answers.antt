use Rattle.std.proofs.Common.{arith}
use Rattle.batch_model.specs.Setups.{master_of, setup_of}
use Rattle.batch_check.proofs.Verdicts.{recipe_at, sound_more}
use Rattle.batch_set.proofs.SetRecipes.{recipe_linked}
use Rattle.batch_check.proofs.checking.check_each.Goals as goal

pub index-own-requires : goal.index-own-requires
index-own-requires c = omega (arith, c.requires.linked.linked.count, c.loop-number-test.true)

pub first_broken-requires : goal.first_broken-requires
first_broken-requires c =
    recipe_linked c.args.cell.now c.args.recipes.now c.args.linked.now c.requires.linked c.loop-number.number c.index-recipes-number.result c.index-own.result.now
    c.loop-number-test.true c.index-recipes-number.is c.index-own.ensures

pub returns-in-Some-clause-fault : goal.returns-in-Some-clause-fault
returns-in-Some-clause-fault c =
    let recipes = c.args.recipes.now in
    let recipe = c.index-recipes-number.result in
    record {
      recipe = master_of c.args.cell.now recipe;
      found = recipe_at c.args.cell.now recipes c.loop-number.number recipe c.loop-number-test.true c.index-recipes-number.is;
      before = c.loop-number.invariant;
      first = rw c.in-Some.is at (c.in_ok-first_broken.ensures recipes);
    }

pub loop-number-preserved : goal.loop-number-preserved
loop-number-preserved c =
    sound_more c.args.cell.now (setup_of c.args.cell.now c.args.recipes.now) c.args.recipes.now c.loop-number.number c.index-recipes-number.result c.loop-number-test.true c.index-recipes-number.is
    c.loop-number.invariant (rw c.in-None.is at (c.in_ok-first_broken.ensures c.args.recipes.now))
