use Rattle.std.proofs.Common.{◌≡◌, ◌≢◌, ℕ, true, false, nat_eq, Some, slice_get, arith}
use Rattle.batch_recipe.{specs.Expanding.unbound, proofs.Followers.as_many, proofs.Followers.read_at, proofs.FollowerSearch.IsLevel-next, proofs.FollowerSearch.IsLevel-act, proofs.FollowerSearch.IsLevel-top, proofs.FollowerSearch.parent_within, proofs.FollowerSearch.parent_earlier, proofs.FollowerSearch.act_form, proofs.FollowerSearch.other_form}
use Rattle.batch_recipe.proofs.following.is_in_procedure.Goals as goal
use Rattle.batch_recipe.proofs.following.is_in_procedure.Goals.{After-index, After-index-in-loop-at}

known : (c : After-index) → slice_get c.args.recipe.now.outline.entries.items c.loop-at.at ≡ Some c.index.result.now
known c = read_at c.args.recipe.now unbound c.loop-at.at c.from.result c.index.result.now c.loop-at.invariant.within c.from.ensures c.index.ensures

known_there : (c : After-index-in-loop-at) → slice_get c.args.recipe.now.outline.entries.items c.loop-at.at ≡ Some c.index.result.now
known_there c = read_at c.args.recipe.now unbound c.loop-at.at c.from.result c.index.result.now c.loop-at.invariant.within c.from.ensures c.index.ensures

above_known : (c : After-index-in-loop-at) → slice_get c.args.recipe.now.outline.entries.items c.index.result.now.parent ≡ Some c.index-in-loop-at.result.now
above_known c =
    read_at c.args.recipe.now unbound c.index.result.now.parent c.from-in-loop-at.result c.index-in-loop-at.result.now
    (parent_within c.args.recipe.now c.loop-at.at c.index.result.now c.loop-at.invariant.within (known_there c) c.loop-at-test.true) c.from-in-loop-at.ensures c.index-in-loop-at.ensures

is_zero : (n : ℕ) → nat_eq n 0 ≡ true → n ≡ 0
is_zero n e = grind arith

not_zero : (n : ℕ) → nat_eq n 0 ≡ false → n ≢ 0
not_zero n e = grind arith

pub index-requires : goal.index-requires
index-requires c = omega (arith, c.from.ensures, as_many c.args.recipe.now unbound, c.loop-at.invariant.within)

pub index-requires-in-loop-at : goal.index-requires-in-loop-at
index-requires-in-loop-at c =
    omega (
      arith,
      c.from-in-loop-at.ensures,
      as_many c.args.recipe.now unbound,
      parent_within c.args.recipe.now c.loop-at.at c.index.result.now c.loop-at.invariant.within (known (goal.at.index-requires-in-loop-at c).After-index) c.loop-at-test.true,
    )

pub returns-in-Procedure : goal.returns-in-Procedure
returns-in-Procedure c =
    let here = (goal.at.returns-in-Procedure c).After-index-in-loop-at in
    IsLevel-act c.args.recipe.now c.args.node c.loop-at.at c.loop-at.invariant c.index.result.now c.index-in-loop-at.result.now (known_there here) (above_known here) c.loop-at-test.true
    (act_form c.index-in-loop-at.result.now.kind c.in-Procedure.is) _ (is_zero c.index.result.now.parent) (not_zero c.index.result.now.parent)

pub loop-at-smaller : goal.loop-at-smaller
loop-at-smaller c = parent_earlier c.args.recipe.now c.loop-at.at c.index.result.now c.loop-at.invariant.within (known (goal.at.loop-at-smaller c).After-index) c.loop-at-test.true

pub loop-at-preserved : goal.loop-at-preserved
loop-at-preserved c =
    let here = (goal.at.loop-at-preserved c).After-index-in-loop-at in
    IsLevel-next c.args.recipe.now c.args.node c.loop-at.at c.loop-at.invariant c.index.result.now c.index-in-loop-at.result.now (known_there here) (above_known here) c.loop-at-test.true
    (other_form c.index-in-loop-at.result.now.kind c.in-Skip.is)

pub returns : goal.returns
returns c = IsLevel-top c.args.recipe.now c.args.node c.loop-at.at c.loop-at.invariant c.loop-at-test.false
