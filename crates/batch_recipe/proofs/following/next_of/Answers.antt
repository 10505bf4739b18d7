use Rattle.std.proofs.Common.{◌≡◌, Some, slice_get, true, false, refl, ap, arith}
use Rattle.batch_recipe.{specs.Expanding.unbound, specs.Outlines.form_of, proofs.Followers.as_many, proofs.Followers.read_at, proofs.FollowerSearch.IsUp-next, proofs.FollowerSearch.IsUp-none, proofs.FollowerSearch.IsUp-last, proofs.FollowerSearch.IsNext-branch, proofs.FollowerSearch.IsNext-outside, proofs.FollowerSearch.IsNext-top, proofs.FollowerSearch.next_within, proofs.FollowerSearch.parent_within, proofs.FollowerSearch.parent_earlier, proofs.FollowerSearch.ends_form, proofs.FollowerSearch.up_form}
use Rattle.batch_recipe.proofs.following.next_of.Goals as goal
use Rattle.batch_recipe.proofs.following.next_of.Goals.{After-index-entry, After-index-above}

known : (c : After-index-entry) → slice_get c.args.recipe.now.outline.entries.items c.loop-at.at ≡ Some c.index-entry.result.now
known c = read_at c.args.recipe.now unbound c.loop-at.at c.from.result c.index-entry.result.now c.loop-at.invariant.within c.from.ensures c.index-entry.ensures

known_there : (c : After-index-above) → slice_get c.args.recipe.now.outline.entries.items c.loop-at.at ≡ Some c.index-entry.result.now
known_there c = read_at c.args.recipe.now unbound c.loop-at.at c.from.result c.index-entry.result.now c.loop-at.invariant.within c.from.ensures c.index-entry.ensures

above_known : (c : After-index-above) → slice_get c.args.recipe.now.outline.entries.items c.index-entry.result.now.parent ≡ Some c.index-above.result.now
above_known c =
    read_at c.args.recipe.now unbound c.index-entry.result.now.parent c.from-in-loop-at.result c.index-above.result.now
    (parent_within c.args.recipe.now c.loop-at.at c.index-entry.result.now c.loop-at.invariant.within (known_there c) c.loop-at-test.true) c.from-in-loop-at.ensures c.index-above.ensures

pub index-entry-requires : goal.index-entry-requires
index-entry-requires c = omega (arith, c.from.ensures, as_many c.args.recipe.now unbound, c.loop-at.invariant.within)

pub index-above-requires : goal.index-above-requires
index-above-requires c =
    omega (
      arith,
      c.from-in-loop-at.ensures,
      as_many c.args.recipe.now unbound,
      parent_within c.args.recipe.now c.loop-at.at c.index-entry.result.now c.loop-at.invariant.within (known (goal.at.index-above-requires c).After-index-entry) c.loop-at-test.true,
    )

pub returns-in-Skip : goal.returns-in-Skip
returns-in-Skip c =
    let here = (goal.at.returns-in-Skip c).After-index-above in
    IsUp-none c.args.recipe.now c.args.node c.loop-at.at c.loop-at.invariant c.index-entry.result.now c.index-above.result.now (known_there here) (above_known here) c.loop-at-test.true
    (ends_form c.index-above.result.now.kind c.in-Skip.is)

pub is_in_procedure-requires : goal.is_in_procedure-requires
is_in_procedure-requires c =
    let here = (goal.at.is_in_procedure-requires c).After-index-above in
    next_within c.args.recipe.now c.args.node c.loop-at.at c.loop-at.invariant c.index-entry.result.now c.index-above.result.now (known_there here) (above_known here) c.loop-at-test.true
    (ap form_of c.in-Seq.is) c.if-entry-above.true

pub returns-then-is_in_procedure : goal.returns-then-is_in_procedure
returns-then-is_in_procedure c =
    let here = (goal.at.returns-then-is_in_procedure c).After-index-above in
    IsNext-branch c.args.recipe.now c.args.node c.loop-at.at c.loop-at.invariant c.index-entry.result.now c.index-above.result.now (known_there here) (above_known here) c.loop-at-test.true
    (ap form_of c.in-Seq.is) c.if-entry-above.true true c.if-is_in_procedure.ensures refl

pub returns-then-entry-above : goal.returns-then-entry-above
returns-then-entry-above c =
    let here = (goal.at.returns-then-entry-above c).After-index-above in
    IsNext-outside c.args.recipe.now c.args.node c.loop-at.at c.loop-at.invariant c.index-entry.result.now c.index-above.result.now (known_there here) (above_known here) c.loop-at-test.true
    (ap form_of c.in-Seq.is) c.if-entry-above.true false c.if-is_in_procedure.ensures refl

pub loop-at-smaller-else-entry-above : goal.loop-at-smaller-else-entry-above
loop-at-smaller-else-entry-above c =
    parent_earlier c.args.recipe.now c.loop-at.at c.index-entry.result.now c.loop-at.invariant.within (known (goal.at.loop-at-smaller-else-entry-above c).After-index-entry) c.loop-at-test.true

pub loop-at-preserved-else-entry-above : goal.loop-at-preserved-else-entry-above
loop-at-preserved-else-entry-above c =
    let here = (goal.at.loop-at-preserved-else-entry-above c).After-index-above in
    IsUp-last c.args.recipe.now c.args.node c.loop-at.at c.loop-at.invariant c.index-entry.result.now c.index-above.result.now (known_there here) (above_known here) c.loop-at-test.true
    (ap form_of c.in-Seq.is) (λ less. omega (arith, less, c.if-entry-above.false))

pub loop-at-smaller : goal.loop-at-smaller
loop-at-smaller c =
    parent_earlier c.args.recipe.now c.loop-at.at c.index-entry.result.now c.loop-at.invariant.within (known (goal.at.loop-at-smaller c).After-index-entry) c.loop-at-test.true

pub loop-at-preserved : goal.loop-at-preserved
loop-at-preserved c =
    let here = (goal.at.loop-at-preserved c).After-index-above in
    IsUp-next c.args.recipe.now c.args.node c.loop-at.at c.loop-at.invariant c.index-entry.result.now c.index-above.result.now (known_there here) (above_known here) c.loop-at-test.true
    (up_form c.index-above.result.now.kind c.in-Procedure.is)

pub returns : goal.returns
returns c = IsNext-top c.args.recipe.now c.args.node c.loop-at.at c.loop-at.invariant c.loop-at-test.false
