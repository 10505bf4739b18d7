use Rattle.std.proofs.Common.{◌<◌, length, sym, ap, ◌∙◌, arith}
use Rattle.batch_recipe.{specs.Expanding.unbound, specs.Outlines.a_par, specs.Outlines.form_of, specs.Procedure.procedure_nodes, proofs.Followers.as_many, proofs.Followers.read_at, proofs.Followers.formed, proofs.Followers.found_act, proofs.Followers.found_other_act, proofs.Followers.found_bare, proofs.Followers.is_bare, proofs.FollowerSearch.IsLookingFrom-first, proofs.FollowerSearch.IsLookingFrom-more, proofs.FollowerSearch.IsFound-branch, proofs.FollowerSearch.IsFound-none, proofs.FollowerSearch.IsFound-in_loop, proofs.FollowerSearch.IsFound-in_seq, proofs.FollowerSearch.IsFound-empty_seq, proofs.FollowerSearch.loop_within, proofs.FollowerSearch.end_within, proofs.FollowerSearch.form_alike, proofs.FollowerSearch.bare_form}
use Rattle.batch_recipe.proofs.following.+down.Goals as goal

pub first_named-index-entry-requires : goal.first_named-index-entry-requires
first_named-index-entry-requires t c = omega (arith, c.from.ensures, as_many c.args.recipe.now unbound, c.requires)

pub first_named-first_named-requires : goal.first_named-first_named-requires
first_named-first_named-requires t c =
    let known = read_at c.args.recipe.now unbound c.args.node c.from.result c.index-entry.result.now c.requires c.from.ensures c.index-entry.ensures in
    let below = loop_within c.args.recipe.now c.args.node c.index-entry.result.now c.requires known (ap form_of c.in-Loop.is) in
    (omega (arith, below), below)

pub first_named-first_named-requires-then-node-entry : goal.first_named-first_named-requires-then-node-entry
first_named-first_named-requires-then-node-entry t c =
    let known = read_at c.args.recipe.now unbound c.args.node c.from.result c.index-entry.result.now c.requires c.from.ensures c.index-entry.ensures in
    let close = end_within c.args.recipe.now c.args.node c.index-entry.result.now c.requires known in
    (omega (arith, close.1, c.if-node-entry.true), omega (arith, close.1, c.if-node-entry.true))

pub first_named-first_of_branches-requires : goal.first_named-first_of_branches-requires
first_named-first_of_branches-requires t c =
    let known = read_at c.args.recipe.now unbound c.args.node c.from.result c.index-entry.result.now c.requires c.from.ensures c.index-entry.ensures in
    (omega (arith, c.requires), (c.requires, form_alike c.args.recipe.now c.args.node c.index-entry.result.now a_par known (ap form_of c.in-Par.is)))

pub first_named-returns-then-is_named : goal.first_named-returns-then-is_named
first_named-returns-then-is_named t c = λ bound x is.
    found_act c.args.recipe.now bound c.args.node x c.in-Some.act.now c.args.name.now is (c.in-Some.ensures.act c.requires) (sym c.if-is_named.ensures)

pub first_named-returns-else-is_named : goal.first_named-returns-else-is_named
first_named-returns-else-is_named t c = λ bound x is.
    found_other_act c.args.recipe.now bound c.args.node x c.in-Some.act.now c.args.name.now is (c.in-Some.ensures.act c.requires) (sym c.if-is_named.ensures)

pub first_named-returns-in-Procedure : goal.first_named-returns-in-Procedure
first_named-returns-in-Procedure t c = λ bound x is.
    let known = read_at c.args.recipe.now unbound c.args.node c.from.result c.index-entry.result.now c.requires c.from.ensures c.index-entry.ensures in
    found_bare c.args.recipe.now bound c.args.node x c.args.name.now is (c.in-None.ensures.act c.requires)
    (ap is_bare (sym (formed c.args.recipe.now bound c.args.node x c.index-entry.result.now is known)) ∙ bare_form c.index-entry.result.now.kind c.in-Procedure.is)

pub first_named-returns-in-Loop : goal.first_named-returns-in-Loop
first_named-returns-in-Loop t c =
    let known = read_at c.args.recipe.now unbound c.args.node c.from.result c.index-entry.result.now c.requires c.from.ensures c.index-entry.ensures in
    IsFound-in_loop c.args.recipe.now c.args.node c.index-entry.result.now c.args.name.now _ known (ap form_of c.in-Loop.is) c.first_named.ensures

pub first_named-returns-then-node-entry : goal.first_named-returns-then-node-entry
first_named-returns-then-node-entry t c =
    let known = read_at c.args.recipe.now unbound c.args.node c.from.result c.index-entry.result.now c.requires c.from.ensures c.index-entry.ensures in
    IsFound-in_seq c.args.recipe.now c.args.node c.index-entry.result.now c.args.name.now _ known (ap form_of c.in-Seq.is) c.if-node-entry.true c.first_named-then-node-entry.ensures

pub first_named-returns-else-node-entry : goal.first_named-returns-else-node-entry
first_named-returns-else-node-entry t c =
    let known = read_at c.args.recipe.now unbound c.args.node c.from.result c.index-entry.result.now c.requires c.from.ensures c.index-entry.ensures in
    IsFound-empty_seq c.args.recipe.now c.args.node c.index-entry.result.now c.args.name.now known (ap form_of c.in-Seq.is) (λ less. omega (arith, less, c.if-node-entry.false))

pub first_of_branches-index-requires : goal.first_of_branches-index-requires
first_of_branches-index-requires t c = omega (arith, c.from.ensures, as_many c.args.recipe.now unbound, c.requires.within)

pub first_of_branches-loop-at-init : goal.first_of_branches-loop-at-init
first_of_branches-loop-at-init t c =
    let known = read_at c.args.recipe.now unbound c.args.node c.from.result c.index.result.now c.requires.within c.from.ensures c.index.ensures in
    IsLookingFrom-first c.args.recipe.now c.args.node c.index.result.now c.args.name.now known c.requires.par

pub first_of_branches-first_named-requires : goal.first_of_branches-first_named-requires
first_of_branches-first_named-requires t c =
    let known = read_at c.args.recipe.now unbound c.args.node c.from.result c.index.result.now c.requires.within c.from.ensures c.index.ensures in
    let close = end_within c.args.recipe.now c.args.node c.index.result.now c.requires.within known in
    (omega (arith, close.1, c.loop-at-test.true, c.loop-at.invariant.later, c.requires.within), omega (arith, close.1, c.loop-at-test.true))

pub first_of_branches-returns-in-Some : goal.first_of_branches-returns-in-Some
first_of_branches-returns-in-Some t c =
    IsFound-branch c.args.recipe.now c.args.node c.args.name.now c.index.result.now.end c.loop-at.at c.in-Some.found c.loop-at.invariant c.loop-at-test.true c.in-Some.ensures

pub first_of_branches-index-requires-in-None : goal.first_of_branches-index-requires-in-None
first_of_branches-index-requires-in-None t c =
    let known = read_at c.args.recipe.now unbound c.args.node c.from.result c.index.result.now c.requires.within c.from.ensures c.index.ensures in
    let close = end_within c.args.recipe.now c.args.node c.index.result.now c.requires.within known in
    omega (arith, close.1, c.loop-at-test.true, c.from-in-None.ensures, as_many c.args.recipe.now unbound)

pub first_of_branches-loop-at-smaller : goal.first_of_branches-loop-at-smaller
first_of_branches-loop-at-smaller t c =
    let known = read_at c.args.recipe.now unbound c.args.node c.from.result c.index.result.now c.requires.within c.from.ensures c.index.ensures in
    let close = end_within c.args.recipe.now c.args.node c.index.result.now c.requires.within known in
    let in' : c.loop-at.at < length (procedure_nodes c.args.recipe.now.acts) = omega (arith, close.1, c.loop-at-test.true) in
    let there = read_at c.args.recipe.now unbound c.loop-at.at c.from-in-None.result c.index-in-None.result.now in' c.from-in-None.ensures c.index-in-None.ensures in
    omega (arith, c.loop-at-test.true, (end_within c.args.recipe.now c.loop-at.at c.index-in-None.result.now in' there).0)

pub first_of_branches-loop-at-preserved : goal.first_of_branches-loop-at-preserved
first_of_branches-loop-at-preserved t c =
    let known = read_at c.args.recipe.now unbound c.args.node c.from.result c.index.result.now c.requires.within c.from.ensures c.index.ensures in
    let close = end_within c.args.recipe.now c.args.node c.index.result.now c.requires.within known in
    let in' : c.loop-at.at < length (procedure_nodes c.args.recipe.now.acts) = omega (arith, close.1, c.loop-at-test.true) in
    let there = read_at c.args.recipe.now unbound c.loop-at.at c.from-in-None.result c.index-in-None.result.now in' c.from-in-None.ensures c.index-in-None.ensures in
    IsLookingFrom-more c.args.recipe.now c.args.node c.args.name.now c.index.result.now.end c.loop-at.at c.loop-at.invariant c.loop-at-test.true c.index-in-None.result.now there in' c.in-None.ensures

pub first_of_branches-returns : goal.first_of_branches-returns
first_of_branches-returns t c =
    IsFound-none c.args.recipe.now c.args.node c.args.name.now c.index.result.now.end c.loop-at.at c.loop-at.invariant (λ less. omega (arith, less, c.loop-at-test.false))
