use Rattle.std.proofs.Common.{ℕ, Option, subst, sym}
use Rattle.batch_check.{specs.Joining.HasJoined, proofs.EdgesFromNeeds.HasJoined-known}
use Rattle.batch_check.proofs.joining.join_asked.Goals as goal

pub returns : goal.returns
returns c =
    let needs = c.args.asked.now.needs.items in
    let edges = c.args.edges.now in
    subst (λ (later : Option ℕ). HasJoined c.args.recipe c.args.node needs later edges edges) (sym c.in-Some.is)
    (HasJoined-known c.args.recipe c.args.node needs c.in-Some.number edges (λ i among. c.has_each.ensures c.if-has_each.true i (c.requires.needs i among) among))

pub join_each-requires-clause-needs : goal.join_each-requires-clause-needs
join_each-requires-clause-needs c = rw c.deref.ensures.value c.requires.needs
