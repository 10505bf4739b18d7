use Rattle.std.proofs.Common.{◌≡◌, ◌<◌, length, Some, None, subst, sym, ap, ◌∙◌, arith}
use Rattle.batch_check.proofs.{Raises.no_edge, Walks.Walks-first, Walks.Walks-more, Walks.Walks-caused, Walks.Walks-room, Walks.IsCircle-take}
use Rattle.batch_check.proofs.circle.circle_through.Goals as goal
use Rattle.batch_check.proofs.circle.circle_through.Goals.{In_default}

pub loop-end-init : goal.loop-end-init
loop-end-init c =
    rw c.in_ok-walk.ensures.items
    (Walks-first c.args.edges.now c.args.ranks.now c.args.causes.now c.requires.within c.requires.progress c.args.edge c.requires.overruns)

pub returns-in-Some : goal.returns-in-Some
returns-in-Some c =
    let found = c.in-Some.ensures.found in
    let below : c.in-Some.end < length c.loop-end.walk.items = subst (λ n. c.in-Some.end < n) (ap length c.deref.ensures.value) found.0 in
    rw c.truncate.ensures.items
    (IsCircle-take c.args.edges.now c.args.ranks.now c.args.causes.now c.requires.within c.requires.progress c.loop-end.walk.items c.loop-end.at c.in-Some.end
    c.loop-end.invariant below (rw c.deref.ensures.value at (found.1 no_edge)))

pub loop-end-preserved : goal.loop-end-preserved
loop-end-preserved c =
    rw c.in_ok-insert-in-Some-causes.ensures.items
    (Walks-more c.args.edges.now c.args.ranks.now c.args.causes.now c.requires.within c.requires.progress c.loop-end.walk.items c.loop-end.at
    c.in-Some-causes.cause c.loop-end.invariant (rw c.deref.ensures.value at c.in_default.ensures.absent) (rw c.from.ensures at c.in-Some-causes.is))

pub loop-end-smaller : goal.loop-end-smaller
loop-end-smaller c =
    let room = Walks-room c.args.edges.now c.args.ranks.now c.args.causes.now c.requires.within c.requires.progress c.loop-end.walk.items c.loop-end.at
    c.loop-end.invariant (rw c.deref.ensures.value at c.in_default.ensures.absent) in
    rw c.in_ok-insert-in-Some-causes.ensures.items (omega arith)

pub unreachable-requires : goal.unreachable-requires
unreachable-requires c =
    let caused = Walks-caused c.args.edges.now c.args.ranks.now c.args.causes.now c.requires.within c.requires.progress c.loop-end.walk.items c.loop-end.at
    c.loop-end.invariant (rw c.deref.ensures.value at c.in_default.ensures.absent) in
    let stored : None ≡ Some caused.edge = sym (rw c.from.ensures at c.in-None.is) ∙ caused.stored in
    cc
