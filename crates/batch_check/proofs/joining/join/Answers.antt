use Rattle.std.proofs.Common.{◌∷◌, [], Option, OnOk, IsTrue, ℕ, Some, sym, subst}
use Rattle.batch_check.{specs.Edges.has_pair, specs.Joining.HasJoined, proofs.EdgesFromNeeds.HasJoined-pair}
use Rattle.std.proofs.lemmas.Result.{IfOk-weaker}
use Rattle.batch_check.proofs.joining.join.Goals as goal

pub returns-in-Some-Some : goal.returns-in-Some-Some
returns-in-Some-Some c =
    let earlier = c.in-Some-Some.earlier in
    let later = c.in-Some-Some.later in
    let old = c.args.edges.now in
    let new = c.add.new.self in
    subst (λ (o : Option ℕ). OnOk c.add.result (HasJoined c.args.recipe c.args.node (o ∷ []) c.args.later old new)) (sym c.in-Some-Some.is-0)
    (subst (λ (o : Option ℕ). OnOk c.add.result (HasJoined c.args.recipe c.args.node (Some earlier ∷ []) o old new)) (sym c.in-Some-Some.is-1)
    (IfOk-weaker c.add.result (λ _. IsTrue (has_pair new.edges.items earlier later)) (λ _. HasJoined c.args.recipe c.args.node (Some earlier ∷ []) (Some later) old new)
    (λ done added. HasJoined-pair c.args.recipe c.args.node earlier later old new (record { same_count = c.add.ensures.count; kept = c.add.ensures.kept; stays = c.add.ensures.stays; fresh = c.add.ensures.fresh }) added c.add.ensures.only)
    c.add.ensures.added))
