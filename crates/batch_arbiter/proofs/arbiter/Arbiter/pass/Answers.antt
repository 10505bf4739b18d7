use Rattle.std.proofs.Common.{◌≡◌, ◌<◌, ◌-◌, ◌++◌, ◌∷◌, [], ℕ, length, ap, subst, ◌∙◌}
use Rattle.batch_arbiter.{specs.Linked.list_at, specs.Linked.with_list, specs.Linked.IsRemoved, proofs.SharesAndLines.seen-pass}
use Rattle.batch_arbiter.proofs.arbiter.Arbiter.pass.Goals as goal

pub returns-in-Some : goal.returns-in-Some
returns-in-Some c =
    let known : c.args.resource < length c.self.inside.capacities.items = rw (← c.self.view_is) at c.requires.known in
    let removed : IsRemoved c.self.inside.pool c.args.resource c.args.batch c.args.from c.in-Some.units c.remove.new.self
    = subst (λ (k : ℕ). IsRemoved c.self.inside.pool k c.args.batch c.args.from c.in-Some.units c.remove.new.self) c.from-index.ensures c.in-Some.ensures.some in
    let joined : c.push.new.self ≡ with_list c.remove.new.self c.args.resource (list_at c.remove.new.self c.args.resource ++ record { batch = c.args.batch; node = c.args.to; units = c.in-Some.units } ∷ []) (c.remove.new.self.room - 1)
    = c.push.ensures ∙ ap (λ (k : ℕ). with_list c.remove.new.self k (list_at c.remove.new.self k ++ record { batch = c.args.batch; node = c.args.to; units = c.in-Some.units } ∷ []) (c.remove.new.self.room - 1)) c.from-index.ensures in
    rw (← c.self.view_is)
    (seen-pass c.self.inside.capacities.items c.self.inside.held.items c.self.inside.pool c.remove.new.self c.push.new.self c.args.resource c.args.batch c.args.from c.args.to c.in-Some.units known c.self.invariant removed joined)
