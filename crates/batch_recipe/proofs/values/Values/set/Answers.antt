use Rattle.std.proofs.Common.{◌≡◌, ℕ, Some, slice_get, refl, sym, ap, ◌∙◌, subst}
use Rattle.batch_recipe.{specs.Conditions.ValueList, specs.WellFormed.are_distinct, proofs.DistinctValues.none-set, proofs.DistinctValues.one-set, proofs.DistinctValues.names-set, proofs.DistinctValues.read-there}
use Rattle.batch_recipe.proofs.values.Values.set.Goals as goal

at : (c : goal.After-self-1) → (n : ℕ) × (slice_get c.self.inside.entries.items c.in-Some.position ≡ Some (c.args.name.now, n))
at c = (c.in-Some.ensures.some.0, subst (λ (vs : ValueList). slice_get vs c.in-Some.position ≡ Some (c.args.name.now, c.in-Some.ensures.some.0)) c.deref.ensures.value c.in-Some.ensures.some.1)

same : (c : goal.After-self-1) → c.index_mut.result.now.0 ≡ c.args.name.now
same c = read-there c.self.inside.entries.items c.in-Some.position c.args.name.now (at c).0 (at c).1 c.index_mut.result.now c.index_mut.ensures.value

pub invariant_of-self : goal.invariant_of-self
invariant_of-self c = rw (same c) (ap are_distinct (names-set c.self.inside.entries.items c.in-Some.position c.args.name.now c.args.value (at c).0 (at c).1) ∙ c.self.invariant)

pub returns-in-Some : goal.returns-in-Some
returns-in-Some c =
    rw (same c, ← c.self.view_is) (sym (one-set c.self.inside.entries.items c.self.invariant c.in-Some.position c.args.name.now c.args.value (at c).0 (at c).1))

pub returns-in_default : goal.returns-in_default
returns-in_default c = sym (none-set c.args.self.now c.args.name.now c.args.value (rw (c.deref.ensures.value, c.self.view_is) at (c.in_default.ensures.none refl)))
