use Rattle.std.proofs.Common.{sym, subst, arith}
use Rattle.batch_recipe.{specs.Expanding.unbound, specs.Outlines.IsOutline, proofs.OutlineLinks.as_many_entries, proofs.EntryShapes.is_outline}
use Rattle.batch_recipe.proofs.recipe.Recipe.new.Goals as goal

pub invariant_of-result-clause-small : goal.invariant_of-result-clause-small
invariant_of-result-clause-small c =
    let o = c.in_ok-outline.outline in
    let is : IsOutline c.args.parts.acts o.entries.items = subst (λ es. IsOutline c.args.parts.acts es) (sym c.in_ok-outline.ensures.ok) (is_outline c.args.parts.acts) in
    omega (arith, o.few, as_many_entries c.args.parts.acts o.entries.items is unbound)
