use Rattle.std.proofs.Common.{◌≡◌, ◌<◌, Some, length, get_or, refl, sym, ap, ◌∙◌, subst, arith}
use Rattle.std.proofs.lemmas.{Grind.common_steps, Option.slice_get_read}
use Rattle.batch_recipe.{specs.Conditions.ValueList, proofs.DistinctValues.value-there, proofs.ValueUpdates.same-names}
use Rattle.batch_recipe.proofs.values.Values.value_from.Goals as goal

pub returns-in-Some : goal.returns-in-Some
returns-in-Some c =
    let x = c.in-Some.entry.now in
    let es = c.self.inside.entries.items in
    let at = c.args.position in
    let below : at < length c.deref.result.now = grind (arith, common_steps, c.in-Some.ensures.lookup) in
    let here : x ≡ get_or es at x = subst (λ (vs : ValueList). x ≡ get_or vs at x) c.deref.ensures.value c.in-Some.ensures.lookup.1 in
    let there = slice_get_read es (length es) at x refl (subst (λ (vs : ValueList). at < length vs) c.deref.ensures.value below) here in
    let same : x.0 ≡ c.args.name.now = same-names x.0 c.args.name.now (sym c.eq.ensures ∙ c.if-eq.true) in
    rw (← c.self.view_is) (sym (value-there es c.self.invariant at c.args.name.now x.1 (there ∙ ap (λ name. Some (name, x.1)) same)))
