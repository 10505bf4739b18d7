use Rattle.std.proofs.Common.{◌≡◌, ◌<◌, ◌-◌, Some, length, refl, sym, ap, ◌∙◌, arith}
use Rattle.std.proofs.lemmas.Option.{slice_get_read}
use Rattle.batch_recipe.proofs.ValueUpdates.{same-names}
use Rattle.batch_recipe.proofs.values.position_from_end.Goals as goal

pub returns-then-eq-clause-some : goal.returns-then-eq-clause-some
returns-then-eq-clause-some c =
    let es = c.args.entries.now in
    let x = c.index-entries-position.result in
    let within : c.loop-position.position - 1 < length es = omega (arith, c.loop-position-test.true, c.loop-position.auto.position) in
    let same : x.0 ≡ c.args.name.now = ap (λ v. v.0) c.index-entries-position.is ∙ same-names _ _ (sym c.eq.ensures ∙ c.if-eq.true) in
    (x.1, slice_get_read es (length es) (c.loop-position.position - 1) x refl within c.index-entries-position.is ∙ ap (λ name. Some (name, x.1)) same)
