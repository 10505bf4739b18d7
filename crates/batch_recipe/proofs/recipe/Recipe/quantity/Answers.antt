use Rattle.std.proofs.Common.{◌≡◌, ◌+◌, ◌-◌, ◌++◌, length, length-append, get_or, slice_get, refl, ap, ◌∙◌, arith}
use Rattle.std.proofs.lemmas.Option.{slice_get_read}
use Rattle.batch_recipe.proofs.AppendedLists.{slice_get-left, slice_get-right}
use Rattle.batch_recipe.proofs.recipe.Recipe.quantity.Goals as goal

pub returns-then-number-inputs : goal.returns-then-number-inputs
returns-then-number-inputs c =
    let r = c.args.self.now in
    slice_get-left r.inputs.items r.parameters.items c.args.number c.index.result.now
    (slice_get_read r.inputs.items (length r.inputs.items) c.args.number c.index.result.now refl
    (omega (arith, c.from-number.ensures, c.len-inputs.ensures, r.inputs.ok.0, c.if-number-inputs.true)) (c.index.ensures ∙ ap (λ n. get_or r.inputs.items n c.index.result.now) c.from-number.ensures))

pub returns-else-number-inputs : goal.returns-else-number-inputs
returns-else-number-inputs c =
    let r = c.args.self.now in
    let k = c.from-number.result - c.len-inputs.result in
    let at : c.args.number ≡ length r.inputs.items + k = omega (arith, c.from-number.ensures, c.len-inputs.ensures, r.inputs.ok.0, c.if-number-inputs.false) in
    ap (slice_get (r.inputs.items ++ r.parameters.items)) at ∙ slice_get-right r.inputs.items r.parameters.items k
    ∙ slice_get_read r.parameters.items (length r.parameters.items) k c.index-else-number-inputs.result.now refl
    (omega (arith, at, c.requires, length-append r.inputs.items r.parameters.items)) c.index-else-number-inputs.ensures
