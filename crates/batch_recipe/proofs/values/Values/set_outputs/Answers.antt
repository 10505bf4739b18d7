use Rattle.std.proofs.Common.{◌≡◌, ℕ, Some, length, refl, ◌∙◌}
use Rattle.std.{specs.Prelude.slice_get, proofs.lemmas.Option.slice_get_read}
use Rattle.batch_recipe.{specs.Conditions.Name, proofs.ValueUpdates.outputs-next}
use Rattle.batch_recipe.proofs.values.Values.set_outputs.Goals as goal

pub loop-output-preserved : goal.loop-output-preserved
loop-output-preserved c =
    let o : Name × ℕ = c.output-item.result in
    let at : slice_get c.args.outputs.now c.loop-output.output-index ≡ Some o =
    slice_get_read c.args.outputs.now (length c.args.outputs.now) c.loop-output.output-index o refl c.loop-output-test.true c.output-item.is in
    c.set.ensures ∙ outputs-next c.args.outputs.now c.args.self.now c.loop-output.self c.loop-output.output-index o c.loop-output.invariant at
