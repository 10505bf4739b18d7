use Rattle.std.proofs.Common.{◌≡◌, Some, length, map, refl, ap, ◌∙◌}
use Rattle.std.{specs.Prelude.slice_get, specs.Prelude.option_map, proofs.lemmas.Option.slice_get_read, proofs.lemmas.Option.slice_get-map}
use Rattle.batch_recipe.{specs.Conditions.Name, specs.Conditions.ValueList, proofs.ValueUpdates.outputs-next, proofs.ValueUpdates.zero_of}
use Rattle.batch_recipe.proofs.values.Values.clear_outputs.Goals as goal

pub loop-name-preserved : goal.loop-name-preserved
loop-name-preserved c =
    let name : Name = c.name-item.result in
    let zeros : ValueList = map zero_of c.args.names.now in
    let here : slice_get c.args.names.now c.loop-name.name-index ≡ Some name =
    slice_get_read c.args.names.now (length c.args.names.now) c.loop-name.name-index name refl c.loop-name-test.true c.name-item.is in
    let at : slice_get zeros c.loop-name.name-index ≡ Some (zero_of name) = slice_get-map zero_of c.args.names.now c.loop-name.name-index ∙ ap (option_map zero_of) here in
    c.set.ensures ∙ outputs-next zeros c.args.self.now c.loop-name.self c.loop-name.name-index (zero_of name) c.loop-name.invariant at
