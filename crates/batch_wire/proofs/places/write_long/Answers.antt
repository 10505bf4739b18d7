use Rattle.std.proofs.Common.{◌≡◌, ◌++◌, codes, decimal, sym, ◌∙◌, append_assoc}
use Rattle.std.proofs.lemmas.Result.{err_from_is_err_and}
use Rattle.batch_recipe.specs.Texts.{place_text}
use Rattle.batch_engine.specs.Names.{recipe_place_at}
use Rattle.batch_wire.proofs.WrittenTexts.{longer_text, then_last}
use Rattle.batch_wire.proofs.places.write_long.Goals as goal

pub returns-in_err-write_pieces : goal.returns-in_err-write_pieces
returns-in_err-write_pieces g c =
    let p = err_from_is_err_and c.from_residual.result c.from_residual.ensures.1 in
    let number : decimal c.args.site.batch ≡ c.as_bytes.result.now = sym (c.as_bytes.ensures.value ∙ c.format.ensures.text) in
    let place = place_text (recipe_place_at c.args.cleared.now c.args.site.recipe c.args.site.node) in
    rw (p.1, number, sym (append_assoc c.as_bytes.result.now (codes " ") place))
    (longer_text _ _ (c.as_bytes.result.now ++ codes " ") place c.in_err-write_pieces.ensures)

pub returns : goal.returns
returns g c =
    let number : decimal c.args.site.batch ≡ c.as_bytes.result.now = sym (c.as_bytes.ensures.value ∙ c.format.ensures.text) in
    let place = place_text (recipe_place_at c.args.cleared.now c.args.site.recipe c.args.site.node) in
    rw (number, sym (append_assoc c.as_bytes.result.now (codes " ") place))
    (then_last _ _ _ _ (c.as_bytes.result.now ++ codes " ") place c.in_ok-write_pieces.ensures c.write_node_place.ensures)
