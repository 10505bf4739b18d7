use Rattle.std.proofs.Common.{◌≡◌, ◌++◌, List, ℕ, codes, append_assoc, sym, ◌∙◌}
use Rattle.std.proofs.{KnownBytes.Appends-trans, lemmas.Result.err_from_is_err_and}
use Rattle.batch_recipe.specs.Texts.{place_text}
use Rattle.batch_engine.specs.Names.{need_of, recipe_place_at, resource_name}
use Rattle.batch_wire.{specs.Pieces.told_text, specs.RecordText.need_text, proofs.WrittenPairs.line_of_pass, proofs.WrittenTexts.longer_text, proofs.WrittenTexts.then_beginning, proofs.WrittenTexts.then_last}
use Rattle.batch_wire.proofs.record_line.write_pass.Goals as goal

abbrev front_of : List ℕ → List ℕ
front_of told = codes "pass " ++ (told ++ codes " ")

abbrev last_of : List ℕ → List ℕ
last_of need = codes " " ++ (need ++ codes "\n")

pub returns-in_err-write_apart : goal.returns-in_err-write_apart
returns-in_err-write_apart g c =
    let p = err_from_is_err_and c.from_residual.result c.from_residual.ensures.1 in
    let a = c.args in
    let told = told_text a.place.now in
    let to = place_text (recipe_place_at a.cleared.now a.recipe a.to) in
    let need = need_text (need_of a.cleared.now a.resource a.units) in
    rw (p.1, line_of_pass told to need) (longer_text _ _ (front_of told) (to ++ last_of need) c.in_err-write_apart.ensures)

pub returns-in_err-write_node_place : goal.returns-in_err-write_node_place
returns-in_err-write_node_place g c =
    let p = err_from_is_err_and c.from_residual-in_err-write_node_place.result c.from_residual-in_err-write_node_place.ensures.1 in
    let a = c.args in
    let told = told_text a.place.now in
    let to = place_text (recipe_place_at a.cleared.now a.recipe a.to) in
    let need = need_text (need_of a.cleared.now a.resource a.units) in
    rw (p.1, line_of_pass told to need) (then_beginning _ _ _ (front_of told) to (last_of need) c.in_ok-write_apart.ensures c.in_err-write_node_place.ensures)

pub returns : goal.returns
returns g c =
    let a = c.args in
    let told = told_text a.place.now in
    let to = place_text (recipe_place_at a.cleared.now a.recipe a.to) in
    let name = c.resource_name.result.now in
    let of_name : resource_name a.cleared.now a.resource ≡ name = sym c.resource_name.ensures in
    let need = need_text (record { resource = name; units = a.units }) in
    rw (of_name, line_of_pass told to need ∙ sym (append_assoc (front_of told) to (last_of need)))
    (then_last _ _ _ _ (front_of told ++ to) (last_of need) (Appends-trans _ _ _ (front_of told) to c.in_ok-write_apart.ensures c.in_ok-write_node_place.ensures) c.write_told_need.ensures)
