use Rattle.std.proofs.Common.{◌≡◌, ◌++◌, codes, append_assoc, sym, ◌∙◌}
use Rattle.std.proofs.{KnownBytes.Appends-trans, lemmas.Result.err_from_is_err_and}
use Rattle.batch_engine.specs.Names.{recipe_name, roles_taken}
use Rattle.batch_wire.{specs.Pieces.created_front, specs.Pieces.roles_text, specs.RecordText.role_texts, proofs.WrittenPairs.line_of_created, proofs.WrittenTexts.longer_text, proofs.WrittenTexts.then_beginning, proofs.WrittenTexts.then_last}
use Rattle.batch_wire.proofs.record_line.write_created.Goals as goal

pub returns-in_err-write_created_front : goal.returns-in_err-write_created_front
returns-in_err-write_created_front g c =
    let p = err_from_is_err_and c.from_residual.result c.from_residual.ensures.1 in
    let a = c.args in
    let roles = roles_taken a.cleared.now a.recipe a.units in
    let name = c.recipe_name.result.now in
    let of_name : recipe_name a.cleared.now a.recipe ≡ name = sym c.recipe_name.ensures in
    rw (p.1, of_name, line_of_created a.batch name a.size (role_texts roles))
    (longer_text _ _ _ _ c.in_err-write_created_front.ensures)

pub returns-in_err-write_roles : goal.returns-in_err-write_roles
returns-in_err-write_roles g c =
    let p = err_from_is_err_and c.from_residual-in_err-write_roles.result c.from_residual-in_err-write_roles.ensures.1 in
    let a = c.args in
    let roles = roles_taken a.cleared.now a.recipe a.units in
    let name = c.recipe_name.result.now in
    let of_name : recipe_name a.cleared.now a.recipe ≡ name = sym c.recipe_name.ensures in
    rw (p.1, of_name, line_of_created a.batch name a.size (role_texts roles))
    (then_beginning _ _ _ _ _ (codes "\n") c.in_ok-write_created_front.ensures c.in_err-write_roles.ensures)

pub returns : goal.returns
returns g c =
    let a = c.args in
    let roles = roles_taken a.cleared.now a.recipe a.units in
    let name = c.recipe_name.result.now in
    let of_name : recipe_name a.cleared.now a.recipe ≡ name = sym c.recipe_name.ensures in
    let front = created_front a.batch name a.size in
    rw (of_name, line_of_created a.batch name a.size (role_texts roles) ∙ sym (append_assoc front (roles_text roles) (codes "\n")))
    (then_last _ _ _ _ (front ++ roles_text roles) (codes "\n") (Appends-trans _ _ _ front (roles_text roles) c.in_ok-write_created_front.ensures c.in_ok-write_roles.ensures) c.write_all.ensures)
