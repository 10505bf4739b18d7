use Rattle.std.proofs.Common.{option_map, refl, string_bytes}
use Rattle.std.proofs.lemmas.Result.{err_from_is_err_and}
use Rattle.batch_recipe.specs.declared.header.TheConstants.{MAX_VERSION_LEN, MAX_TEXT_LEN}
use Rattle.toml.specs.View.{table_view}
use Rattle.batch_reader.{proofs.EntryFaults.optional_text_told, proofs.EntryFaults.table_told, proofs.EntryFaults.text_told, specs.declared.fault.TableKind.TheVariants.Recipe}
use Rattle.batch_reader.proofs.recipe_document.header_at.Goals as goal

pub returns-in_err-version-clause-told : goal.returns-in_err-version-clause-told
returns-in_err-version-clause-told c =
    let p = err_from_is_err_and c.from_residual.result c.from_residual.ensures.1 in
    rw (p.1, p.2) (table_told Recipe (table_view c.args.table.now) 1 _ refl refl _ _ (text_told _ (table_view c.args.table.now) MAX_VERSION_LEN _ _ c.in_err-version.ensures.refused c.in_err-version.ensures.told))

pub returns-in_err-product-clause-told : goal.returns-in_err-product-clause-told
returns-in_err-product-clause-told c =
    let p = err_from_is_err_and c.from_residual-in_err-product.result c.from_residual-in_err-product.ensures.1 in
    rw (p.1, p.2) (table_told Recipe (table_view c.args.table.now) 3 _ refl refl _ _ (optional_text_told _ (table_view c.args.table.now) MAX_TEXT_LEN _ _ c.in_err-product.ensures.refused c.in_err-product.ensures.told))

pub returns-in_err-author-clause-told : goal.returns-in_err-author-clause-told
returns-in_err-author-clause-told c =
    let p = err_from_is_err_and c.from_residual-in_err-author.result c.from_residual-in_err-author.ensures.1 in
    rw (p.1, p.2) (table_told Recipe (table_view c.args.table.now) 4 _ refl refl _ _ (optional_text_told _ (table_view c.args.table.now) MAX_TEXT_LEN _ _ c.in_err-author.ensures.refused c.in_err-author.ensures.told))

pub returns-in_err-info-clause-told : goal.returns-in_err-info-clause-told
returns-in_err-info-clause-told c =
    let p = err_from_is_err_and c.from_residual-in_err-info.result c.from_residual-in_err-info.ensures.1 in
    rw (p.1, p.2) (table_told Recipe (table_view c.args.table.now) 5 _ refl refl _ _ (optional_text_told _ (table_view c.args.table.now) MAX_TEXT_LEN _ _ c.in_err-info.ensures.refused c.in_err-info.ensures.told))

pub returns-in_err-version-clause-refused : goal.returns-in_err-version-clause-refused
returns-in_err-version-clause-refused c =
    let p = err_from_is_err_and c.from_residual.result c.from_residual.ensures.1 in
    rw (p.1, p.2) (λ known header h. c.in_err-version.ensures.refused known (string_bytes header.version) h.version)

pub returns-in_err-product-clause-refused : goal.returns-in_err-product-clause-refused
returns-in_err-product-clause-refused c =
    let p = err_from_is_err_and c.from_residual-in_err-product.result c.from_residual-in_err-product.ensures.1 in
    rw (p.1, p.2) (λ known header h. c.in_err-product.ensures.refused known (option_map string_bytes header.product) h.product)

pub returns-in_err-author-clause-refused : goal.returns-in_err-author-clause-refused
returns-in_err-author-clause-refused c =
    let p = err_from_is_err_and c.from_residual-in_err-author.result c.from_residual-in_err-author.ensures.1 in
    rw (p.1, p.2) (λ known header h. c.in_err-author.ensures.refused known (option_map string_bytes header.author) h.author)

pub returns-in_err-info-clause-refused : goal.returns-in_err-info-clause-refused
returns-in_err-info-clause-refused c =
    let p = err_from_is_err_and c.from_residual-in_err-info.result c.from_residual-in_err-info.ensures.1 in
    rw (p.1, p.2) (λ known header h. c.in_err-info.ensures.refused known (option_map string_bytes header.info) h.info)
