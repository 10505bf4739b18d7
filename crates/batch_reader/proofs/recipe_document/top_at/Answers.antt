use Rattle.std.proofs.Common.{refl}
use Rattle.std.proofs.lemmas.Result.{err_from_is_err_and}
use Rattle.batch_recipe.specs.declared.scaling.TheConstants.{MAX_SIZE}
use Rattle.toml.specs.View.{table_view}
use Rattle.batch_reader.{proofs.EntryFaults.name_told, proofs.EntryFaults.number_told, proofs.EntryFaults.table_told, specs.declared.fault.TableKind.TheVariants.Recipe}
use Rattle.batch_reader.proofs.recipe_document.top_at.Goals as goal

pub returns-in_err-name-clause-refused : goal.returns-in_err-name-clause-refused
returns-in_err-name-clause-refused c =
    let p = err_from_is_err_and c.from_residual.result c.from_residual.ensures.1 in
    rw (p.1, p.2) (λ known recipe h. c.in_err-name.ensures.refused known recipe.acts.procedure.name h.acts.name)

pub returns-in_err-name-clause-told : goal.returns-in_err-name-clause-told
returns-in_err-name-clause-told c =
    let p = err_from_is_err_and c.from_residual.result c.from_residual.ensures.1 in
    rw (p.1, p.2) (table_told Recipe (table_view c.args.table.now) 0 _ refl refl _ _ (name_told _ (table_view c.args.table.now) _ _ c.in_err-name.ensures.refused c.in_err-name.ensures.told))

pub returns-in_err-header-clause-refused : goal.returns-in_err-header-clause-refused
returns-in_err-header-clause-refused c =
    let p = err_from_is_err_and c.from_residual-in_err-header.result c.from_residual-in_err-header.ensures.1 in
    rw (p.1, p.2) (λ known recipe h. c.in_err-header.ensures.refused known recipe.header h.header)

pub returns-in_err-header-clause-told : goal.returns-in_err-header-clause-told
returns-in_err-header-clause-told c =
    let p = err_from_is_err_and c.from_residual-in_err-header.result c.from_residual-in_err-header.ensures.1 in
    rw (p.1, p.2) c.in_err-header.ensures.told

pub returns-in_err-basis-clause-refused : goal.returns-in_err-basis-clause-refused
returns-in_err-basis-clause-refused c =
    let p = err_from_is_err_and c.from_residual-in_err-basis.result c.from_residual-in_err-basis.ensures.1 in
    rw (p.1, p.2) (λ known recipe h. c.in_err-basis.ensures.refused recipe.basis h.basis)

pub returns-in_err-basis-clause-told : goal.returns-in_err-basis-clause-told
returns-in_err-basis-clause-told c =
    let p = err_from_is_err_and c.from_residual-in_err-basis.result c.from_residual-in_err-basis.ensures.1 in
    rw (p.1, p.2) (table_told Recipe (table_view c.args.table.now) 2 _ refl refl _ _ (number_told _ (table_view c.args.table.now) 1 MAX_SIZE _ _ c.in_err-basis.ensures.refused c.in_err-basis.ensures.told))
