use Rattle.std.proofs.lemmas.Result.{err_from_is_err_and}
use Rattle.std.proofs.Common.{refl}
use Rattle.batch_reader.{proofs.ArrayFaults.at_among, proofs.ArrayFaults.at_told, specs.Faults.is_of_recipe, specs.TableFaults.IsFaultOfTable}
use Rattle.toml.specs.View.{table_view}
use Rattle.batch_reader.proofs.recipe_document.acts_at.Goals as goal

pub returns-in_err-procedure-clause-refused : goal.returns-in_err-procedure-clause-refused
returns-in_err-procedure-clause-refused c =
    let p = err_from_is_err_and c.from_residual.result c.from_residual.ensures.1 in
    rw (p.1, p.2) (λ known acts h. c.in_err-procedure.ensures.refused known acts.procedure h.procedure)

pub returns-in_err-procedure-clause-told : goal.returns-in_err-procedure-clause-told
returns-in_err-procedure-clause-told c =
    let p = err_from_is_err_and c.from_residual.result c.from_residual.ensures.1 in
    rw (p.1, p.2) (at_among is_of_recipe _ _ refl _ c.in_err-procedure.ensures.told)

pub returns-in_err-procedure-clause-stands : goal.returns-in_err-procedure-clause-stands
returns-in_err-procedure-clause-stands c =
    let p = err_from_is_err_and c.from_residual.result c.from_residual.ensures.1 in
    rw (p.1, p.2) (at_told _ _ (λ spot. IsFaultOfTable (table_view c.args.table.now) spot.kind spot.entry) (λ wrong h. (refl, h)) _ c.in_err-procedure.ensures.told)
