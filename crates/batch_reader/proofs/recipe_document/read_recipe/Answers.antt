use Rattle.std.proofs.Common.{ap, inl, inr}
use Rattle.std.proofs.lemmas.Result.{err_from_is_err_and}
use Rattle.batch_reader.specs.declared.fault.Spot.{Spot}
use Rattle.batch_reader.proofs.recipe_document.read_recipe.Goals as goal

pub returns-in_err-table-clause-stands : goal.returns-in_err-table-clause-stands
returns-in_err-table-clause-stands c = λ spot wrong told.
    let p = err_from_is_err_and c.from_residual.result c.from_residual.ensures.1 in
    let h = c.in_err-table.ensures.told spot wrong (cc (p.1, p.2, told)) in
    inl (record { long = h.2; top = inr (ap (λ (s : Spot). s.kind) h.0); first = ap (λ (s : Spot). s.entry) h.0; told = h.1 })
