use Rattle.std.proofs.Common.{◌≡◌, rules}
use Rattle.std.proofs.lemmas.Result.{err_from_is_err_and}
use Rattle.batch_cell.specs.declared.shared.TheConstants.{MAX_CAPACITY}
use Rattle.toml.specs.View.{table_view}
use Rattle.batch_reader.proofs.EntryFaults.{number_told}
use Rattle.batch_reader.proofs.cell_tables.capacity_at.Goals as goal

pub returns-in_err-capacity-clause-told : goal.returns-in_err-capacity-clause-told
returns-in_err-capacity-clause-told c =
    let p = err_from_is_err_and c.from_residual.result c.from_residual.ensures.1 in
    let most : c.from.result ≡ MAX_CAPACITY = search rules in
    rw (p.1, p.2) (rw most at (number_told _ (table_view c.args.table.now) 1 c.from.result _ _ c.in_err-capacity.ensures.refused c.in_err-capacity.ensures.told))
