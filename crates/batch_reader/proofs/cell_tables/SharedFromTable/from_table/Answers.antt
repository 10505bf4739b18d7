use Rattle.std.proofs.Common.{refl}
use Rattle.std.proofs.lemmas.Result.{err_from_is_err_and}
use Rattle.toml.specs.View.{table_view}
use Rattle.batch_reader.{proofs.EntryFaults.name_told, proofs.EntryFaults.table_told, specs.declared.fault.TableKind.TheVariants.Shared}
use Rattle.batch_reader.proofs.cell_tables.SharedFromTable.from_table.Goals as goal

pub returns-in_err-name-clause-told : goal.returns-in_err-name-clause-told
returns-in_err-name-clause-told c =
    let p = err_from_is_err_and c.from_residual.result c.from_residual.ensures.1 in
    rw (p.1, p.2) (table_told Shared (table_view c.args.table.now) 0 _ refl refl _ _ (name_told _ (table_view c.args.table.now) _ _ c.in_err-name.ensures.refused c.in_err-name.ensures.told))

pub returns-in_err-capacity-clause-told : goal.returns-in_err-capacity-clause-told
returns-in_err-capacity-clause-told c =
    let p = err_from_is_err_and c.from_residual-in_err-capacity.result c.from_residual-in_err-capacity.ensures.1 in
    rw (p.1, p.2) (table_told Shared (table_view c.args.table.now) 1 _ refl refl _ _ c.in_err-capacity.ensures.told)
