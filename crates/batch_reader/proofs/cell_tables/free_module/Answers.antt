use Rattle.std.proofs.Common.{refl}
use Rattle.std.proofs.lemmas.Result.{err_from_is_err_and}
use Rattle.toml.specs.View.{table_view}
use Rattle.batch_reader.{proofs.EntryFaults.name_told, proofs.EntryFaults.table_told, specs.declared.fault.TableKind.TheVariants.Module}
use Rattle.batch_reader.proofs.cell_tables.free_module.Goals as goal

pub returns-in_err-name-clause-told : goal.returns-in_err-name-clause-told
returns-in_err-name-clause-told c =
    let p = err_from_is_err_and c.from_residual.result c.from_residual.ensures.1 in
    rw (p.1, p.2) (table_told Module (table_view c.args.table.now) 0 _ refl refl _ _ (name_told _ (table_view c.args.table.now) _ _ c.in_err-name.ensures.refused c.in_err-name.ensures.told))
