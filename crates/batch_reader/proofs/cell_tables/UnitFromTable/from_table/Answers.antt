use Rattle.std.proofs.Common.{refl}
use Rattle.std.proofs.lemmas.Result.{err_from_is_err_and}
use Rattle.toml.specs.View.{table_view}
use Rattle.batch_reader.{proofs.EntryFaults.name_told, proofs.EntryFaults.optional_name_told, proofs.EntryFaults.table_told, specs.declared.fault.TableKind.TheVariants.Unit}
use Rattle.batch_reader.proofs.cell_tables.UnitFromTable.from_table.Goals as goal

pub returns-in_err-name-clause-told : goal.returns-in_err-name-clause-told
returns-in_err-name-clause-told c =
    let p = err_from_is_err_and c.from_residual.result c.from_residual.ensures.1 in
    rw (p.1, p.2) (table_told Unit (table_view c.args.table.now) 0 _ refl refl _ _ (name_told _ (table_view c.args.table.now) _ _ c.in_err-name.ensures.refused c.in_err-name.ensures.told))

pub returns-in_err-class-clause-refused : goal.returns-in_err-class-clause-refused
returns-in_err-class-clause-refused c =
    let p = err_from_is_err_and c.from_residual-in_err-class.result c.from_residual-in_err-class.ensures.1 in
    rw (p.1, p.2) (λ known unit h. c.in_err-class.ensures.refused known unit.class h.class)

pub returns-in_err-class-clause-told : goal.returns-in_err-class-clause-told
returns-in_err-class-clause-told c =
    let p = err_from_is_err_and c.from_residual-in_err-class.result c.from_residual-in_err-class.ensures.1 in
    rw (p.1, p.2) (table_told Unit (table_view c.args.table.now) 1 _ refl refl _ _ (optional_name_told _ (table_view c.args.table.now) _ _ c.in_err-class.ensures.refused c.in_err-class.ensures.told))
