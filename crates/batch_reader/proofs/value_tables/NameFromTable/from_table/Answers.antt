use Rattle.std.proofs.Common.{refl}
use Rattle.toml.specs.View.{table_view}
use Rattle.batch_reader.{proofs.EntryFaults.err_both, proofs.EntryFaults.label_told, proofs.EntryFaults.table_told, specs.declared.fault.TableKind.TheVariants.Output}
use Rattle.batch_reader.proofs.value_tables.NameFromTable.from_table.Goals as goal

pub returns-clause-told : goal.returns-clause-told
returns-clause-told c =
    err_both c.label_at.result _ _ _ (λ fault refused told. table_told Output (table_view c.args.table.now) 0 _ refl refl _ fault (label_told _ (table_view c.args.table.now) _ fault refused told)) c.label_at.ensures.refused c.label_at.ensures.told
