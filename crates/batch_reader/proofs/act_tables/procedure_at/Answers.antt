use Rattle.std.proofs.Common.{◌≡◌, Some, codes, rules}
use Rattle.std.{proofs.lemmas.Result.IfErr-weaker, specs.Option.option_and_then}
use Rattle.toml.specs.{Data.get_member, Data.as_table, View.table_view}
use Rattle.batch_reader.{proofs.OneEntry.HasTable_refused, specs.RecipeTables.IsProcedureTable}
use Rattle.batch_reader.proofs.act_tables.procedure_at.Goals as goal

pub returns-in-Some-as_table-clause-refused : goal.returns-in-Some-as_table-clause-refused
returns-in-Some-as_table-clause-refused c =
    let found : option_and_then as_table (get_member (codes "procedure") (table_view c.args.table.now)) ≡ Some (table_view c.in-Some-as_table.inner.now) = search rules in
    IfErr-weaker c.procedure.result _ _ (λ fault refused known. HasTable_refused IsProcedureTable (codes "procedure") _ _ found (refused known)) c.procedure.ensures.refused
