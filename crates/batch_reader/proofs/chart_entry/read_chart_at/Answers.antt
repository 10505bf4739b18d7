use Rattle.std.proofs.Common.{◌≡◌, Some, codes, rules}
use Rattle.std.specs.Option.{option_and_then}
use Rattle.toml.specs.{Data.get_member, Data.as_str, View.table_view}
use Rattle.batch_reader.{specs.ChartAnswer.IsOutsideAt, proofs.OneEntry.chart_refused}
use Rattle.batch_reader.proofs.chart_entry.read_chart_at.Goals as goal

pub returns-in-Err-OutOfRange-clause-refused : goal.returns-in-Err-OutOfRange-clause-refused
returns-in-Err-OutOfRange-clause-refused c = λ _.
    let found : option_and_then as_str (get_member (codes "chart") (table_view c.args.table.now)) ≡ Some c.in-Some-as_str.text.now = search rules in
    let outside : IsOutsideAt c.in-Some-as_str.text.now c.in-Err-OutOfRange.offset = search rules in
    chart_refused (codes "chart") (table_view c.args.table.now) c.in-Some-as_str.text.now found outside.no_chart
