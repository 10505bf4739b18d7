use Rattle.std.proofs.Common.{◌≡◌, ◌+◌, false, true}
use Rattle.std.specs.{Prelude.slice_index, Char.is_ascii_alphabetic, Char.is_ascii_digit}
use Rattle.batch_reader.specs.{ChartGrammar.is_chart_space, ChartMachine.begin, ChartMachine.takes_operator, ChartView.want_view}
use Rattle.batch_reader.proofs.steps.begin.Goals as goal

pub returns-then-takes_operator : goal.returns-then-takes_operator
unfolding begin
returns-then-takes_operator c =
    let byte = slice_index c.args.text.now c.args.place in
    let no_space : is_chart_space byte ≡ false = cc in
    let no_letter : is_ascii_alphabetic byte ≡ false = cc in
    let no_digit : is_ascii_digit byte ≡ false = cc in
    let operator : takes_operator (want_view c.args.state.now.want) ≡ true = cc in
    rw (no_space, no_letter, no_digit, operator) (c.begin_operator.ensures c.args.text.now c.args.place (c.args.place + 1))
