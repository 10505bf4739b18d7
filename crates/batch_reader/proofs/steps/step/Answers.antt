use Rattle.std.proofs.Common.{◌≡◌, ◌+◌, ap}
use Rattle.std.specs.Prelude.{slice_index, slice_range}
use Rattle.batch_reader.{specs.ChartMachine.letters, specs.ChartView.frames_view, specs.ChartView.lexeme_view, specs.ChartView.want_view, proofs.LabelsInRows.comma_behind_label}
use Rattle.batch_reader.proofs.steps.step.Goals as goal

pub returns : goal.returns
returns c =
    let text = c.args.text.now in
    let place = c.args.place in
    let state = c.args.state.now in
    let word = slice_range text c.in-Letters.start place in
    let ends = c.ends_label.ensures c.if-ends_label.true in
    let letters_are : lexeme_view text place state.lexeme ≡ letters word = ap (lexeme_view text place) c.in-Letters.is in
    rw (comma_behind_label place (slice_index text place) (lexeme_view text place state.lexeme) (want_view state.want) (frames_view state.stack.items) state.firsts word letters_are ends.0 ends.1 ends.2)
    (c.end_label.ensures text place (place + 1))
