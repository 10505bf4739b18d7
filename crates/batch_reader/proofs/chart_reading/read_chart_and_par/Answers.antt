use Rattle.std.proofs.Common.{◌≡◌, ◌+◌, length, List, ℕ, [], subst, sym, ap, ◌∙◌, arith}
use Rattle.batch_recipe.specs.Diagram.{diagram_of}
use Rattle.batch_reader.{specs.ChartAnswer.HasFaultAt, specs.ChartAnswer.IsOutsideAt, specs.ChartView.state_view, specs.ChartView.frames_view, specs.ChartView.want_view, specs.ChartMachine.Frame, specs.ChartMachine.a_chart, specs.ChartMachine.nothing, specs.ChartMachine.no_firsts, specs.declared.firsts.Firsts.Firsts, specs.declared.state.State.State, proofs.ChartFrames.frames_view_nil, specs.ChartMachine.IsAfter, proofs.ChartReader.after_none, proofs.ChartReader.after_next, proofs.ChartReader.stops_in_text, proofs.ChartReader.stops_at_end, proofs.ChartReader.reads_to_end, proofs.ChartReader.is_outside}
use Rattle.batch_reader.proofs.chart_reading.read_chart_and_par.Goals as goal

-- the loop ends at the end of the text
ended : (text : List ℕ) (place : ℕ) (st : State) → place ≡ length text → IsAfter text place (state_view text place st) → IsAfter text (length text) (state_view text (length text) st)
ended text place st e h = subst (λ p. IsAfter text p (state_view text p st)) e h

pub loop-place-init : goal.loop-place-init
loop-place-init c =
    let empty : frames_view c.new.result.items ≡ [] = ap frames_view c.new.ensures.items ∙ frames_view_nil in
    let P : List Frame → Firsts → Type 0 = λ frames firsts. IsAfter c.args.text.now 0 (record { lexeme = nothing; want = a_chart; stack = frames; firsts = firsts }) in
    (subst (λ firsts. P (frames_view c.new.result.items) firsts) (sym c.none.ensures) (subst (λ frames. P frames no_firsts) (sym empty) (after_none c.args.text.now)), omega arith)

pub returns-in-Err-NotAChart-clause-no_chart : goal.returns-in-Err-NotAChart-clause-no_chart
returns-in-Err-NotAChart-clause-no_chart c n e =
    let text = c.args.text.now in
    let same : c.loop-place.place ≡ n = cc in
    let h = c.loop-place-test.true in
    let stopped = rw c.in-Err-NotAChart.field-0-is at c.in-Err-NotAChart.ensures in
    subst (λ p. HasFaultAt text p) same (stops_in_text text c.loop-place.place (state_view text c.loop-place.place c.loop-place.state) h c.loop-place.invariant.0 stopped)

pub loop-place-preserved : goal.loop-place-preserved
loop-place-preserved c =
    let text = c.args.text.now in
    let place = c.loop-place.place in
    let new = c.step.new.state in
    let on = c.past_letters-place.ensures in (
      on.after (want_view new.want) (frames_view new.stack.items) new.firsts
          (after_next text place (state_view text place c.loop-place.state) (state_view text (place + 1) new) c.loop-place-test.true c.loop-place.invariant.0 c.in-Ok.ensures),
      on.within,
    )

pub returns-in-Err-NotAChart-finish-clause-no_chart : goal.returns-in-Err-NotAChart-finish-clause-no_chart
returns-in-Err-NotAChart-finish-clause-no_chart c n e =
    let text = c.args.text.now in
    let st = c.loop-place.state in
    let at_end : c.loop-place.place ≡ length text = omega (arith, c.loop-place.invariant.1) in
    let same : length text ≡ n = cc in
    let stopped = rw c.in-Err-NotAChart-finish.field-0-is at c.in-Err-NotAChart-finish.ensures in
    subst (λ p. HasFaultAt text p) same (stops_at_end text (state_view text (length text) st) (ended text c.loop-place.place st at_end c.loop-place.invariant.0) stopped)

pub returns-in-None-clause-found : goal.returns-in-None-clause-found
returns-in-None-clause-found c =
    let text = c.args.text.now in
    let st = c.loop-place.state in
    let at_end : c.loop-place.place ≡ length text = omega (arith, c.loop-place.invariant.1) in
    let found = c.in-Ok-finish.found in
    reads_to_end text (state_view text (length text) st) (diagram_of found.0) found.1 (ended text c.loop-place.place st at_end c.loop-place.invariant.0) c.in-Ok-finish.ensures c.in-None.is

pub returns-in-Some-clause-out_of_range : goal.returns-in-Some-clause-out_of_range
returns-in-Some-clause-out_of_range c n e =
    let text = c.args.text.now in
    let st = c.loop-place.state in
    let at_end : c.loop-place.place ≡ length text = omega (arith, c.loop-place.invariant.1) in
    let found = c.in-Ok-finish.found in
    let same : c.in-Some.offset ≡ n = cc in
    subst (λ p. IsOutsideAt text p) same
    (is_outside text (state_view text (length text) st) (diagram_of found.0) found.1 c.in-Some.offset (ended text c.loop-place.place st at_end c.loop-place.invariant.0) c.in-Ok-finish.ensures c.in-Some.is)
