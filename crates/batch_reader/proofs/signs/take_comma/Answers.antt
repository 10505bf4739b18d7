use Rattle.std.proofs.Common.{◌≡◌, ◌∷◌, [], ◌+◌, ◌-◌, ◌<◌, length, get_or, take, refl, sym, ap, ◌∙◌, arith, rules}
use Rattle.std.proofs.lemmas.List.{get_or_default}
use Rattle.batch_reader.{specs.ChartView.cases_view, specs.ChartView.frame_view, specs.ChartView.frames_view, proofs.ChartFrames.no_frame, proofs.ChartFrames.innermost, proofs.ChartFrames.comma_in_seq, proofs.ChartFrames.comma_in_par}
use Rattle.batch_reader.specs.declared.frame.Frame.TheVariants as frame
use Rattle.batch_reader.proofs.signs.take_comma.Goals as goal

pub returns-then-depth-eq0 : goal.returns-then-depth-eq0
returns-then-depth-eq0 c =
    let none : frames_view c.args.stack.now.items ≡ [] = no_frame c.args.stack.now.items (omega arith) in
    rw none refl

pub returns-in-Case : goal.returns-in-Case
returns-in-Case c =
    let frames = c.args.stack.now.items in
    let n = c.len-depth.result - 1 in
    let last : n + 1 ≡ length frames = omega arith in
    let this = frame.Case c.in-Case.field-0 c.in-Case.field-1 in
    let at : get_or frames n this ≡ this = cc in
    c.end_case.ensures (cases_view c.in-Case.field-0.items) c.in-Case.field-1 (frames_view (take n frames)) (innermost frames n this last ∙ ap (λ f. frame_view f ∷ frames_view (take n frames)) at)

pub returns-in_ok-push-in-Seq : goal.returns-in_ok-push-in-Seq
returns-in_ok-push-in-Seq c =
    let frames = c.args.stack.now.items in
    let n = c.len-depth.result - 1 in
    let last : n + 1 ≡ length frames = omega arith in
    let at : get_or frames n (frame.Seq c.in-Seq.charts) ≡ frame.Seq c.in-Seq.charts = cc in
    rw c.requires (comma_in_seq frames n c.in-Seq.charts c.push.new.self c.args.chart last at c.in_ok-push-in-Seq.ensures.items)

pub returns-in_ok-push-in-Par : goal.returns-in_ok-push-in-Par
returns-in_ok-push-in-Par c =
    let frames = c.args.stack.now.items in
    let n = c.len-depth.result - 1 in
    let last : n + 1 ≡ length frames = omega arith in
    let at : get_or frames n (frame.Par c.in-Par.charts) ≡ frame.Par c.in-Par.charts = cc in
    rw c.requires (comma_in_par frames n c.in-Par.charts c.push-in-Par.new.self c.args.chart last at c.in_ok-push-in-Par.ensures.items)

pub returns-in-Else : goal.returns-in-Else
returns-in-Else c =
    let frames = c.args.stack.now.items in
    let n = c.len-depth.result - 1 in
    let last : n + 1 ≡ length frames = omega arith in
    let this = c.index_mut.result.now in
    let before : frames_view frames ≡ frame_view this ∷ frames_view (take n frames) = innermost frames n this last ∙ ap (λ f. frame_view f ∷ frames_view (take n frames)) (sym c.index_mut.ensures.value) in
    rw before (search rules)

pub unreachable-requires : goal.unreachable-requires
unreachable-requires c =
    let frames = c.args.stack.now.items in
    let n = c.len-depth.result - 1 in
    let inside : n < length frames = omega arith in
    let same : c.index.result.now ≡ c.index_mut.result.now = c.index.ensures ∙ get_or_default frames n c.index.result.now c.index_mut.result.now inside ∙ sym c.index_mut.ensures.value in
    c.in_default.not-Case c.in-Case-index_mut.field-0 c.in-Case-index_mut.field-1 (same ∙ c.in-Case-index_mut.is)
