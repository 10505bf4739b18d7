-- The stack and the charts read so far as lists.
use Rattle.std.proofs.Common.{◌≡◌, ℕ, ◌+◌, List, [], ◌∷◌, ◌++◌, length, map, reverse, get_or, set, take, Some, refl, sym, ap, ◌∙◌, arith, rules, Vec, Box}
use Rattle.std.{proofs.lemmas.List.reverse-append, proofs.lemmas.List.map-append, proofs.lemmas.List.length-reverse, proofs.lemmas.List.length-map, proofs.lemmas.List.length-set, proofs.lemmas.List.take_all, proofs.lemmas.List.take_more, proofs.lemmas.List.take_more_set, specs.Global.Global}
use Rattle.batch_recipe.specs.{declared.condition.Condition.Condition, declared.chart.Chart.Chart, declared.chart.Chart.the_lemmas, Diagram.diagram_of, Diagram.diagrams_of, Diagram.cases_of}
use Rattle.batch_recipe.specs.declared.chart.Chart as Made
use Rattle.batch_recipe.specs.Diagram as chart
use Rattle.batch_reader.specs.{declared.frame.Frame.Frame, ChartMachine.a_chart, ChartMachine.take_comma, ChartView.frame_view, ChartView.frames_view, ChartView.diagrams_view, ChartView.cases_view}
use Rattle.batch_reader.specs.declared.frame.Frame.TheVariants as frame

pub frames_view_nil : frames_view [] ≡ []
unfolding frames_view
frames_view_nil = refl

pub frames_view_last : (frames : List Frame) (last : Frame) → frames_view (frames ++ last ∷ []) ≡ frame_view last ∷ frames_view frames
unfolding frames_view
frames_view_last frames last = ap reverse (map-append frame_view frames (last ∷ [])) ∙ reverse-append (map frame_view frames) (frame_view last ∷ [])

pub no_frame : (frames : List Frame) → length frames ≡ 0 → frames_view frames ≡ []
no_frame [] h = frames_view_nil
no_frame (f ∷ fs) h = absurd cc

-- the innermost frame, before those around it
pub innermost : (frames : List Frame) (n : ℕ) (d : Frame) → n + 1 ≡ length frames → frames_view frames ≡ frame_view (get_or frames n d) ∷ frames_view (take n frames)
innermost frames n d last = grind (arith, frames_view_last (take n frames) (get_or frames n d), take_all, take_more)

-- the innermost frame has changed, and those around it have not
pub innermost_set : (frames : List Frame) (n : ℕ) (f : Frame) → n + 1 ≡ length frames → frames_view (set frames n f) ≡ frame_view f ∷ frames_view (take n frames)
innermost_set frames n f last =
    let whole : set frames n f ≡ take n frames ++ f ∷ [] = sym (take_all (n + 1) (set frames n f) (omega (arith, last, length-set frames n f))) ∙ take_more_set frames n f (omega (arith, last)) in
    ap frames_view whole ∙ frames_view_last (take n frames) f

pub frames_view_length : (frames : List Frame) → length (frames_view frames) ≡ length frames
unfolding frames_view
frames_view_length frames = simp (length-reverse, length-map)

pub diagrams_view_last : (charts : List Chart) (c : Chart) → diagrams_view (charts ++ c ∷ []) ≡ diagrams_view charts ++ diagram_of c ∷ []
diagrams_view_last charts c = map-append diagram_of charts (c ∷ [])

-- a comma adds the chart to a `seq` and to a `par`
pub comma_in_seq : (frames : List Frame) (n : ℕ) (v w : Vec Chart Global) (c : Chart) → n + 1 ≡ length frames → get_or frames n (frame.Seq v) ≡ frame.Seq v
    → w.items ≡ v.items ++ c ∷ [] → take_comma (diagram_of c) (frames_view frames) ≡ Some (a_chart, frames_view (set frames n (frame.Seq w)))
comma_in_seq frames n v w c last at added =
    let before : frames_view frames ≡ frame_view (frame.Seq v) ∷ frames_view (take n frames) = innermost frames n (frame.Seq v) last ∙ ap (λ f. frame_view f ∷ frames_view (take n frames)) at in
    let charts : diagrams_view w.items ≡ diagrams_view v.items ++ diagram_of c ∷ [] = ap diagrams_view added ∙ diagrams_view_last v.items c in
    rw (before, innermost_set frames n (frame.Seq w) last, charts) refl

pub comma_in_par : (frames : List Frame) (n : ℕ) (v w : Vec Chart Global) (c : Chart) → n + 1 ≡ length frames → get_or frames n (frame.Par v) ≡ frame.Par v
    → w.items ≡ v.items ++ c ∷ [] → take_comma (diagram_of c) (frames_view frames) ≡ Some (a_chart, frames_view (set frames n (frame.Par w)))
comma_in_par frames n v w c last at added =
    let before : frames_view frames ≡ frame_view (frame.Par v) ∷ frames_view (take n frames) = innermost frames n (frame.Par v) last ∙ ap (λ f. frame_view f ∷ frames_view (take n frames)) at in
    let charts : diagrams_view w.items ≡ diagrams_view v.items ++ diagram_of c ∷ [] = ap diagrams_view added ∙ diagrams_view_last v.items c in
    rw (before, innermost_set frames n (frame.Par w) last, charts) refl

pub cases_view_last : (cases : List (Condition × Chart)) (c : Condition) (t : Chart) → cases_view (cases ++ (c, t) ∷ []) ≡ cases_view cases ++ (c, diagram_of t) ∷ []
cases_view_last cases c t = grind (arith, map-append)

pub diagram_of_seq : (v : Box (Vec Chart Global) Global) → diagram_of (Made.Seq v) ≡ chart.seq (diagrams_of (diagrams_view v.value.items))
diagram_of_seq v = search (rules, the_lemmas)

pub diagram_of_par : (v : Box (Vec Chart Global) Global) → diagram_of (Made.Par v) ≡ chart.par (diagrams_of (diagrams_view v.value.items))
diagram_of_par v = search (rules, the_lemmas)

pub diagram_of_sel : (v : Box (Vec (Condition × Chart) Global) Global) (b : Box Chart Global)
    → diagram_of (Made.Sel v b) ≡ chart.sel (cases_of (cases_view v.value.items) (diagram_of b.value))
diagram_of_sel v b = search (rules, the_lemmas)

pub diagram_of_loop : (n : ℕ) (b : Box (Condition × Chart) Global) → diagram_of (Made.Loop n b) ≡ chart.loop n b.value.0 (diagram_of b.value.1)
diagram_of_loop n b = search (rules, the_lemmas)
