use Rattle.std.proofs.Common.{◌≡◌, [], ◌++◌, ◌+◌, Some, sym, ap, ap₂, ◌∙◌, arith, refl, append_assoc, length, codes, decimal, string_bytes}
use Rattle.std.proofs.lemmas.Result.{on_ok_weaker}
use Rattle.batch_recipe.{specs.Diagram.diagram_of, specs.Expanding.act_named, specs.Procedure.table_at, specs.Procedure.tables_from, proofs.NodeCounts.counted, proofs.NodeCounts.counted_act, proofs.NodeCounts.counted_name, proofs.Tables.counted_some, proofs.Branches.counted_at, proofs.Branches.counted_choice, proofs.Branches.counted_last}
use Rattle.batch_outline.{specs.Along.act_lines, specs.Along.along, specs.Along.asked_text, specs.Along.below_act, specs.Along.choice_lines, specs.Along.if_text, specs.Along.labels_from, specs.Along.line, specs.Along.loop_text, specs.Along.plain_line, specs.Along.seat_of, specs.Showing.act_text, proofs.BranchLines.cases_last, proofs.BranchLines.cases_more, proofs.BranchLines.parts_more, proofs.LinesOfNodes.label_stands}
use Rattle.batch_outline.proofs.walk.+walk.Goals as goal

pub put_act-returns : goal.put_act-returns
put_act-returns t c =
    let r = c.args.recipe.now in
    let a = c.args.act.now in
    let named = labels_from r c.args.level in
    let p = c.args.seat.place.now in
    let d = diagram_of c.in-Follows.chart in
    let old = string_bytes c.args.text.now in
    let before = string_bytes c.put_line.new.text in
    let head = act_text r.roles.items c.args.kind.now a in
    let below = c.args.seat.held.now ++ asked_text r.acts a in
    let top = plain_line (seat_of c.args.seat) head in
    let rest = along named (record { place = p ++ (codes "." ++ decimal 0); held = below; branch = [] }) d in
    let headed : c.deref.result.now ≡ head = c.deref.ensures ∙ c.in_ok-head.ensures in
    let placed : c.deref-in-Follows.result.now ≡ p ++ (codes "." ++ decimal 0) = c.deref-in-Follows.ensures ∙ c.in_ok-place-in-Follows.ensures in
    let held : c.deref-in-Follows-2.result.now ≡ below = c.deref-in-Follows-2.ensures ∙ c.in_ok-held-in-Follows.ensures in
    let works : rest ≡ below_act named p below a.work = rw c.in-Follows.is refl in
    on_ok_weaker c.put_chart.result
    (λ told. told ∙ ap₂ (λ place held. before ++ along named (record { place = place; held = held; branch = [] }) d) placed held
    ∙ ap (λ text. text ++ rest) (c.in_ok-put_line.ensures ∙ ap (λ h. old ++ plain_line (seat_of c.args.seat) h) headed) ∙ append_assoc old top rest
    ∙ ap (λ text. old ++ (top ++ text)) works)
    c.put_chart.ensures

pub put_label-returns-in-Some-act_named : goal.put_label-returns-in-Some-act_named
put_label-returns-in-Some-act_named t c =
    let r = c.args.recipe.now in
    let table = c.in-Some.table in
    let a = c.in-Some-act_named.act.now in
    let old = string_bytes c.args.text.now in
    let seat = seat_of c.args.seat in
    let found : act_named (table_at r.acts table) c.args.name.now ≡ Some a =
    ap (λ ts. act_named ts c.args.name.now) (sym c.table.ensures) ∙ sym c.in-Some-act_named.ensures in
    let stands : act_lines r.roles.items r.acts (labels_from r c.below.result) seat c.kind_below-kind.result.now a ≡ labels_from r c.args.level c.args.name.now seat =
    rw (c.in-Some.is, c.below.ensures, c.kind_below-kind.ensures) (label_stands r table c.args.name.now a seat found) in
    on_ok_weaker c.put_act.result (λ told. told ∙ ap (λ text. old ++ text) stands) c.put_act.ensures

pub put_act-put_chart-requires : goal.put_act-put_chart-requires
put_act-put_chart-requires t c =
    let counts = counted_name (tables_from c.args.recipe.now.acts c.args.level) in
    let e : counted_act counts c.args.act.now ≡ 1 + counted counts (diagram_of c.in-Follows.chart) = rw c.in-Follows.is refl in
    (omega (arith, e), tt)

pub put_label-put_act-requires : goal.put_label-put_act-requires
put_label-put_act-requires t c =
    let acts = c.args.recipe.now.acts in
    let act = c.in-Some-act_named.act.now in
    let found : act_named (table_at acts c.in-Some.table) c.args.name.now ≡ Some act =
    ap (λ ts. act_named ts c.args.name.now) (sym c.table.ensures) ∙ sym c.in-Some-act_named.ensures in
    let e : counted_name (tables_from acts c.args.level) c.args.name.now ≡ counted_act (counted_name (tables_from acts c.below.result)) act =
    rw (c.in-Some.is, c.below.ensures) (counted_some acts c.in-Some.table c.args.name.now act found) in
    (omega (arith, e), tt)

pub put_parts-put_chart-requires : goal.put_parts-put_chart-requires
put_parts-put_chart-requires t c =
    let e = counted_at (counted_name (tables_from c.args.recipe.now.acts c.args.level)) c.args.parts.now c.loop-child.child c.index-parts-child.result c.loop-child-test.true c.index-parts-child.is in
    (omega (arith, e), tt)

pub put_choices-put_chart-requires : goal.put_choices-put_chart-requires
put_choices-put_chart-requires t c =
    let e = counted_choice (counted_name (tables_from c.args.recipe.now.acts c.args.level)) c.args.choices.now c.args.last.now c.loop-child.child c.index-choices-child.result c.loop-child-test.true c.index-choices-child.is in
    (omega (arith, e), tt)

pub put_choices-put_chart-requires-2 : goal.put_choices-put_chart-requires-2
put_choices-put_chart-requires-2 t c =
    let e = counted_last (counted_name (tables_from c.args.recipe.now.acts c.args.level)) c.args.choices.now c.args.last.now in
    (omega (arith, e), tt)

pub put_parts-loop-child-preserved : goal.put_parts-loop-child-preserved
put_parts-loop-child-preserved t c =
    let named = labels_from c.args.recipe.now c.args.level in
    let p = c.args.seat.place.now in
    let h = c.args.seat.held.now in
    let i = c.loop-child.child in
    let part = c.index-parts-child.result in
    let before = string_bytes c.loop-child.text in
    let placed : c.deref.result.now ≡ p ++ (codes "." ++ decimal i) = c.deref.ensures ∙ c.in_ok-place.ensures in
    parts_more named p h c.args.parts.now i part before (string_bytes c.put_chart.new.text) _ c.loop-child-test.true c.index-parts-child.is c.loop-child.invariant
    (c.in_ok-put_chart.ensures ∙ ap (λ place. before ++ along named (record { place = place; held = h; branch = [] }) (diagram_of part)) placed)

pub put_choices-loop-child-preserved : goal.put_choices-loop-child-preserved
put_choices-loop-child-preserved t c =
    let named = labels_from c.args.recipe.now c.args.level in
    let p = c.args.seat.place.now in
    let h = c.args.seat.held.now in
    let i = c.loop-child.child in
    let choice = c.index-choices-child.result in
    let before = string_bytes c.loop-child.text in
    let placed : c.deref.result.now ≡ p ++ (codes "." ++ decimal i) = c.deref.ensures ∙ c.in_ok-place.ensures in
    let chosen : c.deref-in-loop-child.result.now ≡ if_text choice.0 = c.deref-in-loop-child.ensures ∙ c.in_ok-branch.ensures in
    cases_more named p h c.args.choices.now c.args.last.now i choice before (string_bytes c.put_chart.new.text) _ c.loop-child-test.true c.index-choices-child.is c.loop-child.invariant
    (c.in_ok-put_chart.ensures ∙ ap₂ (λ place branch. before ++ along named (record { place = place; held = h; branch = branch }) (diagram_of choice.1)) placed chosen)

pub put_choices-returns : goal.put_choices-returns
put_choices-returns t c =
    let named = labels_from c.args.recipe.now c.args.level in
    let p = c.args.seat.place.now in
    let h = c.args.seat.held.now in
    let i = c.loop-child.child in
    let before = string_bytes c.loop-child.text in
    let old = string_bytes c.args.text.now in
    let all = choice_lines c.args.recipe.now c.args.level p h 0 c.args.choices.now c.args.last.now in
    let top = plain_line (seat_of c.args.seat) (codes "sel") in
    let count : length c.args.choices.now ≡ i = omega (arith, c.loop-child-test.false, c.loop-child.auto.child-end) in
    let placed : c.deref-2.result.now ≡ p ++ (codes "." ++ decimal i) = c.deref-2.ensures ∙ c.in_ok-place-2.ensures ∙ ap (λ k. p ++ (codes "." ++ decimal k)) count in
    on_ok_weaker c.put_chart-2.result
    (λ told. told ∙ ap (λ place. before ++ along named (record { place = place; held = h; branch = codes " else" }) (diagram_of c.args.last.now)) placed
    ∙ cases_last named p h c.args.choices.now c.args.last.now i before _ c.loop-child-test.false c.loop-child.invariant
    ∙ ap (λ text. text ++ all) c.in_ok-put_line.ensures ∙ append_assoc old top all)
    c.put_chart-2.ensures

pub put_loop-returns : goal.put_loop-returns
put_loop-returns t c =
    let named = labels_from c.args.recipe.now c.args.level in
    let p = c.args.seat.place.now in
    let h = c.args.seat.held.now in
    let d = diagram_of c.args.turn.now.1 in
    let old = string_bytes c.args.text.now in
    let top = line (seat_of c.args.seat) (codes "loop") (loop_text c.args.turns c.args.turn.now.0) in
    let rest = along named (record { place = p ++ (codes "." ++ decimal 0); held = h; branch = [] }) d in
    let timed : c.deref.result.now ≡ loop_text c.args.turns c.args.turn.now.0 = c.deref.ensures ∙ c.in_ok-times.ensures in
    let placed : c.deref-2.result.now ≡ p ++ (codes "." ++ decimal 0) = c.deref-2.ensures ∙ c.in_ok-place.ensures in
    on_ok_weaker c.put_chart.result
    (λ told. told ∙ ap (λ place. string_bytes c.put_line.new.text ++ along named (record { place = place; held = h; branch = [] }) d) placed
    ∙ ap (λ text. text ++ rest) (c.in_ok-put_line.ensures ∙ ap (λ turns. old ++ line (seat_of c.args.seat) (codes "loop") turns) timed) ∙ append_assoc old top rest)
    c.put_chart.ensures
