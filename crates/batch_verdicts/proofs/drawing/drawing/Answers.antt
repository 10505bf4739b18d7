use Rattle.std.proofs.Common.{◌≡◌, ◌++◌, All, string_bytes}
use Rattle.std.proofs.lemmas.Result.{IfOk-weaker}
use Rattle.batch_messages.specs.CircleSentence.{act_name}
use Rattle.batch_verdicts.specs.{Drawing.IsDrawingOf, Drawing.IsOnCircle, GraphTexts.graph_text}
use Rattle.batch_verdicts.proofs.drawing.drawing.Goals as goal

pub returns-in-Ok : goal.returns-in-Ok
returns-in-Ok c =
    let cell = c.args.cell.now in
    let recipes = c.args.recipes.now in
    let circle = c.args.circle.now in
    let edges = c.in-Ok.edges.items in
    let red = c.in_ok-red-in-Ok.ensures in
    let lying : All (IsOnCircle edges) red.0 = rw c.deref.ensures.value at red.2 in
    IfOk-weaker c.graph_text.result (λ text. string_bytes text ≡ graph_text (act_name recipes) cell recipes c.deref-in-Ok.result.now c.deref-in-Ok-2.result.now)
    (λ text. IsDrawingOf cell recipes circle (string_bytes text))
    (λ text is.
    let told : string_bytes text ≡ graph_text (act_name recipes) cell recipes edges (circle ++ red.0) =
    rw (c.deref-in-Ok.ensures.value, c.deref-in-Ok-2.ensures.value, red.1) at is in
    (act_name recipes, edges, red.0, c.in-Ok.ensures.edges, c.in-Ok.ensures.circle, lying, told))
    c.graph_text.ensures
