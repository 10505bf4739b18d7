use Rattle.std.proofs.Common.{string_bytes}
use Rattle.std.{proofs.lemmas.Result.IfOk-weaker, specs.List.All}
use Rattle.batch_check.specs.Edges.{EdgeStands}
use Rattle.batch_verdicts.specs.Drawing.{IsDrawingOf, IsFaultDrawn}
use Rattle.batch_verdicts.proofs.drawing.fault_drawing.Goals as goal

pub drawing-requires : goal.drawing-requires
drawing-requires c =
    let fault = rw c.in-Circle.is at c.requires in
    let standing : All (EdgeStands c.args.cell.now c.args.recipes.now) c.in-Circle.circle.items = fault.2.standing in
    rw c.deref.ensures.value standing

pub returns-in-Circle : goal.returns-in-Circle
returns-in-Circle c =
    let cell = c.args.cell.now in
    let recipes = c.args.recipes.now in
    IfOk-weaker c.drawing.result (λ text. IsDrawingOf cell recipes c.deref.result.now (string_bytes text))
    (λ text. IsFaultDrawn cell recipes c.args.fault.now (string_bytes text))
    (λ text h.
    let drawn : IsDrawingOf cell recipes c.in-Circle.circle.items (string_bytes text) = rw c.deref.ensures.value at h in
    rw c.in-Circle.is drawn)
    c.drawing.ensures
