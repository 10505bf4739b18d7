use Rattle.std.proofs.Common.{◌<◌, ◌++◌, ◌∷◌, ◌∙◌, [], codes, length, get_or, ap, refl, rules, string_bytes}
use Rattle.batch_check.specs.declared.edge.Edge.{Edge}
use Rattle.batch_verdicts.specs.VerdictTexts.{edge_text, refused}
use Rattle.batch_verdicts.proofs.texts.refusals.circle_text.Goals as goal
use Rattle.batch_outline.proofs.LineSeats.{texts_more}

abbrev no_edge : Edge
no_edge = record { recipe = 0; node = 0; earlier = 0; later = 0 }

pub loop-edge-preserved : goal.loop-edge-preserved
loop-edge-preserved c =
    let edges = c.args.edges.now in
    let edge = get_or edges c.loop-edge.edge-index no_edge in
    let line = edge_text c.args.cell.now c.args.recipes.now in
    let within : c.loop-edge.edge-index < length edges = search rules in
    c.in_ok-push_str.ensures.bytes ∙ ap (λ text. string_bytes c.loop-edge.text ++ text) (c.deref.ensures ∙ c.in_ok-line.ensures)
    ∙ ap (λ text. text ++ line edge) c.loop-edge.invariant
    ∙ texts_more line (refused (codes "C1" ∷ [])) edges c.loop-edge.edge-index edge no_edge within refl
