use Rattle.std.proofs.Common.{◌<◌, ◌++◌, ◌+◌, ◌∙◌, length, take, get_or, ap, refl, rules, string_bytes, subst, sym}
use Rattle.batch_check.specs.declared.edge.Edge.{Edge}
use Rattle.batch_messages.{specs.CircleSentence.IsCircleTold, proofs.CircleWords.told_first, proofs.CircleWords.told_more}
use Rattle.batch_messages.proofs.sets.circle_said.Goals as goal

abbrev no_edge : Edge
no_edge = record { recipe = 0; node = 0; earlier = 0; later = 0 }

pub loop-edge-init : goal.loop-edge-init
loop-edge-init c = subst (IsCircleTold c.args.set.cell.now c.args.set.recipes.now (take 0 c.args.edges.now)) (sym c.in_ok-said.ensures.ok) (told_first c.args.set.cell.now c.args.set.recipes.now)

pub loop-edge-preserved : goal.loop-edge-preserved
loop-edge-preserved c =
    let edges = c.args.edges.now in
    let within : c.loop-edge.edge-index < length edges = search rules in
    let grew = c.in_ok-push_str.ensures.bytes ∙ ap (λ text. string_bytes c.loop-edge.said ++ text) c.deref.ensures in
    subst (IsCircleTold c.args.set.cell.now c.args.set.recipes.now (take (c.loop-edge.edge-index + 1) edges)) (sym grew)
    (told_more c.args.set.cell.now c.args.set.recipes.now edges c.loop-edge.edge-index (get_or edges c.loop-edge.edge-index no_edge) no_edge (string_bytes c.loop-edge.said) (string_bytes c.in_ok-words.words)
    within refl c.loop-edge.invariant c.in_ok-words.ensures)
