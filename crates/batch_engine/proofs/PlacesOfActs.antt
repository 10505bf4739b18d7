-- An act that needs something stands at the place of its node.
use Rattle.std.proofs.Common.{◌≡◌, ◌<◌, ℕ, zero, suc, ◌+◌, List, [], ◌∷◌, ◌++◌, arith, length, get_or}
use Rattle.std.specs.List.{AllByRecursion}
use Rattle.batch_recipe.{specs.Conditions.Name, specs.Needs.resources_needed, specs.Nodes.Node, specs.Nodes.nodes, specs.Nodes.nodes_within, specs.Nodes.nodes_of_each, specs.Nodes.nodes_of_choices, specs.Nodes.child, specs.Places.StandsAt, specs.Tree.Place, specs.Tree.Tree, specs.Tree.act, specs.Tree.skip, specs.Tree.seq, specs.Tree.par, specs.Tree.sel, specs.Tree.loop, specs.Tree.Task, specs.Tree.runs, specs.Tree.follows, specs.Tree.Trees, specs.Tree.no_trees, specs.Tree.tree, specs.Tree.Choices, specs.Tree.otherwise, specs.Tree.choice, specs.Nodes.node_count, proofs.NodeOrder.counted_nodes}
use Rattle.batch_model.specs.Placed.{IsPlaced, IsPlacedBelow, ArePlaced, IsChoicePlaced}
use Rattle.batch_chart.specs.NodesOf.{nodes_of, place_at, step_at, tree_step}

all-append : (xs ys : List Node) → AllByRecursion (λ (n : Node). StandsAt n.place n.here) xs → AllByRecursion (λ (n : Node). StandsAt n.place n.here) ys → AllByRecursion (λ (n : Node). StandsAt n.place n.here) (xs ++ ys)
all-append [] ys h k = k
all-append (x ∷ xs) ys h k = (h.0, all-append xs ys h.1 k)

mutual
  stand : (p : Place) (above : List Name) (t : Tree) → IsPlaced p t → AllByRecursion (λ (n : Node). StandsAt n.place n.here) (nodes p above t)
  stand p above (act s w) h = (h.0, stand_within p (above ++ resources_needed s.needs) w h.1)
  stand p above skip h = (tt, tt)
  stand p above (seq cs) h = (tt, stand_of_each p above 0 cs h)
  stand p above (par cs) h = (tt, stand_of_each p above 0 cs h)
  stand p above (sel ch) h = (tt, stand_of_choices p above 0 ch h)
  stand p above (loop n c t) h = (tt, stand (child p 0) above t h)

  stand_within : (p : Place) (above : List Name) (w : Task) → IsPlacedBelow p w → AllByRecursion (λ (n : Node). StandsAt n.place n.here) (nodes_within p above w)
  stand_within p above (runs x) h = tt
  stand_within p above (follows name t) h = stand (child p 0) above t h

  stand_of_each : (p : Place) (above : List Name) (i : ℕ) (cs : Trees) → ArePlaced p i cs → AllByRecursion (λ (n : Node). StandsAt n.place n.here) (nodes_of_each p above i cs)
  stand_of_each p above i no_trees h = tt
  stand_of_each p above i (tree t ts) h = all-append (nodes (child p i) above t) (nodes_of_each p above (i + 1) ts) (stand (child p i) above t h.0) (stand_of_each p above (i + 1) ts h.1)

  stand_of_choices : (p : Place) (above : List Name) (i : ℕ) (ch : Choices) → IsChoicePlaced p i ch → AllByRecursion (λ (n : Node). StandsAt n.place n.here) (nodes_of_choices p above i ch)
  stand_of_choices p above i (otherwise t) h = stand (child p i) above t h
  stand_of_choices p above i (choice c t ch) h = all-append (nodes (child p i) above t) (nodes_of_choices p above (i + 1) ch) (stand (child p i) above t h.0) (stand_of_choices p above (i + 1) ch h.1)

here-place : (x : Tree) (p : Place) → StandsAt p x → 0 < length (tree_step x).needs → (tree_step x).place ≡ p
here-place (act s w) p h l = h
here-place skip p h l = absurd (omega (arith, l))
here-place (seq cs) p h l = absurd (omega (arith, l))
here-place (par cs) p h l = absurd (omega (arith, l))
here-place (sel ch) p h l = absurd (omega (arith, l))
here-place (loop n c t) p h l = absurd (omega (arith, l))

at-index : (ns : List Node) (k : ℕ) (d : Node) → AllByRecursion (λ (n : Node). StandsAt n.place n.here) ns → k < length ns → StandsAt (get_or ns k d).place (get_or ns k d).here
at-index [] k d h l = absurd (omega arith)
at-index (n ∷ ns) zero d h l = h.0
at-index (n ∷ ns) (suc k) d h l = at-index ns k d h.1 (omega arith)

pub step-place : (t : Tree) (k : ℕ) → IsPlaced (0 ∷ []) t → k < node_count t → 0 < length (step_at t k).needs → (step_at t k).place ≡ place_at t k
step-place t k h l few =
    let d : Node = record { place = []; asked = []; here = skip } in
    here-place (get_or (nodes_of t) k d).here (get_or (nodes_of t) k d).place (at-index (nodes_of t) k d (stand (0 ∷ []) [] t h) (omega (arith, l, counted_nodes (0 ∷ []) [] t))) few
