-- The parts of a tree are its nodes.
use Rattle.std.proofs.Common.{◌≡◌, refl, ◌∙◌, ap, ap₂, ℕ, ◌+◌, List, [], ◌∷◌, ◌++◌, map}
use Rattle.batch_recipe.specs.{Conditions.Name, Tree.Place, Tree.Tree, Tree.act, Tree.skip, Tree.seq, Tree.par, Tree.sel, Tree.loop, Tree.Task, Tree.runs, Tree.follows, Tree.Trees, Tree.no_trees, Tree.tree, Tree.Choices, Tree.otherwise, Tree.choice, Nodes.Node, Nodes.node, Nodes.nodes, Nodes.nodes_within, Nodes.nodes_of_each, Nodes.nodes_of_choices, Nodes.child, Needs.resources_needed}
use Rattle.batch_model.specs.Cleared.{Level, below, Part, parts, parts_within, parts_of_each, parts_of_choices}

both : (xs ys : List Part) (ns ms : List Node) → map (λ x. x.node) xs ≡ ns → map (λ x. x.node) ys ≡ ms → map (λ x. x.node) (xs ++ ys) ≡ ns ++ ms
both [] ys ns ms e f = ap₂ (λ a b. a ++ b) e f
both (x ∷ xs) ys ns ms e f = ap (λ zs. x.node ∷ zs) (both xs ys (map (λ x. x.node) xs) ms refl f) ∙ ap (λ zs. zs ++ ms) e

mutual
  pub parts-nodes : (l : Level) (p : Place) (above : List Name) (t : Tree) → map (λ x. x.node) (parts l p above t) ≡ nodes p above t
  parts-nodes l p above (act s w) = ap (λ ns. node p above (act s w) ∷ ns) (parts_within-nodes (below l) p (above ++ resources_needed s.needs) w)
  parts-nodes l p above skip = refl
  parts-nodes l p above (seq ts) = ap (λ ns. node p above (seq ts) ∷ ns) (parts_of_each-nodes l p above 0 ts)
  parts-nodes l p above (par ts) = ap (λ ns. node p above (par ts) ∷ ns) (parts_of_each-nodes l p above 0 ts)
  parts-nodes l p above (sel cs) = ap (λ ns. node p above (sel cs) ∷ ns) (parts_of_choices-nodes l p above 0 cs)
  parts-nodes l p above (loop n c t) = ap (λ ns. node p above (loop n c t) ∷ ns) (parts-nodes l (child p 0) above t)

  parts_within-nodes : (l : Level) (p : Place) (above : List Name) (w : Task) → map (λ x. x.node) (parts_within l p above w) ≡ nodes_within p above w
  parts_within-nodes l p above (runs phase) = refl
  parts_within-nodes l p above (follows name t) = parts-nodes l (child p 0) above t

  parts_of_each-nodes : (l : Level) (p : Place) (above : List Name) (i : ℕ) (ts : Trees) → map (λ x. x.node) (parts_of_each l p above i ts) ≡ nodes_of_each p above i ts
  parts_of_each-nodes l p above i no_trees = refl
  parts_of_each-nodes l p above i (tree t ts) =
      both (parts l (child p i) above t) (parts_of_each l p above (i + 1) ts) (nodes (child p i) above t) (nodes_of_each p above (i + 1) ts)
      (parts-nodes l (child p i) above t) (parts_of_each-nodes l p above (i + 1) ts)

  parts_of_choices-nodes : (l : Level) (p : Place) (above : List Name) (i : ℕ) (cs : Choices) → map (λ x. x.node) (parts_of_choices l p above i cs) ≡ nodes_of_choices p above i cs
  parts_of_choices-nodes l p above i (otherwise t) = parts-nodes l (child p i) above t
  parts_of_choices-nodes l p above i (choice c t cs) =
      both (parts l (child p i) above t) (parts_of_choices l p above (i + 1) cs) (nodes (child p i) above t) (nodes_of_choices p above (i + 1) cs)
      (parts-nodes l (child p i) above t) (parts_of_choices-nodes l p above (i + 1) cs)
