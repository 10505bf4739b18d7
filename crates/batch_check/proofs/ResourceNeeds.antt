-- Needs that are resources, along whole paths.
use Rattle.std.proofs.Common.{◌≡◌, ℕ, ◌+◌, ◌<◌, ◌++◌, List, [], ◌∷◌, IsTrue, Some, true, position, length, refl, sym, ap, ◌∙◌}
use Rattle.std.{specs.List.Any, proofs.lemmas.List.Folds.Any-from_list_any, proofs.lemmas.List.Folds.list_any_at, proofs.lemmas.Option.slice_get-get_or, proofs.lemmas.Slice.Eq.bytes_eq-Decides}
use Rattle.batch_cell.specs.{LookUps.resources_of, declared.cell.Cell.Cell}
use Rattle.batch_recipe.specs.{Conditions.Name, Conditions.same_name, WellFormed.is_among, Tree.Place, Tree.Task, Tree.runs, Tree.follows, Tree.Tree, Tree.act, Tree.skip, Tree.seq, Tree.par, Tree.sel, Tree.loop, Tree.Trees, Tree.no_trees, Tree.tree, Tree.Choices, Tree.otherwise, Tree.choice, Nodes.Node, Nodes.nodes, Nodes.nodes_within, Nodes.nodes_of_each, Nodes.nodes_of_choices, Nodes.needs_of, Nodes.child, declared.need.Need.Need}
use Rattle.batch_model.{specs.Lists.Each, proofs.Members.Each-append}
use Rattle.batch_verify.proofs.RulesInBindings.{Each_left, Each_right}
use Rattle.batch_check.{specs.Edges.number_of_resource, proofs.Names.name_in-found, specs.ByName.resource_name_in}
use Rattle.batch_set.proofs.ResourceNumbers.{number-own}
use Rattle.batch_recipe.specs.Needs as own

-- a resource stands somewhere in the list of resources
pub record IsFound (c : Cell) (name : Name) : Type 0 where
  pub number : ℕ
  pub below : number < length (resources_of c)
  pub named : resource_name_in c number ≡ name
  pub numbered : number_of_resource c name ≡ Some number

pub found : (c : Cell) (name : Name) → IsTrue (is_among (resources_of c) name) → IsFound c name
found c name among =
    let any : Any (λ y. same_name name y ≡ true) (resources_of c) = Any-from_list_any (same_name name) (resources_of c) among in
    let same : name ≡ any.1 = (bytes_eq-Decides name any.1).0 any.4 in
    let named : resource_name_in c any.0 ≡ name = name_in-found c any.0 name (slice_get-get_or (resources_of c) any.0 any.1 any.2 ∙ ap (λ (n : Name). Some n) (any.3 ∙ sym same)) in
    record {
      number = any.0;
      below = any.2;
      named = named;
      numbered = ap (λ (n : Name). position (same_name n) (resources_of c)) (sym named) ∙ number-own c any.0 any.2;
    }

pub name_among : (c : Cell) (number : ℕ) → number < length (resources_of c) → IsTrue (is_among (resources_of c) (resource_name_in c number))
name_among c number below = list_any_at (same_name (resource_name_in c number)) (resources_of c) number [] below ((bytes_eq-Decides (resource_name_in c number) (resource_name_in c number)).1 refl)

-- where the needs of each node are known, all that is asked for on its path is
module _ (K : Name → Type 0) where
  abbrev Own : Node → Type 0
  Own n = Each (λ need. K need.resource) (needs_of n.here)

  abbrev Path : Node → Type 0
  Path n = Each K n.asked

  known_resources : (needs : List Need) → Each (λ need. K need.resource) needs → Each K (own.resources_needed needs)
  known_resources [] h = tt
  known_resources (need ∷ needs) h = (h.0, known_resources needs h.1)

  mutual
    pub known_path : (p : Place) (above : List Name) (t : Tree) → Each K above → Each Own (nodes p above t) → Each Path (nodes p above t)
    known_path p above (act s w) k h =
        let whole : Each K (above ++ own.resources_needed s.needs) = Each-append K above (own.resources_needed s.needs) k (known_resources s.needs h.0) in
        (whole, known_within p (above ++ own.resources_needed s.needs) w whole h.1)
    known_path p above skip k h = (Each-append K above [] k tt, tt)
    known_path p above (seq ts) k h = (Each-append K above [] k tt, known_each p above 0 ts k h.1)
    known_path p above (par ts) k h = (Each-append K above [] k tt, known_each p above 0 ts k h.1)
    known_path p above (sel cs) k h = (Each-append K above [] k tt, known_choices p above 0 cs k h.1)
    known_path p above (loop n c t) k h = (Each-append K above [] k tt, known_path (child p 0) above t k h.1)

    known_within : (p : Place) (above : List Name) (w : Task) → Each K above → Each Own (nodes_within p above w) → Each Path (nodes_within p above w)
    known_within p above (runs phase) k h = tt
    known_within p above (follows name t) k h = known_path (child p 0) above t k h

    known_each : (p : Place) (above : List Name) (i : ℕ) (ts : Trees) → Each K above → Each Own (nodes_of_each p above i ts) → Each Path (nodes_of_each p above i ts)
    known_each p above i no_trees k h = tt
    known_each p above i (tree t ts) k h =
        let xs = nodes (child p i) above t in
        let ys = nodes_of_each p above (i + 1) ts in
        Each-append Path xs ys (known_path (child p i) above t k (Each_left Own xs ys h)) (known_each p above (i + 1) ts k (Each_right Own xs ys h))

    known_choices : (p : Place) (above : List Name) (i : ℕ) (cs : Choices) → Each K above → Each Own (nodes_of_choices p above i cs) → Each Path (nodes_of_choices p above i cs)
    known_choices p above i (otherwise t) k h = known_path (child p i) above t k h
    known_choices p above i (choice c t cs) k h =
        let xs = nodes (child p i) above t in
        let ys = nodes_of_choices p above (i + 1) cs in
        Each-append Path xs ys (known_path (child p i) above t k (Each_left Own xs ys h)) (known_choices p above (i + 1) cs k (Each_right Own xs ys h))
