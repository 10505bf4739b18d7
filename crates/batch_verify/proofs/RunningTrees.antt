-- A tree that stands at a node, of which it is known whether it surely runs a phase.
use Rattle.std.proofs.Common.{◌≡◌, ℕ, ◌+◌, ◌<◌, ◌≤◌, List, Bool, false, length, get_or, Some, slice_get, sym, ap, ◌∙◌, arith}
use Rattle.std.proofs.lemmas.Option.{slice_get-get_or}
use Rattle.batch_recipe.{specs.Children.IsHere, specs.Links.IsEntryOf, specs.Nodes.Node, specs.Nodes.node_count, specs.Tree.Tree, specs.declared.entry.Entry.Entry, specs.declared.recipe.Recipe.Recipe, proofs.NodeSubtrees.some_count, proofs.NodesAbove.ns, proofs.NodesAbove.entry_at}
use Rattle.batch_model.specs.Cleared.{surely_runs}
use Rattle.batch_verify.specs.RunningNodes.{RunsFrom}

-- one element stands at a number
pub same_at : {X : Type 0} (xs : List X) (node : ℕ) (x y : X) → slice_get xs node ≡ Some x → slice_get xs node ≡ Some y → x ≡ y
same_at xs node x y is at = let e : Some x ≡ Some y = sym is ∙ at in cc

-- the answer that was read
pub bool_at : (runs : List Bool) (node from : ℕ) (b : Bool) → node < length runs → from ≡ node → get_or runs from false ≡ b → slice_get runs node ≡ Some b
bool_at runs node from b within same is = slice_get-get_or runs node false within ∙ ap Some (ap (λ n. get_or runs n false) (sym same) ∙ is)

-- the answer for the node is the answer for the tree
pub known_at : (r : Recipe) (runs : List Bool) (first : ℕ) → RunsFrom (ns r) runs first → (node : ℕ) → first ≤ node → (b : Bool) → slice_get runs node ≡ Some b
    → (t : Tree) → IsHere (ns r) node t → b ≡ surely_runs t
known_at r runs first known node past b read t h = same_at runs node b (surely_runs h.0.here) read (known.1 node h.0 past h.1) ∙ ap surely_runs h.2

module _ (r : Recipe) (node : ℕ) (e : Entry) (read : slice_get r.outline.entries.items node ≡ Some e) where
  it : IsEntryOf (ns r) node e
  it = entry_at r node e read

  pub ends_at : (t : Tree) → IsHere (ns r) node t → node + node_count t ≡ e.end
  ends_at t h =
      let same : it.at ≡ h.0 = same_at (ns r) node it.at h.0 it.numbered h.1 in
      let size : node_count it.at.here ≡ node_count t = ap (λ (x : Node). node_count x.here) same ∙ ap node_count h.2 in
      omega (arith, it.shaped.ended, size)

  pub ends_later : node < e.end
  ends_later = omega (arith, it.shaped.ended, some_count it.at.here)
