-- Whether a node surely runs a phase, by its form and by the answers for the nodes below it.
use Rattle.std.proofs.Common.{◌≡◌, ◌≢◌, ◌⊎◌, ℕ, ◌+◌, ◌<◌, ◌≤◌, List, Bool, true, false, length, Some, slice_get, sym, ap, ◌∙◌, subst, arith}
use Rattle.batch_recipe.{specs.Children.AreHere, specs.Children.AreCasesHere, specs.Children.HasBelow, specs.Expanding.unbound, specs.Links.IsEntryOf, specs.Links.form_at, specs.Nodes.Node, specs.Nodes.node_count, specs.Outlines.Form, specs.Outlines.an_act, specs.Outlines.a_skip, specs.Outlines.a_seq, specs.Outlines.a_par, specs.Outlines.a_sel, specs.Outlines.a_loop, specs.Outlines.form_of, specs.Tree.Tree, specs.Tree.Trees, specs.Tree.Choices, specs.declared.entry.Entry.Entry, specs.declared.recipe.Recipe.Recipe, proofs.NodeSubtrees.some_count, proofs.NodeSubtrees.has_below, proofs.NodeSubtrees.ends_within, proofs.NodesAbove.ns, proofs.NodesAbove.entry_at}
use Rattle.batch_model.specs.Cleared.{surely_runs, some_surely_runs, each_surely_runs}
use Rattle.batch_verify.{specs.RunningNodes.RunsFrom, proofs.RunningTrees.known_at, proofs.RunningTrees.same_at}

module _ (r : Recipe) (known : List Bool) (node end : ℕ) where
  -- the answer for a node of this form, if all nodes below it come before `end`
  abbrev pub Says : Bool → Form → Type 0
  Says b an_act = ((end ≡ node + 1) × (b ≡ true)) ⊎ ((end ≢ node + 1) × (slice_get known (node + 1) ≡ Some b))
  Says b a_skip = b ≡ false
  Says b a_seq = (ts : Trees) → AreHere (ns r) (node + 1) end ts → b ≡ some_surely_runs ts
  Says b a_par = (ts : Trees) → AreHere (ns r) (node + 1) end ts → b ≡ some_surely_runs ts
  Says b a_sel = (cs : Choices) → AreCasesHere (ns r) (node + 1) end cs → b ≡ each_surely_runs cs
  Says b a_loop = slice_get known (node + 1) ≡ Some b

  module _ (is_known : RunsFrom (ns r) known (node + 1)) (b : Bool) where
    -- then the answer is that for the tree there
    runs_so : (t : Tree) → node + node_count t ≡ end → HasBelow (ns r) node t → Says b (form_at t) → b ≡ surely_runs t
    runs_so t e h g = grind (arith, some_count, known_at)

-- of the entry that stands for a node
module _ (r : Recipe) (node : ℕ) (e : Entry) (read : slice_get r.outline.entries.items node ≡ Some e) where
  it : IsEntryOf (ns r) node e
  it = entry_at r node e read

  -- all below it is in the recipe
  pub end_within : e.end ≤ length (ns r)
  end_within = omega (arith, it.shaped.ended, ends_within unbound r.acts node it.at it.numbered)

  -- something stands below an act that ends later
  pub chart_within : e.end ≢ node + 1 → node + 1 < length (ns r)
  chart_within long = omega (arith, long, it.shaped.ended, some_count it.at.here, end_within)

  long_loop : (t : Tree) → form_at t ≡ a_loop → 1 < node_count t
  long_loop t f = grind (arith, some_count)

  pub body_within : form_of e.kind ≡ a_loop → node + 1 < length (ns r)
  body_within f = omega (arith, long_loop it.at.here (sym it.shaped.formed ∙ f), it.shaped.ended, end_within)

  -- the answer for its form is the answer for its node
  pub told : (known : List Bool) → RunsFrom (ns r) known (node + 1) → (f : Form) → form_of e.kind ≡ f → (b : Bool) → Says r known node e.end b f
      → (x : Node) → slice_get (ns r) node ≡ Some x → b ≡ surely_runs x.here
  told known is_known f form b h x at =
      let same : it.at ≡ x = same_at (ns r) node it.at x it.numbered at in
      let g : Says r known node e.end b (form_at it.at.here) = subst (λ k. Says r known node e.end b k) (sym form ∙ it.shaped.formed) h in
      runs_so r known node e.end is_known b it.at.here (sym it.shaped.ended) (has_below unbound r.acts node it.at it.numbered) g ∙ ap (λ (y : Node). surely_runs y.here) same
