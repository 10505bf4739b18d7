-- Branches one after another, of which some surely run a phase.
use Rattle.std.proofs.Common.{◌≡◌, ℕ, ◌+◌, ◌<◌, ◌≤◌, List, Bool, true, false, ◌||◌, Some, slice_get, ap, ◌∙◌, refl, subst, arith}
use Rattle.batch_recipe.{specs.Children.AreHere, specs.Nodes.node_count, specs.Tree.Trees, specs.Tree.no_trees, specs.Tree.tree, specs.declared.entry.Entry.Entry, specs.declared.recipe.Recipe.Recipe, proofs.NodeSubtrees.some_count, proofs.NodesAbove.ns}
use Rattle.batch_model.specs.Cleared.{some_surely_runs}
use Rattle.batch_verify.{specs.RunningNodes.RunsFrom, proofs.RunningTrees.known_at, proofs.RunningTrees.ends_at, proofs.RunningTrees.ends_later}

-- branches end no earlier than they begin
later : (r : Recipe) (end k : ℕ) (ts : Trees) → AreHere (ns r) k end ts → k ≤ end
later r end k no_trees h = omega (arith, h)
later r end k (tree t ts) h = omega (arith, later r end (k + node_count t) ts h.1)

module _ (r : Recipe) (first end : ℕ) where
  -- the answer for the branches that are left is the answer for all
  pub record KeepsSome (node : ℕ) : Type 0 where
    pub past : first ≤ node
    pub all : (b : Bool) → ((ts : Trees) → AreHere (ns r) node end ts → b ≡ some_surely_runs ts) → (ts : Trees) → AreHere (ns r) first end ts → b ≡ some_surely_runs ts

  pub KeepsSome-first : KeepsSome first
  KeepsSome-first = record { past = omega arith; all = λ b h. h }

module _ (r : Recipe) (runs : List Bool) (first end : ℕ) (known : RunsFrom (ns r) runs first) (node : ℕ) (keeps : KeepsSome r first end node) where
  none_left : end ≤ node → (ts : Trees) → AreHere (ns r) node end ts → false ≡ some_surely_runs ts
  none_left past no_trees h = refl
  none_left past (tree t ts) h = absurd (omega (arith, some_count t, later r end (node + node_count t) ts h.1, past))

  pub KeepsSome-none : end ≤ node → (ts : Trees) → AreHere (ns r) first end ts → false ≡ some_surely_runs ts
  KeepsSome-none past = keeps.all false (none_left past)

  module _ (more : node < end) where
    found : slice_get runs node ≡ Some true → (ts : Trees) → AreHere (ns r) node end ts → true ≡ some_surely_runs ts
    found read no_trees h = absurd (omega (arith, more, h))
    found read (tree t ts) h = ap (λ a. a || some_surely_runs ts) (known_at r runs first known node keeps.past true read t h.0)

    pub KeepsSome-found : slice_get runs node ≡ Some true → (ts : Trees) → AreHere (ns r) first end ts → true ≡ some_surely_runs ts
    KeepsSome-found read = keeps.all true (found read)

    module _ (read : slice_get runs node ≡ Some false) (e : Entry) (at : slice_get r.outline.entries.items node ≡ Some e) where
      next : (c : Bool) → ((ts : Trees) → AreHere (ns r) e.end end ts → c ≡ some_surely_runs ts) → (ts : Trees) → AreHere (ns r) node end ts → c ≡ some_surely_runs ts
      next c rest no_trees h = absurd (omega (arith, more, h))
      next c rest (tree t ts) h =
          rest ts (subst (λ k. AreHere (ns r) k end ts) (ends_at r node e at t h.0) h.1)
          ∙ ap (λ a. a || some_surely_runs ts) (known_at r runs first known node keeps.past false read t h.0)

      pub KeepsSome-next : KeepsSome r first end e.end
      KeepsSome-next = record { past = omega (arith, keeps.past, ends_later r node e at); all = λ c rest. keeps.all c (next c rest) }
