-- The branches of a selection one after another, each of which surely runs a phase.
use Rattle.std.proofs.Common.{◌≡◌, ℕ, ◌+◌, ◌<◌, ◌≤◌, List, Bool, true, false, ◌&&◌, Some, slice_get, ap, ◌∙◌, refl, subst, arith}
use Rattle.batch_recipe.{specs.Children.AreCasesHere, specs.Nodes.node_count, specs.Tree.Choices, specs.Tree.otherwise, specs.Tree.choice, specs.declared.entry.Entry.Entry, specs.declared.recipe.Recipe.Recipe, proofs.NodeSubtrees.some_count, proofs.NodesAbove.ns}
use Rattle.batch_model.specs.Cleared.{each_surely_runs}
use Rattle.batch_verify.{specs.RunningNodes.RunsFrom, proofs.RunningTrees.known_at, proofs.RunningTrees.ends_at, proofs.RunningTrees.ends_later}

-- a selection has a branch
later : (r : Recipe) (end k : ℕ) (cs : Choices) → AreCasesHere (ns r) k end cs → k < end
later r end k (otherwise t) h = omega (arith, h.1, some_count t)
later r end k (choice c t cs) h = omega (arith, later r end (k + node_count t) cs h.1, some_count t)

module _ (r : Recipe) (first end : ℕ) where
  -- the answer for the branches that are left, true if none is, is the answer for all
  pub record KeepsAll (node : ℕ) : Type 0 where
    pub past : first ≤ node
    pub all : (b : Bool) → (end ≤ node → b ≡ true) → ((cs : Choices) → AreCasesHere (ns r) node end cs → b ≡ each_surely_runs cs) → (cs : Choices) → AreCasesHere (ns r) first end cs → b ≡ each_surely_runs cs

  pub KeepsAll-first : KeepsAll first
  KeepsAll-first = record { past = omega arith; all = λ b done h. h }

module _ (r : Recipe) (runs : List Bool) (first end : ℕ) (known : RunsFrom (ns r) runs first) (node : ℕ) (keeps : KeepsAll r first end node) where
  pub KeepsAll-all : end ≤ node → (cs : Choices) → AreCasesHere (ns r) first end cs → true ≡ each_surely_runs cs
  KeepsAll-all past = keeps.all true (λ _. refl) (λ cs h. absurd (omega (arith, later r end node cs h, past)))

  module _ (more : node < end) where
    fails : slice_get runs node ≡ Some false → (cs : Choices) → AreCasesHere (ns r) node end cs → false ≡ each_surely_runs cs
    fails read (otherwise t) h = known_at r runs first known node keeps.past false read t h.0
    fails read (choice c t cs) h = ap (λ a. a && each_surely_runs cs) (known_at r runs first known node keeps.past false read t h.0)

    pub KeepsAll-found : slice_get runs node ≡ Some false → (cs : Choices) → AreCasesHere (ns r) first end cs → false ≡ each_surely_runs cs
    KeepsAll-found read = keeps.all false (λ past. absurd (omega (arith, past, more))) (fails read)

    module _ (read : slice_get runs node ≡ Some true) (e : Entry) (at : slice_get r.outline.entries.items node ≡ Some e) where
      next : (c : Bool) → (end ≤ e.end → c ≡ true) → ((cs : Choices) → AreCasesHere (ns r) e.end end cs → c ≡ each_surely_runs cs)
          → (cs : Choices) → AreCasesHere (ns r) node end cs → c ≡ each_surely_runs cs
      next c done rest (otherwise t) h = done (omega (arith, ends_at r node e at t h.0, h.1)) ∙ known_at r runs first known node keeps.past true read t h.0
      next c done rest (choice p t cs) h =
          rest cs (subst (λ k. AreCasesHere (ns r) k end cs) (ends_at r node e at t h.0) h.1)
          ∙ ap (λ a. a && each_surely_runs cs) (known_at r runs first known node keeps.past true read t h.0)

      pub KeepsAll-next : KeepsAll r first end e.end
      KeepsAll-next = record {
        past = omega (arith, keeps.past, ends_later r node e at);
        all = λ c done rest. keeps.all c (λ past. absurd (omega (arith, past, more))) (next c done rest);
      }
