-- A tree that stands for one binding stands whatever units the phases run on.
use Rattle.std.proofs.Common.{ℕ, ◌+◌, List, Some}
use Rattle.batch_recipe.specs.{Expanding.Binding, Nodes.node_count, Tree.Step, Tree.Task, Tree.runs, Tree.follows, Tree.Tree, Tree.act, Tree.skip, Tree.seq, Tree.par, Tree.sel, Tree.loop, Tree.Trees, Tree.no_trees, Tree.tree, Tree.Choices, Tree.otherwise, Tree.choice, declared.entry.Entry.Entry, declared.recipe.Recipe.Recipe}
use Rattle.batch_chart.specs.Outlined.{StandsOn, StandsActOn, AreStandingOn, AreChoicesOn, Stands, StandsAct, AreStanding, AreChoices}

module _ (bound : Binding) (ns : List Entry) (doc : Recipe) where
  mutual
    pub untied : (c : Tree) (n : ℕ) → StandsOn (Some bound) ns doc n c → Stands ns doc n c
    untied (act s w) n h = untied-act s w n h
    untied skip n h = h
    untied (seq ts) n h = (h.0, untied-each ts (n + 1) (n + node_count (seq ts)) h.1)
    untied (par ts) n h = (h.0, untied-each ts (n + 1) (n + node_count (par ts)) h.1)
    untied (sel ch) n h = (h.0, h.1, untied-choices ch h.0 (n + 1) (n + node_count (sel ch)) h.2)
    untied (loop k p body) n h = (h.0, h.1, h.2, untied body (n + 1) h.3)

    untied-act : (s : Step) (w : Task) (n : ℕ) → StandsActOn (Some bound) ns doc n s w → StandsAct ns doc n s w
    untied-act s (runs p) n h = (h.0, h.1, h.2, tt)
    untied-act s (follows name c) n h = (h.0, untied c (n + 1) h.1)

    pub untied-each : (ts : Trees) (n m : ℕ) → AreStandingOn (Some bound) ns doc n m ts → AreStanding ns doc n m ts
    untied-each no_trees n m h = h
    untied-each (tree c ts) n m h = (untied c n h.0, untied-each ts (n + node_count c) m h.1)

    pub untied-choices : (ch : Choices) (i n m : ℕ) → AreChoicesOn (Some bound) ns doc i n m ch → AreChoices ns doc i n m ch
    untied-choices (otherwise c) i n m h = (untied c n h.0, h.1)
    untied-choices (choice p c ch) i n m h = (h.0, untied c n h.1, untied-choices ch (i + 1) (n + node_count c) m h.2)
