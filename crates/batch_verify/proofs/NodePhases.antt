-- The phases of a tree are those that the acts at its nodes run.
use Rattle.std.proofs.Common.{◌≡◌, ℕ, zero, suc, ◌+◌, List, [], ◌∷◌, ◌++◌, length, Option, Some, None, slice_get, take, drop, sym, ap, ap₂, ◌∙◌, refl, arith, append_assoc}
use Rattle.batch_recipe.{specs.ActsAtNodes.ActList, specs.ActsAtNodes.procedure_acts, specs.ActsAtNodes.AreActsAt, specs.ActsAtNodes.IsActAt, specs.ActsAtNodes.IsNoAct, specs.Conditions.Name, specs.Expanding.task_of, specs.Expanding.unbound, specs.Needs.resources_needed, specs.Nodes.Node, specs.Nodes.nodes, specs.Nodes.nodes_within, specs.Nodes.nodes_of_each, specs.Nodes.nodes_of_choices, specs.Nodes.child, specs.Nodes.node_count, specs.Procedure.procedure_nodes, specs.Tree.Place, specs.Tree.Tree, specs.Tree.act, specs.Tree.skip, specs.Tree.seq, specs.Tree.par, specs.Tree.sel, specs.Tree.loop, specs.Tree.Task, specs.Tree.runs, specs.Tree.follows, specs.Tree.Trees, specs.Tree.no_trees, specs.Tree.tree, specs.Tree.Choices, specs.Tree.otherwise, specs.Tree.choice, specs.declared.act.Act.Act, specs.declared.act.Work.Work, specs.declared.acts.Acts.Acts, proofs.NodeSubtrees.stands, proofs.OutlineLinks.AreFrom, proofs.NodeActs.procedure_acts_are, proofs.NodeOrder.counted_nodes}
use Rattle.batch_model.specs.Cleared.{phases, phases_within, phases_of_each, phases_of_choices}
use Rattle.batch_verify.{specs.NodePhases.phase_run, specs.NodePhases.phase_at, specs.NodePhases.phases_along, specs.NodePhases.phases_between, specs.Walking.phase_names, proofs.PhaseNames.phase_names-append}

-- the phase that a tree runs at its root
abbrev run_by : Task → List Name
run_by (runs phase) = phase.name ∷ []
run_by (follows name t) = []

abbrev run_at : Tree → List Name
run_at (act s w) = run_by w
run_at skip = []
run_at (seq ts) = []
run_at (par ts) = []
run_at (sel cs) = []
run_at (loop n c t) = []

-- those that are run at nodes
abbrev run_along : List Node → List Name
run_along [] = []
run_along (x ∷ xs) = run_at x.here ++ run_along xs

run_along-append : (xs ys : List Node) → run_along (xs ++ ys) ≡ run_along xs ++ run_along ys
run_along-append [] ys = refl
run_along-append (x ∷ xs) ys = ap (λ names. run_at x.here ++ names) (run_along-append xs ys) ∙ sym (append_assoc (run_at x.here) (run_along xs) (run_along ys))

-- the phases of a tree are those that are run at its nodes
mutual
  tree_runs : (p : Place) (above : List Name) (t : Tree) → phase_names (phases t) ≡ run_along (nodes p above t)
  tree_runs p above (act s w) = task_runs p (above ++ resources_needed s.needs) w
  tree_runs p above skip = refl
  tree_runs p above (seq ts) = each_runs p above 0 ts
  tree_runs p above (par ts) = each_runs p above 0 ts
  tree_runs p above (sel cs) = choices_run p above 0 cs
  tree_runs p above (loop n c t) = tree_runs (child p 0) above t

  task_runs : (p : Place) (above : List Name) (w : Task) → phase_names (phases_within w) ≡ run_by w ++ run_along (nodes_within p above w)
  task_runs p above (runs phase) = refl
  task_runs p above (follows name t) = tree_runs (child p 0) above t

  each_runs : (p : Place) (above : List Name) (i : ℕ) (ts : Trees) → phase_names (phases_of_each ts) ≡ run_along (nodes_of_each p above i ts)
  each_runs p above i no_trees = refl
  each_runs p above i (tree t ts) =
      phase_names-append (phases t) (phases_of_each ts)
      ∙ (ap₂ (λ xs ys. xs ++ ys) (tree_runs (child p i) above t) (each_runs p above (i + 1) ts)
      ∙ sym (run_along-append (nodes (child p i) above t) (nodes_of_each p above (i + 1) ts)))

  choices_run : (p : Place) (above : List Name) (i : ℕ) (cs : Choices) → phase_names (phases_of_choices cs) ≡ run_along (nodes_of_choices p above i cs)
  choices_run p above i (otherwise t) = tree_runs (child p i) above t
  choices_run p above i (choice c t cs) =
      phase_names-append (phases t) (phases_of_choices cs)
      ∙ (ap₂ (λ xs ys. xs ++ ys) (tree_runs (child p i) above t) (choices_run p above (i + 1) cs)
      ∙ sym (run_along-append (nodes (child p i) above t) (nodes_of_choices p above (i + 1) cs)))

work_runs : (trees : Name → Place → Tree) (unit name : Name) (p : Place) (work : Work) → run_by (task_of trees unit name p work) ≡ phase_run work
work_runs trees unit name p work = grind arith

none_runs : (t : Tree) → IsNoAct t → run_at t ≡ []
none_runs t h = grind arith

module _ (acts : Acts) where
  -- the phases run at a node are those that its act runs
  node_runs : (o : Option Act) (x : Node) → IsActAt unbound acts o x → run_at x.here ≡ phase_at o
  node_runs o x h = grind (arith, none_runs, work_runs)

  nodes_run : (list : ActList) (xs : List Node) → AreActsAt unbound acts list xs → run_along xs ≡ phases_along list
  nodes_run (o ∷ list) (x ∷ xs) h = ap₂ (λ ys zs. ys ++ zs) (node_runs o x h.0) (nodes_run list xs h.1)
  nodes_run list xs h = grind arith

  taken : (n : ℕ) (list : ActList) (xs : List Node) → AreActsAt unbound acts list xs → AreActsAt unbound acts (take n list) (take n xs)
  taken zero list xs h = tt
  taken (suc n) [] [] h = tt
  taken (suc n) (o ∷ list) (x ∷ xs) h = (h.0, taken n list xs h.1)
  taken n list xs h = grind arith

  dropped : (n : ℕ) (list : ActList) (xs : List Node) → AreActsAt unbound acts list xs → AreActsAt unbound acts (drop n list) (drop n xs)
  dropped zero list xs h = h
  dropped (suc n) [] [] h = tt
  dropped (suc n) (o ∷ list) (x ∷ xs) h = dropped n list xs h.1
  dropped n list xs h = grind arith

node_is : (a b : Node) → Some a ≡ Some b → a ≡ b
node_is a b e = cc

-- nodes that are the first ones of a list
front : (n : ℕ) (ns xs : List Node) → ((j : ℕ) (x : Node) → slice_get xs j ≡ Some x → slice_get ns j ≡ Some x) → n ≡ length xs → take n ns ≡ xs
front zero ns [] h size = refl
front zero ns (x ∷ xs) h size = absurd (omega (arith, size))
front (suc n) ns [] h size = absurd (omega (arith, size))
front (suc n) [] (x ∷ xs) h size = let bad : None ≡ Some x = h 0 x refl in absurd cc
front (suc n) (y ∷ ns) (x ∷ xs) h size =
    ap₂ (λ z zs. z ∷ zs) (node_is y x (h 0 x refl)) (front n ns xs (λ j z is. h (suc j) z is) (omega (arith, size)))

-- nodes that stand from number k on
middle : (k m : ℕ) (ns xs : List Node) → AreFrom ns k xs → m ≡ k + length xs → drop k (take m ns) ≡ xs
middle zero m ns xs h size = front m ns xs (λ j x is. let same : j ≡ 0 + j = omega arith in ap (slice_get ns) same ∙ h j x is) (omega (arith, size))
middle (suc k) zero ns xs h size = absurd (omega (arith, size))
middle (suc k) (suc m) [] [] h size = refl
middle (suc k) (suc m) [] (x ∷ xs) h size = let bad : None ≡ Some x = h 0 x refl in absurd cc
middle (suc k) (suc m) (y ∷ ns) xs h size =
    middle k m ns xs (λ j x is. let same : suc (k + j) ≡ suc k + j = omega arith in ap (slice_get (y ∷ ns)) same ∙ h j x is) (omega (arith, size))

-- the phases of the tree at a node
pub node_phases : (acts : Acts) (k : ℕ) (x : Node) → slice_get (procedure_nodes acts) k ≡ Some x → phase_names (phases x.here) ≡ phases_between (procedure_acts acts) k (k + node_count x.here)
node_phases acts k x is =
    let ns = procedure_nodes acts in
    let list = procedure_acts acts in
    let here = stands unbound acts k x is in
    let xs = nodes x.place here.0 x.here in
    let end = k + node_count x.here in
    let size : end ≡ k + length xs = omega (arith, counted_nodes x.place here.0 x.here) in
    tree_runs x.place here.0 x.here
    ∙ (ap run_along (sym (middle k end ns xs here.1 size))
    ∙ nodes_run acts (drop k (take end list)) (drop k (take end ns)) (dropped acts k (take end list) (take end ns) (taken acts end list ns (procedure_acts_are unbound acts))))
