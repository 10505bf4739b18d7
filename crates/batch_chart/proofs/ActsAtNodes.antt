-- Each act of a rest of a tree is the act of one of the tree's nodes.
use Rattle.std.proofs.Common.{◌≡◌, ◌⊎◌, inl, inr, ◌<◌, ℕ, ◌+◌, List, [], ◌∷◌, ◌++◌, length, Some, true, false, arith, refl, sym, ◌∙◌, subst, ap}
use Rattle.std.specs.Prelude.{slice_get}
use Rattle.batch_recipe.{specs.Needs.resources_needed, specs.Conditions.Name, specs.Nodes.Node, specs.Nodes.node, specs.Nodes.nodes_of_each, specs.Nodes.nodes_of_choices, specs.Nodes.child, specs.Nodes.node_count, specs.Tree.Place, specs.Tree.is_before, specs.Tree.Step, specs.Tree.Task, specs.Tree.runs, specs.Tree.follows, specs.Tree.Tree, specs.Tree.act, specs.Tree.skip, specs.Tree.seq, specs.Tree.par, specs.Tree.sel, specs.Tree.loop, specs.Tree.Trees, specs.Tree.no_trees, specs.Tree.tree, specs.Tree.Choices, specs.Tree.otherwise, specs.Tree.choice, proofs.NodeOrder.counted_nodes, proofs.NodeOrder.in_order, proofs.NodesBelow.in_front}
use Rattle.batch_recipe.specs.Nodes as nodes
use Rattle.batch_model.{specs.Lists.Has, specs.Placed.IsPlaced, specs.Placed.ArePlaced, specs.Placed.IsChoicePlaced, specs.Rest.Rest, specs.Rest.ready, specs.Rest.asking, specs.Rest.open_act, specs.Rest.live, specs.Rest.freeing, specs.Rest.in_seq, specs.Rest.in_par, specs.Rest.in_loop, specs.Rest.done, specs.Rest.Rests, specs.Rest.no_rests, specs.Rest.rest, specs.Rest.acts, specs.Rest.acts_of_each, specs.Rest.place_of, specs.Standing.IsRestOf, specs.Standing.IsBranch, specs.Standing.AreBranches, specs.Standing.IsChosen, proofs.Members.Has-split}
use Rattle.batch_chart.{specs.NodesOf.nodes_of, specs.NodesOf.node_at, specs.NodesOf.place_at, specs.NodesOf.step_at, specs.NodesOf.task_at, specs.NodesOf.tree_step, specs.NodesOf.tree_task, proofs.NodeNumbers.Sits, proofs.NodeNumbers.sits-append, proofs.NodeNumbers.sits-self, proofs.ChartChange.all-has, proofs.NodesAtNumbers.get-or, specs.declared.sign.TheConstants.IS_ACT, specs.Noting.signs_of, proofs.NumberedActs.acts-all, proofs.NumberedActs.AllActs, proofs.TreePositions.below-get}
use Rattle.batch_signs.specs.Signs.{shows}

pub record IsActOf (ls : List Node) (a : Rest) : Type 0 where
  pub number : ℕ
  pub at : Node
  pub step : Step
  pub task : Task
  pub is_at : slice_get ls number ≡ Some at
  pub here : at.here ≡ act step task
  pub placed : step.place ≡ at.place
  pub rest : IsRestOf (act step task) a

module _ (ls : List Node) where
  own : (s : Step) (w : Task) (a b : Rest) (n : ℕ) (q : Place) (above : List Name) → Sits ls n (nodes.nodes q above (act s w)) → IsPlaced q (act s w) → IsRestOf (act s w) a → a ≡ b → IsActOf ls b
  own s w a b n q above g p h e =
      record { number = n; at = node q above (act s w); step = s; task = w; is_at = g.0; here = refl; placed = p.0; rest = subst (IsRestOf (act s w)) e h }

  mutual
    pub act-of : (t : Tree) (r a : Rest) (n : ℕ) (q : Place) (above : List Name) → Sits ls n (nodes.nodes q above t) → IsPlaced q t → IsRestOf t r → Has (acts r) a → IsActOf ls a
    act-of (act s w) (ready u v k) a n q above g p h (inl e) = own s w (ready u v k) a n q above g p h e
    act-of (act s w) (asking u v k) a n q above g p h (inl e) = own s w (asking u v k) a n q above g p h e
    act-of (act s w) (live u v k) a n q above g p h (inl e) = own s w (live u v k) a n q above g p h e
    act-of (act s w) (freeing u k) a n q above g p h (inl e) = own s w (freeing u k) a n q above g p h e
    act-of (act s w) (ready u v k) a n q above g p h (inr m) = absurd m
    act-of (act s w) (asking u v k) a n q above g p h (inr m) = absurd m
    act-of (act s w) (live u v k) a n q above g p h (inr m) = absurd m
    act-of (act s w) (freeing u k) a n q above g p h (inr m) = absurd m
    act-of (act s (runs x)) (open_act u r) a n q above g p h m = absurd h.1
    act-of (act s (follows name c)) (open_act u r) a n q above g p h (inl e) = own s (follows name c) (open_act u r) a n q above g p h e
    act-of (act s (follows name c)) (open_act u r) a n q above g p h (inr m) = act-of c r a (n + 1) (child q 0) (above ++ resources_needed s.needs) g.1 p.1 h.1 m
    act-of (seq cs) (in_seq r doc) a n q above g p h m = branch-of cs r doc a (n + 1) q above 0 g.1 p h m
    act-of (par cs) (in_par rs) a n q above g p h m = each-of cs rs a (n + 1) q above 0 g.1 p h m
    act-of (sel ch) r a n q above g p h m = chosen-of ch r a (n + 1) q above 0 g.1 p h m
    act-of (loop i c body) (in_loop j d b r) a n q above g p h m = act-of body r a (n + 1) (child q 0) above g.1 p h.3 m
    act-of _ done a n q above g p h m = absurd m
    act-of _ _ a n q above g p h m = absurd h

    branch-of : (ts : Trees) (r : Rest) (doc : Trees) (a : Rest) (n : ℕ) (q : Place) (above : List Name) (i : ℕ) → Sits ls n (nodes_of_each q above i ts) → ArePlaced q i ts → IsBranch ts r doc → Has (acts r) a → IsActOf ls a
    branch-of no_trees r doc a n q above i g p h m = absurd h
    branch-of (tree c cs) r doc a n q above i g p (inl h) m =
        let parts = sits-append ls n (nodes.nodes (child q i) above c) (nodes_of_each q above (i + 1) cs) g in
        act-of c r a n (child q i) above parts.0 p.0 h.0 m
    branch-of (tree c cs) r doc a n q above i g p (inr h) m =
        let parts = sits-append ls n (nodes.nodes (child q i) above c) (nodes_of_each q above (i + 1) cs) g in
        branch-of cs r doc a (n + length (nodes.nodes (child q i) above c)) q above (i + 1) parts.1 p.1 h m

    each-of : (ts : Trees) (rs : Rests) (a : Rest) (n : ℕ) (q : Place) (above : List Name) (i : ℕ) → Sits ls n (nodes_of_each q above i ts) → ArePlaced q i ts → AreBranches ts rs → Has (acts_of_each rs) a → IsActOf ls a
    each-of no_trees no_rests a n q above i g p h m = absurd m
    each-of (tree c cs) (rest r rs) a n q above i g p h m =
        let parts = sits-append ls n (nodes.nodes (child q i) above c) (nodes_of_each q above (i + 1) cs) g in
        elim (Has-split (acts r) (acts_of_each rs) a m) [
          | inl f ↦ act-of c r a n (child q i) above parts.0 p.0 h.0 f
          | inr f ↦ each-of cs rs a (n + length (nodes.nodes (child q i) above c)) q above (i + 1) parts.1 p.1 h.1 f
        ]
    each-of x y a n q above i g p h m = absurd h

    chosen-of : (ch : Choices) (r : Rest) (a : Rest) (n : ℕ) (q : Place) (above : List Name) (i : ℕ) → Sits ls n (nodes_of_choices q above i ch) → IsChoicePlaced q i ch → IsChosen ch r → Has (acts r) a → IsActOf ls a
    chosen-of (otherwise c) r a n q above i g p h m = act-of c r a n (child q i) above g p h m
    chosen-of (choice x c ch) r a n q above i g p (inl h) m =
        let parts = sits-append ls n (nodes.nodes (child q i) above c) (nodes_of_choices q above (i + 1) ch) g in
        act-of c r a n (child q i) above parts.0 p.0 h m
    chosen-of (choice x c ch) r a n q above i g p (inr h) m =
        let parts = sits-append ls n (nodes.nodes (child q i) above c) (nodes_of_choices q above (i + 1) ch) g in
        chosen-of ch r a (n + length (nodes.nodes (child q i) above c)) q above (i + 1) parts.1 p.1 h m

pub of-tree : (t : Tree) (r a : Rest) → IsPlaced (0 ∷ []) t → IsRestOf t r → Has (acts r) a → IsActOf (nodes_of t) a
of-tree t r a p h m = act-of (nodes_of t) t r a 0 (0 ∷ []) [] (sits-self (nodes_of t)) p h m

-- its place, step and task are those of the node
pub node-of : (t : Tree) (a : Rest) (g : IsActOf (nodes_of t) a) → (g.number < node_count t) × (g.step.place ≡ place_at t g.number) × (g.step ≡ step_at t g.number) × (g.task ≡ task_at t g.number)
node-of t a g =
    let lt = below-get (nodes_of t) g.number g.at g.is_at in
    let same : Some g.at ≡ Some (node_at t g.number) = sym g.is_at ∙ get-or (nodes_of t) g.number (record { place = []; asked = []; here = skip }) lt in
    let at : g.at ≡ node_at t g.number = cc in (
      omega (arith, lt, counted_nodes (0 ∷ []) [] t),
      g.placed ∙ ap (λ (n : Node). n.place) at,
      ap tree_step (sym g.here) ∙ ap (λ (n : Node). tree_step n.here) at,
      ap tree_task (sym g.here) ∙ ap (λ (n : Node). tree_task n.here) at,
    )

-- an act in line stands at a node
pub asking-at : (t : Tree) (r : Rest) (s : Step) (w : Task) (i : ℕ) → IsPlaced (0 ∷ []) t → IsRestOf t r → Has (acts r) (asking s w i)
    → (k : ℕ) × (k < node_count t) × (s.place ≡ place_at t k) × (s ≡ step_at t k) × (w ≡ task_at t k) × (i < length s.needs)
asking-at t r s w i p h m =
    let g = of-tree t r (asking s w i) p h m in
    let n = node-of t (asking s w i) g in
    (g.number, n.0, ap (λ (u : Step). u.place) g.rest.0 ∙ n.1, g.rest.0 ∙ n.2, g.rest.1 ∙ n.3, g.rest.2)

act-place : (s : Step) (w : Task) (a r : Rest) → IsRestOf (act s w) a → Has (acts r) a → (place_of a ≡ s.place) ⊎ (a ≡ done)
act-place s w (ready u v k) r h m = inl (ap (λ (u : Step). u.place) h.0)
act-place s w (asking u v k) r h m = inl (ap (λ (u : Step). u.place) h.0)
act-place s w (open_act u x) r h m = inl (ap (λ (u : Step). u.place) h.0)
act-place s w (live u v k) r h m = inl (ap (λ (u : Step). u.place) h.0)
act-place s w (freeing u k) r h m = inl (ap (λ (u : Step). u.place) h.0)
act-place s w done r h m = inr refl
act-place x1 x2 x3 x4 x5 x6 = absurd (grind arith)

not-done : (a : Rest) (r : Rest) → AllActs (acts r) → Has (acts r) a → a ≡ done → ⊥
not-done a r all h e = (let d : true ≡ false = sym (all-has (acts r) a all h) ∙ ap (λ z. shows IS_ACT (signs_of z)) e in cc)

-- any act stands at the place of a node
pub stands-at : (t : Tree) (r a : Rest) → IsPlaced (0 ∷ []) t → IsRestOf t r → Has (acts r) a → (k : ℕ) × (k < node_count t) × (place_of a ≡ place_at t k)
stands-at t r a p h m =
    let g = of-tree t r a p h m in
    let n = node-of t a g in
    (g.number, n.0, elim (act-place g.step g.task a r g.rest m) [ inl e ↦ e | inr d ↦ absurd (not-done a r (acts-all r) m d) ] ∙ n.1)

pub numbers-rise : (t : Tree) (j k : ℕ) → j < k → k < node_count t → is_before (place_at t j) (place_at t k) ≡ true
numbers-rise t j k l m =
    let c = counted_nodes (0 ∷ []) [] t in
    in_front (nodes_of t) (in_order (0 ∷ []) [] t).1 j k (node_at t j) (node_at t k) l
    (get-or (nodes_of t) j (record { place = []; asked = []; here = skip }) (omega (arith, c, l, m)))
    (get-or (nodes_of t) k (record { place = []; asked = []; here = skip }) (omega (arith, c, m)))
