-- Each node of the tree stands at its number.
use Rattle.std.proofs.Common.{◌≡◌, ◌<◌, ℕ, zero, suc, ◌+◌, List, [], ◌∷◌, ◌++◌, length, Some, None, arith, refl, sym, subst}
use Rattle.std.specs.Prelude.{⊤, slice_get, slice_index_or, Option}
use Rattle.batch_recipe.{specs.Conditions.Name, specs.Expanding.Binding, specs.Needs.resources_needed, specs.Nodes.node_count, specs.Nodes.nodes_within, specs.Nodes.nodes_of_each, specs.Nodes.nodes_of_choices, specs.Nodes.child, specs.Tree.Place, specs.Tree.Step, specs.Tree.Task, specs.Tree.runs, specs.Tree.follows, specs.Tree.Tree, specs.Tree.act, specs.Tree.skip, specs.Tree.seq, specs.Tree.par, specs.Tree.sel, specs.Tree.loop, specs.Tree.Trees, specs.Tree.no_trees, specs.Tree.tree, specs.Tree.Choices, specs.Tree.otherwise, specs.Tree.choice, proofs.NodeOrder.counted_nodes, specs.declared.entry.Entry.Entry, specs.declared.recipe.Recipe.Recipe}
use Rattle.batch_recipe.specs.Nodes as nodes
use Rattle.batch_chart.specs.{Outlined.StandsOn, Outlined.StandsActOn, Outlined.AreStandingOn, Outlined.AreChoicesOn, Outlined.Stands, NodesOf.nodes_of, NodesOf.node_at, Running.IsLaid}

pub get-or : {X : Type 0} (l : List X) (k : ℕ) (d : X) → k < length l → slice_get l k ≡ Some (slice_index_or l k d)
get-or [] k d h = absurd (omega arith)
get-or (x ∷ l) zero d h = refl
get-or (x ∷ l) (suc k) d h = get-or l k d (omega arith)

pub node-got : (ns : List Entry) (doc : Recipe) (t : Tree) → IsLaid ns doc t → (k : ℕ) → k < length ns → slice_get (nodes_of t) k ≡ Some (node_at t k)
node-got ns doc t laid k lt = get-or (nodes_of t) k (record { place = []; asked = []; here = skip }) (omega (arith, laid.count, counted_nodes (0 ∷ []) [] t))

module _ (some : Option Binding) (ns : List Entry) (doc : Recipe) where
  abbrev AllStand : ℕ → List nodes.Node → Type 0
  AllStand n [] = ⊤
  AllStand n (m ∷ l) = StandsOn some ns doc n m.here × AllStand (n + 1) l

  append : (n : ℕ) (l r : List nodes.Node) → AllStand n l → AllStand (n + length l) r → AllStand n (l ++ r)
  append n [] r g h = (let e : n + 0 ≡ n = omega arith in subst (λ z. AllStand z r) e h)
  append n (m ∷ l) r g h = (let e : n + length (m ∷ l) ≡ n + 1 + length l = omega arith in (g.0, append (n + 1) l r g.1 (subst (λ z. AllStand z r) e h)))

  mutual
    all-stand : (c : Tree) (n : ℕ) (q : Place) (above : List Name) → StandsOn some ns doc n c → AllStand n (nodes.nodes q above c)
    all-stand (act s w) n q above h = (h, below-stand s w n q (above ++ resources_needed s.needs) h)
    all-stand skip n q above h = (h, tt)
    all-stand (seq ts) n q above h = (h, each-stand ts (n + 1) (n + node_count (seq ts)) q above 0 h.1)
    all-stand (par ts) n q above h = (h, each-stand ts (n + 1) (n + node_count (par ts)) q above 0 h.1)
    all-stand (sel ch) n q above h = (h, choices-stand ch h.0 (n + 1) (n + node_count (sel ch)) q above 0 h.2)
    all-stand (loop i p body) n q above h = (h, all-stand body (n + 1) (child q 0) above h.3)

    below-stand : (s : Step) (w : Task) (n : ℕ) (q : Place) (above : List Name) → StandsActOn some ns doc n s w → AllStand (n + 1) (nodes_within q above w)
    below-stand s (runs p) n q above h = tt
    below-stand s (follows name c) n q above h = all-stand c (n + 1) (child q 0) above h.1

    each-stand : (ts : Trees) (n m : ℕ) (q : Place) (above : List Name) (i : ℕ) → AreStandingOn some ns doc n m ts → AllStand n (nodes_of_each q above i ts)
    each-stand no_trees n m q above i h = tt
    each-stand (tree c ts) n m q above i h =
        append n (nodes.nodes (child q i) above c) (nodes_of_each q above (i + 1) ts) (all-stand c n (child q i) above h.0)
        (subst (λ z. AllStand (n + z) (nodes_of_each q above (i + 1) ts)) (sym (counted_nodes (child q i) above c)) (each-stand ts (n + node_count c) m q above (i + 1) h.1))

    choices-stand : (ch : Choices) (d n m : ℕ) (q : Place) (above : List Name) (i : ℕ) → AreChoicesOn some ns doc d n m ch → AllStand n (nodes_of_choices q above i ch)
    choices-stand (otherwise c) d n m q above i h = all-stand c n (child q i) above h.0
    choices-stand (choice p c ch) d n m q above i h =
        append n (nodes.nodes (child q i) above c) (nodes_of_choices q above (i + 1) ch) (all-stand c n (child q i) above h.1)
        (subst (λ z. AllStand (n + z) (nodes_of_choices q above (i + 1) ch)) (sym (counted_nodes (child q i) above c)) (choices-stand ch (d + 1) (n + node_count c) m q above (i + 1) h.2))

  got : (l : List nodes.Node) (n k : ℕ) (m : nodes.Node) → AllStand n l → slice_get l k ≡ Some m → StandsOn some ns doc (n + k) m.here
  got [] n k m g e = absurd (cc)
  got (x ∷ l) n zero m g e = (let same : x ≡ m = cc in let z : n ≡ n + 0 = omega arith in subst (λ i. StandsOn some ns doc i m.here) z (subst (λ (y : nodes.Node). StandsOn some ns doc n y.here) same g.0))
  got (x ∷ l) n (suc k) m g e = (let z : n + 1 + k ≡ n + suc k = omega arith in subst (λ i. StandsOn some ns doc i m.here) z (got l (n + 1) k m g.1 e))

  pub stands-at : (t : Tree) → IsLaid ns doc t → StandsOn some ns doc 0 t → (k : ℕ) → k < length ns → StandsOn some ns doc k (node_at t k).here
  stands-at t laid h k lt =
      let z : 0 + k ≡ k = omega arith in
      subst (λ i. StandsOn some ns doc i (node_at t k).here) z (got (nodes_of t) 0 k (node_at t k) (all-stand t 0 (0 ∷ []) [] h) (node-got ns doc t laid k lt))

module _ (ns : List Entry) (doc : Recipe) where
  pub node-stands : (t : Tree) → IsLaid ns doc t → (k : ℕ) → k < length ns → Stands ns doc k (node_at t k).here
  node-stands t laid k lt = stands-at None ns doc t laid laid.stands k lt
