-- The node to which an act passes on a need.
use Rattle.std.proofs.Common.{◌≡◌, ◌<◌, ℕ, zero, suc, ◌+◌, List, [], ◌∷◌, length, Bool, true, false, Some, None, nat_eq, cond, arith, refl, sym, ◌∙◌, ap}
use Rattle.std.{specs.Prelude.Option, specs.Prelude.IfSome, specs.Prelude.IsNone, specs.Prelude.find, specs.Prelude.slice_get, specs.Prelude.option_map, specs.Prelude.option_and_then, proofs.lemmas.Bool.Decides.nat_tests}
use Rattle.batch_recipe.{specs.ActsAtNodes.IsNoAct, specs.ActsAtNodes.procedure_acts, specs.Conditions.Name, specs.Expanding.Binding, specs.Expanding.unbound, specs.Expanding.reserves_from, specs.Expanding.unit_count, specs.Followers.IsFollowerAt, specs.Followers.follower_of, specs.Following.follower, specs.Nodes.Node, specs.Nodes.node_count, specs.Places.IsNodeAt, specs.Procedure.bound_nodes, specs.Procedure.bound_tree, specs.Procedure.procedure_nodes, specs.Tree.Place, specs.Tree.Reserve, specs.Tree.Step, specs.Tree.Tree, specs.Tree.act, specs.Tree.skip, specs.Tree.seq, specs.Tree.par, specs.Tree.sel, specs.Tree.loop, specs.declared.act.Act.Act, specs.declared.recipe.Recipe.Recipe, proofs.Followers.act_of_node, proofs.NodeOrder.counted_nodes}
use Rattle.batch_model.specs.Moves.{reserved_place}
use Rattle.batch_chart.{specs.NodesOf.node_at, specs.NodesOf.place_at, specs.NodesOf.step_at, specs.NodesOf.tree_step, specs.Passing.PassesTo, proofs.RecipeChart.is_chart, proofs.NodesAtNumbers.get-or}

-- the reserved unit procedures by the numbers of their needs

cond-so : {X : Type 0} (b : Bool) (x y : X) → b ≡ true → cond b x y ≡ x
cond-so true x y e = refl
cond-so false x y e = absurd (cc)

cond-not : {X : Type 0} (b : Bool) (x y : X) → b ≡ false → cond b x y ≡ y
cond-not true x y e = absurd (cc)
cond-not false x y e = refl

reserved-at : (names : List Name) (from j i : ℕ) → from + j ≡ i → find (λ (x : Reserve). nat_eq x.need i) (reserves_from from names) ≡ slice_get (reserves_from from names) j
reserved-at [] from j i e = refl
reserved-at (name ∷ names) from zero i e = cond-so (nat_eq from i) _ _ (let d : from ≡ i = omega arith in grind (arith, nat_tests))
reserved-at (name ∷ names) from (suc j) i e =
    cond-not (nat_eq from i) _ _ (let d : from < i = omega arith in grind (arith, nat_tests)) ∙ reserved-at names (from + 1) j i (omega arith)

reserved-below : (names : List Name) (from i : ℕ) → i < from → find (λ (x : Reserve). nat_eq x.need i) (reserves_from from names) ≡ None
reserved-below [] from i lt = refl
reserved-below (name ∷ names) from i lt = cond-not (nat_eq from i) _ _ (grind (arith, nat_tests)) ∙ reserved-below names (from + 1) i (omega arith)

module _ (doc : Recipe) (n : ℕ) where
  -- the node in the tree
  here : (bound : Binding) → n < node_count (bound_tree bound doc.acts) → slice_get (bound_nodes bound doc.acts) n ≡ Some (node_at (bound_tree bound doc.acts) n)
  here bound lt = get-or (bound_nodes bound doc.acts) n _ (omega (arith, lt, counted_nodes (0 ∷ []) [] (bound_tree bound doc.acts)))

  place-of : (t : Tree) (to : ℕ) (place : Place) → IsNodeAt (Rattle.batch_recipe.specs.Nodes.nodes (0 ∷ []) [] t) to place → place_at t to ≡ place
  place-of t to place h = ap (λ (x : Node). x.place) (at-index (Rattle.batch_recipe.specs.Nodes.nodes (0 ∷ []) [] t) to h.0 h.1) ∙ h.2
    where
      at-index : (l : List Node) (k : ℕ) (x : Node) → slice_get l k ≡ Some x → Rattle.std.specs.Prelude.slice_index_or l k (record { place = []; asked = []; here = skip }) ≡ x
      at-index [] k x e = let bad : None ≡ Some x = e in cc
      at-index (y ∷ l) zero x e = let q : Some y ≡ Some x = e in cc
      at-index (y ∷ l) (suc k) x e = at-index l k x e

  pub as-counted : (bound : Binding) → n < node_count (bound_tree bound doc.acts) → n < length (procedure_nodes doc.acts)
  as-counted bound lt =
      omega (arith, lt, counted_nodes (0 ∷ []) [] (bound_tree unbound doc.acts), (is_chart doc bound).0.count, (is_chart doc unbound).0.count)

  -- none where no act is at the node
  no-reserves : (c : Tree) → IsNoAct c → (tree_step c).reserves ≡ []
  no-reserves (act s w) h = absurd h
  no-reserves skip h = refl
  no-reserves (seq ts) h = refl
  no-reserves (par ts) h = refl
  no-reserves (sel ch) h = refl
  no-reserves (loop k p body) h = refl

  abbrev Placed : Tree → Step → Option Reserve → Option Place
  Placed t s o = option_and_then (λ (x : Reserve). follower t s.place x.name) o

  pub passes-no_act : (i : ℕ) → (n < length (procedure_nodes doc.acts) → slice_get (procedure_acts doc.acts) n ≡ Some None) → PassesTo doc n i None
  passes-no_act i known bound lt =
      let t = bound_tree bound doc.acts in
      let none = act_of_node doc bound n (node_at t n) None (here bound lt) (known (as-counted bound lt)) in
      sym (ap (λ xs. Placed t (step_at t n) (find (λ (x : Reserve). nat_eq x.need i) xs)) (no-reserves (node_at t n).here none))

  module _ (a : Act) (known : slice_get (procedure_acts doc.acts) n ≡ Some (Some a)) where
    step-is : (bound : Binding) → n < node_count (bound_tree bound doc.acts)
        → ((step_at (bound_tree bound doc.acts) n).reserves ≡ reserves_from (unit_count a.unit) a.reserves.items) × ((step_at (bound_tree bound doc.acts) n).place ≡ place_at (bound_tree bound doc.acts) n)
    step-is bound lt =
        let t = bound_tree bound doc.acts in
        let h = act_of_node doc bound n (node_at t n) (Some a) (here bound lt) known in
        (ap (λ c. (tree_step c).reserves) h.here_is, ap (λ c. (tree_step c).place) h.here_is)

    -- a need before those that it reserves
    pub passes-before : (i : ℕ) → i < unit_count a.unit → PassesTo doc n i None
    passes-before i less bound lt =
        let t = bound_tree bound doc.acts in
        sym (ap (Placed t (step_at t n)) (ap (find (λ (x : Reserve). nat_eq x.need i)) (step-is bound lt).0 ∙ reserved-below a.reserves.items (unit_count a.unit) i less))

    module _ (i j : ℕ) (is : unit_count a.unit + j ≡ i) (result : Option ℕ)
        (some : (bound : Binding) (at : Node) → slice_get (bound_nodes bound doc.acts) n ≡ Some at → IfSome result (λ to. IsFollowerAt bound doc.acts at j to))
        (none : (bound : Binding) (at : Node) → slice_get (bound_nodes bound doc.acts) n ≡ Some at → IsNone result → follower_of (bound_tree bound doc.acts) at j ≡ None) where
      -- the follower of the node with number j
      follows-so : (bound : Binding) (lt : n < node_count (bound_tree bound doc.acts))
          → reserved_place (bound_tree bound doc.acts) (step_at (bound_tree bound doc.acts) n) i ≡ follower_of (bound_tree bound doc.acts) (node_at (bound_tree bound doc.acts) n) j
      follows-so bound lt =
          let t = bound_tree bound doc.acts in
          let s = step-is bound lt in
          let h = act_of_node doc bound n (node_at t n) (Some a) (here bound lt) known in
          let all : Rattle.batch_recipe.specs.Nodes.reserves_of (node_at t n).here ≡ reserves_from (unit_count a.unit) a.reserves.items = ap Rattle.batch_recipe.specs.Nodes.reserves_of h.here_is in
          ap (Placed t (step_at t n)) (ap (find (λ (x : Reserve). nat_eq x.need i)) s.0 ∙ reserved-at a.reserves.items (unit_count a.unit) j i is)
          ∙ ap (λ p. option_and_then (λ (x : Reserve). follower t p x.name) (slice_get (reserves_from (unit_count a.unit) a.reserves.items) j)) s.1
          ∙ ap (λ xs. option_and_then (λ (x : Reserve). follower t (place_at t n) x.name) (slice_get xs j)) (sym all)

      pub passes-follower : PassesTo doc n i result
      passes-follower bound lt = go result (some bound (node_at (bound_tree bound doc.acts) n) (here bound lt)) (none bound (node_at (bound_tree bound doc.acts) n) (here bound lt)) ∙ sym (follows-so bound lt)
        where
          go : (o : Option ℕ) → IfSome o (λ to. IsFollowerAt bound doc.acts (node_at (bound_tree bound doc.acts) n) j to) → (IsNone o → follower_of (bound_tree bound doc.acts) (node_at (bound_tree bound doc.acts) n) j ≡ None)
              → option_map (place_at (bound_tree bound doc.acts)) o ≡ follower_of (bound_tree bound doc.acts) (node_at (bound_tree bound doc.acts) n) j
          go None f g = sym (g refl)
          go (Some to) f g = ap Some (place-of (bound_tree bound doc.acts) to f.0 f.2) ∙ sym f.1

      pub follower-within : n < length (procedure_nodes doc.acts) → IfSome result (λ to. to < length doc.outline.entries.items)
      follower-within lt = go result (some unbound (node_at (bound_tree unbound doc.acts) n) (here unbound (omega (arith, lt, counted_nodes (0 ∷ []) [] (bound_tree unbound doc.acts)))))
        where
          within : (l : List Node) (k : ℕ) (x : Node) → slice_get l k ≡ Some x → k < length l
          within [] k x e = let bad : None ≡ Some x = e in cc
          within (y ∷ l) zero x e = omega arith
          within (y ∷ l) (suc k) x e = let d = within l k x e in omega (arith, d)

          go : (o : Option ℕ) → IfSome o (λ to. IsFollowerAt unbound doc.acts (node_at (bound_tree unbound doc.acts) n) j to) → IfSome o (λ to. to < length doc.outline.entries.items)
          go None f = tt
          go (Some to) f =
              let d = within (bound_nodes unbound doc.acts) to f.2.0 f.2.1 in
              omega (arith, d, counted_nodes (0 ∷ []) [] (bound_tree unbound doc.acts), (is_chart doc unbound).0.count)
