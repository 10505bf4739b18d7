-- All acts of a tree are those of its nodes, so that a place finds the act of its node.
use Rattle.std.proofs.Common.{◌≡◌, ℕ, zero, suc, ◌+◌, List, [], ◌∷◌, ◌++◌, Bool, true, false, Some, None, refl, sym, ◌∙◌, subst, ap, ap₂}
use Rattle.std.{specs.Prelude.Option, specs.Prelude.find, specs.Prelude.slice_get, specs.List.filter_map, specs.List.cons_option, specs.List.AllByRecursion, proofs.Math.Bool.cond, proofs.lemmas.List.Elements.filter_map-append}
use Rattle.batch_matrix.specs.declared.state.State.{State, TheVariants.Idle}
use Rattle.batch_recipe.specs.{Conditions.Name, Needs.resources_needed, Nodes.nodes_within, Nodes.nodes_of_each, Nodes.nodes_of_choices, Nodes.child, Places.AreInOrder, Tree.Place, Tree.is_before, Tree.Step, Tree.Task, Tree.runs, Tree.follows, Tree.Tree, Tree.act, Tree.skip, Tree.seq, Tree.par, Tree.sel, Tree.loop, Tree.Trees, Tree.no_trees, Tree.tree, Tree.Choices, Tree.otherwise, Tree.choice}
use Rattle.batch_recipe.specs.Nodes as nodes
use Rattle.batch_model.specs.{ActStates.steps, ActStates.steps_below, ActStates.steps_of_each, ActStates.steps_of_choices, Lists.Each, Rest.same_place}
use Rattle.batch_chart.proofs.{NodeNumbers.all-get, NodeNumbers.not-same, NodeNumbers.before-differ, NodeNumbers.same-itself, FirstInLine.CarriesPlace}

abbrev pub own_step : Tree → Option Step
own_step (act s w) = Some s
own_step _ = None

abbrev pub step_in : nodes.Node → Option Step
step_in m = own_step m.here

mutual
  pub steps-of : (c : Tree) (q : Place) (above : List Name) → steps c ≡ filter_map step_in (nodes.nodes q above c)
  steps-of (act s w) q above = ap (λ l. s ∷ l) (steps-of_below w q (above ++ resources_needed s.needs))
  steps-of skip q above = refl
  steps-of (seq ts) q above = steps-of_each ts q above 0
  steps-of (par ts) q above = steps-of_each ts q above 0
  steps-of (sel ch) q above = steps-of_choices ch q above 0
  steps-of (loop i p body) q above = steps-of body (child q 0) above

  steps-of_below : (w : Task) (q : Place) (above : List Name) → steps_below w ≡ filter_map step_in (nodes_within q above w)
  steps-of_below (runs p) q above = refl
  steps-of_below (follows name c) q above = steps-of c (child q 0) above

  steps-of_each : (ts : Trees) (q : Place) (above : List Name) (i : ℕ) → steps_of_each ts ≡ filter_map step_in (nodes_of_each q above i ts)
  steps-of_each no_trees q above i = refl
  steps-of_each (tree c ts) q above i =
      ap₂ (λ l r. l ++ r) (steps-of c (child q i) above) (steps-of_each ts q above (i + 1))
      ∙ sym (filter_map-append step_in (nodes.nodes (child q i) above c) (nodes_of_each q above (i + 1) ts))

  steps-of_choices : (ch : Choices) (q : Place) (above : List Name) (i : ℕ) → steps_of_choices ch ≡ filter_map step_in (nodes_of_choices q above i ch)
  steps-of_choices (otherwise c) q above i = steps-of c (child q i) above
  steps-of_choices (choice p c ch) q above i =
      ap₂ (λ l r. l ++ r) (steps-of c (child q i) above) (steps-of_choices ch q above (i + 1))
      ∙ sym (filter_map-append step_in (nodes.nodes (child q i) above c) (nodes_of_choices q above (i + 1) ch))

-- the state that an act shows that isn't reached
abbrev pub unreached : Option Step → Option State
unreached o = elim o as (λ _. Option State) [ None ↦ None | Some s ↦ Some Idle ]

abbrev at_place : Place → Step → Bool
at_place p s = same_place s.place p

own-place : (m : nodes.Node) (s : Step) → CarriesPlace m → step_in m ≡ Some s → s.place ≡ m.place
own-place m s h e = go m.here refl e
  where
    go : (c : Tree) → m.here ≡ c → own_step c ≡ Some s → s.place ≡ m.place
    go (act u w) f e = (let g : u ≡ s = cc in h s w (f ∙ ap (λ z. act z w) g))
    go x f e = absurd (cc)

-- a node at another place gives none at this one
passed-by : (p : Place) (m : nodes.Node) (l : List Step) → CarriesPlace m → same_place m.place p ≡ false → find (at_place p) (cons_option (step_in m) l) ≡ find (at_place p) l
passed-by p m l h ne = go (step_in m) refl
  where
    go : (o : Option Step) → step_in m ≡ o → find (at_place p) (cons_option o l) ≡ find (at_place p) l
    go None e = refl
    go (Some s) e = ap (λ b. cond b (Some s) (find (at_place p) l)) (ap (λ q. same_place q p) (own-place m s h e) ∙ ne)

none-later : (p : Place) (ls : List nodes.Node) → AllByRecursion (λ (m : nodes.Node). is_before p m.place ≡ true) ls → Each CarriesPlace ls → find (at_place p) (filter_map step_in ls) ≡ None
none-later p [] g h = refl
none-later p (m ∷ ls) g h =
    passed-by p m (filter_map step_in ls) h.0 (not-same m.place p (λ e. before-differ p m.place g.0 (sym e)))
    ∙ none-later p ls g.1 h.1

pub step-found : (ls : List nodes.Node) (k : ℕ) (at : nodes.Node) → AreInOrder ls → Each CarriesPlace ls → slice_get ls k ≡ Some at
    → unreached (find (at_place at.place) (filter_map step_in ls)) ≡ unreached (step_in at)
step-found [] k at g h e = absurd (cc)
step-found (m ∷ ls) zero at g h e = let same : m ≡ at = cc in subst (λ (z : nodes.Node). unreached (find (at_place z.place) (filter_map step_in (m ∷ ls))) ≡ unreached (step_in z)) same (go (step_in m) refl)
  where
    go : (o : Option Step) → step_in m ≡ o → unreached (find (at_place m.place) (cons_option o (filter_map step_in ls))) ≡ unreached o
    go None e = ap unreached (none-later m.place ls g.0 h.1)
    go (Some s) e = ap (λ b. unreached (cond b (Some s) (find (at_place m.place) (filter_map step_in ls)))) (ap (λ q. same_place q m.place) (own-place m s h.0 e) ∙ same-itself m.place)
step-found (m ∷ ls) (suc k) at g h e =
    ap unreached (passed-by at.place m (filter_map step_in ls) h.0 (not-same m.place at.place (before-differ m.place at.place (all-get (λ z. is_before m.place z.place ≡ true) ls k at g.0 e))))
    ∙ step-found ls k at g.1 h.1 e
