-- At a place without a node no act shows a state.
use Rattle.std.proofs.Common.{◌≡◌, ◌≢◌, refl, sym, ◌∙◌, ap, subst, ℕ, ◌+◌, List, [], ◌∷◌, ◌++◌, Bool, true, false, cond, Option, Some, None, inl, inr, ⊎_elim, arith, find}
use Rattle.std.{specs.List.AllByRecursion, proofs.lemmas.Option.slice_get-get_or}
use Rattle.batch_matrix.specs.declared.state.State.{State, TheVariants.Idle}
use Rattle.batch_recipe.{specs.Conditions.Name, specs.Needs.resources_needed, specs.Nodes.Node, specs.Nodes.node, specs.Nodes.nodes, specs.Nodes.nodes_within, specs.Nodes.nodes_of_each, specs.Nodes.nodes_of_choices, specs.Nodes.child, specs.Places.NoNodeAt, specs.Tree.Place, specs.Tree.Step, specs.Tree.Tree, specs.Tree.act, specs.Tree.skip, specs.Tree.seq, specs.Tree.par, specs.Tree.sel, specs.Tree.loop, specs.Tree.Task, specs.Tree.runs, specs.Tree.follows, specs.Tree.Trees, specs.Tree.no_trees, specs.Tree.tree, specs.Tree.Choices, specs.Tree.otherwise, specs.Tree.choice, proofs.NodeOrder.counted_nodes}
use Rattle.batch_model.{specs.ActStates.steps, specs.ActStates.steps_below, specs.ActStates.steps_of_each, specs.ActStates.steps_of_choices, specs.ActStates.act_state, specs.ActStates.root, specs.ActStates.state_in, specs.Lists.Has, specs.Placed.IsPlaced, specs.Placed.IsPlacedBelow, specs.Placed.ArePlaced, specs.Placed.IsChoicePlaced, specs.Rest.Rest, specs.Rest.acts, specs.Rest.same_place, specs.Rest.place_of, specs.Standing.IsRestOf, proofs.Members.Has-split, proofs.Members.Has-left, proofs.Members.Has-right}
use Rattle.batch_model.specs.Plant as Model
use Rattle.batch_chart.{specs.NodesOf.nodes_of, specs.NodesOf.node_at, proofs.ActsAtNodes.stands-at}
use Rattle.batch_engine.proofs.{BatchLookups.Has-get, BatchAfterMove.name-no}

all-has : (P : Node → Type 0) (ns : List Node) (n : Node) → AllByRecursion P ns → Has ns n → P n
all-has P [] n h k = absurd k
all-has P (x ∷ ns) n h (inl e) = subst P e h.0
all-has P (x ∷ ns) n h (inr k) = all-has P ns n h.1 k

first-fails : {X : Type 0} (t : Bool) (x : X) (o : Option X) → t ≡ false → o ≡ None → cond t (Some x) o ≡ None
first-fails true x o e f = absurd cc
first-fails false x o e f = f

find-none : {X : Type 0} (f : X → Place) (p : Place) (xs : List X) → ((x : X) → Has xs x → f x ≡ p → ⊥) → find (λ x. same_place (f x) p) xs ≡ None
find-none f p [] h = refl
find-none f p (x ∷ xs) h = first-fails (same_place (f x) p) x (find (λ x. same_place (f x) p) xs) (name-no (f x) p (h x (inl refl))) (find-none f p xs (λ y k. h y (inr k)))

-- a node stands at the place of each step
abbrev StandsIn : List Node → Step → Type 0
StandsIn ns s = (n : Node) × Has ns n × (n.place ≡ s.place)

left-of : (xs ys : List Node) (s : Step) → StandsIn xs s → StandsIn (xs ++ ys) s
left-of xs ys s h = (h.0, Has-left xs ys h.0 h.1, h.2)

right-of : (xs ys : List Node) (s : Step) → StandsIn ys s → StandsIn (xs ++ ys) s
right-of xs ys s h = (h.0, Has-right xs ys h.0 h.1, h.2)

later-in : (x : Node) (ns : List Node) (s : Step) → StandsIn ns s → StandsIn (x ∷ ns) s
later-in x ns s h = (h.0, inr h.1, h.2)

mutual
  step-node : (q : Place) (above : List Name) (t : Tree) (s : Step) → IsPlaced q t → Has (steps t) s → StandsIn (nodes q above t) s
  step-node q above (act u w) s p (inl e) = (node q above (act u w), inl refl, sym p.0 ∙ ap (λ (z : Step). z.place) e)
  step-node q above (act u w) s p (inr m) = later-in (node q above (act u w)) _ s (step-node_below q (above ++ resources_needed u.needs) w s p.1 m)
  step-node q above skip s p m = absurd m
  step-node q above (seq ts) s p m = later-in (node q above (seq ts)) _ s (step-node_each q above 0 ts s p m)
  step-node q above (par ts) s p m = later-in (node q above (par ts)) _ s (step-node_each q above 0 ts s p m)
  step-node q above (sel cs) s p m = later-in (node q above (sel cs)) _ s (step-node_choices q above 0 cs s p m)
  step-node q above (loop n c t) s p m = later-in (node q above (loop n c t)) _ s (step-node (child q 0) above t s p m)

  step-node_below : (q : Place) (above : List Name) (w : Task) (s : Step) → IsPlacedBelow q w → Has (steps_below w) s → StandsIn (nodes_within q above w) s
  step-node_below q above (runs x) s p m = absurd m
  step-node_below q above (follows name t) s p m = step-node (child q 0) above t s p m

  step-node_each : (q : Place) (above : List Name) (i : ℕ) (ts : Trees) (s : Step) → ArePlaced q i ts → Has (steps_of_each ts) s → StandsIn (nodes_of_each q above i ts) s
  step-node_each q above i no_trees s p m = absurd m
  step-node_each q above i (tree t ts) s p m =
      ⊎_elim
      (λ k. left-of (nodes (child q i) above t) (nodes_of_each q above (i + 1) ts) s (step-node (child q i) above t s p.0 k))
      (λ k. right-of (nodes (child q i) above t) (nodes_of_each q above (i + 1) ts) s (step-node_each q above (i + 1) ts s p.1 k))
      (Has-split (steps t) (steps_of_each ts) s m)

  step-node_choices : (q : Place) (above : List Name) (i : ℕ) (cs : Choices) (s : Step) → IsChoicePlaced q i cs → Has (steps_of_choices cs) s → StandsIn (nodes_of_choices q above i cs) s
  step-node_choices q above i (otherwise t) s p m = step-node (child q i) above t s p m
  step-node_choices q above i (choice c t cs) s p m =
      ⊎_elim
      (λ k. left-of (nodes (child q i) above t) (nodes_of_choices q above (i + 1) cs) s (step-node (child q i) above t s p.0 k))
      (λ k. right-of (nodes (child q i) above t) (nodes_of_choices q above (i + 1) cs) s (step-node_choices q above (i + 1) cs s p.1 k))
      (Has-split (steps t) (steps_of_choices cs) s m)

root-node : (t : Tree) → Has (nodes_of t) (node (0 ∷ []) [] t)
root-node (act s w) = inl refl
root-node skip = inl refl
root-node (seq ts) = inl refl
root-node (par ts) = inl refl
root-node (sel cs) = inl refl
root-node (loop n c t) = inl refl

pub state-nowhere : (d : Model.Batch) (p : Place) → IsPlaced (0 ∷ []) d.recipe.procedure → IsRestOf d.recipe.procedure d.rest → NoNodeAt (nodes_of d.recipe.procedure) p → state_in d p ≡ None
state-nowhere d p placed stands none =
    let t : Tree = d.recipe.procedure in
    let away : (n : Node) → Has (nodes_of t) n → n.place ≡ p → ⊥ = λ n h. all-has (λ (n : Node). n.place ≢ p) (nodes_of t) n none h in
    let not-root : same_place p root ≡ false = name-no p root (λ e. away (node (0 ∷ []) [] t) (root-node t) (sym e)) in
    let no-act : find (λ a. same_place (place_of a) p) (acts d.rest) ≡ None =
    find-none place_of p (acts d.rest)
    (λ a h e. (let k = stands-at t d.rest a placed stands h in
    away (node_at t k.0) (Has-get (nodes_of t) k.0 (node_at t k.0) (slice_get-get_or (nodes_of t) k.0 _ (omega (arith, k.1, counted_nodes (0 ∷ []) [] t)))) (sym k.2 ∙ e))) in
    let no-step : find (λ s. same_place s.place p) (steps t) ≡ None =
    find-none (λ (s : Step). s.place) p (steps t) (λ s h e. (let n = step-node (0 ∷ []) [] t s placed h in away n.0 n.1 (n.2 ∙ e))) in
    ap
    (λ (b : Bool).
    (let r : Option State =
    elim b [
      | true ↦ Some d.state
      | false ↦ elim (find (λ a. same_place (place_of a) p) (acts d.rest)) [ Some a ↦ Some (act_state d.state a) | None ↦ elim (find (λ s. same_place s.place p) (steps t)) [ None ↦ None | Some s ↦ Some Idle ] ]
    ] in
    r))
    not-root
    ∙ ap (λ (o : Option Rest). (let r : Option State = elim o [ Some a ↦ Some (act_state d.state a) | None ↦ elim (find (λ s. same_place s.place p) (steps t)) [ None ↦ None | Some s ↦ Some Idle ] ] in r)) no-act
    ∙ ap (λ (o : Option Step). (let r : Option State = elim o [ None ↦ None | Some s ↦ Some Idle ] in r)) no-step
