-- The results of look-ups at a batch of the engine.
use Rattle.std.proofs.Common.{◌≡◌, ◌<◌, ◌≤◌, refl, sym, ◌∙◌, ap, ap₂, subst, subst₂, ◌+◌, ℕ, zero, suc, List, [], ◌∷◌, true, Option, Some, inl, inr, arith, length, get_or, map}
use Rattle.std.{specs.Prelude.option_map, specs.Prelude.slice_get, proofs.lemmas.List.Quantifiers.position-Some, proofs.lemmas.Option.slice_get_read, proofs.lemmas.Option.slice_get_within, proofs.lemmas.Option.slice_get-get_or, proofs.lemmas.Option.get_or_from_slice_get, proofs.lemmas.Option.slice_get-map}
use Rattle.batch_recipe.specs.{Expanding.Binding, Conditions.Name, Conditions.same_name, Tree.Place, Tree.Step, Tree.Tree, declared.need.Need.Need, Nodes.node_count}
use Rattle.batch_recipe.specs.declared.recipe.Recipe as document
use Rattle.batch_step_laws.proofs.{Batches.one_batch, WorkAfterMove.one_act, ActOrder.acts-rise}
use Rattle.batch_model.{specs.Lists.Has, specs.Plant.BatchAct, specs.Plant.Master, specs.Plant.Share, specs.Plant.plain, specs.Setups.master_of, specs.Standing.IsControl, specs.Standing.IsStandingBatch, specs.Moves.grant, specs.Moves.least, specs.Moves.is_served, specs.Placed.IsPlaced, specs.Rest.asking, specs.Rest.acts, proofs.Members.Each-Has}
use Rattle.batch_model.specs.Plant as Model
use Rattle.batch_record_laws.proofs.{Entries.name_same, Members.map-Has}
use Rattle.batch_verify.specs.ClearedSet.{ClearedSet}
use Rattle.batch_arbiter.{specs.Allocation.Claim, specs.Allocation.shares_at, specs.Allocation.line_of_asks, specs.Allocation.next_grant, specs.Allocation.batch_node, specs.Allocation.resource_count, proofs.CellCapacities.length-capacities}
use Rattle.batch_chart.{specs.NodesOf.no_need, specs.NodesOf.place_at, specs.NodesOf.need_at, specs.NodesOf.step_at, specs.NodesOf.task_at, specs.OwnMoves.grants, proofs.RecipeChart.is_chart, specs.Charts.AsksAt, specs.Charts.IsChartFor, specs.Charts.IsChartOf, specs.Charts.IsRunningOf, specs.Charts.IsRunning, specs.Charts.remains}
use Rattle.batch_engine.{specs.declared.batch.Batch.Batch, specs.View.EngineView, specs.View.setup, specs.View.no_recipe, specs.View.master_at, specs.View.bound_to, specs.View.recipe_made, specs.View.model_batch, specs.View.claim_act, specs.View.share_of, specs.View.place_in, specs.View.names_of, specs.View.resource_number, specs.View.line_at, specs.View.plant_of, specs.View.tree_of, specs.Kept.IsKept, specs.Kept.IsRunningBatch, proofs.Nodes.same-node, proofs.RecordOfPlant.placed, proofs.RecordOfPlant.told, proofs.RecordOfPlant.standing, proofs.ServedActs.serves-next, proofs.ServedActs.next-serves, proofs.ServedActs.is-served, proofs.BatchPlaces.place-in, proofs.BatchPlaces.Has-batch_of, proofs.PlacesOfActs.step-place}
use Rattle.batch_engine.proofs.LeastGrant as Granting
use Rattle.batch_signs.proofs.Bits.{within-or_past}

pub Has-get : {X : Type 0} (xs : List X) (i : ℕ) (x : X) → slice_get xs i ≡ Some x → Has xs x
Has-get [] i x e = absurd cc
Has-get (y ∷ xs) zero x e = inl cc
Has-get (y ∷ xs) (suc i) x e = inr (Has-get xs i x e)

-- the element that is read at an index
pub got-batch : (v w : EngineView) (i : ℕ) (b : Batch) → w ≡ v → i < length v.batches → b ≡ get_or w.batches i b → slice_get v.batches i ≡ Some b
got-batch v w i b e l h = slice_get_read v.batches (length v.batches) i b refl l (h ∙ ap (λ (z : EngineView). get_or z.batches i b) e)

pub got-chart : (v w : EngineView) (i : ℕ) (x : document.Recipe) → w ≡ v → slice_get w.cleared.recipes i ≡ Some x → slice_get v.cleared.recipes i ≡ Some x
got-chart v w i x e h = ap (λ (z : EngineView). slice_get z.cleared.recipes i) (sym e) ∙ h

-- the master recipe with a number
pub master-found : (c : ClearedSet) (q : ℕ) (r : document.Recipe) → slice_get c.recipes q ≡ Some r → master_at c q ≡ master_of c.cell r
master-found c q r at =
    get_or_from_slice_get (map (master_of c.cell) c.recipes) q (master_of c.cell r) (plain no_recipe) (slice_get-map (master_of c.cell) c.recipes q ∙ ap (option_map (master_of c.cell)) at)

-- each recipe of the set is a chart, whatever units take its roles
pub chart-of : (c : ClearedSet) (q : ℕ) (r : document.Recipe) → slice_get c.recipes q ≡ Some r → (bound : Binding) → IsChartFor bound ((master_at c q).control bound).procedure r
chart-of c q r at bound = subst (λ (m : Master). IsChartFor bound (m.control bound).procedure r) (sym (master-found c q r at)) (is_chart r bound)

-- the resource with this number has the name
pub named : (c : ClearedSet) (name : Name) (q : ℕ) → resource_number c name ≡ Some q → slice_get (names_of c) q ≡ Some name
named c name q e =
    let p = position-Some (same_name name) (names_of c) q [] e in
    slice_get-get_or (names_of c) q [] p.0 ∙ ap Some (sym (name_same name (get_or (names_of c) q []) p.1))

-- the arbiter has each resource that has a number
pub known-resource : (v : EngineView) → IsKept v → (name : Name) (q : ℕ) → resource_number v.cleared name ≡ Some q → q < resource_count v.allocation
known-resource v k name q e =
    omega (arith, slice_get_within (names_of v.cleared) q name (named v.cleared name q e), ap (λ (xs : List ℕ). length xs) k.cell.capacities, length-capacities v.cleared.cell)

module _ (v : EngineView) (k : IsKept v) (i : ℕ) (b : Batch) (at : slice_get v.batches i ≡ Some b) where
  pub has : Has v.batches b
  has = Has-get v.batches i b at

  pub batch-runs : IsRunningBatch v.cleared b
  batch-runs = Each-Has (IsRunningBatch v.cleared) v.batches b k.batches has

  -- its recipe is made from one of the setup's, for units that may take the roles
  pub is-control : IsControl (setup v.cleared) (recipe_made v.cleared b)
  is-control =
      (Each-Has (IsStandingBatch (setup v.cleared)) (plant_of v).batches (model_batch v.cleared b) (standing v k).batches (Has-batch_of v.cleared v.batches b has)).known

  pub tree-placed : IsPlaced (0 ∷ []) (tree_of v.cleared b)
  tree-placed = placed v.cleared k.cleared (recipe_made v.cleared b) is-control

  pub in-charts : b.recipe < length v.cleared.recipes
  in-charts = batch-runs.known

  -- the recipe is a chart that serves the units that take its roles
  pub chart-for : (x : document.Recipe) → slice_get v.cleared.recipes b.recipe ≡ Some x → IsChartFor (bound_to v.cleared b.recipe b.units) (tree_of v.cleared b) x
  chart-for x e = chart-of v.cleared b.recipe x e (bound_to v.cleared b.recipe b.units)

  pub chart-here : (x : document.Recipe) → slice_get v.cleared.recipes b.recipe ≡ Some x → IsChartOf (tree_of v.cleared b) x
  chart-here x e = (chart-for x e).0

  pub runs-here : (x : document.Recipe) → slice_get v.cleared.recipes b.recipe ≡ Some x → IsRunning x b.running
  runs-here x e = (tree_of v.cleared b, chart-here x e, batch-runs.runs)

  abbrev pub asks_here : ℕ → ℕ → Type 0
  asks_here j l = AsksAt (tree_of v.cleared b) (remains (tree_of v.cleared b) b.running) j l

  abbrev pub served_here : ℕ → ℕ → Type 0
  served_here j l =
      is_served (setup v.cleared) (plant_of v) (need_at (tree_of v.cleared b) j l) (b.number, place_at (tree_of v.cleared b) j) ≡ true

  abbrev pub first_here : ℕ → ℕ → Type 0
  first_here q j = option_map batch_node (next_grant v.allocation q) ≡ Some (b.number, j)

  here-place : (j : ℕ) → place_in v.cleared v.batches b.number j ≡ place_at (tree_of v.cleared b) j
  here-place j = place-in v.cleared v.next_number v.batches b j (standing v k).numbers has

  pub claim-act : (x : Claim) (j : ℕ) → batch_node x ≡ (b.number, j) → claim_act v.cleared v.batches x ≡ (b.number, place_at (tree_of v.cleared b) j)
  claim-act x j e = ap (λ (z : ℕ × ℕ). let y : BatchAct = (z.0, place_in v.cleared v.batches z.0 z.1) in y) e ∙ ap (λ (p : Place). let y : BatchAct = (b.number, p) in y) (here-place j)

  pub act-claim : (x : Claim) (j : ℕ) → j < node_count (tree_of v.cleared b) → claim_act v.cleared v.batches x ≡ (b.number, place_at (tree_of v.cleared b) j) → batch_node x ≡ (b.number, j)
  act-claim x j l e =
      let n : x.batch ≡ b.number = ap (λ (z : BatchAct). z.0) e in
      let p : place_at (tree_of v.cleared b) x.node ≡ place_at (tree_of v.cleared b) j =
      sym (here-place x.node) ∙ ap (λ m. place_in v.cleared v.batches m x.node) (sym n) ∙ ap (λ (z : BatchAct). z.1) e in
      ap₂ (λ m q. let z : ℕ × ℕ = (m, q) in z) n (same-node (tree_of v.cleared b) x.node j l p)

  -- a claim in line is for as many units as its act asks for
  pub line-units : (j l q : ℕ) → asks_here j l → resource_number v.cleared (need_at (tree_of v.cleared b) j l).resource ≡ Some q
      → (x : Claim) → Has (line_of_asks v.allocation q) x → batch_node x ≡ (b.number, j) → x.units ≡ (need_at (tree_of v.cleared b) j l).units
  line-units j l q asks e x h at_node =
      let t : Tree = tree_of v.cleared b in
      let need : Need = need_at (tree_of v.cleared b) j l in
      let share : Share = share_of v.cleared v.batches x in
      let told_so = ((told v k).asks need.resource share).0 (subst (λ (xs : List Share). Has xs share) (sym (ap (line_at v) e)) (map-Has (share_of v.cleared v.batches) (line_of_asks v.allocation q) x h)) in
      let same : told_so.0 ≡ model_batch v.cleared b =
      one_batch v.next_number (plant_of v).batches told_so.0 (model_batch v.cleared b) (standing v k).numbers told_so.1 (Has-batch_of v.cleared v.batches b has) (told_so.2 ∙ ap (λ (z : ℕ × ℕ). z.0) at_node) in
      let there : Has (acts (remains t b.running)) (asking told_so.3 told_so.4 told_so.5) = subst (λ (d : Model.Batch). Has (acts d.rest) (asking told_so.3 told_so.4 told_so.5)) same told_so.6 in
      let one : asking told_so.3 told_so.4 told_so.5 ≡ asking (step_at t j) (task_at t j) l =
      one_act (acts (remains t b.running)) (asking told_so.3 told_so.4 told_so.5) (asking (step_at t j) (task_at t j) l)
      (acts-rise (0 ∷ []) t (remains t b.running) tree-placed batch-runs.runs.alive.stands) there asks.2
      (told_so.7 ∙ ap (λ (z : BatchAct). z.1) (claim-act x j at_node) ∙ sym (step-place t j tree-placed asks.0 (omega (arith, asks.1)))) in
      let step : told_so.3 ≡ step_at t j = cc in
      let held : told_so.5 ≡ l = cc in
      let got : ◌≡◌ {A = Option Need} (Some need) (Some (record { resource = need.resource; units = x.units })) =
      sym (slice_get-get_or (step_at t j).needs l no_need asks.1) ∙ ap₂ (λ (y : Step) n. slice_get y.needs n) (sym step) (sym held) ∙ told_so.8 in
      let is : need ≡ record { resource = need.resource; units = x.units } = cc in
      sym (ap (λ (z : Need). z.units) is)

  pub first-serves : (j l q : ℕ) → asks_here j l → resource_number v.cleared (need_at (tree_of v.cleared b) j l).resource ≡ Some q → first_here q j → served_here j l
  first-serves j l q asks e f =
      let need : Need = need_at (tree_of v.cleared b) j l in
      is-served v k q need (b.number, place_at (tree_of v.cleared b) j) e
      ∙ serves-next (claim_act v.cleared v.batches) (Rattle.batch_arbiter.specs.Allocation.capacity_at v.allocation q) need.units (shares_at v.allocation q) (line_of_asks v.allocation q) b.number j
      (b.number, place_at (tree_of v.cleared b) j) (λ x. claim-act x j) (λ x h. line-units j l q asks e x h) f

  pub serves-first : (j l q : ℕ) → asks_here j l → resource_number v.cleared (need_at (tree_of v.cleared b) j l).resource ≡ Some q → served_here j l → first_here q j
  serves-first j l q asks e s =
      let need : Need = need_at (tree_of v.cleared b) j l in
      next-serves (claim_act v.cleared v.batches) (Rattle.batch_arbiter.specs.Allocation.capacity_at v.allocation q) need.units (shares_at v.allocation q) (line_of_asks v.allocation q) b.number j
      (b.number, place_at (tree_of v.cleared b) j) (λ x. act-claim x j asks.0) (λ x h. line-units j l q asks e x h)
      (sym (is-served v k q need (b.number, place_at (tree_of v.cleared b) j) e) ∙ s)

  pub no-grants : ((j l : ℕ) → asks_here j l → served_here j l → ⊥) → grants (setup v.cleared) (plant_of v) (model_batch v.cleared b) ≡ []
  no-grants none = Granting.grants-none (setup v.cleared) (plant_of v) (model_batch v.cleared b) (tree_of v.cleared b) tree-placed batch-runs.runs.alive.stands none

  pub first-grant : (j l : ℕ) → asks_here j l → served_here j l → ((x y : ℕ) → x < j → asks_here x y → served_here x y → ⊥)
      → least (grants (setup v.cleared) (plant_of v) (model_batch v.cleared b)) ≡ Some (grant b.number (place_at (tree_of v.cleared b) j) (need_at (tree_of v.cleared b) j l))
  first-grant j l asks served before =
      Granting.grants-first (setup v.cleared) (plant_of v) (model_batch v.cleared b) (tree_of v.cleared b) tree-placed batch-runs.runs.alive.stands j l
      (step-place (tree_of v.cleared b) j tree-placed asks.0 (omega (arith, asks.1))) asks served before

  -- no act before `from` is served, and none from there on to `node` is in line
  pub goes-on : (x : document.Recipe) → slice_get v.cleared.recipes b.recipe ≡ Some x → (from node : ℕ) → ((j l : ℕ) → j < from → asks_here j l → served_here j l → ⊥)
      → ((t : Tree) → IsChartOf t x → IsRunningOf t b.running → (j l : ℕ) → from ≤ j → j < node → AsksAt t (remains t b.running) j l → ⊥)
      → (j l : ℕ) → j < node → asks_here j l → served_here j l → ⊥
  goes-on x e from node before between j l lt asks served = elim (within-or_past j from) [
    | inl q ↦ before j l q asks served
    | inr q ↦ between (tree_of v.cleared b) (chart-here x e) batch-runs.runs j l q lt asks
  ]

  -- an act in line asks for one need
  pub same-need : (j l m : ℕ) → asks_here j l → asks_here j m → l ≡ m
  same-need j l m x y =
      let t : Tree = tree_of v.cleared b in
      let e : asking (step_at t j) (task_at t j) l ≡ asking (step_at t j) (task_at t j) m =
      one_act (acts (remains t b.running)) (asking (step_at t j) (task_at t j) l) (asking (step_at t j) (task_at t j) m)
      (acts-rise (0 ∷ []) t (remains t b.running) tree-placed batch-runs.runs.alive.stands) x.2 y.2 refl in
      let r : l ≡ m = cc in r

  -- the act at `node` isn't first in line, so none up to it is served
  pub passed : (x : document.Recipe) → slice_get v.cleared.recipes b.recipe ≡ Some x → (from node need q : ℕ) → ((j l : ℕ) → j < from → asks_here j l → served_here j l → ⊥)
      → ((t : Tree) → IsChartOf t x → IsRunningOf t b.running → (j l : ℕ) → from ≤ j → j < node → AsksAt t (remains t b.running) j l → ⊥)
      → asks_here node need → resource_number v.cleared (need_at (tree_of v.cleared b) node need).resource ≡ Some q → (first_here q node → ⊥)
      → (j l : ℕ) → j < node + 1 → asks_here j l → served_here j l → ⊥
  passed x e from node need q before between here number not_first j l lt asks served = elim (within-or_past j node) [
    | inl p ↦ goes-on x e from node before between j l p asks served
    | inr p ↦
        let same : j ≡ node = omega arith in
        let l_is : l ≡ need = same-need node l need (subst (λ z. asks_here z l) same asks) here in
        not_first (serves-first node need q here number (subst₂ (λ y z. served_here y z) same l_is served))
  ]
