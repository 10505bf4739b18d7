use Rattle.std.proofs.Common.{◌≡◌, ◌<◌, refl, sym, ◌∙◌, ap, subst, ℕ, [], ◌∷◌, Some, arith, length, None}
use Rattle.std.{specs.Prelude.slice_get, proofs.lemmas.Option.slice_get_within, proofs.lemmas.Option.get_or_from_slice_get}
use Rattle.batch_model.specs.ActStates.{state_in}
use Rattle.batch_chart.specs.NodesOf.{nodes_of, place_at}
use Rattle.batch_recipe.{specs.Nodes.Node, specs.Nodes.node_count, specs.Places.IsNodeAt, specs.Places.NoNodeAt, specs.Procedure.bound_tree, specs.Tree.Tree, specs.declared.recipe.Recipe.Recipe, proofs.NodeOrder.counted_nodes}
use Rattle.batch_verify.specs.ClearedSet.{ClearedSet}
use Rattle.batch_engine.{specs.View.EngineView, specs.View.model_batch, specs.View.bound_to, specs.View.tree_of, specs.declared.batch.Batch.Batch, proofs.PlacesWithoutNodes.state-nowhere, proofs.NodesAcrossBindings.node-alike, proofs.NodesAcrossBindings.nowhere-alike, proofs.BatchLookups.batch-runs, proofs.BatchLookups.in-charts, proofs.BatchLookups.tree-placed, proofs.BatchAtIndex.IsSeat, proofs.BatchAtIndex.seat-of, proofs.BatchByNumber.looked, proofs.MoveLines.recipe-here, proofs.MoveLines.tree-is}
use Rattle.batch_engine.proofs.engine.Engine.state_of.Goals as goal
use Rattle.batch_engine.proofs.engine.Engine.state_of.Goals.{After-cleared-cleared, After-recipe}

-- the recipe that the batch makes, as it is read
read : (c : After-cleared-cleared) → (r : Recipe) × (slice_get c.cleared-cleared.result.now.recipes c.in_ok-batch.batch.now.recipe ≡ Some r)
    × (tree_of c.self.inside.control.cleared c.in_ok-batch.batch.now ≡ bound_tree (bound_to c.self.inside.control.cleared c.in_ok-batch.batch.now.recipe c.in_ok-batch.batch.now.units) r.acts)
read c =
    let v : EngineView = c.self.inside.control in
    let b : Batch = c.in_ok-batch.batch.now in
    let r = recipe-here v c.self.invariant.kept c.in_ok-batch.ensures.0.0 b c.in_ok-batch.ensures.0.1 in
    (r.0, subst (λ (z : ClearedSet). slice_get z.recipes b.recipe ≡ Some r.0) (sym c.cleared-cleared.ensures) r.1, tree-is v.cleared b.recipe r.0 r.1 b.units)

seat : (c : After-recipe) → IsSeat c.self.inside.control c.in_ok-batch.ensures.0.0 c.in_ok-batch.batch.now c.recipe.result.now
seat c =
    seat-of refl (record { kept = c.self.invariant.kept; at = c.in_ok-batch.ensures.0.1 })
    (subst (λ (z : ClearedSet). slice_get z.recipes c.in_ok-batch.batch.now.recipe ≡ Some c.recipe.result.now) c.cleared-cleared.ensures c.recipe.ensures)

pub returns-in_err-batch : goal.returns-in_err-batch
returns-in_err-batch c = c.from_residual.ensures ∙ looked c.args.batch None (λ d. state_in d c.args.place.now) c.self.view_is c.in_err-batch.ensures

pub node_of-requires : goal.node_of-requires
node_of-requires c =
    subst (λ (z : ClearedSet). c.in_ok-batch.batch.now.recipe < length z.recipes) (sym c.cleared-cleared.ensures)
    (in-charts c.self.inside.control c.self.invariant.kept c.in_ok-batch.ensures.0.0 c.in_ok-batch.batch.now c.in_ok-batch.ensures.0.1)

pub returns-in_err-node : goal.returns-in_err-node
returns-in_err-node c =
    let v : EngineView = c.self.inside.control in
    let b : Batch = c.in_ok-batch.batch.now in
    let i : ℕ = c.in_ok-batch.ensures.0.0 in
    let r = read (goal.at.returns-in_err-node c).After-cleared-cleared in
    let none : NoNodeAt (nodes_of (tree_of v.cleared b)) c.args.place.now =
    subst (λ (z : Tree). NoNodeAt (nodes_of z) c.args.place.now) (sym r.2) (nowhere-alike (bound_to v.cleared b.recipe b.units) r.0.acts c.args.place.now (c.in_err-node.ensures.none r.0 r.1 refl)) in
    c.from_residual-in_err-node.ensures
    ∙ sym (state-nowhere (model_batch v.cleared b) c.args.place.now (tree-placed v c.self.invariant.kept i b c.in_ok-batch.ensures.0.1) (batch-runs v c.self.invariant.kept i b c.in_ok-batch.ensures.0.1).runs.alive.stands none)
    ∙ looked c.args.batch (Some c.in_ok-batch.batch.now) (λ d. state_in d c.args.place.now) c.self.view_is c.in_ok-batch.ensures

pub state_at-requires : goal.state_at-requires
state_at-requires c = (seat (goal.at.state_at-requires c).After-recipe).running

pub returns : goal.returns
returns c =
    let w = goal.at.returns c in
    let v : EngineView = c.self.inside.control in
    let b : Batch = c.in_ok-batch.batch.now in
    let t : Tree = tree_of v.cleared b in
    let node : ℕ = c.in_ok-node.node in
    let r = read w.After-cleared-cleared in
    let s = seat w.After-recipe in
    let node_is : IsNodeAt (nodes_of t) node c.args.place.now =
    subst (λ (z : Tree). IsNodeAt (nodes_of z) node c.args.place.now) (sym r.2) (node-alike (bound_to v.cleared b.recipe b.units) r.0.acts node c.args.place.now (c.in_ok-node.ensures.some r.0 r.1)) in
    let few : node < node_count t = (let l : node < length (nodes_of t) = slice_get_within (nodes_of t) node node_is.0 node_is.1 in omega (arith, l, counted_nodes (0 ∷ []) [] t)) in
    let place : place_at t node ≡ c.args.place.now = ap (λ (n : Node). n.place) (get_or_from_slice_get (nodes_of t) node node_is.0 _ node_is.1) ∙ node_is.2 in
    c.state_at.ensures.act t (model_batch v.cleared b) s.chart s.runs few refl refl refl ∙ ap (state_in (model_batch v.cleared b)) place ∙ looked c.args.batch (Some c.in_ok-batch.batch.now) (λ d. state_in d c.args.place.now) c.self.view_is c.in_ok-batch.ensures
