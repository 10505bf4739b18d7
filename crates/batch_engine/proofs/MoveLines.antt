-- The line of each move: its numbers stand for the names and places of the move.
use Rattle.std.proofs.Common.{◌≡◌, ◌<◌, refl, sym, ◌∙◌, ap, ap₂, subst, ℕ, zero, suc, List, [], ◌∷◌, Option, Some, None, arith, length, get_or}
use Rattle.std.specs.{Prelude.slice_get, Prelude.option_map, Prelude.unwrap_or, List.zip}
use Rattle.batch_matrix.specs.declared.{command.Command.Command, state.State.State}
use Rattle.batch_recipe.{specs.Conditions.Name, specs.Nodes.Node, specs.Nodes.reports_in, specs.Nodes.reports_of, specs.Expanding.Binding, specs.Procedure.bound_nodes, specs.Procedure.bound_tree, specs.Tree.Phase, specs.Tree.Tree, specs.Tree.skip, proofs.ReportedOutputs.reports-alike, specs.declared.need.Need.Need, specs.declared.recipe.Recipe.Recipe}
use Rattle.batch_model.specs.Moves as Moves
use Rattle.batch_model.specs.{Moves.handed_values, Plant.Master}
use Rattle.batch_verify.specs.ClearedSet.{ClearedSet}
use Rattle.batch_chart.specs.NodesOf as Tree
use Rattle.batch_chart.specs.NodesOf.{nodes_of, need_at, tree_task}
use Rattle.batch_chart.specs.declared.chart_move.Move.TheVariants as Chart
use Rattle.batch_engine.{specs.declared.batch.Batch.Batch, specs.declared.line.ClaimKind.TheVariants.Asked, specs.declared.line.ClaimKind.TheVariants.Granted, specs.declared.line.ClaimKind.TheVariants.Released, specs.Steps.IsNext, specs.Steps.IsNumberAt, specs.Steps.IsPhaseAt, specs.Steps.Tells, specs.Steps.TellsNext, specs.View.EngineView, specs.View.bound_to, specs.View.resource_number, specs.View.master_at, specs.View.tree_at, specs.View.tree_of, specs.Kept.IsKept, proofs.BatchLookups.known-resource, proofs.BatchLookups.named, proofs.BatchLookups.batch-runs, proofs.BatchLookups.master-found, proofs.NodesAcrossBindings.place-alike, proofs.NodesAcrossBindings.name-alike, proofs.NodesAcrossBindings.handed-alike}
use Rattle.batch_engine.specs.declared.line.Line.TheVariants as Lines
use Rattle.batch_engine.specs.Names as Names

-- The place, the name and the values of a node, by its number and by its tree

place-seen : (ns : List Node) (k : ℕ) → Names.node_place (slice_get ns k) ≡ (get_or ns k (record { place = []; asked = []; here = skip })).place
place-seen [] k = refl
place-seen (n ∷ ns) zero = refl
place-seen (n ∷ ns) (suc k) = place-seen ns k

name-here : (t : Tree) → Names.chart_act_name t ≡ Tree.name_in (tree_task t)
name-here t = grind arith

name-seen : (ns : List Node) (k : ℕ) → Names.name_of (slice_get ns k) ≡ Tree.name_in (tree_task (get_or ns k (record { place = []; asked = []; here = skip })).here)
name-seen [] k = refl
name-seen (n ∷ ns) zero = name-here n.here
name-seen (n ∷ ns) (suc k) = name-seen ns k

handed-here : (t : Tree) → Names.handed_in t ≡ (Tree.phase_in (tree_task t)).handed
handed-here t = grind arith

handed-seen : (ns : List Node) (k : ℕ) → Names.handed_of (slice_get ns k) ≡ (Tree.phase_in (tree_task (get_or ns k (record { place = []; asked = []; here = skip })).here)).handed
handed-seen [] k = refl
handed-seen (n ∷ ns) zero = handed-here n.here
handed-seen (n ∷ ns) (suc k) = handed-seen ns k

reports-here : (t : Tree) → reports_in t ≡ (Tree.phase_in (tree_task t)).reports
reports-here t = grind arith

reports-seen : (ns : List Node) (k : ℕ) → reports_of (slice_get ns k) ≡ (Tree.phase_in (tree_task (get_or ns k (record { place = []; asked = []; here = skip })).here)).reports
reports-seen [] k = refl
reports-seen (n ∷ ns) zero = reports-here n.here
reports-seen (n ∷ ns) (suc k) = reports-seen ns k

module _ (c : ClearedSet) (recipe : ℕ) (r : Recipe) (at : slice_get c.recipes recipe ≡ Some r) where
  pub tree-bound : (bound : Binding) → ((master_at c recipe).control bound).procedure ≡ bound_tree bound r.acts
  tree-bound bound = ap (λ (m : Master). (m.control bound).procedure) (master-found c recipe r at)

  pub recipe-named : (bound : Binding) → Names.recipe_name c recipe ≡ ((master_at c recipe).control bound).name
  recipe-named bound =
      ap (λ (o : Option Recipe). unwrap_or (option_map Names.name_of_recipe o) []) at ∙ sym (ap (λ (m : Master). (m.control bound).name) (master-found c recipe r at))

  pub roles-read : Names.roles_at c recipe ≡ Names.roles_of r
  roles-read = ap (λ (o : Option Recipe). let ns : List Name = elim o [ None ↦ [] | Some z ↦ Names.roles_of z ] in ns) at

  pub node-is : (k : ℕ) → Names.recipe_node_at c recipe k ≡ Names.node_of k r
  node-is k = ap (λ (o : Option Recipe). let n : Option Node = elim o [ None ↦ None | Some z ↦ Names.node_of k z ] in n) at

  -- whatever units take the roles
  module _ (units : List ℕ) where
    pub tree-is : tree_at c recipe units ≡ bound_tree (bound_to c recipe units) r.acts
    tree-is = tree-bound (bound_to c recipe units)

    node-bound : (k : ℕ) → slice_get (bound_nodes (bound_to c recipe units) r.acts) k ≡ slice_get (nodes_of (tree_at c recipe units)) k
    node-bound k = sym (ap (λ t. slice_get (nodes_of t) k) tree-is)

    pub place-told : (k : ℕ) → Names.recipe_place_at c recipe k ≡ Tree.place_at (tree_at c recipe units) k
    place-told k =
        ap Names.node_place (node-is k) ∙ place-alike (bound_to c recipe units) r.acts k ∙ ap Names.node_place (node-bound k) ∙ place-seen (nodes_of (tree_at c recipe units)) k

    pub name-told : (k : ℕ) → Names.chart_act_name_at c recipe k ≡ Tree.task_name_at (tree_at c recipe units) k
    name-told k = ap Names.name_of (node-is k) ∙ name-alike (bound_to c recipe units) r.acts k ∙ ap Names.name_of (node-bound k) ∙ name-seen (nodes_of (tree_at c recipe units)) k

    pub handed-told : (k : ℕ) → Names.handed_at c recipe k ≡ (Tree.phase_at (tree_at c recipe units) k).handed
    handed-told k =
        ap Names.handed_of (node-is k) ∙ handed-alike (bound_to c recipe units) r.acts k ∙ ap Names.handed_of (node-bound k) ∙ handed-seen (nodes_of (tree_at c recipe units)) k

    pub reports-read : (k : ℕ) → reports_of (Names.node_of k r) ≡ (Tree.phase_at (tree_at c recipe units) k).reports
    reports-read k = reports-alike (bound_to c recipe units) r.acts k ∙ ap reports_of (node-bound k) ∙ reports-seen (nodes_of (tree_at c recipe units)) k

pub some-at : (rs : List Recipe) (k : ℕ) → k < length rs → (r : Recipe) × (slice_get rs k ≡ Some r)
some-at [] k l = absurd (omega arith)
some-at (r ∷ rs) zero l = (r, refl)
some-at (r ∷ rs) (suc k) l = some-at rs k (omega arith)

pub resource-told : (c : ClearedSet) (name : Name) (q : ℕ) → resource_number c name ≡ Some q → Names.resource_name c q ≡ name
resource-told c name q e = ap (λ (o : Option Name). unwrap_or o []) (named c name q e)

-- Lines of the batch at an index

module _ (v : EngineView) (k : IsKept v) (i : ℕ) (b : Batch) (at : slice_get v.batches i ≡ Some b) where
  pub recipe-here : (r : Recipe) × (slice_get v.cleared.recipes b.recipe ≡ Some r)
  recipe-here = some-at v.cleared.recipes b.recipe (batch-runs v k i b at).known

  pub place-here : (n : ℕ) → Names.recipe_place_at v.cleared b.recipe n ≡ Tree.place_at (tree_of v.cleared b) n
  place-here n = place-told v.cleared b.recipe recipe-here.0 recipe-here.1 b.units n

  reports-told : (n : ℕ) → Names.reports_at v.cleared b.recipe n ≡ (Tree.phase_at (tree_of v.cleared b) n).reports
  reports-told n = ap reports_of (node-is v.cleared b.recipe recipe-here.0 recipe-here.1 n) ∙ reports-read v.cleared b.recipe recipe-here.0 recipe-here.1 b.units n

  phase-here : (n u f : ℕ) → Names.resource_name v.cleared u ≡ (Tree.phase_at (tree_of v.cleared b) n).unit → Names.phase_name v.cleared u f ≡ (Tree.phase_at (tree_of v.cleared b) n).name
      → Names.phase_run_at v.cleared b.recipe n u f ≡ Tree.phase_at (tree_of v.cleared b) n
  phase-here n u f unit name =
      ap₂ (λ x y. let p : Phase = record { unit = x; name = y; handed = Names.handed_at v.cleared b.recipe n; reports = Names.reports_at v.cleared b.recipe n } in p) unit name
      ∙ ap₂ (λ (y z : List Name). let p : Phase = record { unit = (Tree.phase_at (tree_of v.cleared b) n).unit; name = (Tree.phase_at (tree_of v.cleared b) n).name; handed = y; reports = z } in p)
      (handed-told v.cleared b.recipe recipe-here.0 recipe-here.1 b.units n) (reports-told n)

  need-here : (n need q u : ℕ) → resource_number v.cleared (need_at (tree_of v.cleared b) n need).resource ≡ Some q → (need_at (tree_of v.cleared b) n need).units ≡ u
      → Names.need_of v.cleared q u ≡ need_at (tree_of v.cleared b) n need
  need-here n need q u e f =
      ap₂ (λ x y. let r : Need = record { resource = x; units = y } in r) (resource-told v.cleared (need_at (tree_of v.cleared b) n need).resource q e) (sym f)

  pub send-told : {n u f : ℕ} (command : Command) → IsPhaseAt v.cleared b n u f → Tells v b (Chart.Send n command) (Lines.Send b.number b.recipe n u f command)
  send-told {n} {u} {f} command h = record { is = ap₂ (λ p x. Moves.send b.number p x command) (place-here n) (phase-here n u f h.unit_is h.name_is); known = tt; claims = λ a. (tt, refl) }

  pub start-told : (r : Recipe) → slice_get v.cleared.recipes b.recipe ≡ Some r → {n u f : ℕ} (values : List ℕ) → IsPhaseAt v.cleared b n u f
      → zip (Names.handed_of (Names.node_of n r)) values ≡ handed_values b.values (Names.handed_of (Names.node_of n r))
      → Tells v b (Chart.Start n) (Lines.Start b.number b.recipe n u f values)
  start-told r read {n} {u} {f} values h handed =
      record {
        is = ap₂ (λ p x. Moves.start b.number p x (zip (Names.handed_at v.cleared b.recipe n) values)) (place-here n) (phase-here n u f h.unit_is h.name_is)
            ∙ ap (Moves.start b.number (Tree.place_at (tree_of v.cleared b) n) (Tree.phase_at (tree_of v.cleared b) n))
            (ap (λ (o : Option Node). zip (Names.handed_of o) values) (node-is v.cleared b.recipe r read n)
            ∙ handed
            ∙ ap (λ (o : Option Node). handed_values b.values (Names.handed_of o)) (sym (node-is v.cleared b.recipe r read n))
            ∙ ap (handed_values b.values) (handed-told v.cleared b.recipe r read b.units n));
        known = tt;
        claims = λ a. (tt, refl);
      }

  pub state-told : (x : State) → Tells v b (Chart.State x) (Lines.State b.number x)
  state-told x = record { is = refl; known = tt; claims = λ a. (tt, refl) }

  pub begin-told : (n : ℕ) → Tells v b (Chart.Begin n) (Lines.Begin b.number b.recipe n)
  begin-told n = record { is = ap₂ (Moves.begin b.number) (place-here n) (name-told v.cleared b.recipe recipe-here.0 recipe-here.1 b.units n); known = tt; claims = λ a. (tt, refl) }

  pub end-told : (n : ℕ) → Tells v b (Chart.End n) (Lines.End b.number b.recipe n)
  end-told n = record { is = ap (Moves.end b.number) (place-here n); known = tt; claims = λ a. (tt, refl) }

  pub ask-told : {n need q u : ℕ} → IsNumberAt v.cleared b n need q u → Tells v b (Chart.Ask n need) (Lines.Claim Asked b.number b.recipe n q u)
  ask-told {n} {need} {q} {u} h = record { is = ap₂ (Moves.ask b.number) (place-here n) (need-here n need q u h.0 h.1); known = tt; claims = (q, u, h, refl) }

  pub release-told : {n need q u : ℕ} → IsNumberAt v.cleared b n need q u → Tells v b (Chart.Release n need) (Lines.Claim Released b.number b.recipe n q u)
  release-told {n} {need} {q} {u} h = record { is = ap₂ (Moves.release b.number) (place-here n) (need-here n need q u h.0 h.1); known = known-resource v k (need_at (tree_of v.cleared b) n need).resource q h.0; claims = (q, u, h, refl) }

  pub pass-told : {n need q u : ℕ} (to : ℕ) → IsNumberAt v.cleared b n need q u → Tells v b (Chart.Pass n to need) (Lines.Pass b.number b.recipe n to q u)
  pass-told {n} {need} {q} {u} to h =
      record {
        is = ap₂ (λ x y. Moves.pass b.number x y (Names.need_of v.cleared q u)) (place-here n) (place-here to)
            ∙ ap (Moves.pass b.number (Tree.place_at (tree_of v.cleared b) n) (Tree.place_at (tree_of v.cleared b) to)) (need-here n need q u h.0 h.1);
        known = tt;
        claims = (q, u, h, refl);
      }

  pub grant-told : (need : ℕ) {n q u : ℕ} → IsNumberAt v.cleared b n need q u → IsNext v (Moves.grant b.number (Tree.place_at (tree_of v.cleared b) n) (need_at (tree_of v.cleared b) n need))
      → TellsNext v (Lines.Claim Granted b.number b.recipe n q u)
  grant-told need {n} {q} {u} h is =
      record { is = subst (IsNext v) (sym (ap₂ (Moves.grant b.number) (place-here n) (need-here n need q u h.0 h.1))) is; known = known-resource v k (need_at (tree_of v.cleared b) n need).resource q h.0 }
