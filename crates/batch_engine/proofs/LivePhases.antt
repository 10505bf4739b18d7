-- Live phases of a batch, one after another.
use Rattle.std.proofs.Common.{◌≡◌, ◌<◌, ◌≤◌, refl, sym, ◌∙◌, ap, ℕ, zero, suc, List, [], ◌∷◌, ◌+◌, Bool, true, false, Option, Some, None, inl, inr, arith, length, get_or}
use Rattle.std.specs.Prelude.{position}
use Rattle.batch_matrix.specs.declared.state.State.{State}
use Rattle.batch_recipe.{specs.Conditions.Name, specs.Conditions.same_name, specs.Nodes.Node, specs.Nodes.node_count, specs.Tree.Tree, specs.Tree.skip, proofs.NodeOrder.counted_nodes}
use Rattle.batch_model.specs.{Events.LivePhase, Events.live_in, Rest.Rest}
use Rattle.batch_model.specs.Plant as Model
use Rattle.batch_record_laws.proofs.Entries.{name_same, name_self}
use Rattle.batch_chart.specs.{Looked.live_by, Looked.live_phase_at, NodesOf.node_at, NodesOf.nodes_of, NodesOf.phase_at, NodesOf.phase_in, NodesOf.phase_named, NodesOf.tree_task}
use Rattle.batch_set.proofs.Positions.{name-at}
use Rattle.batch_signs.proofs.Bits.{within-or_past}

-- a node that names a phase is one of the tree
pub phase-within : (t : Tree) (k : ℕ) (names : Name × Name) → phase_named (node_at t k).here ≡ Some names → k < node_count t
phase-within t k names e = elim (within-or_past k (node_count t)) [
  | inl l ↦ l
  | inr m ↦ absurd (let q : ◌≡◌ {A = Option (Name × Name)} None (Some names) = sym (ap (λ (n : Node). phase_named n.here) (past (nodes_of t) k (omega (arith, m, counted_nodes (0 ∷ []) [] t)))) ∙ e in cc)
]
  where
    past : (ns : List Node) (j : ℕ) → length ns ≤ j → get_or ns j (record { place = []; asked = []; here = skip }) ≡ record { place = []; asked = []; here = skip }
    past [] j h = refl
    past (n ∷ ns) zero h = absurd (omega arith)
    past (n ∷ ns) (suc j) h = past ns j (omega arith)

-- it runs the phase with that name
pub named-phase : (here : Tree) (names : Name × Name) → phase_named here ≡ Some names → (phase_in (tree_task here)).name ≡ names.1
named-phase here names e = grind arith

module _ (t : Tree) (b : Model.Batch) (later : ℕ → List Rest) (unit phase : Name) (node : ℕ) (x : State) (units : List Name) (number : ℕ)
    (own : position (same_name (phase_at t node).unit) units ≡ Some number) where
  -- it runs on the unit with this name
  pub found-on : position (same_name unit) units ≡ Some number → live_by t b later unit phase (Some (node, x)) ≡ Some (live_phase_at t b (node, x))
  found-on e =
      let same : (phase_at t node).unit ≡ unit =
      (let q : ◌≡◌ {A = Option Name} (Some (phase_at t node).unit) (Some unit) = sym (name-at units (phase_at t node).unit number own) ∙ name-at units unit number e in cc) in
      ap (λ (s : Bool). let o : Option LivePhase = elim s [ true ↦ Some (live_phase_at t b (node, x)) | false ↦ live_in b unit phase (later (node + 1)) ] in o)
      (ap (same_name (phase_at t node).unit) (sym same) ∙ name_self (phase_at t node).unit)

  -- it runs on another
  pub passed-over : (position (same_name unit) units ≡ Some number → ⊥) → live_by t b later unit phase (Some (node, x)) ≡ live_in b unit phase (later (node + 1))
  passed-over differs =
      ap (λ (s : Bool). let o : Option LivePhase = elim s [ true ↦ Some (live_phase_at t b (node, x)) | false ↦ live_in b unit phase (later (node + 1)) ] in o)
      (go (same_name (phase_at t node).unit unit) refl)
    where
      go : (s : Bool) → same_name (phase_at t node).unit unit ≡ s → s ≡ false
      go true e = absurd (differs (ap (λ (n : Name). position (same_name n) units) (sym (name_same (phase_at t node).unit unit e)) ∙ own))
      go false e = refl
