-- The resources that a cleared recipe's acts need and the phases that they run have numbers.
use Rattle.std.proofs.Common.{◌≡◌, ◌<◌, refl, sym, ◌∙◌, ap, subst, ℕ, List, [], ◌∷◌, ◌++◌, Bool, true, false, if◌then◌else◌, Option, Some, None, arith, length, map, filter, nat_lt}
use Rattle.std.{specs.Prelude.slice_get, specs.Prelude.position, specs.Prelude.unwrap_or, specs.Prelude.IsTrue, specs.List.list_any, specs.List.list_all, proofs.lemmas.List.length-map, proofs.lemmas.Option.get_or_from_slice_get, proofs.lemmas.Option.slice_get_past, proofs.lemmas.Option.slice_get_within, proofs.lemmas.Bool.and_parts}
use Rattle.batch_cell.{specs.Equipment.is_free, specs.Equipment.belongs_to, specs.Equipment.has_declared_unit, specs.Equipment.unit_phases, specs.LookUps.units_of, specs.LookUps.resources_of, specs.LookUps.phases_of, specs.declared.cell.Cell.Cell, specs.declared.module.Module.Module, specs.declared.shared.Shared.Shared, specs.declared.unit.Unit.Unit, proofs.Resources.few_resources}
use Rattle.batch_recipe.{specs.Conditions.Name, specs.Conditions.same_name, specs.Nodes.Node, specs.Nodes.node_count, specs.Tree.Phase, specs.Tree.Tree, specs.Tree.skip, specs.WellFormed.is_among, specs.declared.need.Need.Need, proofs.NodeOrder.counted_nodes, proofs.AppendedLists.slice_get-left}
use Rattle.batch_recipe.specs.Nodes as nodes_spec
use Rattle.batch_model.{specs.Cleared.CanBeCleared, specs.Cleared.IsClear, specs.Cleared.IsOffered, specs.Cleared.NeedsResources, specs.Cleared.Part, specs.Cleared.is_procedure, specs.Cleared.procedure_parts, specs.Lists.Each, proofs.Members.Each-map, proofs.TreeParts.parts-nodes, specs.Standing.IsControl}
use Rattle.batch_model.specs.Plant as Model
use Rattle.batch_record_laws.proofs.{ClearanceOverNodes.control-clear, Entries.name_same, Members.Each-image}
use Rattle.batch_verify.specs.ClearedSet.{ClearedSet}
use Rattle.batch_set.proofs.Positions.{any-position, name-at}
use Rattle.batch_chart.specs.NodesOf.{nodes_of, node_at, tree_step, step_at, need_at, no_need}
use Rattle.batch_engine.specs.Names as Names
use Rattle.batch_engine.{specs.View.setup, specs.View.resource_number, proofs.SlabChanges.each-at}

-- A unit that offers something is declared

own-unit : (units : List Name) (unit : Name) (o : Option Name) → elim o [ None ↦ false | Some own ↦ same_name own unit ] ≡ true
    → elim o [ None ↦ true | Some own ↦ list_any (same_name own) units ] ≡ true → list_any (same_name unit) units ≡ true
own-unit units unit None e f = absurd cc
own-unit units unit (Some own) e f = subst (λ z. list_any (same_name z) units ≡ true) (name_same own unit e) f

pub offering-unit : (units : List Name) (ms : List Module) (unit phase : Name) → list_all (has_declared_unit units) ms ≡ true
    → list_any (same_name phase) (unit_phases ms unit) ≡ true → list_any (same_name unit) units ≡ true
offering-unit units [] unit phase d h = absurd cc
offering-unit units (m ∷ ms) unit phase d h = go (belongs_to unit m) refl (offering-unit units ms unit phase)
  where
    declared : (has_declared_unit units m ≡ true) × (list_all (has_declared_unit units) ms ≡ true)
    declared = and_parts (has_declared_unit units m) (list_all (has_declared_unit units) ms) d

    go : (b : Bool) → belongs_to unit m ≡ b
        → (list_all (has_declared_unit units) ms ≡ true → list_any (same_name phase) (unit_phases ms unit) ≡ true → list_any (same_name unit) units ≡ true) → list_any (same_name unit) units ≡ true
    go true e later = own-unit units unit m.unit e declared.0
    go false e later =
        later declared.1
        (subst (λ (ns : List Name). list_any (same_name phase) (ns ++ unit_phases ms unit) ≡ true)
        (ap (λ (t : Bool). let ns : List Name = if t then m.phases.items else [] in ns) e) h)

-- Numbers lead back to their names

module _ (cell : Cell) (unit phase : Name) (offers : list_any (same_name phase) (unit_phases cell.modules.items unit) ≡ true) where
  pub unit-number : (q : ℕ) × (position (same_name unit) (units_of cell) ≡ Some q)
  unit-number = any-position (same_name unit) (units_of cell) (offering-unit (units_of cell) cell.modules.items unit phase cell.declared_units offers)

  unit-there : slice_get (units_of cell) unit-number.0 ≡ Some unit
  unit-there = name-at (units_of cell) unit unit-number.0 unit-number.1

  offered-here : list_any (same_name phase) (phases_of cell unit-number.0) ≡ true
  offered-here =
      subst (λ (z : Name). list_any (same_name phase) (unit_phases cell.modules.items z) ≡ true)
      (sym (get_or_from_slice_get (units_of cell) unit-number.0 unit [] unit-there)) offers

  pub phase-among : (q : ℕ) × (position (same_name phase) (phases_of cell unit-number.0) ≡ Some q)
  phase-among = any-position (same_name phase) (phases_of cell unit-number.0) offered-here

abbrev free_names : Cell → List Name
free_names cell = map (λ (m : Module). m.name) (filter is_free cell.modules.items)

abbrev shared_names : Cell → List Name
shared_names cell = map (λ (s : Shared). s.name) cell.shared.items

within-yes : (m n : ℕ) → m < n → nat_lt m n ≡ true
within-yes m n l = grind arith

within-no : (m n : ℕ) → n < m → nat_lt m n ≡ false
within-no m n l = grind arith

-- the unit with a number has the name of the resource with this number
pub unit-named : (c : ClearedSet) (u : ℕ) (name : Name) → slice_get (units_of c.cell) u ≡ Some name → Names.resource_name c u ≡ name
unit-named c u name at =
    ap (λ (o : Option Name). unwrap_or o [])
    (slice_get-left (units_of c.cell ++ free_names c.cell) (shared_names c.cell) u name (slice_get-left (units_of c.cell) (free_names c.cell) u name at))

-- a phase that is offered has the unit and the name that its numbers name
pub phase-named : (c : ClearedSet) (p : Phase) (offers : list_any (same_name p.name) (unit_phases c.cell.modules.items p.unit) ≡ true)
    → (let u = unit-number c.cell p.unit p.name offers in let q = phase-among c.cell p.unit p.name offers in
    (Names.resource_name c u.0 ≡ p.unit) × (Names.phase_name c u.0 q.0 ≡ p.name))
phase-named c p offers =
    let u = unit-number c.cell p.unit p.name offers in
    let q = phase-among c.cell p.unit p.name offers in
    let at : slice_get (units_of c.cell) u.0 ≡ Some p.unit = name-at (units_of c.cell) p.unit u.0 u.1 in (
      unit-named c u.0 p.unit at,
      ap (λ (t : Bool). let z : Name = if t then unwrap_or (slice_get (phases_of c.cell u.0) q.0) [] else [] in z)
          (within-yes u.0 (length (units_of c.cell)) (slice_get_within (units_of c.cell) u.0 p.unit at))
          ∙ ap (λ (o : Option Name). unwrap_or o []) (name-at (phases_of c.cell u.0) p.name q.0 q.1),
    )

-- Of each node of a cleared recipe

abbrev pub IsNamed : ClearedSet → Tree → Type 0
IsNamed c t = NeedsResources (resources_of c.cell) t × IsOffered (setup c) t

needs-same : (t : Tree) → nodes_spec.needs_of t ≡ (tree_step t).needs
needs-same t = grind arith

module _ (c : ClearedSet) (cleared : CanBeCleared (setup c)) (r : Model.Recipe) (control : IsControl (setup c) r) where
  pub node-named : (k : ℕ) → k < node_count r.procedure → IsNamed c (node_at r.procedure k).here
  node-named k l =
      let clear : Each (IsClear (setup c) cleared.0) (procedure_parts r) = control-clear (setup c) cleared.0 cleared.1 r control in
      let parts-named : Each (λ (x : Part). IsNamed c x.node.here) (procedure_parts r) =
      Each-map (IsClear (setup c) cleared.0) (λ (x : Part). IsNamed c x.node.here) (λ x h. (h.known, h.offered)) (procedure_parts r) clear in
      let all : Each (λ (n : Node). IsNamed c n.here) (nodes_of r.procedure) =
      subst (Each (λ (n : Node). IsNamed c n.here)) (parts-nodes is_procedure (0 ∷ []) [] r.procedure)
      (Each-image (λ (n : Node). IsNamed c n.here) (λ (x : Part). x.node) (procedure_parts r) parts-named) in
      each-at (λ (n : Node). IsNamed c n.here) (nodes_of r.procedure) k (record { place = []; asked = []; here = skip }) all
      (omega (arith, l, counted_nodes (0 ∷ []) [] r.procedure))

  -- the resource of a need has a number
  pub need-numbered : (k i : ℕ) → k < node_count r.procedure → i < length (step_at r.procedure k).needs → (q : ℕ) × (resource_number c (need_at r.procedure k i).resource ≡ Some q)
  need-numbered k i l m =
      let n : Need = need_at r.procedure k i in
      let here : Each (λ (need : Need). IsTrue (is_among (resources_of c.cell) need.resource)) (step_at r.procedure k).needs =
      subst (Each (λ (need : Need). IsTrue (is_among (resources_of c.cell) need.resource))) (needs-same (node_at r.procedure k).here) (node-named k l).0 in
      let among : IsTrue (is_among (resources_of c.cell) n.resource) =
      each-at (λ (need : Need). IsTrue (is_among (resources_of c.cell) need.resource)) (step_at r.procedure k).needs i no_need here m in
      any-position (same_name n.resource) (resources_of c.cell) among

-- A cell has few resources

few-units : (cell : Cell) → length (units_of cell) < 65535
few-units cell = omega (arith, cell.few_units, length-map cell.units.items (λ (u : Unit). u.name))

few-resources : (cell : Cell) → length (resources_of cell) < 65535
few-resources cell = omega (arith, few_resources cell.units.items cell.modules.items cell.shared.items, cell.few_units, cell.few_modules, cell.few_shared)

-- The numbers of an act that runs no phase name nothing

pub nothing-named : (c : ClearedSet) → (Names.resource_name c 65535 ≡ []) × (Names.phase_name c 65535 65535 ≡ [])
nothing-named c = (
  ap (λ (o : Option Name). unwrap_or o []) (slice_get_past (resources_of c.cell) 65535 (omega (arith, few-resources c.cell))),
  ap (λ (t : Bool). let z : Name = if t then unwrap_or (slice_get (phases_of c.cell 65535) 65535) [] else [] in z) (within-no 65535 (length (units_of c.cell)) (few-units c.cell)),
)
