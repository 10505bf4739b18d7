-- The act of each node, at the spot of its way.
use Rattle.std.proofs.Common.{arith, ◌≡◌, ℕ, zero, suc, ◌+◌, ◌++◌, true, List, [], ◌∷◌, Option, Some, None, slice_get, sym, ap₂, refl, subst}
use Rattle.batch_recipe.specs.{ActsAtNodes.ActList, ActsAtNodes.acts_along, ActsAtNodes.acts_along_each, ActsAtNodes.acts_along_cases, ActsAtNodes.acts_below, ActsAtNodes.acts_from, ActsAtNodes.acts_named, ActsAtNodes.procedure_acts, ActsAtNodes.IsNoAct, Conditions.Name, Diagram.Diagram, Diagram.label, Diagram.skip, Diagram.seq, Diagram.par, Diagram.sel, Diagram.loop, Diagram.Diagrams, Diagram.none, Diagram.more, Diagram.Cases, Diagram.otherwise, Diagram.when, Diagram.diagram_of, Expanding.Binding, Expanding.Sites, Expanding.expanded, Expanding.expanded_each, Expanding.expanded_cases, Expanding.task_of, Expanding.act_named, Expanding.act_tree_with, Expanding.named_tree_with, Expanding.needs_with, Expanding.step_of, Expanding.unit_with, Expanding.unit_below, Needs.resources_needed, Nodes.child, Procedure.table_at, Procedure.tables_from, Procedure.level_below, Procedure.sites, Tree.Place, Tree.Tree, Tree.Step, Tree.Task, WellFormed.are_kinds, declared.act.Act.Act, declared.act.Work.Work, declared.act.Work.TheVariants.Follows, declared.act.Work.TheVariants.Runs, declared.acts.Acts.Acts, declared.acts.LabelTable.TheVariants.UnitProcedures, declared.acts.LabelTable.TheVariants.Operations, declared.acts.LabelTable.TheVariants.Phases}
use Rattle.batch_recipe.specs.Tree as tree
use Rattle.batch_recipe.specs.declared.acts.LabelTable as table
use Rattle.std.proofs.lemmas.Bool.{and_parts}
use Rattle.batch_model.specs.Cleared.{Level, is_procedure, below, Part, part, parts, parts_within, parts_of_each, parts_of_choices}
use Rattle.batch_verify.{specs.Walking.is_of_level, specs.Walking.level_of, specs.Ways.Spot, specs.Ways.Way, specs.Ways.way, specs.Ways.ways, specs.Ways.ways_within, specs.Ways.ways_of_each, specs.Ways.ways_of_choices, specs.Ways.spot_below, specs.Ways.spot_within, specs.Ways.unit_within, specs.Ways.bound_ways, specs.Ways.bound_parts, proofs.Levels.below_is, proofs.Levels.named_kind, proofs.Levels.procedure_kind}

-- the act's node is on the unit of its way, and its chart on the unit that it has itself
pub record IsActOn (s : Sites) (w : Way) (x : Part) (a : Act) : Type 0 where
  pub acts : Name → Name → Place → Tree
  pub here_is : x.node.here ≡ act_tree_with s acts w.here.unit a x.node.place
  pub kind : is_of_level w.here.level a ≡ true
  pub under_level : w.under.level ≡ below w.here.level
  pub under_unit : w.under.unit ≡ unit_below w.here.unit (unit_with s.bound a.unit)

abbrev pub IsHereOn : Sites → Way → Part → Option Act → Type 0
IsHereOn s w x None = IsNoAct x.node.here × (w.under ≡ w.here)
IsHereOn s w x (Some a) = IsActOn s w x a

pub record IsOn (s : Sites) (w : Way) (x : Part) (o : Option Act) : Type 0 where
  pub level : x.level ≡ w.here.level
  pub here : IsHereOn s w x o

-- as many ways, nodes and acts, each node on its way
abbrev pub AreOn : Sites → List Way → List Part → ActList → Type 0
AreOn s [] [] [] = Unit {0}
AreOn s (w ∷ ws) (x ∷ xs) (o ∷ os) = IsOn s w x o × AreOn s ws xs os
AreOn s _ _ _ = ⊥

-- A unit procedure's first need is its unit, and no other act has one.
unit_is : (s : Sites) (l : Level) (a : Act) → is_of_level l a ≡ true → (unit : Name)
    → unit_within l unit (needs_with s a) ≡ unit_below unit (unit_with s.bound a.unit)
unit_is s l a kind unit = grind (arith, and_parts)

module _ (bound : Binding) (acts : Acts) (kinds : are_kinds acts ≡ true) where
  abbrev on : Sites
  on = sites bound acts

  both : (ws : List Way) (xs : List Part) (os : ActList) (vs : List Way) (ys : List Part) (ps : ActList) → AreOn on ws xs os → AreOn on vs ys ps
      → AreOn on (ws ++ vs) (xs ++ ys) (os ++ ps)
  both [] [] [] vs ys ps h g = g
  both (w ∷ ws) (x ∷ xs) (o ∷ os) vs ys ps h g = (h.0, both ws xs os vs ys ps h.1 g)
  both ws xs os vs ys ps h g = grind arith

  -- the nodes that a label expands to, on a unit
  abbrev Labels : Spot → (Name → Place → Tree) → (Name → ActList) → Type 0
  Labels v trees named = (name : Name) (p : Place) (above : List Name) → AreOn on (ways v (trees name p)) (parts v.level p above (trees name p)) (named name)

  module _ (v : Spot) (trees : Name → Place → Tree) (named : Name → ActList) (labels : Labels v trees named) where
    bare : (p : Place) (above : List Name) (t : Tree) → IsNoAct t → spot_below v t ≡ v → IsOn on (way v t) (part v.level p above t) None
    bare p above t idle same = record { level = refl; here = (idle, same) }

    mutual
      chart_on : (p : Place) (above : List Name) (d : Diagram) → AreOn on (ways v (expanded trees p d)) (parts v.level p above (expanded trees p d)) (acts_along named d)
      chart_on p above (label name) = labels name p above
      chart_on p above skip = (bare p above tree.skip tt refl, tt)
      chart_on p above (seq ds) = (bare p above (tree.seq (expanded_each trees p 0 ds)) tt refl, each_on p above 0 ds)
      chart_on p above (par ds) = (bare p above (tree.par (expanded_each trees p 0 ds)) tt refl, each_on p above 0 ds)
      chart_on p above (sel cs) = (bare p above (tree.sel (expanded_cases trees p 0 cs)) tt refl, cases_on p above 0 cs)
      chart_on p above (loop turns until d) = (bare p above (tree.loop turns until (expanded trees (child p 0) d)) tt refl, chart_on (child p 0) above d)

      each_on : (p : Place) (above : List Name) (i : ℕ) (ds : Diagrams)
          → AreOn on (ways_of_each v (expanded_each trees p i ds)) (parts_of_each v.level p above i (expanded_each trees p i ds)) (acts_along_each named ds)
      each_on p above i none = tt
      each_on p above i (more d ds) =
          let t = expanded trees (child p i) d in
          let ts = expanded_each trees p (i + 1) ds in
          both (ways v t) (parts v.level (child p i) above t) (acts_along named d) (ways_of_each v ts) (parts_of_each v.level p above (i + 1) ts) (acts_along_each named ds)
          (chart_on (child p i) above d) (each_on p above (i + 1) ds)

      cases_on : (p : Place) (above : List Name) (i : ℕ) (cs : Cases)
          → AreOn on (ways_of_choices v (expanded_cases trees p i cs)) (parts_of_choices v.level p above i (expanded_cases trees p i cs)) (acts_along_cases named cs)
      cases_on p above i (otherwise d) = chart_on (child p i) above d
      cases_on p above i (when c d cs) =
          let t = expanded trees (child p i) d in
          let ts = expanded_cases trees p (i + 1) cs in
          both (ways v t) (parts v.level (child p i) above t) (acts_along named d) (ways_of_choices v ts) (parts_of_choices v.level p above (i + 1) ts) (acts_along_cases named cs)
          (chart_on (child p i) above d) (cases_on p above (i + 1) cs)

    work_on : (unit name : Name) (p : Place) (above : List Name) (work : Work)
        → AreOn on (ways_within v (task_of trees unit name p work)) (parts_within v.level p above (task_of trees unit name p work)) (acts_below named work)
    work_on unit name p above (Follows c) = chart_on (child p 0) above (diagram_of c)
    work_on unit name p above (Runs phase values reports) = tt

  -- where labels that are looked up from a level on stand
  abbrev spot_from : Option table.LabelTable → Name → Spot
  spot_from level unit = record { level = level_of level; unit = unit }

  abbrev LabelsFrom : Option table.LabelTable → Type 0
  LabelsFrom level = (unit : Name) → Labels (spot_from level unit) (named_tree_with on (tables_from acts level) unit) (acts_named (tables_from acts level))

  module _ (l : Level) (level : Option table.LabelTable) (under : below l ≡ level_of level) (labels : LabelsFrom level) (a : Act) (kind : is_of_level l a ≡ true) (unit : Name) (p : Place) (above : List Name) where
    abbrev trees : Name → Name → Place → Tree
    trees = named_tree_with on (tables_from acts level)

    abbrev own : Name
    own = unit_below unit (unit_with bound a.unit)

    abbrev step : Step
    step = step_of on a p

    abbrev task : Task
    task = task_of (trees own) own a.name p a.work

    abbrev at : Spot
    at = record { level = l; unit = unit }

    chart_at : spot_within at step ≡ spot_from level own
    chart_at = ap₂ (λ (m : Level) (u : Name). record { level = m; unit = u }) under (unit_is on l a kind unit)

    act_on : AreOn on (ways at (act_tree_with on trees unit a p)) (parts l p above (act_tree_with on trees unit a p)) (acts_from (acts_named (tables_from acts level)) a)
    act_on = (
      record { level = refl; here = record { acts = trees; here_is = refl; kind = kind; under_level = refl; under_unit = unit_is on l a kind unit } },
      subst (λ (m : Level). AreOn on (ways_within (spot_within at step) task) (parts_within m p (above ++ resources_needed step.needs) task) (acts_below (acts_named (tables_from acts level)) a.work)) (sym under)
          (subst (λ (v : Spot). AreOn on (ways_within v task) (parts_within (level_of level) p (above ++ resources_needed step.needs) task) (acts_below (acts_named (tables_from acts level)) a.work)) (sym chart_at)
          (work_on (spot_from level own) (trees own) (acts_named (tables_from acts level)) (labels own) own a.name p (above ++ resources_needed step.needs) a.work)),
    )

  -- the act that a table has under a name, or none
  found_on : (t : table.LabelTable) → LabelsFrom (level_below t) → (name : Name) (found : Option Act) → act_named (table_at acts t) name ≡ found → (unit : Name) (p : Place) (above : List Name)
      → AreOn on (ways (spot_from (Some t) unit) (elim found [ None ↦ tree.skip | Some a ↦ act_tree_with on (named_tree_with on (tables_from acts (level_below t))) unit a p ]))
      (parts (level_of (Some t)) p above (elim found [ None ↦ tree.skip | Some a ↦ act_tree_with on (named_tree_with on (tables_from acts (level_below t))) unit a p ]))
      (elim found [ None ↦ None ∷ [] | Some a ↦ acts_from (acts_named (tables_from acts (level_below t))) a ])
  found_on t labels name None is unit p above = (record { level = refl; here = (tt, refl) }, tt)
  found_on t labels name (Some a) is unit p above = act_on (level_of (Some t)) (level_below t) (below_is t) labels a (named_kind acts kinds t name a is) unit p above

  no_labels : LabelsFrom None
  no_labels = λ unit name p above. (record { level = refl; here = (tt, refl) }, tt)

  of_phases : LabelsFrom (Some Phases)
  of_phases = λ unit name p above. found_on Phases no_labels name (act_named acts.phases.items name) refl unit p above

  of_operations : LabelsFrom (Some Operations)
  of_operations = λ unit name p above. found_on Operations of_phases name (act_named acts.operations.items name) refl unit p above

  of_unit_procedures : LabelsFrom (Some UnitProcedures)
  of_unit_procedures = λ unit name p above. found_on UnitProcedures of_operations name (act_named acts.unit_procedures.items name) refl unit p above

  procedure_on : AreOn on (bound_ways bound acts) (bound_parts bound acts) (procedure_acts acts)
  procedure_on = act_on is_procedure (Some UnitProcedures) refl of_unit_procedures acts.procedure (procedure_kind acts kinds) [] (0 ∷ []) []

  on_at : (ws : List Way) (xs : List Part) (os : ActList) → AreOn on ws xs os → (k : ℕ) (w : Way) (o : Option Act) → slice_get ws k ≡ Some w → slice_get os k ≡ Some o
      → (x : Part) × (slice_get xs k ≡ Some x) × IsOn on w x o
  on_at [] [] [] h k w o is at = let bad : None ≡ Some w = is in cc
  on_at (v ∷ ws) (x ∷ xs) (q ∷ os) h zero w o is at = grind arith
  on_at (v ∷ ws) (x ∷ xs) (q ∷ os) h (suc k) w o is at = on_at ws xs os h.1 k w o is at
  on_at ws xs os h k w o is at = grind arith

  -- the node with this number stands on its way
  pub part_on : (k : ℕ) (w : Way) (o : Option Act) → slice_get (bound_ways bound acts) k ≡ Some w → slice_get (procedure_acts acts) k ≡ Some o
      → (x : Part) × (slice_get (bound_parts bound acts) k ≡ Some x) × IsOn on w x o
  part_on k w o is at = on_at (bound_ways bound acts) (bound_parts bound acts) (procedure_acts acts) procedure_on k w o is at
