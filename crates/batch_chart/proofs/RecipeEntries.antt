-- The entries of a recipe stand for the nodes of its expanded tree, whatever units take its roles.
use Rattle.std.proofs.Common.{◌≡◌, ℕ, zero, suc, ◌+◌, ◌≤◌, List, [], ◌∷◌, ◌++◌, length, Bool, true, false, not, ◌&&◌, Option, Some, None, slice_get, sym, ap, ◌∙◌, refl, subst, arith, append-nil, length-append}
use Rattle.std.{proofs.lemmas.List.length-map, specs.List.list_all, specs.Prelude.⊤, specs.Prelude.map, proofs.lemmas.Bool.and_parts, proofs.lemmas.Option.slice_get_within}
use Rattle.batch_recipe.{specs.Conditions.Name, specs.Conditions.same_name, specs.Diagram.Diagram, specs.Diagram.Diagrams, specs.Diagram.Cases, specs.Diagram.diagram_of, specs.Expanding.Binding, specs.Expanding.expanded, specs.Expanding.expanded_each, specs.Expanding.expanded_cases, specs.Expanding.act_named, specs.Expanding.act_tree_with, specs.Expanding.named_tree_with, specs.Expanding.unit_with, specs.Expanding.unit_below, specs.Expanding.asked_in_order, specs.Expanding.task_of, specs.Expanding.Sites, specs.Expanding.unit_named, specs.Expanding.needs_with, specs.Expanding.step_of, specs.Expanding.unit_count, specs.Needs.one_unit, specs.Growing.Head, specs.Growing.Labels, specs.Growing.LabelConditions, specs.Growing.entry, specs.Growing.plain_head, specs.Growing.act_head, specs.Growing.needs_count, specs.Growing.topped, specs.Growing.bare_entries, specs.Growing.grown, specs.Growing.grown_each, specs.Growing.grown_cases, specs.Growing.grown_work, specs.Growing.grown_act, specs.Growing.grown_named, specs.Growing.conditions_of_cases, specs.Growing.conditions_along, specs.Growing.conditions_along_each, specs.Growing.conditions_along_cases, specs.Growing.conditions_below, specs.Growing.conditions_named, specs.Growing.conditions_of, specs.Growing.levels_from, specs.Growing.number_in, specs.Growing.unit_number, specs.Growing.entries_of, specs.Nodes.node_count, specs.Nodes.count_of_each, specs.Nodes.count_of_choices, specs.Nodes.child, specs.Procedure.table_at, specs.Procedure.tables_from, specs.Procedure.level_below, specs.Procedure.bound_tree, specs.Procedure.sites, specs.Tree.Place, specs.Tree.Step, specs.Tree.Tree, specs.WellFormed.has_unit, specs.WellFormed.has_chart, specs.declared.act.Act.Act, specs.declared.act.UnitChoice.UnitChoice, specs.declared.act.Work.Work, specs.declared.act.Work.TheVariants.Follows, specs.declared.act.Work.TheVariants.Runs, specs.declared.acts.LabelTable.LabelTable, specs.declared.acts.LabelTable.TheVariants.UnitProcedures, specs.declared.acts.LabelTable.TheVariants.Operations, specs.declared.acts.LabelTable.TheVariants.Phases, specs.declared.condition.Condition.Condition, specs.declared.entry.Entry.Entry, specs.declared.recipe.Recipe.Recipe, proofs.Growth.found_at, proofs.Growth.not_found}
use Rattle.batch_recipe.specs.Diagram as diagram
use Rattle.batch_recipe.specs.Tree as tree
use Rattle.batch_recipe.specs.declared.entry.Kind as recipe
use Rattle.batch_recipe.specs.declared.entry.Kind.TheVariants as entry_kind
use Rattle.batch_chart.{specs.Outlined.entry_at, specs.Outlined.kind_of_entry, specs.Outlined.kind_by, specs.Outlined.unit_under, specs.Outlined.unit_name, specs.Outlined.unit_by, specs.Outlined.unit_choice, specs.Outlined.phase_by, specs.Outlined.IsNode, specs.Outlined.IsCondition, specs.Outlined.StandsOn, specs.Outlined.AreStandingOn, specs.Outlined.AreChoicesOn, specs.declared.node.Kind.Kind, specs.declared.node.Kind.TheVariants.Skip, specs.declared.node.Kind.TheVariants.Act as act_kind, specs.declared.node.Kind.TheVariants.Seq, specs.declared.node.Kind.TheVariants.Par, specs.declared.node.Kind.TheVariants.Sel, specs.declared.node.Kind.TheVariants.Loop, proofs.Sublists.AreFrom, proofs.Sublists.from_left, proofs.Sublists.from_right, proofs.Sublists.from_tail, proofs.Sublists.from_head, proofs.Sublists.from_end, proofs.FoundElement.found_passes}
use Rattle.batch_chart.specs.declared.node.Kind.TheVariants as kind

pub node_read : (ns : List Entry) (k : ℕ) (x : Entry) → slice_get ns k ≡ Some x → entry_at ns k ≡ x
node_read [] k x h = let bad : None ≡ Some x = h in cc
node_read (y ∷ ns) zero x h = let e : Some y ≡ Some x = h in cc
node_read (y ∷ ns) (suc k) x h = node_read ns k x h

-- an act has as many needs as it asks for
needs_counted : (own : Sites) (a : Act) → needs_count a ≡ length (needs_with own a)
needs_counted own a = go a.unit
  where
    both : length (map one_unit (map (unit_named own) a.reserves.items) ++ a.needs.items) ≡ length a.reserves.items + length a.needs.items
    both =
        length-append (map one_unit (map (unit_named own) a.reserves.items)) a.needs.items
        ∙ ap (λ z. z + length a.needs.items) (length-map (map (unit_named own) a.reserves.items) one_unit ∙ length-map a.reserves.items (unit_named own))

    go : (unit : Option UnitChoice) → length a.needs.items + length a.reserves.items + unit_count unit ≡ length (asked_in_order (unit_with own.bound unit) (map (unit_named own) a.reserves.items) a.needs.items)
    go None = omega (arith, both)
    go (Some choice) = omega (arith, both)

-- the conditions are those of the outline from i on
abbrev pub HaveConditions : Recipe → ℕ → List Condition → Type 0
HaveConditions doc i [] = ⊤
HaveConditions doc i (c ∷ cs) = IsCondition doc i c × HaveConditions doc (i + 1) cs

conditions_from : (doc : Recipe) (j : ℕ) (xs : List Condition) → AreFrom doc.outline.conditions.items j xs → HaveConditions doc j xs
conditions_from doc j [] h = tt
conditions_from doc j (x ∷ xs) h = (from_head doc.outline.conditions.items j x xs h, conditions_from doc (j + 1) xs (from_tail doc.outline.conditions.items j x xs h))

module _ (doc : Recipe) (bound : Binding) where
  abbrev es : List Entry
  es = doc.outline.entries.items

  abbrev all : List Condition
  all = doc.outline.conditions.items

  -- the tree stands where the entries do
  abbrev StandsAs : ℕ → List Entry → Tree → Type 0
  StandsAs n xs t = (length xs ≡ node_count t) × StandsOn (Some bound) es doc n t

  node_is : (n m : ℕ) (e : Entry) (κ : Kind) → slice_get es n ≡ Some e → kind_of_entry e ≡ κ → e.end ≡ m → m ≤ length es → IsNode es n κ m
  node_is n m e κ is kinds end fits = (
    slice_get_within es n e is,
    ap kind_of_entry (node_read es n e is) ∙ kinds,
    ap (λ (x : Entry). x.end) (node_read es n e is) ∙ end,
    fits,
  )

  -- the node of a head that stands at n
  node_of : (n m : ℕ) (h : Head) (u i : ℕ) (below : List Entry) (κ : Kind) → AreFrom es n (topped h n u i below) → kind_by h.kind h.needs h.detail ≡ κ → length below ≡ m → IsNode es n κ (n + (1 + m))
  node_of n m h u i below κ are is count =
      let fits = from_end es n (topped h n u i below) are in
      node_is n (n + (1 + m)) (entry h (n + 1 + length below) u i) κ (from_head es n _ below are) is (omega (arith, count)) (omega (arith, count, fits))

  bare_stands : (n u i : ℕ) → AreFrom es n (bare_entries n u i) → StandsAs n (bare_entries n u i) tree.skip
  bare_stands n u i are =
      let fits = from_end es n (bare_entries n u i) are in
      (refl, node_is n (n + 1) (entry (plain_head entry_kind.Skip 0) (n + 1) u i) Skip (from_head es n _ [] are) refl refl (omega (arith, fits)))

  -- the entries of labels stand for the trees that the labels name
  abbrev AreLabels : LabelConditions → Labels → (Name → Place → Tree) → Type 0
  AreLabels told named trees = (name : Name) (n j u i : ℕ) (p : Place) → AreFrom es n (named name n j u i) → AreFrom all j (told name) → StandsAs n (named name n j u i) (trees name p)

  module _ (told : LabelConditions) (named : Labels) (trees : Name → Place → Tree) (labels : AreLabels told named trees) where
    mutual
      chart_stands : (n j u i : ℕ) (p : Place) (d : Diagram) → AreFrom es n (grown told named n j u i d) → AreFrom all j (conditions_along told d) → StandsAs n (grown told named n j u i d) (expanded trees p d)
      chart_stands n j u i p (diagram.label name) h c = labels name n j u i p h c
      chart_stands n j u i p diagram.skip h c = bare_stands n u i h
      chart_stands n j u i p (diagram.seq ds) h c =
          let xs = grown_each told named (n + 1) j n 0 ds in
          let g = each_stand (n + 1) j n 0 p ds (from_tail es n _ xs h) c in
          let end : n + 1 + length xs ≡ n + node_count (tree.seq (expanded_each trees p 0 ds)) = omega (arith, g.0) in
          (omega (arith, g.0), (node_of n (count_of_each (expanded_each trees p 0 ds)) (plain_head entry_kind.Seq 0) u i xs Seq h refl g.0, subst (λ m. AreStandingOn (Some bound) es doc (n + 1) m (expanded_each trees p 0 ds)) end g.1))
      chart_stands n j u i p (diagram.par ds) h c =
          let xs = grown_each told named (n + 1) j n 0 ds in
          let g = each_stand (n + 1) j n 0 p ds (from_tail es n _ xs h) c in
          let end : n + 1 + length xs ≡ n + node_count (tree.par (expanded_each trees p 0 ds)) = omega (arith, g.0) in
          (omega (arith, g.0), (node_of n (count_of_each (expanded_each trees p 0 ds)) (plain_head entry_kind.Par 0) u i xs Par h refl g.0, subst (λ m. AreStandingOn (Some bound) es doc (n + 1) m (expanded_each trees p 0 ds)) end g.1))
      chart_stands n j u i p (diagram.sel cs) h c =
          let own = conditions_of_cases cs in
          let xs = grown_cases told named (n + 1) (j + length own) n 0 cs in
          let g = cases_stand (n + 1) (j + length own) n 0 p cs j (conditions_from doc j own (from_left all j own (conditions_along_cases told cs) c)) (from_tail es n _ xs h) (from_right all j own (conditions_along_cases told cs) c) in
          let end : n + 1 + length xs ≡ n + node_count (tree.sel (expanded_cases trees p 0 cs)) = omega (arith, g.0) in
          (omega (arith, g.0), (j, node_of n (count_of_choices (expanded_cases trees p 0 cs)) (plain_head entry_kind.Sel j) u i xs (Sel j) h refl g.0, subst (λ m. AreChoicesOn (Some bound) es doc j (n + 1) m (expanded_cases trees p 0 cs)) end g.1))
      chart_stands n j u i p (diagram.loop turns until d) h c =
          let xs = grown told named (n + 1) (j + 1) n 0 d in
          let g = chart_stands (n + 1) (j + 1) n 0 (child p 0) d (from_tail es n _ xs h) (from_tail all j until (conditions_along told d) c) in (
            omega (arith, g.0),
            (j, node_of n (node_count (expanded trees (child p 0) d)) (plain_head (entry_kind.Loop turns) j) u i xs (Loop turns j) h refl g.0, from_head all j until (conditions_along told d) c, g.1),
          )

      each_stand : (n j u i : ℕ) (p : Place) (ds : Diagrams) → AreFrom es n (grown_each told named n j u i ds) → AreFrom all j (conditions_along_each told ds)
          → (length (grown_each told named n j u i ds) ≡ count_of_each (expanded_each trees p i ds)) × AreStandingOn (Some bound) es doc n (n + length (grown_each told named n j u i ds)) (expanded_each trees p i ds)
      each_stand n j u i p diagram.none h c = (refl, omega arith)
      each_stand n j u i p (diagram.more d ds) h c =
          let own = conditions_along told d in
          let xs = grown told named n j u i d in
          let ys = grown_each told named (n + length xs) (j + length own) u (i + 1) ds in
          let a = chart_stands n j u i (child p i) d (from_left es n xs ys h) (from_left all j own (conditions_along_each told ds) c) in
          let b = each_stand (n + length xs) (j + length own) u (i + 1) p ds (from_right es n xs ys h) (from_right all j own (conditions_along_each told ds) c) in
          let next : n + length xs ≡ n + node_count (expanded trees (child p i) d) = ap (λ k. n + k) a.0 in
          let end : n + length xs + length ys ≡ n + length (xs ++ ys) = omega (arith, length-append xs ys) in (
            omega (arith, length-append xs ys, a.0, b.0),
            (
              a.1,
              subst (λ k. AreStandingOn (Some bound) es doc k (n + length (xs ++ ys)) (expanded_each trees p (i + 1) ds)) next
                  (subst (λ m. AreStandingOn (Some bound) es doc (n + length xs) m (expanded_each trees p (i + 1) ds)) end b.1),
            ),
          )

      cases_stand : (n j u i : ℕ) (p : Place) (cs : Cases) (first : ℕ) → HaveConditions doc first (conditions_of_cases cs) → AreFrom es n (grown_cases told named n j u i cs) → AreFrom all j (conditions_along_cases told cs)
          → (length (grown_cases told named n j u i cs) ≡ count_of_choices (expanded_cases trees p i cs)) × AreChoicesOn (Some bound) es doc first n (n + length (grown_cases told named n j u i cs)) (expanded_cases trees p i cs)
      cases_stand n j u i p (diagram.otherwise d) first conditions h c =
          let a = chart_stands n j u i (child p i) d h c in
          (a.0, (a.1, ap (λ k. n + k) (sym a.0)))
      cases_stand n j u i p (diagram.when condition d cs) first conditions h c =
          let own = conditions_along told d in
          let xs = grown told named n j u i d in
          let ys = grown_cases told named (n + length xs) (j + length own) u (i + 1) cs in
          let a = chart_stands n j u i (child p i) d (from_left es n xs ys h) (from_left all j own (conditions_along_cases told cs) c) in
          let b = cases_stand (n + length xs) (j + length own) u (i + 1) p cs (first + 1) conditions.1 (from_right es n xs ys h) (from_right all j own (conditions_along_cases told cs) c) in
          let next : n + length xs ≡ n + node_count (expanded trees (child p i) d) = ap (λ k. n + k) a.0 in
          let end : n + length xs + length ys ≡ n + length (xs ++ ys) = omega (arith, length-append xs ys) in (
            omega (arith, length-append xs ys, a.0, b.0),
            (
              conditions.0,
              a.1,
              subst (λ k. AreChoicesOn (Some bound) es doc (first + 1) k (n + length (xs ++ ys)) (expanded_cases trees p (i + 1) cs)) next
                  (subst (λ m. AreChoicesOn (Some bound) es doc (first + 1) (n + length xs) m (expanded_cases trees p (i + 1) cs)) end b.1),
            ),
          )

  -- An act on a unit under unit procedure o.
  module _ (told : LabelConditions) (named : Labels) (trees : Name → Name → Place → Tree) (o : ℕ) (unit : Name) (a : Act) (k : recipe.Kind) (n j u i : ℕ) (p : Place) where
    abbrev own_unit : Name
    own_unit = unit_below unit (unit_with bound a.unit)

    abbrev step : Step
    step = step_of (sites bound doc.acts) a p

    -- one that follows a chart
    act_stands : AreLabels told named (trees own_unit) → ((q : ℕ) → kind_by k q o ≡ act_kind q) → has_chart a ≡ true → AreFrom es n (grown_act told named k o n j u i a) → AreFrom all j (conditions_below told a.work)
        → StandsAs n (grown_act told named k o n j u i a) (act_tree_with (sites bound doc.acts) trees unit a p)
    act_stands labels is chart = go a.work chart
      where
        go : (w : Work) → elim w as (λ _. Bool) [ Follows c ↦ true | Runs name handed reports ↦ false ] ≡ true → AreFrom es n (topped (act_head k o a) n u i (grown_work told named n j w)) → AreFrom all j (conditions_below told w)
            → StandsAs n (topped (act_head k o a) n u i (grown_work told named n j w)) (tree.act step (task_of (trees own_unit) own_unit a.name p w))
        go (Runs phase values reports) e h c = absurd (cc)
        go (Follows chart) e h c =
            let xs = grown told named (n + 1) j n 0 (diagram_of chart) in
            let g = chart_stands told named (trees own_unit) labels (n + 1) j n 0 (child p 0) (diagram_of chart) (from_tail es n _ xs h) c in
            let stood = node_of n (node_count (expanded (trees own_unit) (child p 0) (diagram_of chart))) (act_head k o a) u i xs (act_kind (length step.needs)) h (is (needs_count a) ∙ ap act_kind (needs_counted (sites bound doc.acts) a)) g.0 in
            (omega (arith, g.0), (stood, g.1))

    -- one that runs a phase
    phase_stands : (number : ℕ) → slice_get doc.acts.phases.items number ≡ Some a → ((q : ℕ) → kind_by k q o ≡ kind.Phase q number) → unit_name bound (unit_choice doc o) ≡ Some own_unit → has_chart a ≡ false
        → AreFrom es n (grown_act told named k o n j u i a) → StandsAs n (grown_act told named k o n j u i a) (act_tree_with (sites bound doc.acts) trees unit a p)
    phase_stands number at is on chart = go a.work refl chart
      where
        go : (w : Work) → a.work ≡ w → elim w as (λ _. Bool) [ Follows c ↦ true | Runs name handed reports ↦ false ] ≡ false → AreFrom es n (topped (act_head k o a) n u i (grown_work told named n j w))
            → StandsAs n (topped (act_head k o a) n u i (grown_work told named n j w)) (tree.act step (task_of (trees own_unit) own_unit a.name p w))
        go (Follows c) w e h = absurd (cc)
        go (Runs phase values reports) w e h =
            let stood = node_of n 0 (act_head k o a) u i [] (kind.Phase (length step.needs) number) h (is (needs_count a) ∙ ap (λ q. kind.Phase q number) (needs_counted (sites bound doc.acts) a)) refl in
            let read = node_read es n (entry (act_head k o a) (n + 1 + 0) u i) (from_head es n _ [] h) in
            let under : unit_under es n ≡ o = ap (λ (x : Entry). x.detail) read in
            let named_so = ap phase_by at ∙ ap Rattle.batch_chart.specs.Outlined.run_phase_in w in
            (refl, (number, (stood.0, stood.1, stood.2 ∙ (let e : n + (1 + 0) ≡ n + 1 = omega arith in e), omega (arith, stood.3)), named_so, ap (λ z. unit_name bound (unit_choice doc z)) under ∙ on))

  -- charts whose labels are looked up from the level on stand on the unit of unit procedure o
  abbrev IsOn : Option LabelTable → ℕ → Name → Type 0
  IsOn None o unit = unit_name bound (unit_choice doc o) ≡ Some unit
  IsOn (Some UnitProcedures) o unit = ⊤
  IsOn (Some Operations) o unit = unit_name bound (unit_choice doc o) ≡ Some unit
  IsOn (Some Phases) o unit = unit_name bound (unit_choice doc o) ≡ Some unit

  abbrev LabelsFrom : Option LabelTable → Type 0
  LabelsFrom level = (o : ℕ) (unit : Name) → IsOn level o unit → AreLabels (conditions_named doc.acts (levels_from level)) (grown_named doc.acts (levels_from level) o) (named_tree_with (sites bound doc.acts) (tables_from doc.acts level) unit)

  -- Labels, table by table.
  module _ (table : LabelTable) (o : ℕ) (unit name : Name) (n j u i : ℕ) (p : Place) where
    abbrev told_below : LabelConditions
    told_below = conditions_named doc.acts (levels_from (level_below table))

    abbrev named_below : ℕ → Labels
    named_below = grown_named doc.acts (levels_from (level_below table))

    abbrev trees_below : Name → Name → Place → Tree
    trees_below = named_tree_with (sites bound doc.acts) (tables_from doc.acts (level_below table))

    abbrev act_entries : ℕ → Act → List Entry
    act_entries k a = grown_act told_below (named_below (unit_number table k o)) (entry_kind.Act table k) (unit_number table k o) n j u i a

    abbrev AreActs : Type 0
    AreActs = (k : ℕ) (a : Act) → slice_get (table_at doc.acts table) k ≡ Some a → act_named (table_at doc.acts table) name ≡ Some a → AreFrom es n (act_entries k a) → AreFrom all j (conditions_below told_below a.work)
        → StandsAs n (act_entries k a) (act_tree_with (sites bound doc.acts) trees_below unit a p)

    abbrev found_entries : ℕ → Option Act → List Entry
    found_entries k found = elim found [ None ↦ bare_entries n u i | Some a ↦ act_entries k a ]

    abbrev found_conditions : Option Act → List Condition
    found_conditions found = elim found [ None ↦ [] | Some a ↦ conditions_below told_below a.work ]

    abbrev named_entries : Option ℕ → List Entry
    named_entries number = elim number [ None ↦ bare_entries n u i | Some k ↦ found_entries k (slice_get (table_at doc.acts table) k) ]

    abbrev named_conditions : Option ℕ → List Condition
    named_conditions number = elim number [ None ↦ [] | Some k ↦ found_conditions (slice_get (table_at doc.acts table) k) ]

    abbrev named_trees : Option Act → Tree
    named_trees found = elim found [ None ↦ tree.skip | Some a ↦ act_tree_with (sites bound doc.acts) trees_below unit a p ]

    found_stands : AreActs → (k : ℕ) (found : Option Act) → slice_get (table_at doc.acts table) k ≡ found → act_named (table_at doc.acts table) name ≡ found → AreFrom es n (found_entries k found) → AreFrom all j (found_conditions found)
        → StandsAs n (found_entries k found) (named_trees found)
    found_stands acts k None is named h c = bare_stands n u i h
    found_stands acts k (Some a) is named h c = acts k a is named h c

    label_stands : AreActs → (number : Option ℕ) → number_in (table_at doc.acts table) name ≡ number → AreFrom es n (named_entries number) → AreFrom all j (named_conditions number)
        → StandsAs n (named_entries number) (named_trees (act_named (table_at doc.acts table) name))
    label_stands acts None is h c =
        subst (λ found. StandsAs n (bare_entries n u i) (named_trees found)) (sym (not_found (λ (a : Act). same_name a.name name) (table_at doc.acts table) is)) (bare_stands n u i h)
    label_stands acts (Some k) is h c =
        let found = found_at (λ (a : Act). same_name a.name name) (table_at doc.acts table) k is in
        subst (λ o. StandsAs n (named_entries (Some k)) (named_trees o)) (sym found) (found_stands acts k (slice_get (table_at doc.acts table) k) refl found h c)

  -- The acts of each table.

  abbrev kinds_below : Bool
  kinds_below = list_all (λ v. has_unit v && has_chart v) doc.acts.unit_procedures.items
      && (list_all (λ v. not (has_unit v) && has_chart v) doc.acts.operations.items && list_all (λ s. not (has_unit s) && not (has_chart s)) doc.acts.phases.items)

  of_procedure : has_chart doc.acts.procedure ≡ true
  of_procedure = (and_parts (not (has_unit doc.acts.procedure)) (has_chart doc.acts.procedure) (and_parts (not (has_unit doc.acts.procedure) && has_chart doc.acts.procedure) kinds_below doc.kinds).0).1

  below_procedure : kinds_below ≡ true
  below_procedure = (and_parts (not (has_unit doc.acts.procedure) && has_chart doc.acts.procedure) kinds_below doc.kinds).1

  unit_procedure_is : (name : Name) (a : Act) → act_named doc.acts.unit_procedures.items name ≡ Some a → (has_unit a ≡ true) × (has_chart a ≡ true)
  unit_procedure_is name a is = and_parts (has_unit a) (has_chart a)
      (found_passes (λ x. same_name x.name name) (λ v. has_unit v && has_chart v) doc.acts.unit_procedures.items a is
      (and_parts (list_all (λ v. has_unit v && has_chart v) doc.acts.unit_procedures.items) _ below_procedure).0)

  operation_is : (name : Name) (a : Act) → act_named doc.acts.operations.items name ≡ Some a → (not (has_unit a) ≡ true) × (has_chart a ≡ true)
  operation_is name a is = and_parts (not (has_unit a)) (has_chart a)
      (found_passes (λ x. same_name x.name name) (λ v. not (has_unit v) && has_chart v) doc.acts.operations.items a is
      (and_parts (list_all (λ v. not (has_unit v) && has_chart v) doc.acts.operations.items) _
      (and_parts (list_all (λ v. has_unit v && has_chart v) doc.acts.unit_procedures.items) _ below_procedure).1).0)

  phase_step_is : (name : Name) (a : Act) → act_named doc.acts.phases.items name ≡ Some a → (not (has_unit a) ≡ true) × (not (has_chart a) ≡ true)
  phase_step_is name a is = and_parts (not (has_unit a)) (not (has_chart a))
      (found_passes (λ x. same_name x.name name) (λ s. not (has_unit s) && not (has_chart s)) doc.acts.phases.items a is
      (and_parts (list_all (λ v. not (has_unit v) && has_chart v) doc.acts.operations.items) _
      (and_parts (list_all (λ v. has_unit v && has_chart v) doc.acts.unit_procedures.items) _ below_procedure).1).1)

  not_true : (b : Bool) → not b ≡ true → b ≡ false
  not_true false e = refl
  not_true true e = absurd (cc)

  -- an act with a unit of its own runs on it
  on_own : (unit : Name) (own : Option UnitChoice) → elim own as (λ _. Bool) [ None ↦ false | Some choice ↦ true ] ≡ true → unit_name bound own ≡ Some (unit_below unit (unit_with bound own))
  on_own unit None e = absurd (cc)
  on_own unit (Some choice) e = refl

  -- and one with none on the unit of those above
  on_above : (unit : Name) (own : Option UnitChoice) → not (elim own as (λ _. Bool) [ None ↦ false | Some choice ↦ true ]) ≡ true → unit_below unit (unit_with bound own) ≡ unit
  on_above unit None e = refl
  on_above unit (Some choice) e = absurd (cc)

  of_phases : LabelsFrom (Some Phases)
  of_phases o unit on name n j u i p h c = label_stands Phases o unit name n j u i p acts (number_in doc.acts.phases.items name) refl h c
    where
      acts : AreActs Phases o unit name n j u i p
      acts k a is named h c =
          let kinds = phase_step_is name a named in
          phase_stands (told_below Phases o unit name n j u i p) (named_below Phases o unit name n j u i p o) (trees_below Phases o unit name n j u i p) o unit a (entry_kind.Act Phases k) n j u i p k is (λ q. refl)
          (on ∙ ap Some (sym (on_above unit a.unit kinds.0))) (not_true (has_chart a) kinds.1) h

  of_operations : LabelsFrom (Some Operations)
  of_operations o unit on name n j u i p h c = label_stands Operations o unit name n j u i p acts (number_in doc.acts.operations.items name) refl h c
    where
      acts : AreActs Operations o unit name n j u i p
      acts k a is named h c =
          let kinds = operation_is name a named in
          act_stands (told_below Operations o unit name n j u i p) (named_below Operations o unit name n j u i p o) (trees_below Operations o unit name n j u i p) o unit a (entry_kind.Act Operations k) n j u i p
          (of_phases o (unit_below unit (unit_with bound a.unit)) (on ∙ ap Some (sym (on_above unit a.unit kinds.0)))) (λ q. refl) kinds.1 h c

  of_unit_procedures : LabelsFrom (Some UnitProcedures)
  of_unit_procedures o unit on name n j u i p h c = label_stands UnitProcedures o unit name n j u i p acts (number_in doc.acts.unit_procedures.items name) refl h c
    where
      acts : AreActs UnitProcedures o unit name n j u i p
      acts k a is named h c =
          let kinds = unit_procedure_is name a named in
          act_stands (told_below UnitProcedures o unit name n j u i p) (named_below UnitProcedures o unit name n j u i p k) (trees_below UnitProcedures o unit name n j u i p) k unit a (entry_kind.Act UnitProcedures k) n j u i p
          (of_operations k (unit_below unit (unit_with bound a.unit)) (ap (λ found. unit_name bound (unit_by found)) is ∙ on_own unit a.unit kinds.0)) (λ q. refl) kinds.1 h c

  pub recipe_stands : StandsOn (Some bound) es doc 0 (bound_tree bound doc.acts)
  recipe_stands =
      let whole : AreFrom es 0 (entries_of doc.acts) = record { front = []; rest = []; is = doc.outlined ∙ sym (append-nil (entries_of doc.acts)); count = refl } in
      let conditions : AreFrom all 0 (conditions_of doc.acts) = record { front = []; rest = []; is = doc.conditioned ∙ sym (append-nil (conditions_of doc.acts)); count = refl } in
      (act_stands (conditions_named doc.acts (levels_from (Some UnitProcedures))) (grown_named doc.acts (levels_from (Some UnitProcedures)) 0) (named_tree_with (sites bound doc.acts) (tables_from doc.acts (Some UnitProcedures))) 0 [] doc.acts.procedure
      entry_kind.Procedure 0 0 0 0 (0 ∷ []) (of_unit_procedures 0 (unit_below [] (unit_with bound doc.acts.procedure.unit)) tt) (λ q. refl) of_procedure whole conditions).1
