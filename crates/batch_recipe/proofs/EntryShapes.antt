-- The entries grown from acts have the shapes and the acts of the expanded tree.
use Rattle.std.proofs.Common.{◌≡◌, ℕ, ◌+◌, List, [], ◌∷◌, ◌++◌, map, length, Option, Some, None, slice_get, sym, ap, ◌∙◌, refl, arith, length-append}
use Rattle.std.proofs.lemmas.List.{length-map, map-append}
use Rattle.batch_recipe.{specs.ActsAtNodes.ActList, specs.ActsAtNodes.acts_along, specs.ActsAtNodes.acts_along_each, specs.ActsAtNodes.acts_along_cases, specs.ActsAtNodes.acts_below, specs.ActsAtNodes.acts_from, specs.ActsAtNodes.acts_named, specs.ActsAtNodes.procedure_acts, specs.Conditions.Name, specs.Conditions.same_name, specs.Diagram.Diagram, specs.Diagram.label, specs.Diagram.skip, specs.Diagram.seq, specs.Diagram.par, specs.Diagram.sel, specs.Diagram.loop, specs.Diagram.Diagrams, specs.Diagram.none, specs.Diagram.more, specs.Diagram.Cases, specs.Diagram.otherwise, specs.Diagram.when, specs.Diagram.diagram_of, specs.Expanding.Binding, specs.Expanding.unbound, specs.Expanding.expanded, specs.Expanding.expanded_each, specs.Expanding.expanded_cases, specs.Expanding.task_of, specs.Expanding.act_named, specs.Expanding.act_tree_with, specs.Expanding.named_tree_with, specs.Expanding.unit_with, specs.Expanding.unit_below, specs.Expanding.step_of, specs.Growing.Head, specs.Growing.Labels, specs.Growing.LabelConditions, specs.Growing.plain_head, specs.Growing.act_head, specs.Growing.topped, specs.Growing.bare_entries, specs.Growing.grown, specs.Growing.grown_each, specs.Growing.grown_cases, specs.Growing.grown_work, specs.Growing.grown_act, specs.Growing.grown_named, specs.Growing.conditions_along, specs.Growing.conditions_of_cases, specs.Growing.told_from, specs.Growing.levels_from, specs.Growing.number_in, specs.Growing.unit_number, specs.Growing.entries_of, specs.Nodes.child, specs.Nodes.node_count, specs.Nodes.count_within, specs.Nodes.count_of_each, specs.Nodes.count_of_choices, specs.Outlines.an_act, specs.Outlines.Shape, specs.Outlines.form_of, specs.Outlines.act_of_kind, specs.Outlines.shape_of, specs.Outlines.shapes, specs.Outlines.shapes_within, specs.Outlines.shapes_of_each, specs.Outlines.shapes_of_choices, specs.Outlines.IsOutline, specs.Procedure.sites, specs.Procedure.table_at, specs.Procedure.tables_from, specs.Procedure.level_below, specs.Procedure.bound_tree, specs.Tree.Place, specs.Tree.Tree, specs.Tree.Task, specs.Tree.Trees, specs.Tree.Choices, specs.declared.act.Act.Act, specs.declared.act.Work.Work, specs.declared.act.Work.TheVariants.Follows, specs.declared.act.Work.TheVariants.Runs, specs.declared.acts.Acts.Acts, specs.declared.acts.LabelTable.LabelTable, specs.declared.acts.LabelTable.TheVariants.UnitProcedures, specs.declared.acts.LabelTable.TheVariants.Operations, specs.declared.acts.LabelTable.TheVariants.Phases, specs.declared.entry.Entry.Entry, specs.declared.entry.Kind.Kind, proofs.Growth.found_at, proofs.Growth.not_found}
use Rattle.batch_recipe.specs.Tree as tree
use Rattle.batch_recipe.specs.declared.entry.Kind.TheVariants as kind

mutual
  pub shapes_counted : (n u i : ℕ) (t : Tree) → length (shapes n u i t) ≡ node_count t
  shapes_counted n u i (tree.act s w) = omega (arith, within_counted n w)
  shapes_counted n u i tree.skip = refl
  shapes_counted n u i (tree.seq ts) = omega (arith, each_counted (n + 1) n 0 ts)
  shapes_counted n u i (tree.par ts) = omega (arith, each_counted (n + 1) n 0 ts)
  shapes_counted n u i (tree.sel cs) = omega (arith, choices_counted (n + 1) n 0 cs)
  shapes_counted n u i (tree.loop k c t) = omega (arith, shapes_counted (n + 1) n 0 t)

  within_counted : (n : ℕ) (w : Task) → length (shapes_within n w) ≡ count_within w
  within_counted n (tree.runs phase) = refl
  within_counted n (tree.follows name t) = shapes_counted (n + 1) n 0 t

  pub each_counted : (n u i : ℕ) (ts : Trees) → length (shapes_of_each n u i ts) ≡ count_of_each ts
  each_counted n u i tree.no_trees = refl
  each_counted n u i (tree.tree t ts) =
      omega (arith, length-append (shapes n u i t) (shapes_of_each (n + node_count t) u (i + 1) ts), shapes_counted n u i t, each_counted (n + node_count t) u (i + 1) ts)

  pub choices_counted : (n u i : ℕ) (cs : Choices) → length (shapes_of_choices n u i cs) ≡ count_of_choices cs
  choices_counted n u i (tree.otherwise t) = shapes_counted n u i t
  choices_counted n u i (tree.choice c t cs) =
      omega (arith, length-append (shapes n u i t) (shapes_of_choices (n + node_count t) u (i + 1) cs), shapes_counted n u i t, choices_counted (n + node_count t) u (i + 1) cs)

module _ (bound : Binding) (acts : Acts) where
  abbrev act_at : Entry → Option Act
  act_at e = act_of_kind acts e.kind

  abbrev Matches : List Entry → List Shape → ActList → Type 0
  Matches es ss list = (map shape_of es ≡ ss) × (map act_at es ≡ list)

  counted : (es : List Entry) (ss : List Shape) (m : ℕ) → map shape_of es ≡ ss → length ss ≡ m → length es ≡ m
  counted es ss m e f = sym (length-map es shape_of) ∙ (ap length e ∙ f)

  top : (k : Head) (n u i m : ℕ) (below : List Entry) (ss : List Shape) (list : ActList) → Matches below ss list → length ss ≡ m
      → Matches (topped k n u i below) (record { form = form_of k.kind; end = n + (1 + m); parent = u; child = i } ∷ ss) (act_of_kind acts k.kind ∷ list)
  top k n u i m below ss list h size =
      let same : n + 1 + length below ≡ n + (1 + m) = omega (arith, counted below ss m h.0 size) in (
        ap (λ e. record { form = form_of k.kind; end = e; parent = u; child = i } ∷ map shape_of below) same ∙ ap (λ xs. record { form = form_of k.kind; end = n + (1 + m); parent = u; child = i } ∷ xs) h.0,
        ap (λ xs. act_of_kind acts k.kind ∷ xs) h.1,
      )

  joined : (es fs : List Entry) (ss rr : List Shape) (list rest : ActList) → Matches es ss list → Matches fs rr rest → Matches (es ++ fs) (ss ++ rr) (list ++ rest)
  joined es fs ss rr list rest h g = (
    map-append shape_of es fs ∙ (ap (λ xs. xs ++ map shape_of fs) h.0 ∙ ap (λ xs. ss ++ xs) g.0),
    map-append act_at es fs ∙ (ap (λ xs. xs ++ map act_at fs) h.1 ∙ ap (λ xs. list ++ xs) g.1),
  )

  abbrev AreLabels : (Name → Place → Tree) → Labels → (Name → ActList) → Type 0
  AreLabels trees named list = (name : Name) (n j u i : ℕ) (p : Place) → Matches (named name n j u i) (shapes n u i (trees name p)) (list name)

  module _ (told : LabelConditions) (trees : Name → Place → Tree) (named : Labels) (list : Name → ActList) (labels : AreLabels trees named list) where
    mutual
      chart_matches : (n j u i : ℕ) (p : Place) (d : Diagram) → Matches (grown told named n j u i d) (shapes n u i (expanded trees p d)) (acts_along list d)
      chart_matches n j u i p (label name) = labels name n j u i p
      chart_matches n j u i p skip = (refl, refl)
      chart_matches n j u i p (seq ds) =
          top (plain_head kind.Seq 0) n u i (count_of_each (expanded_each trees p 0 ds)) (grown_each told named (n + 1) j n 0 ds) (shapes_of_each (n + 1) n 0 (expanded_each trees p 0 ds)) (acts_along_each list ds)
          (each_matches (n + 1) j n 0 p ds) (each_counted (n + 1) n 0 (expanded_each trees p 0 ds))
      chart_matches n j u i p (par ds) =
          top (plain_head kind.Par 0) n u i (count_of_each (expanded_each trees p 0 ds)) (grown_each told named (n + 1) j n 0 ds) (shapes_of_each (n + 1) n 0 (expanded_each trees p 0 ds)) (acts_along_each list ds)
          (each_matches (n + 1) j n 0 p ds) (each_counted (n + 1) n 0 (expanded_each trees p 0 ds))
      chart_matches n j u i p (sel cs) =
          let below = grown_cases told named (n + 1) (j + length (conditions_of_cases cs)) n 0 cs in
          top (plain_head kind.Sel j) n u i (count_of_choices (expanded_cases trees p 0 cs)) below (shapes_of_choices (n + 1) n 0 (expanded_cases trees p 0 cs)) (acts_along_cases list cs)
          (cases_match (n + 1) (j + length (conditions_of_cases cs)) n 0 p cs) (choices_counted (n + 1) n 0 (expanded_cases trees p 0 cs))
      chart_matches n j u i p (loop turns until d) =
          top (plain_head (kind.Loop turns) j) n u i (node_count (expanded trees (child p 0) d)) (grown told named (n + 1) (j + 1) n 0 d) (shapes (n + 1) n 0 (expanded trees (child p 0) d)) (acts_along list d)
          (chart_matches (n + 1) (j + 1) n 0 (child p 0) d) (shapes_counted (n + 1) n 0 (expanded trees (child p 0) d))

      each_matches : (n j u i : ℕ) (p : Place) (ds : Diagrams) → Matches (grown_each told named n j u i ds) (shapes_of_each n u i (expanded_each trees p i ds)) (acts_along_each list ds)
      each_matches n j u i p none = (refl, refl)
      each_matches n j u i p (more d ds) =
          let t = expanded trees (child p i) d in
          let es = grown told named n j u i d in
          let h = chart_matches n j u i (child p i) d in
          let size : length es ≡ node_count t = counted es (shapes n u i t) (node_count t) h.0 (shapes_counted n u i t) in
          let after = j + length (conditions_along told d) in
          let g = each_matches (n + length es) after u (i + 1) p ds in
          joined es (grown_each told named (n + length es) after u (i + 1) ds)
          (shapes n u i t) (shapes_of_each (n + node_count t) u (i + 1) (expanded_each trees p (i + 1) ds)) (acts_along list d) (acts_along_each list ds)
          h (g.0 ∙ ap (λ m. shapes_of_each (n + m) u (i + 1) (expanded_each trees p (i + 1) ds)) size, g.1)

      cases_match : (n j u i : ℕ) (p : Place) (cs : Cases) → Matches (grown_cases told named n j u i cs) (shapes_of_choices n u i (expanded_cases trees p i cs)) (acts_along_cases list cs)
      cases_match n j u i p (otherwise d) = chart_matches n j u i (child p i) d
      cases_match n j u i p (when c d cs) =
          let t = expanded trees (child p i) d in
          let es = grown told named n j u i d in
          let h = chart_matches n j u i (child p i) d in
          let size : length es ≡ node_count t = counted es (shapes n u i t) (node_count t) h.0 (shapes_counted n u i t) in
          let after = j + length (conditions_along told d) in
          let g = cases_match (n + length es) after u (i + 1) p cs in
          joined es (grown_cases told named (n + length es) after u (i + 1) cs)
          (shapes n u i t) (shapes_of_choices (n + node_count t) u (i + 1) (expanded_cases trees p (i + 1) cs)) (acts_along list d) (acts_along_cases list cs)
          h (g.0 ∙ ap (λ m. shapes_of_choices (n + m) u (i + 1) (expanded_cases trees p (i + 1) cs)) size, g.1)

    act_matches : (k : Kind) (o : ℕ) (a : Act) → form_of k ≡ an_act → act_of_kind acts k ≡ Some a → (n j u i : ℕ) (unit : Name) (p : Place) (s : tree.Step)
        → Matches (grown_act told named k o n j u i a) (shapes n u i (tree.act s (task_of trees unit a.name p a.work))) (acts_from list a)
    act_matches k o a f is n j u i unit p s = go a.work
      where
        -- by the work of the act
        go : (work : Work)
            → Matches (topped (act_head k o a) n u i (grown_work told named n j work)) (shapes n u i (tree.act s (task_of trees unit a.name p work))) (Some a ∷ acts_below list work)
        go (Runs phase values reports) =
            let h = top (act_head k o a) n u i 0 [] [] [] (refl, refl) refl in
            (h.0 ∙ ap (λ g. record { form = g; end = n + 1; parent = u; child = i } ∷ []) f, h.1 ∙ ap (λ x. x ∷ []) is)
        go (Follows c) =
            let t = expanded trees (child p 0) (diagram_of c) in
            let h = top (act_head k o a) n u i (node_count t) (grown told named (n + 1) j n 0 (diagram_of c)) (shapes (n + 1) n 0 t) (acts_along list (diagram_of c))
            (chart_matches (n + 1) j n 0 (child p 0) (diagram_of c)) (shapes_counted (n + 1) n 0 t) in
            (h.0 ∙ ap (λ g. record { form = g; end = n + (1 + node_count t); parent = u; child = i } ∷ shapes (n + 1) n 0 t) f, h.1 ∙ ap (λ x. x ∷ acts_along list (diagram_of c)) is)

  abbrev LabelsFrom : Option LabelTable → Type 0
  LabelsFrom level = (unit : Name) (o : ℕ) → AreLabels (named_tree_with (sites bound acts) (tables_from acts level) unit) (grown_named acts (levels_from level) o) (acts_named (tables_from acts level))

  module _ (table : LabelTable) (labels : LabelsFrom (level_below table)) (name : Name) (o : ℕ) where
    abbrev trees_below : Name → Name → Place → Tree
    trees_below = named_tree_with (sites bound acts) (tables_from acts (level_below table))

    abbrev acts_then : Name → ActList
    acts_then = acts_named (tables_from acts (level_below table))

    abbrev grown_below : ℕ → Labels
    grown_below = grown_named acts (levels_from (level_below table))

    abbrev grown_one : ℕ → ℕ → ℕ → ℕ → ℕ → Act → List Entry
    grown_one k n j u i a = grown_act (told_from acts (level_below table)) (grown_below (unit_number table k o)) (kind.Act table k) (unit_number table k o) n j u i a

    found_matches : (k : ℕ) (found : Option Act) → slice_get (table_at acts table) k ≡ found → (n j u i : ℕ) (unit : Name) (p : Place)
        → Matches (elim found [ None ↦ bare_entries n u i | Some a ↦ grown_one k n j u i a ])
        (shapes n u i (elim found [ None ↦ tree.skip | Some a ↦ act_tree_with (sites bound acts) trees_below unit a p ]))
        (elim found [ None ↦ None ∷ [] | Some a ↦ acts_from acts_then a ])
    found_matches k None is n j u i unit p = (refl, refl)
    found_matches k (Some a) is n j u i unit p =
        let own = unit_below unit (unit_with bound a.unit) in
        act_matches (told_from acts (level_below table)) (trees_below own) (grown_below (unit_number table k o)) acts_then (labels own (unit_number table k o)) (kind.Act table k) (unit_number table k o) a refl is n j u i own p
        (step_of (sites bound acts) a p)

    label_matches : (number : Option ℕ) → number_in (table_at acts table) name ≡ number → (n j u i : ℕ) (unit : Name) (p : Place)
        → Matches (elim number [
          | None ↦ bare_entries n u i
          | Some k ↦ elim (slice_get (table_at acts table) k) [ None ↦ bare_entries n u i | Some a ↦ grown_one k n j u i a ]
        ])
        (shapes n u i (elim (act_named (table_at acts table) name) [ None ↦ tree.skip | Some a ↦ act_tree_with (sites bound acts) trees_below unit a p ]))
        (elim (act_named (table_at acts table) name) [ None ↦ None ∷ [] | Some a ↦ acts_from acts_then a ])
    label_matches None is n j u i unit p = rw (not_found (λ (a : Act). same_name a.name name) (table_at acts table) is) (refl, refl)
    label_matches (Some k) is n j u i unit p =
        rw (found_at (λ (a : Act). same_name a.name name) (table_at acts table) k is) (found_matches k (slice_get (table_at acts table) k) refl n j u i unit p)

  no_labels : LabelsFrom None
  no_labels = λ unit o name n j u i p. (refl, refl)

  of_phases : LabelsFrom (Some Phases)
  of_phases = λ unit o name n j u i p. label_matches Phases no_labels name o (number_in acts.phases.items name) refl n j u i unit p

  of_operations : LabelsFrom (Some Operations)
  of_operations = λ unit o name n j u i p. label_matches Operations of_phases name o (number_in acts.operations.items name) refl n j u i unit p

  of_unit_procedures : LabelsFrom (Some UnitProcedures)
  of_unit_procedures = λ unit o name n j u i p. label_matches UnitProcedures of_operations name o (number_in acts.unit_procedures.items name) refl n j u i unit p

  whole_matches : Matches (entries_of acts) (shapes 0 0 0 (bound_tree bound acts)) (procedure_acts acts)
  whole_matches =
      let own = unit_below [] (unit_with bound acts.procedure.unit) in
      act_matches (told_from acts (Some UnitProcedures)) (named_tree_with (sites bound acts) (tables_from acts (Some UnitProcedures)) own) (grown_named acts (levels_from (Some UnitProcedures)) 0) (acts_named (tables_from acts (Some UnitProcedures)))
      (of_unit_procedures own 0) kind.Procedure 0 acts.procedure refl refl 0 0 0 0 own (0 ∷ []) (step_of (sites bound acts) acts.procedure (0 ∷ []))

-- the entries that grow from the procedure are the recipe's outline
pub is_outline : (acts : Acts) → IsOutline acts (entries_of acts)
is_outline acts = record { shaped = λ bound. (whole_matches bound acts).0; acted = (whole_matches unbound acts).1 }
