-- The expanded tree of a recipe has the levels of a procedure.
use Rattle.std.proofs.Common.{arith, ◌≡◌, refl, ℕ, ◌+◌, List, [], ◌∷◌, Bool, true, false, ◌&&◌, not, map, Option, Some, None}
use Rattle.std.{proofs.lemmas.Bool.and_parts, specs.List.list_all}
use Rattle.batch_recipe.specs.{Conditions.Name, Diagram.Diagram, Diagram.Diagrams, Diagram.Cases, Diagram.diagram_of, Tree.Place, Tree.Step, Tree.Tree, Tree.act, Tree.skip, Nodes.child, Expanding.expanded, Expanding.expanded_each, Expanding.expanded_cases, Expanding.unit_below, Expanding.asked_in_order, Expanding.task_of, Expanding.act_named, Expanding.Sites, Expanding.unit_chosen, Expanding.unit_with, Expanding.unit_named, Expanding.step_of, Expanding.act_tree_with, Expanding.named_tree_with, Procedure.sites, Procedure.tables_from, WellFormed.has_unit, WellFormed.has_chart, WellFormed.has_no_par, WellFormed.follows_no_par, WellFormed.is_work, WellFormed.act_names, WellFormed.value_names, declared.act.Act.Act, declared.act.Work.Work, declared.act.Work.TheVariants.Follows, declared.act.Work.TheVariants.Runs, declared.acts.LabelTable.TheVariants.UnitProcedures, declared.need.Need.Need, declared.act.UnitChoice.UnitChoice}
use Rattle.batch_recipe.specs.Diagram as chart
use Rattle.batch_model.{specs.Lists.Has, specs.Cleared.Level, specs.Cleared.in_procedure, specs.Cleared.in_unit_procedure, specs.Cleared.in_operation, proofs.Bindings.list_all-Has, proofs.Members.find-Has}
use Rattle.batch_step_laws.proofs.ActPlaces.{bound_tree-IsPlaced}
use Rattle.batch_record_laws.{proofs.NeedsOfReserves.reserves-units, specs.Procedures.AllowsPar, specs.Procedures.IsOfLevel, specs.Procedures.IsActOf, specs.Procedures.AreOfLevel, specs.Procedures.AreChoicesOf, specs.Procedures.HasLevels, specs.Procedures.TreesAreProcedures, specs.Procedures.RecipesAreProcedures}

-- Charts

-- a chart with a `par` stands where one may
abbrev Fits : Level → Bool → Type 0
Fits l no_par = no_par ≡ false → AllowsPar l

fits-first : (l : Level) (a b : Bool) → Fits l (a && b) → Fits l a
fits-first l true b h e = absurd cc
fits-first l false b h e = h refl

fits-rest : (l : Level) (a b : Bool) → Fits l (a && b) → Fits l b
fits-rest l true b h e = h e
fits-rest l false b h e = h refl

module _ (l : Level) (unit : Name) (acts : Name → Place → Tree) (named : (name : Name) (p : Place) → IsOfLevel l unit (acts name p)) where
  mutual
    expanded-level : (p : Place) (d : Diagram) → Fits l (has_no_par d) → IsOfLevel l unit (expanded acts p d)
    expanded-level p (chart.label name) h = named name p
    expanded-level p chart.skip h = tt
    expanded-level p (chart.seq ds) h = each-level p 0 ds h
    expanded-level p (chart.par ds) h = (h refl, each-level p 0 ds (λ e. h refl))
    expanded-level p (chart.sel cs) h = cases-level p 0 cs h
    expanded-level p (chart.loop turns until d) h = expanded-level (child p 0) d h

    each-level : (p : Place) (i : ℕ) (ds : Diagrams) → Fits l (has_no_par (chart.seq ds)) → AreOfLevel l unit (expanded_each acts p i ds)
    each-level p i chart.none h = tt
    each-level p i (chart.more d ds) h = (
      expanded-level (child p i) d (fits-first l (has_no_par d) (has_no_par (chart.seq ds)) h),
      each-level p (i + 1) ds (fits-rest l (has_no_par d) (has_no_par (chart.seq ds)) h),
    )

    cases-level : (p : Place) (i : ℕ) (cs : Cases) → Fits l (has_no_par (chart.sel cs)) → AreChoicesOf l unit (expanded_cases acts p i cs)
    cases-level p i (chart.otherwise d) h = expanded-level (child p i) d h
    cases-level p i (chart.when c d cs) h = (
      expanded-level (child p i) d (fits-first l (has_no_par d) (has_no_par (chart.sel cs)) h),
      cases-level p (i + 1) cs (fits-rest l (has_no_par d) (has_no_par (chart.sel cs)) h),
    )

-- Acts, by the tests on their units and work

abbrev some_unit : Option UnitChoice → Bool
some_unit o = elim o [ None ↦ false | Some unit ↦ true ]

abbrev some_chart : Work → Bool
some_chart w = elim w [ Follows c ↦ true | Runs phase values reports ↦ false ]

abbrev no_par : Work → Bool
no_par w = elim w [ Follows c ↦ has_no_par (diagram_of c) | Runs phase values reports ↦ true ]

module _ (own : Sites) where
  phase_step-level : (acts : Name → Place → Tree) (unit name : Name) (p : Place) (o : Option UnitChoice) (reserved : List Name) (needs : List Need) (w : Work)
      → (not (some_unit o) && not (some_chart w)) ≡ true → IsActOf in_operation unit (asked_in_order (unit_with own.bound o) reserved needs) (task_of acts (unit_below unit (unit_with own.bound o)) name p w)
  phase_step-level acts unit name p o reserved needs w e = grind arith

  operation-level : (acts : Name → Name → Place → Tree) → ((unit name : Name) (p : Place) → IsOfLevel in_operation unit (acts unit name p))
      → (unit name : Name) (p : Place) (o : Option UnitChoice) (reserved : List Name) (needs : List Need) (w : Work)
      → (not (some_unit o) && some_chart w) ≡ true → IsActOf in_unit_procedure unit (asked_in_order (unit_with own.bound o) reserved needs) (task_of (acts (unit_below unit (unit_with own.bound o))) (unit_below unit (unit_with own.bound o)) name p w)
  operation-level acts named unit name p None reserved needs (Follows c) e = expanded-level in_operation unit (acts unit) (named unit) (child p 0) (diagram_of c) (λ q. tt)
  operation-level acts h unit name p o reserved needs w e = absurd (grind arith)

  unit_procedure-level : (acts : Name → Name → Place → Tree) → ((unit name : Name) (p : Place) → IsOfLevel in_unit_procedure unit (acts unit name p))
      → (above unit name : Name) (p : Place) (o : Option UnitChoice) (reserved : List Name) (needs : List Need) (w : Work)
      → (some_unit o && some_chart w) ≡ true → no_par w ≡ true → IsActOf in_procedure above (asked_in_order (unit_with own.bound o) reserved needs) (task_of (acts (unit_below unit (unit_with own.bound o))) (unit_below unit (unit_with own.bound o)) name p w)
  unit_procedure-level acts named above unit name p (Some choice) reserved needs (Follows c) e n =
      let unit : Name = unit_chosen own.bound choice in
      (refl, expanded-level in_unit_procedure unit (acts unit) (named unit) (child p 0) (diagram_of c) (λ q. absurd cc))
  unit_procedure-level acts h above unit name p o reserved needs w e n = absurd (grind arith)

  procedure-level : (acts : Name → Name → Place → Tree) → ((unit name : Name) (p : Place) → IsOfLevel in_procedure [] (acts unit name p)) → (s : Step) (name : Name) (p : Place) (o : Option UnitChoice) (w : Work)
      → (not (some_unit o) && some_chart w) ≡ true → HasLevels (act s (task_of (acts (unit_below [] (unit_with own.bound o))) (unit_below [] (unit_with own.bound o)) name p w))
  procedure-level acts named s name p None (Follows c) e = expanded-level in_procedure [] (acts []) (named []) (child p 0) (diagram_of c) (λ q. tt)
  procedure-level acts h s name p o w e = absurd (grind arith)

  -- Tables

  module _ (steps : List Act) (kinds : list_all (λ s. not (has_unit s) && not (has_chart s)) steps ≡ true) where
    steps-level : (unit name : Name) (p : Place) → IsOfLevel in_operation unit (named_tree_with own (steps ∷ []) unit name p)
    steps-level unit name p = go (act_named steps name) refl
      where
        go : (o : Option Act) → act_named steps name ≡ o → IsOfLevel in_operation unit (elim o [ None ↦ skip | Some a ↦ act_tree_with own (named_tree_with own []) unit a p ])
        go None e = tt
        go (Some a) e =
            phase_step-level (named_tree_with own [] (unit_below unit (unit_with own.bound a.unit))) unit a.name p a.unit (map (unit_named own) a.reserves.items) a.needs.items a.work
            (list_all-Has (λ s. not (has_unit s) && not (has_chart s)) steps kinds a (find-Has _ steps a e))

    module _ (operations : List Act) (operation_kinds : list_all (λ o. not (has_unit o) && has_chart o) operations ≡ true) where
      operations-level : (unit name : Name) (p : Place) → IsOfLevel in_unit_procedure unit (named_tree_with own (operations ∷ steps ∷ []) unit name p)
      operations-level unit name p = go (act_named operations name) refl
        where
          go : (o : Option Act) → act_named operations name ≡ o → IsOfLevel in_unit_procedure unit (elim o [ None ↦ skip | Some a ↦ act_tree_with own (named_tree_with own (steps ∷ [])) unit a p ])
          go None e = tt
          go (Some a) e =
              operation-level (named_tree_with own (steps ∷ [])) steps-level unit a.name p a.unit (map (unit_named own) a.reserves.items) a.needs.items a.work
              (list_all-Has (λ o. not (has_unit o) && has_chart o) operations operation_kinds a (find-Has _ operations a e))

      module _ (unit_procedures : List Act) (unit_kinds : list_all (λ u. has_unit u && has_chart u) unit_procedures ≡ true)
          (no_par_in : (u : Act) → Has unit_procedures u → follows_no_par u ≡ true) where
        unit_procedures-level : (unit name : Name) (p : Place) → IsOfLevel in_procedure [] (named_tree_with own (unit_procedures ∷ operations ∷ steps ∷ []) unit name p)
        unit_procedures-level unit name p = go (act_named unit_procedures name) refl
          where
            go : (o : Option Act) → act_named unit_procedures name ≡ o
                → IsOfLevel in_procedure [] (elim o [ None ↦ skip | Some a ↦ act_tree_with own (named_tree_with own (operations ∷ steps ∷ [])) unit a p ])
            go None e = tt
            go (Some a) e =
                let there : Has unit_procedures a = find-Has _ unit_procedures a e in
                unit_procedure-level (named_tree_with own (operations ∷ steps ∷ [])) operations-level [] unit a.name p a.unit (map (unit_named own) a.reserves.items) a.needs.items a.work
                (list_all-Has (λ u. has_unit u && has_chart u) unit_procedures unit_kinds a there) (no_par_in a there)

pub trees_are_procedures : TreesAreProcedures
trees_are_procedures bound acts values kinds formed =
    let procedure_kind = and_parts (not (has_unit acts.procedure) && has_chart acts.procedure) _ kinds in
    let unit_kind = and_parts (list_all (λ u. has_unit u && has_chart u) acts.unit_procedures.items) _ procedure_kind.1 in
    let kind = and_parts (list_all (λ o. not (has_unit o) && has_chart o) acts.operations.items) _ unit_kind.1 in
    let work = and_parts (is_work (act_names acts.unit_procedures.items) values acts.procedure) _ (and_parts _ _ formed).1 in
    let unit_work = and_parts (list_all (λ u. is_work (act_names acts.operations.items) values u && follows_no_par u) acts.unit_procedures.items) _ work.1 in
    let own : Sites = sites bound acts in
    record {
      placed = bound_tree-IsPlaced acts bound;
      levels =
          procedure-level own (named_tree_with own (tables_from acts (Some UnitProcedures)))
          (unit_procedures-level own acts.phases.items kind.1 acts.operations.items kind.0 acts.unit_procedures.items unit_kind.0
          (λ u h. (and_parts (is_work (act_names acts.operations.items) values u) (follows_no_par u)
          (list_all-Has (λ u. is_work (act_names acts.operations.items) values u && follows_no_par u) acts.unit_procedures.items unit_work.0 u h)).1))
          (step_of own acts.procedure (0 ∷ [])) acts.procedure.name (0 ∷ []) acts.procedure.unit acts.procedure.work procedure_kind.0;
      reserved = reserves-units bound acts kinds (bound_tree-IsPlaced acts bound);
    }

pub recipes_are_procedures : RecipesAreProcedures
recipes_are_procedures r bound = trees_are_procedures bound r.acts (value_names r.inputs.items r.parameters.items r.outputs.items) r.kinds r.well_formed
