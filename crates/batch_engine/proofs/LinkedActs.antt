-- The needs and the phases of the acts of a batch, by the numbers of its linked recipe.
use Rattle.std.proofs.Common.{◌≡◌, ◌<◌, refl, sym, ◌∙◌, ap, subst, ℕ, List, true, Option, None, Some, arith, length}
use Rattle.std.{specs.List.list_any, specs.Prelude.slice_get, specs.Prelude.position, specs.Prelude.unwrap_or, specs.Prelude.option_and_then, specs.Prelude.option_map, proofs.lemmas.Option.slice_get_within, proofs.lemmas.Option.slice_get-get_or, proofs.lemmas.Option.get_or_from_slice_get}
use Rattle.batch_cell.specs.{Equipment.unit_phases, LookUps.units_of}
use Rattle.batch_recipe.specs.{Conditions.Name, Conditions.same_name, Expanding.Binding, Expanding.needs_with, Expanding.unit_chosen, Procedure.sites, Nodes.node_count, Tree.Tree, Tree.act, Tree.skip, Tree.seq, Tree.par, Tree.sel, Tree.loop, Tree.runs, Tree.follows, Tree.Phase, declared.act.Act.Act, declared.act.UnitChoice.UnitChoice, declared.act.Work.Work, declared.act.Work.TheVariants.Follows, declared.act.Work.TheVariants.Runs, declared.acts.LabelTable.TheVariants.Phases, declared.entry.Entry.Entry, declared.entry.Kind.TheVariants.Act as at_level, declared.need.Need.Need, declared.recipe.Recipe.Recipe}
use Rattle.batch_recipe.specs.declared.entry.Kind as entry
use Rattle.batch_model.specs.Cleared.{IsOffered}
use Rattle.batch_verify.specs.ClearedSet.{ClearedSet}
use Rattle.batch_chart.{specs.NodesOf.node_at, specs.NodesOf.phase_in, specs.NodesOf.phase_named, specs.NodesOf.tree_task, specs.NodesOf.need_at, specs.NodesOf.no_need, specs.NodesOf.no_phase, specs.NodesOf.step_at, specs.Outlined.entry_at, specs.Outlined.kind_at, specs.Outlined.kind_by, specs.Outlined.kind_of_entry, specs.Outlined.phase_step_name, specs.Outlined.unit_choice, specs.Outlined.unit_name, specs.Outlined.unit_under, specs.Outlined.StandsOn, proofs.NodesAtNumbers.stands-at}
use Rattle.batch_chart.specs.Outlined as Outlined
use Rattle.batch_set.{specs.Linking.IsLinked, specs.Linking.IsLinkedSet, specs.Linking.run_phase, specs.Looked.needs_by, specs.Looked.number_for, specs.Looked.phase_on, specs.Looked.unit_procedure_source, specs.Sources.IsSource, specs.Sources.SayNeeds, specs.declared.cell_phases.CellPhases.CellPhases, specs.declared.linked.LinkedNeed.LinkedNeed, specs.declared.linked.LinkedRecipe.LinkedRecipe, specs.declared.linked.Source.Source, proofs.PhaseNumbers.phases-said, specs.declared.linked_set.LinkedSet.LinkedSet, proofs.Positions.name-at, proofs.Sources.needs-said, proofs.Sources.said-at, proofs.Sources.units-said}
use Rattle.batch_engine.{specs.Kept.IsKept, specs.Names.resource_name, specs.Numbered.phase_by, specs.Steps.IsNumberAt, specs.Steps.IsPhaseAt, specs.View.EngineView, specs.View.bound_to, specs.View.resource_number, specs.View.recipe_made, specs.View.setup, specs.View.tree_of, specs.declared.batch.Batch.Batch, specs.declared.phase_number.PhaseNumber.PhaseNumber, specs.declared.phase_number.TheConstants.NO_PHASE, proofs.BatchLookups.batch-runs, proofs.BatchLookups.chart-for, proofs.BatchLookups.is-control, proofs.NumbersOfNames.need-numbered, proofs.NumbersOfNames.node-named, proofs.NumbersOfNames.nothing-named, proofs.NumbersOfNames.phase-among, proofs.NumbersOfNames.phase-named, proofs.NumbersOfNames.unit-named, proofs.NumbersOfNames.unit-number, proofs.ActsAtNodes.act-here, proofs.UnitNumbers.source-number, proofs.UnitNumbers.unit-numbers, proofs.MoveLines.tree-is}
use Rattle.batch_engine.specs.Names as Names

-- The contents of an entry

-- an entry of a phase step
phase-kind : (k : entry.Kind) (needs detail j i : ℕ) → kind_by k needs detail ≡ kind_by (at_level Phases i) j 0 → k ≡ at_level Phases i
phase-kind (at_level Phases n) needs detail j i e = (let same : n ≡ i = cc in ap (λ m. at_level Phases m) same)
phase-kind _ needs detail j i e = absurd cc

-- one of no phase step runs nothing
none-run : (linked : LinkedRecipe) (phases : CellPhases) (units : List ℕ) (detail : ℕ) (k : entry.Kind) → ((i : ℕ) → k ≡ at_level Phases i → ⊥) → phase_by linked phases units detail k ≡ None
none-run linked phases units detail (at_level Phases n) other = absurd (other n refl)
none-run linked phases units detail _ other = refl

-- the unit procedure by which a unit is chosen
chosen-by : (r : Recipe) (bound : Name → Name) (o : ℕ) (unit : Name) → unit_name bound (unit_choice r o) ≡ Some unit
    → (a : Act) × (choice : UnitChoice) × (slice_get r.acts.unit_procedures.items o ≡ Some a) × (a.unit ≡ Some choice) × (unit_chosen bound choice ≡ unit)
chosen-by r bound o unit e = go (slice_get r.acts.unit_procedures.items o) refl e
  where
    with-unit : (a : Act) → slice_get r.acts.unit_procedures.items o ≡ Some a → (c : Option UnitChoice) → a.unit ≡ c → unit_name bound c ≡ Some unit
        → (a : Act) × (choice : UnitChoice) × (slice_get r.acts.unit_procedures.items o ≡ Some a) × (a.unit ≡ Some choice) × (unit_chosen bound choice ≡ unit)
    with-unit a at None is f = absurd cc
    with-unit a at (Some choice) is f = (a, choice, at, is, (let same : unit_chosen bound choice ≡ unit = cc in same))

    go : (found : Option Act) → slice_get r.acts.unit_procedures.items o ≡ found → unit_name bound (Outlined.unit_by found) ≡ Some unit
        → (a : Act) × (choice : UnitChoice) × (slice_get r.acts.unit_procedures.items o ≡ Some a) × (a.unit ≡ Some choice) × (unit_chosen bound choice ≡ unit)
    go None at f = absurd cc
    go (Some a) at f = with-unit a at a.unit refl f

-- the phase step that runs a phase
run-by : (r : Recipe) (step : ℕ) (phase : Name) → phase_step_name r step ≡ Some phase → (a : Act) × (slice_get r.acts.phases.items step ≡ Some a) × (run_phase a.work ≡ Some phase)
run-by r step phase e = go (slice_get r.acts.phases.items step) refl e
  where
    same : (work : Work) → run_phase work ≡ Outlined.run_phase_in work
    same (Follows chart) = refl
    same (Runs own values reports) = refl

    go : (found : Option Act) → slice_get r.acts.phases.items step ≡ found → Outlined.phase_by found ≡ Some phase → (a : Act) × (slice_get r.acts.phases.items step ≡ Some a) × (run_phase a.work ≡ Some phase)
    go None at f = absurd cc
    go (Some a) at f = (a, at, same a.work ∙ f)

-- these are the numbers of the phase that the tree runs, if it runs one
record IsRun (c : ClearedSet) (here : Tree) (p : PhaseNumber) : Type 0 where
  unit_is : resource_name c p.unit ≡ (phase_in (tree_task here)).unit
  name_is : Names.phase_name c p.unit p.phase ≡ (phase_in (tree_task here)).name
  among : (names : Name × Name) → phase_named here ≡ Some names → position (same_name names.0) (units_of c.cell) ≡ Some p.unit

-- a tree that runs none
nothing-run : (c : ClearedSet) (here : Tree) (o : Option PhaseNumber) → o ≡ None → phase_named here ≡ None → phase_in (tree_task here) ≡ no_phase → IsRun c here (unwrap_or o NO_PHASE)
nothing-run c here o e none empty =
    subst (λ (o : Option PhaseNumber). IsRun c here (unwrap_or o NO_PHASE)) (sym e)
    (record {
      unit_is = (nothing-named c).0 ∙ sym (ap (λ (p : Phase). p.unit) empty);
      name_is = (nothing-named c).1 ∙ sym (ap (λ (p : Phase). p.name) empty);
      among = λ names f. absurd (let bad : ◌≡◌ {A = Option (Name × Name)} None (Some names) = sym none ∙ f in cc);
    })

module _ (v : EngineView) (k : IsKept v) (i : ℕ) (b : Batch) (at : slice_get v.batches i ≡ Some b) (r : Recipe) (listed : slice_get v.cleared.recipes b.recipe ≡ Some r)
    (set : LinkedSet) (linked : IsLinkedSet v.cleared.cell v.cleared.recipes set) (x : LinkedRecipe) (read : slice_get set.recipes.items b.recipe ≡ Some x) where
  abbrev bound : Binding
  bound = bound_to v.cleared b.recipe b.units

  abbrev tree : Tree
  tree = tree_of v.cleared b

  is-linked : IsLinked v.cleared.cell set.phases r x
  is-linked = linked.linked.each b.recipe x read r listed

  number-here : (source : Source) (name : Name) → IsSource v.cleared.cell r.roles.items bound source name → number_for b.units source ≡ resource_number v.cleared name
  number-here = source-number v.cleared b.recipe r listed b.units (batch-runs v k i b at).units

  module _ (node : ℕ) (few : node < node_count tree) (e : Entry) (is : slice_get r.outline.entries.items node ≡ Some e) where
    -- The needs of the act at a node

    pub need-here : (need : ℕ) → need < length (step_at tree node).needs
        → (linked : LinkedNeed) × (slice_get (needs_by x e.kind) need ≡ Some linked) × IsNumberAt v.cleared b node need (unwrap_or (number_for b.units linked.source) 0) linked.units
    need-here need less =
        let same = tree-is v.cleared b.recipe r listed b.units in
        let a = act-here r bound node e is need (subst (λ (t : Tree). need < length (step_at t node).needs) same less) in
        let needs_are : (step_at tree node).needs ≡ needs_with (sites bound r.acts) a.0 = ap (λ (t : Tree). (step_at t node).needs) same ∙ a.2 in
        let own : Need = need_at tree node need in
        let found =
        said-at v.cleared.cell r.roles.items bound (needs_by x e.kind) (step_at tree node).needs
        (subst (SayNeeds v.cleared.cell r.roles.items bound (needs_by x e.kind)) (sym needs_are) (needs-said v.cleared.cell set.phases r x is-linked bound e.kind a.0 a.1))
        need own (slice_get-get_or (step_at tree node).needs need no_need less) in
        let known = need-numbered v.cleared k.cleared (recipe_made v.cleared b) (is-control v k i b at) node need few less in (
          found.0,
          found.1,
          (known.1 ∙ ap (λ n. let o : Option ℕ = Some n in o) (sym (ap (λ (o : Option ℕ). unwrap_or o 0) (number-here found.0.source own.resource found.2 ∙ known.1))), sym found.3),
        )

    -- The phase that it runs

    here-is : entry_at r.outline.entries.items node ≡ e
    here-is = get_or_from_slice_get r.outline.entries.items node e _ is

    kind-is : kind_at r.outline.entries.items node ≡ kind_by e.kind e.needs e.detail
    kind-is = ap kind_of_entry here-is

    phase-there : (step : ℕ) → e.kind ≡ at_level Phases step → kind_at r.outline.entries.items node ≡ kind_by (at_level Phases step) e.needs e.detail
    phase-there step f = kind-is ∙ ap (λ (z : entry.Kind). kind_by z e.needs e.detail) f

    abbrev run : Option PhaseNumber
    run = phase_by x set.phases b.units e.detail e.kind

    no-run : ((step : ℕ) → e.kind ≡ at_level Phases step → ⊥) → run ≡ None
    no-run other = none-run x set.phases b.units e.detail e.kind other

    phase-run : (p : Phase) (needs step : ℕ) (offers : list_any (same_name p.name) (unit_phases v.cleared.cell.modules.items p.unit) ≡ true) → kind_at r.outline.entries.items node ≡ kind_by (at_level Phases step) needs 0
        → phase_step_name r step ≡ Some p.name → unit_name bound (unit_choice r (unit_under r.outline.entries.items node)) ≡ Some p.unit
        → run ≡ Some (record { unit = (unit-number v.cleared.cell p.unit p.name offers).0; phase = (phase-among v.cleared.cell p.unit p.name offers).0 })
    phase-run p needs step offers f named chosen =
        let u = unit-number v.cleared.cell p.unit p.name offers in
        let q = phase-among v.cleared.cell p.unit p.name offers in
        let a = chosen-by r bound e.detail p.unit (subst (λ (z : Entry). unit_name bound (unit_choice r z.detail) ≡ Some p.unit) here-is chosen) in
        let s = run-by r step p.name named in
        let there : slice_get (units_of v.cleared.cell) u.0 ≡ Some p.unit = name-at (units_of v.cleared.cell) p.unit u.0 u.1 in
        let within : u.0 < length (units_of v.cleared.cell) = slice_get_within (units_of v.cleared.cell) u.0 p.unit there in
        let source : IsSource v.cleared.cell r.roles.items bound (unit_procedure_source x e.detail) p.unit =
        subst (IsSource v.cleared.cell r.roles.items bound (unit_procedure_source x e.detail)) a.4 (units-said v.cleared.cell set.phases r x is-linked bound e.detail a.0 a.1 a.2 a.3) in
        let resource : resource_number v.cleared p.unit ≡ Some u.0 = subst (λ (name : Name). resource_number v.cleared name ≡ Some u.0) (unit-named v.cleared u.0 p.unit there) (unit-numbers v.cleared u.0 within).0 in
        let unit : number_for b.units (unit_procedure_source x e.detail) ≡ Some u.0 = number-here (unit_procedure_source x e.detail) p.unit source ∙ resource in
        let phase : phase_on x set.phases step u.0 ≡ Some q.0 =
        phases-said v.cleared.cell set.phases linked.phases r x is-linked step s.0 p.name s.1 s.2 u.0 q.0 within q.1 in
        ap (phase_by x set.phases b.units e.detail) (phase-kind e.kind e.needs e.detail needs step (sym kind-is ∙ f))
        ∙ (ap (λ (o : Option ℕ). option_and_then (λ unit. option_map (λ phase. let y : PhaseNumber = record { unit = unit; phase = phase } in y) (phase_on x set.phases step unit)) o) unit
        ∙ ap (option_map (λ phase. let y : PhaseNumber = record { unit = u.0; phase = phase } in y)) phase)

    act-run : (here : Tree) → StandsOn (Some bound) r.outline.entries.items r node here → IsOffered (setup v.cleared) here → IsRun v.cleared here (unwrap_or run NO_PHASE)
    act-run (act s (runs p)) h offers =
        let u = unit-number v.cleared.cell p.unit p.name offers in
        let named = phase-named v.cleared p offers in
        subst (λ (o : Option PhaseNumber). IsRun v.cleared (act s (runs p)) (unwrap_or o NO_PHASE)) (sym (phase-run p (length s.needs) h.0 offers h.1.1 h.2 h.3))
        (record {
          unit_is = named.0;
          name_is = named.1;
          among = λ names f. (let same : (let z : Name × Name = (p.unit, p.name) in z) ≡ names = cc in ap (λ (z : Name × Name). position (same_name z.0) (units_of v.cleared.cell)) (sym same) ∙ u.1);
        })
    act-run (act s (follows name t)) h offers = nothing-run v.cleared (act s (follows name t)) run (no-run (λ step f. (let bad = sym h.0.1 ∙ phase-there step f in cc))) refl refl
    act-run skip h offers = nothing-run v.cleared skip run (no-run (λ step f. (let bad = sym h.1 ∙ phase-there step f in cc))) refl refl
    act-run (seq ts) h offers = nothing-run v.cleared (seq ts) run (no-run (λ step f. (let bad = sym h.0.1 ∙ phase-there step f in cc))) refl refl
    act-run (par ts) h offers = nothing-run v.cleared (par ts) run (no-run (λ step f. (let bad = sym h.0.1 ∙ phase-there step f in cc))) refl refl
    act-run (sel cs) h offers = nothing-run v.cleared (sel cs) run (no-run (λ step f. (let bad = sym h.1.1 ∙ phase-there step f in cc))) refl refl
    act-run (loop turns until t) h offers = nothing-run v.cleared (loop turns until t) run (no-run (λ step f. (let bad = sym h.1.1 ∙ phase-there step f in cc))) refl refl

    pub phase-here : IsPhaseAt v.cleared b node (unwrap_or run NO_PHASE).unit (unwrap_or run NO_PHASE).phase
    phase-here =
        let chart = chart-for v k i b at r listed in
        let found =
        act-run (node_at tree node).here (stands-at (Some bound) r.outline.entries.items r tree chart.0 chart.1 node (omega (arith, few, chart.0.count)))
        (node-named v.cleared k.cleared (recipe_made v.cleared b) (is-control v k i b at) node few).1 in
        record { unit_is = found.unit_is; name_is = found.name_is; among = found.among }
