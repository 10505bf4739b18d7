-- A loop of a recipe has no more turns than a chart may give it, so that a stage can keep those that are left in 16 bits.
use Rattle.std.proofs.Common.{◌≡◌, ◌≤◌, ℕ, zero, suc, ◌+◌, ◌-◌, List, [], ◌∷◌, length, Bool, true, ◌&&◌, Option, Some, None, nat_le, nat_lt, slice_get, sym, subst, refl, arith}
use Rattle.std.{specs.List.list_all, proofs.lemmas.Bool.and_parts}
use Rattle.batch_recipe.{specs.Conditions.Name, specs.Conditions.same_name, specs.Diagram.Diagram, specs.Diagram.Diagrams, specs.Diagram.Cases, specs.Diagram.diagram_of, specs.Expanding.act_named, specs.Growing.Labels, specs.Growing.LabelConditions, specs.Growing.needs_count, specs.Growing.bare_entries, specs.Growing.grown, specs.Growing.grown_each, specs.Growing.grown_cases, specs.Growing.grown_work, specs.Growing.grown_act, specs.Growing.grown_named, specs.Growing.conditions_of_cases, specs.Growing.conditions_along, specs.Growing.conditions_named, specs.Growing.levels_from, specs.Growing.number_in, specs.Growing.unit_number, specs.Growing.entries_of, specs.Procedure.table_at, specs.WellFormed.act_names, specs.WellFormed.are_cases, specs.WellFormed.are_charts, specs.WellFormed.are_distinct, specs.WellFormed.follows_no_par, specs.WellFormed.is_among, specs.WellFormed.is_chart, specs.WellFormed.is_condition, specs.WellFormed.is_work, specs.WellFormed.value_names, specs.declared.act.Act.Act, specs.declared.act.TheConstants.MAX_VALUES, specs.declared.act.Work.Work, specs.declared.act.Work.TheVariants.Follows, specs.declared.act.Work.TheVariants.Runs, specs.declared.acts.LabelTable.LabelTable, specs.declared.acts.LabelTable.TheVariants.UnitProcedures, specs.declared.acts.LabelTable.TheVariants.Operations, specs.declared.acts.LabelTable.TheVariants.Phases, specs.declared.chart.TheConstants.MAX_DEPTH, specs.declared.chart.TheConstants.MAX_TURNS, specs.declared.entry.Entry.Entry, specs.declared.recipe.Recipe.Recipe, proofs.Growth.found_at}
use Rattle.batch_recipe.specs.Diagram as diagram
use Rattle.batch_recipe.specs.declared.entry.Kind as recipe
use Rattle.batch_recipe.specs.declared.entry.Kind.TheVariants as entry_kind
use Rattle.batch_model.{specs.Lists.Each, proofs.Members.Each-append}
use Rattle.batch_chart.{specs.Outlined.kind_at, specs.Outlined.kind_by, specs.Outlined.kind_of_entry, specs.declared.node.Kind.Kind, specs.declared.node.Kind.TheVariants.Skip, specs.declared.node.Kind.TheVariants.Act as act_kind, specs.declared.node.Kind.TheVariants.Seq, specs.declared.node.Kind.TheVariants.Par, specs.declared.node.Kind.TheVariants.Sel, specs.declared.node.Kind.TheVariants.Loop, proofs.FoundElement.found_passes}
use Rattle.batch_chart.specs.declared.node.Kind.TheVariants as kind

-- a loop has few turns
abbrev IsFew : Kind → Type 0
IsFew k = (turns until : ℕ) → k ≡ Loop turns until → turns ≤ MAX_TURNS

abbrev HasFew : Entry → Type 0
HasFew e = IsFew (kind_of_entry e)

abbrev HaveFew : List Entry → Type 0
HaveFew es = Each HasFew es

few-skip : IsFew Skip
few-skip turns until e = absurd cc

few-seq : IsFew Seq
few-seq turns until e = absurd cc

few-par : IsFew Par
few-par turns until e = absurd cc

few-sel : (i : ℕ) → IsFew (Sel i)
few-sel i turns until e = absurd cc

few-act_kind : (needs : ℕ) → IsFew (act_kind needs)
few-act_kind needs turns until e = absurd cc

few-phase : (needs i : ℕ) → IsFew (kind.Phase needs i)
few-phase needs i turns until e = absurd cc

at-most : (m n : ℕ) → nat_le m n ≡ true → m ≤ n
at-most m n e = grind arith

few-loop : (n i : ℕ) → nat_le n MAX_TURNS ≡ true → IsFew (Loop n i)
few-loop n i most turns until e = let same : n ≡ turns = cc in subst (λ m. m ≤ MAX_TURNS) same (at-most n MAX_TURNS most)

few-table : (level : LabelTable) (k needs o : ℕ) → IsFew (kind_by (entry_kind.Act level k) needs o)
few-table UnitProcedures k needs o = few-act_kind needs
few-table Operations k needs o = few-act_kind needs
few-table Phases k needs o = few-phase needs k

few-bare : (n u i : ℕ) → HaveFew (bare_entries n u i)
few-bare n u i = (few-skip, tt)

-- Charts whose labels stand for entries with few turns

module _ (told : LabelConditions) (named : Labels) (few : (name : Name) (n j u i : ℕ) → HaveFew (named name n j u i)) (labels values : List Name) where
  mutual
    few-chart : (n j u i depth : ℕ) (d : Diagram) → is_chart labels values depth d ≡ true → HaveFew (grown told named n j u i d)
    few-chart n j u i depth (diagram.label name) h = few name n j u i
    few-chart n j u i depth diagram.skip h = few-bare n u i
    few-chart n j u i depth (diagram.seq ds) h = (few-seq, few-each (n + 1) j n 0 (depth - 1) 1 ds (and_parts (nat_lt 0 depth) (are_charts labels values (depth - 1) 1 ds) h).1)
    few-chart n j u i depth (diagram.par ds) h = (few-par, few-each (n + 1) j n 0 (depth - 1) 2 ds (and_parts (nat_lt 0 depth) (are_charts labels values (depth - 1) 2 ds) h).1)
    few-chart n j u i depth (diagram.sel cs) h =
        (few-sel j, few-cases (n + 1) (j + length (conditions_of_cases cs)) n 0 (depth - 1) 1 cs (and_parts (nat_lt 0 depth) (are_cases labels values (depth - 1) 1 cs) h).1)
    few-chart n j u i depth (diagram.loop turns c d) h =
        let own : Bool = nat_lt 0 depth && (nat_le 1 turns && nat_le turns MAX_TURNS) in
        let all = and_parts (own && is_condition values c) (is_chart labels values (depth - 1) d) h in
        let range = and_parts (nat_lt 0 depth) (nat_le 1 turns && nat_le turns MAX_TURNS) (and_parts own (is_condition values c) all.0).0 in
        (few-loop turns j (and_parts (nat_le 1 turns) (nat_le turns MAX_TURNS) range.1).1, few-chart (n + 1) (j + 1) n 0 (depth - 1) d all.1)

    few-each : (n j u i depth least : ℕ) (ds : Diagrams) → are_charts labels values depth least ds ≡ true → HaveFew (grown_each told named n j u i ds)
    few-each n j u i depth least diagram.none h = tt
    few-each n j u i depth least (diagram.more d ds) h =
        let both = and_parts (is_chart labels values depth d) (are_charts labels values depth (least - 1) ds) h in
        let next : ℕ = n + length (grown told named n j u i d) in
        let later : ℕ = j + length (conditions_along told d) in
        Each-append HasFew (grown told named n j u i d) (grown_each told named next later u (i + 1) ds) (few-chart n j u i depth d both.0) (few-each next later u (i + 1) depth (least - 1) ds both.1)

    few-cases : (n j u i depth least : ℕ) (cs : Cases) → are_cases labels values depth least cs ≡ true → HaveFew (grown_cases told named n j u i cs)
    few-cases n j u i depth least (diagram.otherwise d) h = few-chart n j u i depth d (and_parts (nat_le least 0) (is_chart labels values depth d) h).1
    few-cases n j u i depth least (diagram.when c d cs) h =
        let both = and_parts (is_condition values c && is_chart labels values depth d) (are_cases labels values depth (least - 1) cs) h in
        let next : ℕ = n + length (grown told named n j u i d) in
        let later : ℕ = j + length (conditions_along told d) in
        Each-append HasFew (grown told named n j u i d) (grown_cases told named next later u (i + 1) cs)
        (few-chart n j u i depth d (and_parts (is_condition values c) (is_chart labels values depth d) both.0).1) (few-cases next later u (i + 1) depth (least - 1) cs both.1)

  few-act : (k : recipe.Kind) (o n j u i : ℕ) (a : Act) → IsFew (kind_by k (needs_count a) o) → is_work labels values a ≡ true → HaveFew (grown_act told named k o n j u i a)
  few-act k o n j u i a head h = (head, go a.work h)
    where
      go : (w : Work)
          → (let t : Bool = elim w [ Follows c ↦ is_chart labels values MAX_DEPTH (diagram_of c) | Runs phase handed reports ↦ nat_le (length handed.items) MAX_VALUES && list_all (is_among values) handed.items ] in t ≡ true)
          → HaveFew (grown_work told named n j w)
      go (Follows c) e = few-chart (n + 1) j n 0 MAX_DEPTH (diagram_of c) e
      go (Runs phase handed reports) e = tt

-- The entries of a recipe

module _ (r : Recipe) where
  abbrev names : List Name
  names = value_names r.inputs.items r.parameters.items r.outputs.items

  abbrev FewFrom : List LabelTable → Type 0
  FewFrom levels = (o : ℕ) (name : Name) (n j u i : ℕ) → HaveFew (grown_named r.acts levels o name n j u i)

  -- the acts of a table, whose labels stand for entries with few turns
  module _ (level : LabelTable) (levels : List LabelTable) (labels : List Name) (below : FewFrom levels) (works : (name : Name) (a : Act) → act_named (table_at r.acts level) name ≡ Some a → is_work labels names a ≡ true) (o : ℕ) (name : Name) (n j u i : ℕ) where
    few-found : (k : ℕ) (found : Option Act) → act_named (table_at r.acts level) name ≡ found
        → HaveFew (elim found [ None ↦ bare_entries n u i | Some a ↦ grown_act (conditions_named r.acts levels) (grown_named r.acts levels (unit_number level k o)) (entry_kind.Act level k) (unit_number level k o) n j u i a ])
    few-found k None is = few-bare n u i
    few-found k (Some a) is =
        few-act (conditions_named r.acts levels) (grown_named r.acts levels (unit_number level k o)) (below (unit_number level k o)) labels names (entry_kind.Act level k) (unit_number level k o) n j u i a
        (few-table level k (needs_count a) (unit_number level k o)) (works name a is)

    few-number : (number : Option ℕ) → number_in (table_at r.acts level) name ≡ number
        → HaveFew (elim number [
          | None ↦ bare_entries n u i
          | Some k ↦ elim (slice_get (table_at r.acts level) k) [
            | None ↦ bare_entries n u i
            | Some a ↦ grown_act (conditions_named r.acts levels) (grown_named r.acts levels (unit_number level k o)) (entry_kind.Act level k) (unit_number level k o) n j u i a
          ]
        ])
    few-number None is = few-bare n u i
    few-number (Some k) is = few-found k (slice_get (table_at r.acts level) k) (found_at (λ (a : Act). same_name a.name name) (table_at r.acts level) k is)

    few-label : HaveFew (grown_named r.acts (level ∷ levels) o name n j u i)
    few-label = few-number (number_in (table_at r.acts level) name) refl

  abbrev of_unit_procedures : Bool
  of_unit_procedures = list_all (λ u. is_work (act_names r.acts.operations.items) names u && follows_no_par u) r.acts.unit_procedures.items

  abbrev of_operations : Bool
  of_operations = list_all (is_work (act_names r.acts.phases.items) names) r.acts.operations.items

  abbrev of_phases : Bool
  of_phases = list_all (is_work [] names) r.acts.phases.items

  abbrev of_procedure : Bool
  of_procedure = is_work (act_names r.acts.unit_procedures.items) names r.acts.procedure

  all-works : (of_procedure && (of_unit_procedures && (of_operations && of_phases))) ≡ true
  all-works =
      (and_parts
      (are_distinct names && (are_distinct (act_names r.acts.unit_procedures.items) && (are_distinct (act_names r.acts.operations.items) && are_distinct (act_names r.acts.phases.items))))
      (of_procedure && (of_unit_procedures && (of_operations && of_phases))) r.well_formed).1

  below-works : (of_unit_procedures && (of_operations && of_phases)) ≡ true
  below-works = (and_parts of_procedure (of_unit_procedures && (of_operations && of_phases)) all-works).1

  unit_procedure-works : (name : Name) (a : Act) → act_named r.acts.unit_procedures.items name ≡ Some a → is_work (act_names r.acts.operations.items) names a ≡ true
  unit_procedure-works name a is =
      (and_parts (is_work (act_names r.acts.operations.items) names a) (follows_no_par a)
      (found_passes (λ x. same_name x.name name) (λ u. is_work (act_names r.acts.operations.items) names u && follows_no_par u) r.acts.unit_procedures.items a is
      (and_parts of_unit_procedures (of_operations && of_phases) below-works).0)).0

  operation-works : (name : Name) (a : Act) → act_named r.acts.operations.items name ≡ Some a → is_work (act_names r.acts.phases.items) names a ≡ true
  operation-works name a is =
      found_passes (λ x. same_name x.name name) (is_work (act_names r.acts.phases.items) names) r.acts.operations.items a is
      (and_parts of_operations of_phases (and_parts of_unit_procedures (of_operations && of_phases) below-works).1).0

  phase-works : (name : Name) (a : Act) → act_named r.acts.phases.items name ≡ Some a → is_work [] names a ≡ true
  phase-works name a is =
      found_passes (λ x. same_name x.name name) (is_work [] names) r.acts.phases.items a is
      (and_parts of_operations of_phases (and_parts of_unit_procedures (of_operations && of_phases) below-works).1).1

  few-none : FewFrom []
  few-none o name n j u i = few-bare n u i

  few-phases : FewFrom (Phases ∷ [])
  few-phases o name n j u i = few-label Phases [] [] few-none phase-works o name n j u i

  few-operations : FewFrom (Operations ∷ Phases ∷ [])
  few-operations o name n j u i = few-label Operations (Phases ∷ []) (act_names r.acts.phases.items) few-phases operation-works o name n j u i

  few-unit_procedures : FewFrom (UnitProcedures ∷ Operations ∷ Phases ∷ [])
  few-unit_procedures o name n j u i = few-label UnitProcedures (Operations ∷ Phases ∷ []) (act_names r.acts.operations.items) few-operations unit_procedure-works o name n j u i

  few-entries : HaveFew (entries_of r.acts)
  few-entries =
      few-act (conditions_named r.acts (levels_from (Some UnitProcedures))) (grown_named r.acts (levels_from (Some UnitProcedures)) 0) (few-unit_procedures 0) (act_names r.acts.unit_procedures.items) names
      entry_kind.Procedure 0 0 0 0 0 r.acts.procedure (few-act_kind (needs_count r.acts.procedure)) (and_parts of_procedure (of_unit_procedures && (of_operations && of_phases)) all-works).0

few-at : (es : List Entry) → HaveFew es → (n : ℕ) → IsFew (kind_at es n)
few-at [] h n = few-skip
few-at (e ∷ es) h zero = h.0
few-at (e ∷ es) h (suc n) = few-at es h.1 n

pub few-turns : (r : Recipe) (n : ℕ) → IsFew (kind_at r.outline.entries.items n)
few-turns r n = few-at r.outline.entries.items (subst HaveFew (sym r.outlined) (few-entries r)) n
