-- Recipes without the charts that no node follows are as well formed, and have the same nodes.
use Rattle.std.proofs.Common.{arith, ◌≡◌, refl, sym, ◌∙◌, ap, subst, ℕ, List, [], ◌∷◌, Bool, true, false, cond, Option, ◌&&◌, not, length, map, inl, inr, Vec, Global, option_and_then, ◌+◌, slice_get, Some}
use Rattle.std.{specs.List.list_all, proofs.lemmas.Bool.and_parts, proofs.lemmas.List.length-map}
use Rattle.batch_recipe.{specs.ActsAtNodes.procedure_acts, specs.Conditions.Name, specs.Conditions.same_name, specs.Expanding.Binding, specs.Expanding.act_named, specs.Expanding.unit_with, specs.Expanding.unbound, specs.Expanding.unit_named, specs.Growing.conditions_of, specs.Growing.entries_of, specs.Growing.number_in, specs.Procedure.bound_tree, specs.Procedure.sites, specs.Procedure.table_at, specs.WellFormed.act_names, specs.WellFormed.are_distinct, specs.WellFormed.are_kinds, specs.WellFormed.are_reports, specs.WellFormed.are_reserves, specs.WellFormed.are_roles, specs.WellFormed.follows_no_par, specs.WellFormed.has_chart, specs.WellFormed.has_free_names, specs.WellFormed.has_unit, specs.WellFormed.is_role_among, specs.WellFormed.is_well_formed, specs.WellFormed.is_work, specs.WellFormed.reserve_well, specs.WellFormed.reserves_among, specs.WellFormed.reserves_once, specs.declared.act.Act.Act, specs.declared.act.UnitChoice.UnitChoice, specs.declared.acts.Acts.Acts, specs.declared.acts.LabelTable.LabelTable, specs.declared.acts.LabelTable.TheVariants.UnitProcedures, specs.declared.acts.LabelTable.TheVariants.Operations, specs.declared.acts.LabelTable.TheVariants.Phases, specs.declared.entry.Entry.Entry, specs.declared.role.Role.Role as RecipeRole, specs.Diagram.Diagram, specs.Diagram.diagram_of, specs.Diagram.layer, specs.declared.chart.Chart.TheFolds.fold-roll-Chart, specs.declared.chart.Chart.TheVariants.Skip, specs.declared.chart.Chart.TheViews.rolls-Skip, proofs.LabelNumbers.number_by_names}
use Rattle.batch_recipe.specs.declared.chart.Chart.TheOpen
use Rattle.batch_recipe.specs.Diagram as chart
use Rattle.batch_outline.proofs.SameNodes as nodes
use Rattle.batch_outline.{specs.Trimmed.AreTrimmed, specs.Trimmed.AreTrimmedActs, specs.Trimmed.HasNode, specs.Trimmed.IsWithoutChart, proofs.TrimmedActs.all_stay, proofs.TrimmedActs.node_stays, proofs.TrimmedActs.stay}

diagram_of-skip : diagram_of Skip ≡ chart.skip
diagram_of-skip = ap diagram_of (sym rolls-Skip) ∙ fold-roll-Chart Diagram layer TheOpen.Skip

-- Acts without their charts

name_stays : (whole trimmed : Act) → IsWithoutChart whole trimmed → trimmed.name ≡ whole.name
name_stays whole trimmed is = is.name

role_stays : (roles : List Name) (whole trimmed : Act) → IsWithoutChart whole trimmed → is_role_among roles whole ≡ true → is_role_among roles trimmed ≡ true
role_stays roles whole trimmed is known = rw (is_role_among, is.unit) known

once_stays : (whole trimmed : Act) → IsWithoutChart whole trimmed → reserves_once whole ≡ true → reserves_once trimmed ≡ true
once_stays whole trimmed is known = rw is.reserves known

reserves_stay : (names : List Name) (whole trimmed : Act) → IsWithoutChart whole trimmed → reserves_among names whole ≡ true → reserves_among names trimmed ≡ true
reserves_stay names whole trimmed is known = rw is.reserves known

unit_stays : (whole trimmed : Act) → IsWithoutChart whole trimmed → has_unit trimmed ≡ has_unit whole
unit_stays whole trimmed is = rw (has_unit, is.unit) refl

chart_there : (whole trimmed : Act) → IsWithoutChart whole trimmed → has_chart trimmed ≡ true
chart_there whole trimmed is = rw (has_chart, is.work) refl

work_is : (labels values : List Name) (whole trimmed : Act) → IsWithoutChart whole trimmed → is_work labels values trimmed ≡ true
work_is labels values whole trimmed is = rw (is_work, is.work, diagram_of-skip) refl

no_par : (whole trimmed : Act) → IsWithoutChart whole trimmed → follows_no_par trimmed ≡ true
no_par whole trimmed is = rw (follows_no_par, is.work, diagram_of-skip) refl

module _ (entries : List Entry) (whole trimmed : Acts) (h : AreTrimmed entries whole trimmed) where
  unit_procedure_names : act_names trimmed.unit_procedures.items ≡ act_names whole.unit_procedures.items
  unit_procedure_names = stay entries UnitProcedures (λ a. a.name) name_stays 0 whole.unit_procedures.items trimmed.unit_procedures.items h.unit_procedures

  operation_names : act_names trimmed.operations.items ≡ act_names whole.operations.items
  operation_names = stay entries Operations (λ a. a.name) name_stays 0 whole.operations.items trimmed.operations.items h.operations

  counted : (acts others : List Act) → act_names others ≡ act_names acts → length others ≡ length acts
  counted acts others same = sym (length-map others (λ (a : Act). a.name)) ∙ (ap length same ∙ length-map acts (λ (a : Act). a.name))

  pub as_many_unit_procedures : length trimmed.unit_procedures.items ≡ length whole.unit_procedures.items
  as_many_unit_procedures = counted whole.unit_procedures.items trimmed.unit_procedures.items unit_procedure_names

  pub as_many_operations : length trimmed.operations.items ≡ length whole.operations.items
  as_many_operations = counted whole.operations.items trimmed.operations.items operation_names

  -- of both tables whose acts have charts
  unit_procedures_pass : (p : Act → Bool) → ((w t : Act) → IsWithoutChart w t → p w ≡ true → p t ≡ true) → list_all p whole.unit_procedures.items ≡ true
      → list_all p trimmed.unit_procedures.items ≡ true
  unit_procedures_pass p passes = all_stay entries UnitProcedures p passes 0 whole.unit_procedures.items trimmed.unit_procedures.items h.unit_procedures

  operations_pass : (p : Act → Bool) → ((w t : Act) → IsWithoutChart w t → p w ≡ true → p t ≡ true) → list_all p whole.operations.items ≡ true
      → list_all p trimmed.operations.items ≡ true
  operations_pass p passes = all_stay entries Operations p passes 0 whole.operations.items trimmed.operations.items h.operations

  pub own_roles : (roles : List RecipeRole) → are_roles roles whole ≡ true → are_roles roles trimmed ≡ true
  own_roles roles known =
      let (distinct, among) = and_parts (are_distinct (map (λ role. role.name) roles)) _ known in
      rw distinct (unit_procedures_pass (is_role_among (map (λ role. role.name) roles)) (role_stays (map (λ role. role.name) roles)) among)

  pub own_reports : (outputs : List Name) → are_reports outputs whole ≡ true → are_reports outputs trimmed ≡ true
  own_reports outputs known = rw (are_reports, h.phases) known

  pub own_reserves : are_reserves whole ≡ true → are_reserves trimmed ≡ true
  own_reserves known =
      let names = act_names whole.unit_procedures.items in
      let (of_procedure, rest) = and_parts _ (reserve_well names whole.unit_procedures.items && (reserve_well names whole.operations.items && reserve_well names whole.phases.items)) known in
      let (of_unit_procedures, more) = and_parts (reserve_well names whole.unit_procedures.items) (reserve_well names whole.operations.items && reserve_well names whole.phases.items) rest in
      let (of_operations, of_phases) = and_parts (reserve_well names whole.operations.items) (reserve_well names whole.phases.items) more in
      let (once, among) = and_parts (list_all reserves_once whole.unit_procedures.items) _ of_unit_procedures in
      let (once2, among2) = and_parts (list_all reserves_once whole.operations.items) _ of_operations in
      rw (
        are_reserves,
        h.procedure,
        of_procedure,
        unit_procedure_names,
        unit_procedures_pass reserves_once once_stays once,
        unit_procedures_pass (reserves_among names) (reserves_stay names) among,
        operations_pass reserves_once once_stays once2,
        operations_pass (reserves_among names) (reserves_stay names) among2,
        h.phases,
      ) of_phases

  pub kinds : are_kinds whole ≡ true → are_kinds trimmed ≡ true
  kinds known =
      let (of_procedure, rest) = and_parts (not (has_unit whole.procedure) && has_chart whole.procedure) _ known in
      let (of_unit_procedures, more) = and_parts (list_all (λ u. has_unit u && has_chart u) whole.unit_procedures.items) _ rest in
      let (of_operations, of_phases) = and_parts (list_all (λ o. not (has_unit o) && has_chart o) whole.operations.items) _ more in
      rw (
        are_kinds,
        h.procedure,
        of_procedure,
        unit_procedures_pass (λ u. has_unit u && has_chart u) (λ w t is known. rw (unit_stays w t is, (and_parts (has_unit w) (has_chart w) known).0) (chart_there w t is)) of_unit_procedures,
        operations_pass (λ o. not (has_unit o) && has_chart o) (λ w t is known. rw (unit_stays w t is, (and_parts (not (has_unit w)) (has_chart w) known).0) (chart_there w t is)) of_operations,
        h.phases,
      ) of_phases

  pub well_formed : (values : List Name) → is_well_formed values whole ≡ true → is_well_formed values trimmed ≡ true
  well_formed values known =
      let operations = act_names whole.operations.items in
      let phases = act_names whole.phases.items in
      let (distinct, works) = and_parts (are_distinct values && (are_distinct (act_names whole.unit_procedures.items) && (are_distinct operations && are_distinct phases))) _ known in
      let (of_procedure, rest) = and_parts (is_work (act_names whole.unit_procedures.items) values whole.procedure) _ works in
      let (of_unit_procedures, more) = and_parts (list_all (λ u. is_work operations values u && follows_no_par u) whole.unit_procedures.items) _ rest in
      let (of_operations, of_phases) = and_parts (list_all (is_work phases values) whole.operations.items) _ more in
      rw (
        is_well_formed,
        h.procedure,
        unit_procedure_names,
        operation_names,
        h.phases,
        distinct,
        of_procedure,
        unit_procedures_pass (λ u. is_work operations values u && follows_no_par u) (λ w t is _. rw (work_is operations values w t is) (no_par w t is)) of_unit_procedures,
        operations_pass (is_work phases values) (λ w t is _. work_is phases values w t is) of_operations,
      ) of_phases

  pub free_names : (values : List Name) → has_free_names values whole ≡ true → has_free_names values trimmed ≡ true
  free_names values known = rw (has_free_names, unit_procedure_names, operation_names, h.phases) known

  -- Nodes

  numbers : (table : LabelTable) (name : Name) → number_in (table_at trimmed table) name ≡ number_in (table_at whole table) name
  numbers UnitProcedures name =
      sym (number_by_names trimmed.unit_procedures.items (act_names trimmed.unit_procedures.items) name refl)
      ∙ number_by_names whole.unit_procedures.items (act_names trimmed.unit_procedures.items) name unit_procedure_names
  numbers Operations name =
      sym (number_by_names trimmed.operations.items (act_names trimmed.operations.items) name refl)
      ∙ number_by_names whole.operations.items (act_names trimmed.operations.items) name operation_names
  numbers Phases name = ap (λ (acts : Vec Act Global). number_in acts.items name) h.phases

  module _ {X : Type 0} (f : Option UnitChoice → Option X) (name : Name) where
    chosen : (b : Bool) (w t : Act) (p q : Option Act) → t.unit ≡ w.unit → option_and_then (λ a. f a.unit) q ≡ option_and_then (λ a. f a.unit) p
        → option_and_then (λ a. f a.unit) (cond b (Some t) q) ≡ option_and_then (λ a. f a.unit) (cond b (Some w) p)
    chosen true w t p q same rest = ap f same
    chosen false w t p q same rest = rest

    found : (number : ℕ) (acts others : List Act) → AreTrimmedActs entries UnitProcedures number acts others
        → option_and_then (λ a. f a.unit) (act_named others name) ≡ option_and_then (λ a. f a.unit) (act_named acts name)
    found number [] [] are = refl
    found number [] (t ∷ others) are = absurd are
    found number (w ∷ acts) [] are = absurd are
    found number (w ∷ acts) (t ∷ others) (here, rest) =
        let same : (t.name ≡ w.name) × (t.unit ≡ w.unit) = elim here [
          | inl is ↦ (ap (λ (a : Act). a.name) is, ap (λ (a : Act). a.unit) is)
          | inr dropped ↦ (dropped.1.name, dropped.1.unit)
        ] in
        ap (λ n. option_and_then (λ a. f a.unit) (cond (same_name n name) (Some t) (act_named others name))) same.0
        ∙ chosen (same_name w.name name) w t (act_named acts name) (act_named others name) same.1 (found (number + 1) acts others rest)

    -- whatever depends on the unit of the unit procedure with this name
    pub unit_stays_of : option_and_then (λ a. f a.unit) (act_named trimmed.unit_procedures.items name) ≡ option_and_then (λ a. f a.unit) (act_named whole.unit_procedures.items name)
    unit_stays_of = found 0 whole.unit_procedures.items trimmed.unit_procedures.items h.unit_procedures

  units : (bound : Binding) (name : Name) → unit_named (sites bound trimmed) name ≡ unit_named (sites bound whole) name
  units bound name = rw (unit_named, unit_stays_of (unit_with bound) name) refl

  alike_at : (table : LabelTable) (number : ℕ) → HasNode entries table number → slice_get (table_at trimmed table) number ≡ slice_get (table_at whole table) number
  alike_at UnitProcedures number has =
      node_stays entries UnitProcedures 0 number whole.unit_procedures.items trimmed.unit_procedures.items h.unit_procedures (subst (HasNode entries UnitProcedures) (omega arith) has)
  alike_at Operations number has =
      node_stays entries Operations 0 number whole.operations.items trimmed.operations.items h.operations (subst (HasNode entries Operations) (omega arith) has)
  alike_at Phases number has = ap (λ (acts : Vec Act Global). slice_get acts.items number) h.phases

  alike : nodes.AreAlike whole trimmed entries
  alike k e at table number is = alike_at table number (k, e, at, is)

  module _ (outlined : entries ≡ entries_of whole) where
    every : nodes.AreAlike whole trimmed (entries_of whole)
    every = subst (nodes.AreAlike whole trimmed) outlined alike

    pub entries_stay : entries_of trimmed ≡ entries_of whole
    entries_stay = nodes.same_entries whole trimmed h.procedure numbers every unbound (units unbound)

    pub conditions_stay : conditions_of trimmed ≡ conditions_of whole
    conditions_stay = nodes.same_conditions whole trimmed h.procedure numbers every unbound (units unbound)

    pub tree_stays : (bound : Binding) → bound_tree bound trimmed ≡ bound_tree bound whole
    tree_stays bound = nodes.same_tree whole trimmed h.procedure numbers every bound (units bound)

    pub acts_stay : procedure_acts trimmed ≡ procedure_acts whole
    acts_stay = nodes.same_nodes_acts whole trimmed h.procedure numbers every unbound (units unbound)
