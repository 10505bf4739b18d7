-- Acts, without the places of their parts in memory: the conditions on a recipe's parts depend on no more.
use Rattle.std.proofs.Common.{arith, ◌≡◌, ◌≤◌, nat_le, Bool, true, ◌&&◌, List, [], ◌∷◌, ◌++◌, map, length, Option, Some, None, option_and_then, option_map, refl, sym, ap, ◌∙◌, subst, find}
use Rattle.std.{proofs.Math.Path.fun_ext, proofs.lemmas.List.length-map, specs.List.list_all}
use Rattle.batch_recipe.specs.{Conditions.Name, Conditions.same_name, Diagram.Diagram, Diagram.diagram_of, Expanding.Sites, Expanding.act_named, Expanding.act_tree_with, Expanding.asked_in_order, Expanding.expanded, Expanding.named_tree_with, Expanding.reserves_from, Expanding.task_of, Expanding.unbound, Expanding.unit_below, Expanding.unit_count, Expanding.unit_named, Expanding.unit_with, Nodes.Node, Nodes.child, Nodes.nodes, Procedure.procedure_nodes, Procedure.procedure_tree, Procedure.sites, Tree.Place, Tree.Step, Tree.Tree, Tree.Task, Tree.act, Tree.skip, WellFormed.act_names, WellFormed.are_distinct, WellFormed.are_reports, WellFormed.are_reserves, WellFormed.are_roles, WellFormed.has_no_par, WellFormed.is_among, WellFormed.is_chart, WellFormed.is_well_formed, WellFormed.is_work, WellFormed.reports_with, WellFormed.reserve_well, WellFormed.value_names, declared.act.Act.Act, declared.act.TheConstants.MAX_REPORTS, declared.act.TheConstants.MAX_VALUES, declared.act.UnitChoice.UnitChoice, declared.act.UnitChoice.TheVariants.Unit, declared.act.UnitChoice.TheVariants.Role, declared.act.Work.Work, declared.act.Work.TheVariants.Follows, declared.act.Work.TheVariants.Runs, declared.acts.Acts.Acts, declared.quantity.Quantity.Quantity, declared.recipe.TheConstants.MAX_NODES, declared.role.Role.Role as RecipeRole, declared.need.Need.Need}
use Rattle.batch_recipe.specs.Tree as tree
use Rattle.batch_reader.specs.SoundRecipe.{IsSoundRecipe}

-- a chart, or a phase, the names of the values that it is handed, and of the outputs that it reports
pub data WorkForm : Type 0 where
  follows : Diagram → WorkForm
  runs : Name → List Name → List Name → WorkForm

pub record ActForm : Type 0 where
  pub name : Name
  pub unit : Option UnitChoice
  pub reserves : List Name
  pub needs : List Need
  pub work : WorkForm

abbrev pub work_form : Work → WorkForm
work_form (Follows c) = follows (diagram_of c)
work_form (Runs phase handed reports) = runs phase handed.items reports.items

abbrev pub form : Act → ActForm
form a = record { name = a.name; unit = a.unit; reserves = a.reserves.items; needs = a.needs.items; work = work_form a.work }

-- ---- well-formed

abbrev form_names : List ActForm → List Name
form_names fs = map (λ f. f.name) fs

names_form : (xs : List Act) → act_names xs ≡ form_names (map form xs)
names_form [] = refl
names_form (x ∷ xs) = ap (λ ns. x.name ∷ ns) (names_form xs)

abbrev is_form_work : List Name → List Name → ActForm → Bool
is_form_work labels values f =
    elim f.work [ follows d ↦ is_chart labels values 32 d | runs phase handed reported ↦ nat_le (length handed) MAX_VALUES && list_all (is_among values) handed ]

abbrev form_no_par : ActForm → Bool
form_no_par f = elim f.work [ follows d ↦ has_no_par d | runs phase handed reported ↦ true ]

work_case : (labels values : List Name) (w : Work)
    → ◌≡◌ {A = Bool}
    (elim w [ Follows c ↦ is_chart labels values 32 (diagram_of c) | Runs phase handed reports ↦ nat_le (length handed.items) MAX_VALUES && list_all (is_among values) handed.items ])
    (elim (work_form w) [ follows d ↦ is_chart labels values 32 d | runs phase handed reported ↦ nat_le (length handed) MAX_VALUES && list_all (is_among values) handed ])
work_case labels values w = grind arith

par_case : (w : Work)
    → ◌≡◌ {A = Bool} (elim w [ Follows c ↦ has_no_par (diagram_of c) | Runs phase handed reports ↦ true ]) (elim (work_form w) [ follows d ↦ has_no_par d | runs phase handed reported ↦ true ])
par_case w = grind arith

and_same : {a b c d : Bool} → a ≡ b → c ≡ d → (a && c) ≡ (b && d)
and_same e f = λ i. e i && f i

all_form : (p : Act → Bool) (q : ActForm → Bool) → ((a : Act) → p a ≡ q (form a)) → (xs : List Act) → list_all p xs ≡ list_all q (map form xs)
all_form p q same [] = refl
all_form p q same (x ∷ xs) = and_same (same x) (all_form p q same xs)

abbrev are_well_formed : List Name → ActForm → List ActForm → List ActForm → List ActForm → Bool
are_well_formed values procedure us os ss =
    (are_distinct values && (are_distinct (form_names us) && (are_distinct (form_names os) && are_distinct (form_names ss))))
    && (is_form_work (form_names us) values procedure
    && (list_all (λ u. is_form_work (form_names os) values u && form_no_par u) us
    && (list_all (is_form_work (form_names ss) values) os
    && list_all (is_form_work [] values) ss)))

work_same : (values : List Name) (table : List Act) (a : Act) → is_work (act_names table) values a ≡ is_form_work (form_names (map form table)) values (form a)
work_same values table a = work_case (act_names table) values a.work ∙ ap (λ labels. is_form_work labels values (form a)) (names_form table)

well_formed_form : (values : List Name) (a : Acts)
    → is_well_formed values a ≡ are_well_formed values (form a.procedure) (map form a.unit_procedures.items) (map form a.operations.items) (map form a.phases.items)
well_formed_form values a = grind (arith, and_same, names_form, work_same, all_form, par_case, work_case)

-- ---- roles

abbrev is_form_role : List Name → ActForm → Bool
is_form_role roles f = elim f.unit [ None ↦ true | Some choice ↦ elim choice [ Unit unit ↦ true | Role role ↦ is_among roles role ] ]

abbrev are_form_roles : List RecipeRole → List ActForm → Bool
are_form_roles roles us = are_distinct (map (λ role. role.name) roles) && list_all (is_form_role (map (λ role. role.name) roles)) us

roles_form : (roles : List RecipeRole) (a : Acts) → are_roles roles a ≡ are_form_roles roles (map form a.unit_procedures.items)
roles_form roles a = grind (arith, and_same, all_form)

-- ---- outputs that are reported

abbrev form_reports : ActForm → List Name
form_reports f = elim f.work [ follows d ↦ [] | runs phase handed reported ↦ reported ]

abbrev are_form_reports : List Name → List ActForm → Bool
are_form_reports outputs ss =
    list_all (λ s. nat_le (length (form_reports s)) MAX_REPORTS) ss
    && (list_all (λ s. are_distinct (form_reports s)) ss && list_all (λ s. list_all (is_among outputs) (form_reports s)) ss)

reports_case : (w : Work) → ◌≡◌ {A = List Name} (reports_with w) (elim (work_form w) [ follows d ↦ [] | runs phase handed reported ↦ reported ])
reports_case (Follows c) = refl
reports_case (Runs phase handed reports) = refl

reports_form : (outputs : List Name) (a : Acts) → are_reports outputs a ≡ are_form_reports outputs (map form a.phases.items)
reports_form outputs a =
    let steps : List Act = a.phases.items in
    and_same (all_form _ (λ s. nat_le (length (form_reports s)) MAX_REPORTS) (λ s. ap (λ names. nat_le (length names) MAX_REPORTS) (reports_case s.work)) steps)
    (and_same (all_form _ (λ s. are_distinct (form_reports s)) (λ s. ap are_distinct (reports_case s.work)) steps)
    (all_form _ (λ s. list_all (is_among outputs) (form_reports s)) (λ s. ap (list_all (is_among outputs)) (reports_case s.work)) steps))

-- ---- unit procedures that are reserved

abbrev reserve_forms : List Name → List ActForm → Bool
reserve_forms names fs = list_all (λ f. are_distinct f.reserves) fs && list_all (λ f. list_all (is_among names) f.reserves) fs

reserve_well_form : (xs us : List Act) → reserve_well (act_names us) xs ≡ reserve_forms (form_names (map form us)) (map form xs)
reserve_well_form xs us =
    and_same (all_form _ (λ f. are_distinct f.reserves) (λ a. refl) xs) (all_form _ (λ f. list_all (is_among (act_names us)) f.reserves) (λ a. refl) xs)
    ∙ ap (λ names. reserve_forms names (map form xs)) (names_form us)

abbrev are_form_reserves : ActForm → List ActForm → List ActForm → List ActForm → Bool
are_form_reserves procedure us os ss =
    nat_le (length procedure.reserves) 0 && (reserve_forms (form_names us) us && (reserve_forms (form_names us) os && reserve_forms (form_names us) ss))

reserves_form : (a : Acts)
    → are_reserves a ≡ are_form_reserves (form a.procedure) (map form a.unit_procedures.items) (map form a.operations.items) (map form a.phases.items)
reserves_form a =
    let us : List Act = a.unit_procedures.items in
    and_same refl (and_same (reserve_well_form us us) (and_same (reserve_well_form a.operations.items us) (reserve_well_form a.phases.items us)))

-- ---- the expanded tree

abbrev form_task : (Name → Place → Tree) → Name → Name → Place → WorkForm → Task
form_task acts unit name p (follows d) = tree.follows name (expanded acts (child p 0) d)
form_task acts unit name p (runs phase handed reported) = tree.runs (record { unit = unit; name = phase; handed = handed; reports = reported })

-- where `named` tells the unit of a unit procedure
abbrev form_step : (Name → Name) → ActForm → Place → Step
form_step named f p = record {
  place = p;
  needs = asked_in_order (unit_with unbound f.unit) (map named f.reserves) f.needs;
  reserves = reserves_from (unit_count f.unit) f.reserves;
}

abbrev form_act : (Name → Name) → (Name → Name → Place → Tree) → Name → ActForm → Place → Tree
form_act named acts unit f p =
    act (form_step named f p) (form_task (acts (unit_below unit (unit_with unbound f.unit))) (unit_below unit (unit_with unbound f.unit)) f.name p f.work)

abbrev form_named : List ActForm → Name → Option ActForm
form_named fs name = find (λ f. same_name f.name name) fs

abbrev form_unit : List ActForm → Name → Name
form_unit us name = elim (option_and_then (λ f. unit_with unbound f.unit) (form_named us name)) [ None ↦ [] | Some unit ↦ unit ]

abbrev form_tree : (Name → Name) → List (List ActForm) → Name → Name → Place → Tree
form_tree named [] unit name p = skip
form_tree named (table ∷ tables) unit name p = elim (form_named table name) [ None ↦ skip | Some f ↦ form_act named (form_tree named tables) unit f p ]

task_case : (acts : Name → Place → Tree) (unit name : Name) (p : Place) (w : Work) → task_of acts unit name p w ≡ form_task acts unit name p (work_form w)
task_case acts unit name p w = grind arith

named_same : (xs : List Act) (name : Name) → option_map form (act_named xs name) ≡ form_named (map form xs) name
named_same [] name = refl
named_same (x ∷ xs) name = grind (arith, named_same xs name)

module _ (own : Sites) (unbinding : own.bound ≡ unbound) where
  act_same : (acts : Name → Name → Place → Tree) (unit : Name) (a : Act) (p : Place) → act_tree_with own acts unit a p ≡ form_act (unit_named own) acts unit (form a) p
  act_same acts unit a p = grind (arith, unbinding, task_case (acts (unit_below unit (unit_with unbound a.unit))) (unit_below unit (unit_with unbound a.unit)) a.name p a.work)

  found_case : (acts forms : Name → Name → Place → Tree) → acts ≡ forms → (unit : Name) (p : Place) (o : Option Act)
      → ◌≡◌ {A = Tree} (elim o [ None ↦ skip | Some a ↦ act_tree_with own acts unit a p ]) (elim (option_map form o) [ None ↦ skip | Some f ↦ form_act (unit_named own) forms unit f p ])
  found_case acts forms same unit p o = grind (arith, act_same)

  tree_same : (tables : List (List Act)) → named_tree_with own tables ≡ form_tree (unit_named own) (map (map form) tables)
  tree_same [] = fun_ext (λ unit. fun_ext (λ name. fun_ext (λ p. refl)))
  tree_same (table ∷ tables) = fun_ext (λ unit. fun_ext (λ name. fun_ext (λ p.
      found_case (named_tree_with own tables) (form_tree (unit_named own) (map (map form) tables)) (tree_same tables) unit p (act_named table name)
      ∙ ap (λ (o : Option ActForm). elim o [ None ↦ skip | Some f ↦ form_act (unit_named own) (form_tree (unit_named own) (map (map form) tables)) unit f p ]) (named_same table name))))

unit_case : (o : Option Act)
    → ◌≡◌ {A = Name} (elim (option_and_then (λ a. unit_with unbound a.unit) o) [ None ↦ [] | Some unit ↦ unit ])
    (elim (option_and_then (λ f. unit_with unbound f.unit) (option_map form o)) [ None ↦ [] | Some unit ↦ unit ])
unit_case None = refl
unit_case (Some a) = refl

unit_same : (us : List Act) → unit_named (record { bound = unbound; unit_procedures = us }) ≡ form_unit (map form us)
unit_same us = fun_ext (λ name. unit_case (act_named us name)
    ∙ ap (λ (o : Option ActForm). elim (option_and_then (λ f. unit_with unbound f.unit) o) [ None ↦ [] | Some unit ↦ unit ]) (named_same us name))

abbrev whole_tree : (Name → Name) → ActForm → List ActForm → List ActForm → List ActForm → Tree
whole_tree named procedure us os ss = form_act named (form_tree named (us ∷ os ∷ ss ∷ [])) [] procedure (0 ∷ [])

procedure_form : (a : Acts)
    → procedure_tree a
    ≡ whole_tree (form_unit (map form a.unit_procedures.items)) (form a.procedure) (map form a.unit_procedures.items) (map form a.operations.items) (map form a.phases.items)
procedure_form a =
    let own : Sites = sites unbound a in
    let tables : List (List Act) = a.unit_procedures.items ∷ a.operations.items ∷ a.phases.items ∷ [] in
    act_same own refl (named_tree_with own tables) [] a.procedure (0 ∷ [])
    ∙ ap (λ (F : Name → Name → Place → Tree). form_act (unit_named own) F [] (form a.procedure) (0 ∷ [])) (tree_same own refl tables)
    ∙ ap (λ (named : Name → Name). whole_tree named (form a.procedure) (map form a.unit_procedures.items) (map form a.operations.items) (map form a.phases.items)) (unit_same a.unit_procedures.items)

-- ---- a fact of one recipe's parts holds of others with the same forms

same_length : {X Y : Type 0} (f : X → Y) (xs ys : List X) → map f xs ≡ map f ys → length xs ≡ length ys
same_length f xs ys e = sym (length-map xs f) ∙ ap length e ∙ length-map ys f

module _ (a b : Acts) (procedure : form a.procedure ≡ form b.procedure) (unit_procedures : map form a.unit_procedures.items ≡ map form b.unit_procedures.items)
    (operations : map form a.operations.items ≡ map form b.operations.items) (phases : map form a.phases.items ≡ map form b.phases.items) where
  same_well_formed : (values : List Name) → is_well_formed values a ≡ is_well_formed values b
  same_well_formed values = grind (arith, well_formed_form)

  same_roles : (roles : List RecipeRole) → are_roles roles a ≡ are_roles roles b
  same_roles roles = roles_form roles a ∙ ap (are_form_roles roles) unit_procedures ∙ sym (roles_form roles b)

  same_reports : (outputs : List Name) → are_reports outputs a ≡ are_reports outputs b
  same_reports outputs = reports_form outputs a ∙ ap (are_form_reports outputs) phases ∙ sym (reports_form outputs b)

  same_reserves : are_reserves a ≡ are_reserves b
  same_reserves = reserves_form a ∙ (λ i. are_form_reserves (procedure i) (unit_procedures i) (operations i) (phases i)) ∙ sym (reserves_form b)

  same_nodes : procedure_nodes a ≡ procedure_nodes b
  same_nodes =
      ap (nodes (0 ∷ []) [])
      (procedure_form a ∙ (λ i. whole_tree (form_unit (unit_procedures i)) (procedure i) (unit_procedures i) (operations i) (phases i)) ∙ sym (procedure_form b))

pub sound_along : (inputs parameters inputs2 parameters2 : List Quantity) (outputs outputs2 : List Name) (roles roles2 : List RecipeRole) (a b : Acts)
    → map (λ q. q.name) inputs ≡ map (λ q. q.name) inputs2 → map (λ q. q.name) parameters ≡ map (λ q. q.name) parameters2 → outputs ≡ outputs2 → roles ≡ roles2
    → form a.procedure ≡ form b.procedure → map form a.unit_procedures.items ≡ map form b.unit_procedures.items
    → map form a.operations.items ≡ map form b.operations.items → map form a.phases.items ≡ map form b.phases.items
    → IsSoundRecipe inputs parameters outputs roles a → IsSoundRecipe inputs2 parameters2 outputs2 roles2 b
sound_along is ps js qs os rs roles roles2 a b ei ep eo er procedure unit_procedures operations phases h =
    let values : value_names is ps os ≡ value_names js qs rs = λ i. ei i ++ ep i ++ eo i in
    let li : length is ≡ length js = same_length (λ q. q.name) is js ei in
    let lp : length ps ≡ length qs = same_length (λ q. q.name) ps qs ep in
    let lo : length os ≡ length rs = ap length eo in
    let lr : length roles ≡ length roles2 = ap length er in
    let lu : length a.unit_procedures.items ≡ length b.unit_procedures.items = same_length form _ _ unit_procedures in
    let lt : length a.operations.items ≡ length b.operations.items = same_length form _ _ operations in
    let ls : length a.phases.items ≡ length b.phases.items = same_length form _ _ phases in
    record {
      few_inputs = rw (← li) h.few_inputs;
      few_parameters = rw (← lp) h.few_parameters;
      few_outputs = rw (← lo) h.few_outputs;
      few_roles = rw (← lr) h.few_roles;
      some_unit_procedures = rw (← lu) h.some_unit_procedures;
      few_unit_procedures = rw (← lu) h.few_unit_procedures;
      some_operations = rw (← lt) h.some_operations;
      few_operations = rw (← lt) h.few_operations;
      some_phases = rw (← ls) h.some_phases;
      few_phases = rw (← ls) h.few_phases;
      well_formed = sym (same_well_formed a b procedure unit_procedures operations phases (value_names js qs rs)) ∙ ap (λ names. is_well_formed names a) (sym values) ∙ h.well_formed;
      own_roles = sym (same_roles a b procedure unit_procedures operations phases roles2) ∙ ap (λ rs. are_roles rs a) (sym er) ∙ h.own_roles;
      own_reports = sym (same_reports a b procedure unit_procedures operations phases rs) ∙ ap (λ names. are_reports names a) (sym eo) ∙ h.own_reports;
      own_reserves = sym (same_reserves a b procedure unit_procedures operations phases) ∙ h.own_reserves;
      small = subst (λ (ns : List Node). length ns ≤ MAX_NODES) (same_nodes a b procedure unit_procedures operations phases) h.small;
    }
