-- A path has one unit procedure, so that clearance for every binding is clearance of each unit procedure on each unit.
use Rattle.std.proofs.Common.{arith, ◌≡◌, refl, sym, ◌∙◌, ap, subst, ℕ, ◌+◌, List, [], ◌∷◌, true, false, ◌&&◌, ◌||◌, not, map, length, nat_le, IsTrue, Option, Some, None, inl, inr}
use Rattle.std.{proofs.lemmas.Bool.and_parts, proofs.lemmas.Bool.Decides.nat_tests, specs.List.list_all}
use Rattle.batch_cell.specs.declared.cell.Cell as equipment
use Rattle.batch_recipe.specs.{Conditions.Name, Conditions.same_name, Diagram.Diagram, Diagram.Diagrams, Diagram.Cases, Diagram.diagram_of, Expanding.Binding, Expanding.unbound, Expanding.Sites, Expanding.unit_chosen, Expanding.unit_with, Expanding.unit_below, Expanding.unit_count, Expanding.unit_named, Expanding.asked_in_order, Expanding.reserves_from, Expanding.expanded, Expanding.expanded_each, Expanding.expanded_cases, Expanding.task_of, Expanding.act_named, Expanding.act_tree_with, Expanding.named_tree_with, Needs.resources_needed, Nodes.child, Tree.Place, Tree.Tree, Tree.act, Tree.skip, Tree.seq, Tree.par, Tree.sel, Tree.loop, Tree.Trees, Tree.Choices, Tree.Step, Tree.follows, ActsAtNodes.procedure_acts, WellFormed.reserves_none, WellFormed.has_unit, WellFormed.has_chart, WellFormed.is_among, WellFormed.are_distinct, WellFormed.is_role_among, declared.act.Act.Act, declared.act.UnitChoice.UnitChoice, declared.act.UnitChoice.TheVariants.Unit, declared.act.UnitChoice.TheVariants.Role, declared.act.Work.Work, declared.act.Work.TheVariants.Follows, declared.act.Work.TheVariants.Runs, declared.condition.Condition.Condition}
use Rattle.batch_recipe.specs.Diagram as chart
use Rattle.batch_recipe.specs.declared.recipe.Recipe as document
use Rattle.batch_model.{specs.Lists.Has, specs.Lists.Each, specs.Plant.Role as Declared, specs.Plant.Setup, specs.Cleared.Ranking, specs.Cleared.Part, specs.Cleared.is_procedure, specs.Cleared.in_procedure, specs.Cleared.part, specs.Cleared.parts, specs.Cleared.parts_of_each, specs.Cleared.parts_of_choices, specs.Cleared.surely_runs, specs.Cleared.IsServed, specs.Cleared.IsClear, specs.Cleared.HasCandidates, specs.Cleared.IsClearedRecipe, specs.Setups.labels, specs.Setups.labels_of_each, specs.Setups.labels_of_cases, specs.Setups.labels_of, specs.Setups.reserve_role, specs.Setups.master_of, proofs.Bindings.HaveNoUnits, proofs.Bindings.list_all-Has, proofs.Bindings.none-chosen, proofs.Bindings.no-units-below, proofs.Bindings.unit-of-each, proofs.Bindings.on-chosen, proofs.Bindings.chart-same-runs, proofs.Bindings.label-same-runs, proofs.Members.Has-left, proofs.Members.Has-right, proofs.Members.Each-append, proofs.Members.find-Has}
use Rattle.batch_record_laws.{specs.Candidates.MayBe, specs.Candidates.MayRun, specs.Candidates.tree_on, specs.Candidates.UnitProcedureIsClear, specs.Candidates.ChartIsClear, specs.Candidates.ChartsAreClear, specs.Candidates.CasesAreClear, specs.Candidates.WorkIsClear, specs.Candidates.IsClearOnEach, specs.Candidates.CandidatesSuffice, proofs.Members.Each-left, proofs.Members.Each-right, proofs.Roles.AreServed, proofs.Roles.some-serves, proofs.Roles.names_of, proofs.Roles.one-declared, proofs.Roles.some-declared, proofs.Roles.named-role}

-- Whether a node outside unit procedures is clear doesn't depend on its descendants, but for the body of a loop

module _ (setup : Setup) (rank : Ranking) where
  seq-clear : (p : Place) (asked : List Name) (ts us : Trees) → IsClear setup rank (part in_procedure p asked (seq ts)) → IsClear setup rank (part in_procedure p asked (seq us))
  seq-clear p asked ts us h = record { known = tt; on_unit = tt; within = tt; offered = tt; apart = tt; turning = tt; rising = h.rising }

  par-clear : (p : Place) (asked : List Name) (ts us : Trees) → IsClear setup rank (part in_procedure p asked (par ts)) → IsClear setup rank (part in_procedure p asked (par us))
  par-clear p asked ts us h = record { known = tt; on_unit = tt; within = tt; offered = tt; apart = tt; turning = tt; rising = h.rising }

  sel-clear : (p : Place) (asked : List Name) (ts us : Choices) → IsClear setup rank (part in_procedure p asked (sel ts)) → IsClear setup rank (part in_procedure p asked (sel us))
  sel-clear p asked ts us h = record { known = tt; on_unit = tt; within = tt; offered = tt; apart = tt; turning = tt; rising = h.rising }

  loop-clear : (p : Place) (asked : List Name) (n : ℕ) (c : Condition) (t u : Tree) → surely_runs t ≡ surely_runs u → IsClear setup rank (part in_procedure p asked (loop n c t))
      → IsClear setup rank (part in_procedure p asked (loop n c u))
  loop-clear p asked n c t u e h =
      record { known = tt; on_unit = tt; within = tt; offered = tt; apart = tt; turning = subst IsTrue e h.turning; rising = h.rising }

  root-clear : (p : Place) (asked : List Name) (s : Step) (name : Name) (t u : Tree) → IsClear setup rank (part is_procedure p asked (act s (follows name t)))
      → IsClear setup rank (part is_procedure p asked (act s (follows name u)))
  root-clear p asked s name t u h =
      record { known = h.known; on_unit = tt; within = h.within; offered = tt; apart = tt; turning = tt; rising = h.rising }

-- Charts of unit procedures, of which `named` are labels: a binding that serves chooses a unit on which each of these may run

module _ (setup : Setup) (rank : Ranking) (roles : List Declared) (units : List Act) (tables : List (List Act)) (named : List Name) (Serves : Binding → Type 0)
    (none_below : HaveNoUnits tables)
    (own : (name : Name) (a : Act) → act_named units name ≡ Some a → (choice : UnitChoice) × (a.unit ≡ Some choice))
    (may_be : (bound : Binding) → Serves bound → (name : Name) → Has named name → (a : Act) → act_named units name ≡ Some a
    → (choice : UnitChoice) → a.unit ≡ Some choice → MayBe roles choice (unit_chosen bound choice))
    (some : (bound : Binding) × Serves bound) where
  abbrev Clear : Part → Type 0
  Clear = IsClear setup rank

  abbrev own_sites : Binding → Sites
  own_sites bound = record { bound = bound; unit_procedures = units }

  abbrev label_of : Binding → Name → Place → Tree
  label_of bound = named_tree_with (own_sites bound) (units ∷ tables) []

  abbrev AreNamed : List Name → Type 0
  AreNamed names = (name : Name) → Has names name → Has named name

  same-turns : (bound other : Binding) (p : Place) (d : Diagram) → surely_runs (expanded (label_of bound) p d) ≡ surely_runs (expanded (label_of other) p d)
  same-turns bound other p d = chart-same-runs (label_of bound) (label_of other) (λ name q. label-same-runs (own_sites bound) (own_sites other) (units ∷ tables) [] [] name q) p d

  mutual
    for_all : (bound : Binding) → Serves bound → (p : Place) (asked : List Name) (d : Diagram) → AreNamed (labels d) → ChartIsClear setup rank roles Serves units tables p asked d
        → Each Clear (parts in_procedure p asked (expanded (label_of bound) p d))
    for_all bound s p asked (chart.label name) n h = go (act_named units name) refl h
      where
        go : (o : Option Act) → act_named units name ≡ o → UnitProcedureIsClear setup rank roles Serves units tables p asked o
            → Each Clear (parts in_procedure p asked (elim o [ None ↦ skip | Some a ↦ act_tree_with (own_sites bound) (named_tree_with (own_sites bound) tables) [] a p ]))
        go None e h = (h, tt)
        go (Some a) e h =
            let choice = own name a e in
            let unit : Name = unit_chosen bound choice.0 in
            subst (λ t. Each Clear (parts in_procedure p asked t)) (sym (on-chosen (own_sites bound) (own_sites bound) refl tables none_below choice.0 a p choice.1))
            (h unit (subst (λ o. MayRun roles o unit) (sym choice.1) (may_be bound s name (n name (inl refl)) a e choice.0 choice.1)) bound s (ap (unit_with bound) choice.1))
    for_all bound s p asked chart.skip n h = (h, tt)
    for_all bound s p asked (chart.seq ds) n h =
        (seq-clear setup rank p asked (expanded_each (label_of unbound) p 0 ds) (expanded_each (label_of bound) p 0 ds) h.0, for_branches bound s p asked 0 ds n h.1)
    for_all bound s p asked (chart.par ds) n h =
        (par-clear setup rank p asked (expanded_each (label_of unbound) p 0 ds) (expanded_each (label_of bound) p 0 ds) h.0, for_branches bound s p asked 0 ds n h.1)
    for_all bound s p asked (chart.sel cs) n h =
        (sel-clear setup rank p asked (expanded_cases (label_of unbound) p 0 cs) (expanded_cases (label_of bound) p 0 cs) h.0, for_cases bound s p asked 0 cs n h.1)
    for_all bound s p asked (chart.loop m c body) n h = (
      loop-clear setup rank p asked m c (expanded (label_of unbound) (child p 0) body) (expanded (label_of bound) (child p 0) body) (same-turns unbound bound (child p 0) body) h.0,
      for_all bound s (child p 0) asked body n h.1,
    )

    for_branches : (bound : Binding) → Serves bound → (p : Place) (asked : List Name) (i : ℕ) (ds : Diagrams) → AreNamed (labels_of_each ds)
        → ChartsAreClear setup rank roles Serves units tables p asked i ds → Each Clear (parts_of_each in_procedure p asked i (expanded_each (label_of bound) p i ds))
    for_branches bound s p asked i chart.none n h = tt
    for_branches bound s p asked i (chart.more d ds) n h =
        Each-append Clear (parts in_procedure (child p i) asked (expanded (label_of bound) (child p i) d)) (parts_of_each in_procedure p asked (i + 1) (expanded_each (label_of bound) p (i + 1) ds))
        (for_all bound s (child p i) asked d (λ name k. n name (Has-left (labels d) (labels_of_each ds) name k)) h.0)
        (for_branches bound s p asked (i + 1) ds (λ name k. n name (Has-right (labels d) (labels_of_each ds) name k)) h.1)

    for_cases : (bound : Binding) → Serves bound → (p : Place) (asked : List Name) (i : ℕ) (cs : Cases) → AreNamed (labels_of_cases cs)
        → CasesAreClear setup rank roles Serves units tables p asked i cs → Each Clear (parts_of_choices in_procedure p asked i (expanded_cases (label_of bound) p i cs))
    for_cases bound s p asked i (chart.otherwise d) n h = for_all bound s (child p i) asked d n h
    for_cases bound s p asked i (chart.when c d cs) n h =
        Each-append Clear (parts in_procedure (child p i) asked (expanded (label_of bound) (child p i) d)) (parts_of_choices in_procedure p asked (i + 1) (expanded_cases (label_of bound) p (i + 1) cs))
        (for_all bound s (child p i) asked d (λ name k. n name (Has-left (labels d) (labels_of_cases cs) name k)) h.0)
        (for_cases bound s p asked (i + 1) cs (λ name k. n name (Has-right (labels d) (labels_of_cases cs) name k)) h.1)

  -- clear for every binding that serves
  abbrev Always : (Binding → List Part) → Type 0
  Always xs = (bound : Binding) → Serves bound → Each Clear (xs bound)

  mutual
    by_itself : (p : Place) (asked : List Name) (d : Diagram) → AreNamed (labels d) → Always (λ bound. parts in_procedure p asked (expanded (label_of bound) p d))
        → ChartIsClear setup rank roles Serves units tables p asked d
    by_itself p asked (chart.label name) n h = go (act_named units name) refl h
      where
        go : (o : Option Act) → act_named units name ≡ o
            → Always (λ bound. parts in_procedure p asked (elim o [ None ↦ skip | Some a ↦ act_tree_with (own_sites bound) (named_tree_with (own_sites bound) tables) [] a p ]))
            → UnitProcedureIsClear setup rank roles Serves units tables p asked o
        go None e h = (h some.0 some.1).0
        go (Some a) e h = λ unit m bound serves on.
            let choice = own name a e in
            let chosen : Some (unit_chosen bound choice.0) ≡ Some unit = sym (ap (unit_with bound) choice.1) ∙ on in
            let same : unit_chosen bound choice.0 ≡ unit = cc in
            subst (λ u. Each Clear (parts in_procedure p asked (tree_on (own_sites bound) tables u a p))) same
            (subst (λ t. Each Clear (parts in_procedure p asked t)) (on-chosen (own_sites bound) (own_sites bound) refl tables none_below choice.0 a p choice.1) (h bound serves))
    by_itself p asked chart.skip n h = (h some.0 some.1).0
    by_itself p asked (chart.seq ds) n h = (
      seq-clear setup rank p asked (expanded_each (label_of some.0) p 0 ds) (expanded_each (label_of unbound) p 0 ds) (h some.0 some.1).0,
      branches_by_themselves p asked 0 ds n (λ bound s. (h bound s).1),
    )
    by_itself p asked (chart.par ds) n h = (
      par-clear setup rank p asked (expanded_each (label_of some.0) p 0 ds) (expanded_each (label_of unbound) p 0 ds) (h some.0 some.1).0,
      branches_by_themselves p asked 0 ds n (λ bound s. (h bound s).1),
    )
    by_itself p asked (chart.sel cs) n h = (
      sel-clear setup rank p asked (expanded_cases (label_of some.0) p 0 cs) (expanded_cases (label_of unbound) p 0 cs) (h some.0 some.1).0,
      cases_by_themselves p asked 0 cs n (λ bound s. (h bound s).1),
    )
    by_itself p asked (chart.loop m c body) n h = (
      loop-clear setup rank p asked m c (expanded (label_of some.0) (child p 0) body) (expanded (label_of unbound) (child p 0) body) (same-turns some.0 unbound (child p 0) body)
          (h some.0 some.1).0,
      by_itself (child p 0) asked body n (λ bound s. (h bound s).1),
    )

    branches_by_themselves : (p : Place) (asked : List Name) (i : ℕ) (ds : Diagrams) → AreNamed (labels_of_each ds)
        → Always (λ bound. parts_of_each in_procedure p asked i (expanded_each (label_of bound) p i ds)) → ChartsAreClear setup rank roles Serves units tables p asked i ds
    branches_by_themselves p asked i chart.none n h = tt
    branches_by_themselves p asked i (chart.more d ds) n h = (
      by_itself (child p i) asked d (λ name k. n name (Has-left (labels d) (labels_of_each ds) name k)) (λ bound s.
          Each-left Clear (parts in_procedure (child p i) asked (expanded (label_of bound) (child p i) d)) (parts_of_each in_procedure p asked (i + 1) (expanded_each (label_of bound) p (i + 1) ds)) (h bound s)),
      branches_by_themselves p asked (i + 1) ds (λ name k. n name (Has-right (labels d) (labels_of_each ds) name k)) (λ bound s.
          Each-right Clear (parts in_procedure (child p i) asked (expanded (label_of bound) (child p i) d)) (parts_of_each in_procedure p asked (i + 1) (expanded_each (label_of bound) p (i + 1) ds)) (h bound s)),
    )

    cases_by_themselves : (p : Place) (asked : List Name) (i : ℕ) (cs : Cases) → AreNamed (labels_of_cases cs)
        → Always (λ bound. parts_of_choices in_procedure p asked i (expanded_cases (label_of bound) p i cs)) → CasesAreClear setup rank roles Serves units tables p asked i cs
    cases_by_themselves p asked i (chart.otherwise d) n h = by_itself (child p i) asked d n h
    cases_by_themselves p asked i (chart.when c d cs) n h = (
      by_itself (child p i) asked d (λ name k. n name (Has-left (labels d) (labels_of_cases cs) name k)) (λ bound s.
          Each-left Clear (parts in_procedure (child p i) asked (expanded (label_of bound) (child p i) d)) (parts_of_choices in_procedure p asked (i + 1) (expanded_cases (label_of bound) p (i + 1) cs)) (h bound s)),
      cases_by_themselves p asked (i + 1) cs (λ name k. n name (Has-right (labels d) (labels_of_cases cs) name k)) (λ bound s.
          Each-right Clear (parts in_procedure (child p i) asked (expanded (label_of bound) (child p i) d)) (parts_of_choices in_procedure p asked (i + 1) (expanded_cases (label_of bound) p (i + 1) cs)) (h bound s)),
    )

  -- The whole procedure, by the tests on its unit and work

  abbrev root_of : Binding → Act → Option UnitChoice → List Name → Work → Tree
  root_of bound a o rs w =
      act (record { place = 0 ∷ []; needs = asked_in_order (unit_with bound o) (map (unit_named (own_sites bound)) rs) a.needs.items; reserves = reserves_from (unit_count o) rs })
      (task_of (named_tree_with (own_sites bound) (units ∷ tables) (unit_below [] (unit_with bound o))) (unit_below [] (unit_with bound o)) a.name (0 ∷ []) w)

  abbrev labels_in : Work → List Name
  labels_in w = elim w [ Follows c ↦ labels (diagram_of c) | Runs phase values reports ↦ [] ]

  abbrev OnEach : Act → Option UnitChoice → List Name → Work → Type 0
  OnEach a o rs w =
      IsClear setup rank (part is_procedure (0 ∷ []) [] (root_of unbound a o rs w)) × WorkIsClear setup rank roles Serves units tables (0 ∷ []) (resources_needed a.needs.items) w

  pub whole-for_all : (a : Act) (o : Option UnitChoice) (rs : List Name) (w : Work) → o ≡ None → rs ≡ [] → elim w [ Follows c ↦ true | Runs phase values reports ↦ false ] ≡ true → AreNamed (labels_in w)
      → OnEach a o rs w → Always (λ bound. parts is_procedure (0 ∷ []) [] (root_of bound a o rs w))
  whole-for_all a None [] (Follows c) e q f n h bound s = (
    root-clear setup rank (0 ∷ []) [] (record { place = 0 ∷ []; needs = a.needs.items; reserves = [] }) a.name
        (expanded (label_of unbound) (child (0 ∷ []) 0) (diagram_of c)) (expanded (label_of bound) (child (0 ∷ []) 0) (diagram_of c)) h.0,
    for_all bound s (child (0 ∷ []) 0) (resources_needed a.needs.items) (diagram_of c) n h.1,
  )
  whole-for_all a o rs w e q f n h bound s = grind arith

  pub whole-by_itself : (a : Act) (o : Option UnitChoice) (rs : List Name) (w : Work) → o ≡ None → rs ≡ [] → elim w [ Follows c ↦ true | Runs phase values reports ↦ false ] ≡ true → AreNamed (labels_in w)
      → Always (λ bound. parts is_procedure (0 ∷ []) [] (root_of bound a o rs w)) → OnEach a o rs w
  whole-by_itself a None [] (Follows c) e q f n h = (
    root-clear setup rank (0 ∷ []) [] (record { place = 0 ∷ []; needs = a.needs.items; reserves = [] }) a.name
        (expanded (label_of some.0) (child (0 ∷ []) 0) (diagram_of c)) (expanded (label_of unbound) (child (0 ∷ []) 0) (diagram_of c)) (h some.0 some.1).0,
    by_itself (child (0 ∷ []) 0) (resources_needed a.needs.items) (diagram_of c) n (λ bound s. (h bound s).1),
  )
  whole-by_itself a o rs w e q f n h = grind arith

-- Documents

module _ (setup : Setup) (rank : Ranking) (cell : equipment.Cell) (recipe : document.Recipe) where
  abbrev roles : List Declared
  roles = (master_of cell recipe).roles

  abbrev units : List Act
  units = recipe.acts.unit_procedures.items

  abbrev tables : List (List Act)
  tables = recipe.acts.operations.items ∷ recipe.acts.phases.items ∷ []

  abbrev named : List Name
  named = labels_of recipe.acts.procedure

  abbrev Serves : Binding → Type 0
  Serves = IsServed (master_of cell recipe)

  unit-there : (name : Name) (a : Act) → act_named units name ≡ Some a → Has units a
  unit-there name a e = find-Has (λ a. same_name a.name name) units a e

  own : (name : Name) (a : Act) → act_named units name ≡ Some a → (choice : UnitChoice) × (a.unit ≡ Some choice)
  own name a e = unit-of-each recipe.acts recipe.kinds a (unit-there name a e)

  roles-differ : (d e : Declared) → Has roles d → Has roles e → d.name ≡ e.name → d ≡ e
  roles-differ = one-declared cell recipe.roles.items (and_parts (are_distinct (names_of cell recipe.roles.items)) (list_all (is_role_among (names_of cell recipe.roles.items)) units) recipe.own_roles).0

  -- a unit procedure's role is declared
  declared : (name : Name) (a : Act) → act_named units name ≡ Some a → (role : Name) → a.unit ≡ Some (Role role) → (d : Declared) × Has roles d × (d.name ≡ role)
  declared name a e role f =
      let among = list_all-Has (is_role_among (names_of cell recipe.roles.items)) units
      (and_parts (are_distinct (names_of cell recipe.roles.items)) (list_all (is_role_among (names_of cell recipe.roles.items)) units) recipe.own_roles).1 a (unit-there name a e) in
      some-declared cell recipe.roles.items role
      (sym (ap (λ o. elim o [ None ↦ true | Some choice ↦ elim choice [ Unit unit ↦ true | Role role ↦ is_among (names_of cell recipe.roles.items) role ] ]) f) ∙ among)

  served-role : (bound : Binding) (ds : List Declared) → AreServed (master_of cell recipe).names_role ds bound → (d : Declared) → Has ds d
      → IsTrue ((master_of cell recipe).names_role d.name) → IsTrue (is_among d.candidates (bound d.name))
  served-role bound [] s d h u = absurd h
  served-role bound (e ∷ ds) s d (inl q) u =
      subst (λ z. IsTrue ((master_of cell recipe).names_role z.name) → IsTrue (is_among z.candidates (bound z.name))) q s.0 u
  served-role bound (e ∷ ds) s d (inr h) u = served-role bound ds s.1 d h u

  may_be : (bound : Binding) → Serves bound → (name : Name) → Has named name → (a : Act) → act_named units name ≡ Some a
      → (choice : UnitChoice) → a.unit ≡ Some choice → MayBe roles choice (unit_chosen bound choice)
  may_be bound s name h a e (Unit unit) f = refl
  may_be bound s name h a e (Role role) f =
      let d = declared name a e role f in
      let used : IsTrue ((master_of cell recipe).names_role role) = ap (λ t. t || reserve_role units (procedure_acts recipe.acts) role) (named-role units named name h a e role f) in (
        d.0,
        d.1,
        d.2,
        subst (λ r. IsTrue (is_among d.0.candidates (bound r))) d.2
            (served-role bound roles s d.0 d.1 (subst (λ r. IsTrue ((master_of cell recipe).names_role r)) (sym d.2) used)),
      )

  serving : HasCandidates (master_of cell recipe) → (bound : Binding) × Serves bound
  serving h = some-serves (master_of cell recipe).names_role roles roles-differ h

  procedure_kind : (not (has_unit recipe.acts.procedure) ≡ true) × (has_chart recipe.acts.procedure ≡ true)
  procedure_kind = and_parts (not (has_unit recipe.acts.procedure)) (has_chart recipe.acts.procedure)
      (and_parts (not (has_unit recipe.acts.procedure) && has_chart recipe.acts.procedure) _ recipe.kinds).0

  no_unit : recipe.acts.procedure.unit ≡ None
  no_unit = none-chosen recipe.acts.procedure.unit procedure_kind.0

  none-reserved : (xs : List Name) → nat_le (length xs) 0 ≡ true → xs ≡ []
  none-reserved [] e = refl
  none-reserved (x ∷ xs) e = absurd (grind (arith, nat_tests))

  no_reserves : recipe.acts.procedure.reserves.items ≡ []
  no_reserves = none-reserved recipe.acts.procedure.reserves.items (and_parts (reserves_none recipe.acts.procedure) _ recipe.own_reserves).0

  pub on-each : IsClearedRecipe setup rank (master_of cell recipe) → IsClearOnEach setup rank cell recipe
  on-each h =
      let some = serving h.0 in
      let each = whole-by_itself setup rank roles units tables named Serves (no-units-below recipe.acts recipe.kinds) own may_be some
      recipe.acts.procedure recipe.acts.procedure.unit recipe.acts.procedure.reserves.items recipe.acts.procedure.work no_unit no_reserves procedure_kind.1 (λ name k. k)
      (λ bound s. (h.1 bound s).clear) in
      record { candidates = h.0; root = each.0; chart = each.1; follow = λ bound s. (h.1 bound s).follow }

  pub for-every : IsClearOnEach setup rank cell recipe → IsClearedRecipe setup rank (master_of cell recipe)
  for-every h =
      let some = serving h.candidates in (
        h.candidates,
        λ bound s. record {
          clear = whole-for_all setup rank roles units tables named Serves (no-units-below recipe.acts recipe.kinds) own may_be some
              recipe.acts.procedure recipe.acts.procedure.unit recipe.acts.procedure.reserves.items recipe.acts.procedure.work no_unit no_reserves procedure_kind.1 (λ name k. k) (h.root, h.chart) bound s;
          follow = h.follow bound s;
        },
      )

pub candidates_suffice : CandidatesSuffice
candidates_suffice setup rank cell recipe = (on-each setup rank cell recipe, for-every setup rank cell recipe)
