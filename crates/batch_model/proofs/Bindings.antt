-- The parts of an expanded tree that depend on the units that take the roles: below a unit procedure its unit alone, and above it
-- nothing that the rules check.
use Rattle.std.proofs.Common.{◌≡◌, refl, sym, ◌∙◌, ap, ap₂, ℕ, ◌+◌, List, [], ◌∷◌, ◌++◌, map, Bool, true, false, ◌&&◌, ◌||◌, not, Option, Some, None, inl, inr}
use Rattle.std.{proofs.lemmas.Bool.and_parts, specs.List.list_all}
use Rattle.batch_recipe.specs.{Conditions.Name, Conditions.same_name, Diagram.Diagram, Diagram.Diagrams, Diagram.Cases, Diagram.diagram_of, Expanding.Sites, Expanding.unit_chosen, Expanding.unit_with, Expanding.unit_below, Expanding.unit_named, Expanding.unit_count, Expanding.asked_in_order, Expanding.reserves_from, Expanding.expanded, Expanding.expanded_each, Expanding.expanded_cases, Expanding.task_of, Expanding.act_named, Expanding.act_tree_with, Expanding.named_tree_with, Needs.one_unit, Nodes.child, Tree.Place, Tree.Tree, Tree.act, Tree.skip, WellFormed.has_unit, WellFormed.has_chart, WellFormed.are_kinds, declared.act.Act.Act, declared.act.UnitChoice.UnitChoice, declared.act.Work.Work, declared.act.Work.TheVariants.Follows, declared.act.Work.TheVariants.Runs, declared.acts.Acts.Acts}
use Rattle.batch_recipe.specs.Diagram as chart
use Rattle.batch_model.{specs.Lists.Has, specs.Lists.Each, specs.Cleared.surely_runs, specs.Cleared.task_surely_runs, specs.Cleared.some_surely_runs, specs.Cleared.each_surely_runs, proofs.Members.find-Has}
use mathlib.Core.Path.{fun_ext}

-- Below a unit procedure nothing depends on the binding

-- no act of the tables has a unit of its own
abbrev pub HaveNoUnits : List (List Act) → Type 0
HaveNoUnits tables = Each (λ table. (a : Act) → Has table a → a.unit ≡ None) tables

pub list_all-Has : (p : Act → Bool) (xs : List Act) → list_all p xs ≡ true → (x : Act) → Has xs x → p x ≡ true
list_all-Has p [] e x h = absurd h
list_all-Has p (y ∷ ys) e x h =
    let k = and_parts (p y) (list_all p ys) e in
    elim h [ inl q ↦ let f : p y ≡ p x = ap p q in let g : p y ≡ true = k.0 in cc | inr m ↦ list_all-Has p ys k.1 x m ]

pub none-chosen : (o : Option UnitChoice) → not (elim o [ None ↦ false | Some own ↦ true ]) ≡ true → o ≡ None
none-chosen None e = refl
none-chosen (Some own) e = absurd cc

pub some-chosen : (o : Option UnitChoice) → elim o [ None ↦ false | Some own ↦ true ] ≡ true → (own : UnitChoice) × (o ≡ Some own)
some-chosen None e = absurd cc
some-chosen (Some own) e = (own, refl)

-- as operations and phase steps have none, while each unit procedure has one
pub no-units-below : (acts : Acts) → are_kinds acts ≡ true → HaveNoUnits (acts.operations.items ∷ acts.phases.items ∷ [])
no-units-below acts kinds =
    let below = (and_parts (list_all (λ u. has_unit u && has_chart u) acts.unit_procedures.items) _ (and_parts (not (has_unit acts.procedure) && has_chart acts.procedure) _ kinds).1).1 in
    let kind = and_parts (list_all (λ o. not (has_unit o) && has_chart o) acts.operations.items) _ below in (
      λ a h. none-chosen a.unit (and_parts (not (has_unit a)) (has_chart a) (list_all-Has (λ o. not (has_unit o) && has_chart o) acts.operations.items kind.0 a h)).0,
      (λ a h. none-chosen a.unit (and_parts (not (has_unit a)) (not (has_chart a)) (list_all-Has (λ s. not (has_unit s) && not (has_chart s)) acts.phases.items kind.1 a h)).0, tt),
    )

pub unit-of-each : (acts : Acts) → are_kinds acts ≡ true → (a : Act) → Has acts.unit_procedures.items a → (own : UnitChoice) × (a.unit ≡ Some own)
unit-of-each acts kinds a h =
    let units = (and_parts (list_all (λ u. has_unit u && has_chart u) acts.unit_procedures.items) _ (and_parts (not (has_unit acts.procedure) && has_chart acts.procedure) _ kinds).1).0 in
    some-chosen a.unit (and_parts (has_unit a) (has_chart a) (list_all-Has (λ u. has_unit u && has_chart u) acts.unit_procedures.items units a h)).0

-- the unit procedures have the same units
abbrev pub HaveSameUnits : Sites → Sites → Type 0
HaveSameUnits sites other = unit_named sites ≡ unit_named other

abbrev tree_of_choice : Sites → (Name → Name) → (Name → Name → Place → Tree) → Name → Act → Place → Option UnitChoice → Tree
tree_of_choice sites named acts unit a p o =
    act (record { place = p; needs = asked_in_order (unit_with sites.bound o) (map named a.reserves.items) a.needs.items; reserves = reserves_from (unit_count o) a.reserves.items })
    (task_of (acts (unit_below unit (unit_with sites.bound o))) (unit_below unit (unit_with sites.bound o)) a.name p a.work)

module _ (sites other : Sites) (alike : HaveSameUnits sites other) where
  pub same-below : (tables : List (List Act)) → HaveNoUnits tables → (unit name : Name) (p : Place)
      → named_tree_with sites tables unit name p ≡ named_tree_with other tables unit name p
  same-below [] h unit name p = refl
  same-below (table ∷ tables) h unit name p = go (act_named table name) refl (same-below tables h.1)
    where
      go : (o : Option Act) → act_named table name ≡ o → ((unit name : Name) (p : Place) → named_tree_with sites tables unit name p ≡ named_tree_with other tables unit name p)
          → ◌≡◌ {A = Tree} (elim o [ None ↦ skip | Some a ↦ act_tree_with sites (named_tree_with sites tables) unit a p ]) (elim o [ None ↦ skip | Some a ↦ act_tree_with other (named_tree_with other tables) unit a p ])
      go None e same = refl
      go (Some a) e same =
          let none : a.unit ≡ None = h.0 a (find-Has (λ a. same_name a.name name) table a e) in
          let acts : named_tree_with sites tables ≡ named_tree_with other tables = fun_ext (λ u. fun_ext (λ n. fun_ext (λ q. same u n q))) in
          ap (tree_of_choice sites (unit_named sites) (named_tree_with sites tables) unit a p) none
          ∙ (ap (λ f. tree_of_choice sites (unit_named sites) f unit a p None) acts
          ∙ (ap (λ n. tree_of_choice other n (named_tree_with other tables) unit a p None) alike
          ∙ sym (ap (tree_of_choice other (unit_named other) (named_tree_with other tables) unit a p) none)))

  -- a unit procedure that is expanded with a binding is the one on the unit that is chosen
  pub on-chosen : (tables : List (List Act)) → HaveNoUnits tables → (own : UnitChoice) (a : Act) (p : Place) → a.unit ≡ Some own
      → act_tree_with sites (named_tree_with sites tables) [] a p
      ≡ act (record { place = p; needs = one_unit (unit_chosen sites.bound own) ∷ (map one_unit (map (unit_named sites) a.reserves.items) ++ a.needs.items); reserves = reserves_from 1 a.reserves.items })
      (task_of (named_tree_with other tables (unit_chosen sites.bound own)) (unit_chosen sites.bound own) a.name p a.work)
  on-chosen tables h own a p e =
      let acts : named_tree_with sites tables ≡ named_tree_with other tables = fun_ext (λ u. fun_ext (λ n. fun_ext (λ q. same-below tables h u n q))) in
      ap (tree_of_choice sites (unit_named sites) (named_tree_with sites tables) [] a p) e ∙ ap (λ f. tree_of_choice sites (unit_named sites) f [] a p (Some own)) acts

-- Whether a phase is surely run doesn't depend on it either

module _ (f g : Name → Place → Tree) (same : (name : Name) (p : Place) → surely_runs (f name p) ≡ surely_runs (g name p)) where
  mutual
    pub chart-same-runs : (p : Place) (d : Diagram) → surely_runs (expanded f p d) ≡ surely_runs (expanded g p d)
    chart-same-runs p (chart.label name) = same name p
    chart-same-runs p chart.skip = refl
    chart-same-runs p (chart.seq ds) = each-same-runs p 0 ds
    chart-same-runs p (chart.par ds) = each-same-runs p 0 ds
    chart-same-runs p (chart.sel cs) = cases-same-runs p 0 cs
    chart-same-runs p (chart.loop n c d) = chart-same-runs (child p 0) d

    each-same-runs : (p : Place) (i : ℕ) (ds : Diagrams) → some_surely_runs (expanded_each f p i ds) ≡ some_surely_runs (expanded_each g p i ds)
    each-same-runs p i chart.none = refl
    each-same-runs p i (chart.more d ds) = ap₂ (λ a b. a || b) (chart-same-runs (child p i) d) (each-same-runs p (i + 1) ds)

    cases-same-runs : (p : Place) (i : ℕ) (cs : Cases) → each_surely_runs (expanded_cases f p i cs) ≡ each_surely_runs (expanded_cases g p i cs)
    cases-same-runs p i (chart.otherwise d) = chart-same-runs (child p i) d
    cases-same-runs p i (chart.when c d cs) = ap₂ (λ a b. a && b) (chart-same-runs (child p i) d) (cases-same-runs p (i + 1) cs)

  task-same-runs : (unit other name : Name) (p : Place) (w : Work) → task_surely_runs (task_of f unit name p w) ≡ task_surely_runs (task_of g other name p w)
  task-same-runs unit other name p (Follows c) = chart-same-runs (child p 0) (diagram_of c)
  task-same-runs unit other name p (Runs phase values reports) = refl

pub label-same-runs : (sites other : Sites) (tables : List (List Act)) (unit second name : Name) (p : Place)
    → surely_runs (named_tree_with sites tables unit name p) ≡ surely_runs (named_tree_with other tables second name p)
label-same-runs sites other [] unit second name p = refl
label-same-runs sites other (table ∷ tables) unit second name p = go (act_named table name) (label-same-runs sites other tables)
  where
    go : (o : Option Act) → ((unit second name : Name) (p : Place) → surely_runs (named_tree_with sites tables unit name p) ≡ surely_runs (named_tree_with other tables second name p))
        → surely_runs (elim o [ None ↦ skip | Some a ↦ act_tree_with sites (named_tree_with sites tables) unit a p ])
        ≡ surely_runs (elim o [ None ↦ skip | Some a ↦ act_tree_with other (named_tree_with other tables) second a p ])
    go None same = refl
    go (Some a) same =
        let u : Name = unit_below unit (unit_with sites.bound a.unit) in
        let v : Name = unit_below second (unit_with other.bound a.unit) in
        task-same-runs (named_tree_with sites tables u) (named_tree_with other tables v) (same u v) u v a.name p a.work
