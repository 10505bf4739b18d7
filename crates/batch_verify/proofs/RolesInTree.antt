-- The roles that a recipe's tree names: those of the unit procedures on whose units its acts run, and of those that they reserve.
use Rattle.std.proofs.Common.{◌≡◌, Bool, true, false, not, map, ◌||◌, List, [], ◌∷◌, ◌++◌, Option, Some, None, refl, sym, ap, ◌∙◌, subst, inl, inr}
use Rattle.std.{specs.Prelude.option_and_then, specs.List.list_all, specs.Cmp.Lexicographic.bytes_decides, proofs.lemmas.Bool.and_parts, proofs.lemmas.Bool.or_cases, proofs.lemmas.Bool.or_left, proofs.lemmas.Bool.or_right}
use Rattle.batch_recipe.specs.{ActsAtNodes.ActList, ActsAtNodes.acts_along, ActsAtNodes.acts_along_each, ActsAtNodes.acts_along_cases, ActsAtNodes.acts_below, ActsAtNodes.acts_from, ActsAtNodes.acts_named, ActsAtNodes.procedure_acts, Conditions.Name, Conditions.same_name, Diagram.Diagram, Diagram.label, Diagram.skip, Diagram.seq, Diagram.par, Diagram.sel, Diagram.loop, Diagram.Diagrams, Diagram.none, Diagram.more, Diagram.Cases, Diagram.otherwise, Diagram.when, Diagram.diagram_of, Expanding.act_named, WellFormed.are_distinct, WellFormed.are_kinds, WellFormed.has_chart, WellFormed.has_unit, WellFormed.is_among, WellFormed.is_role_among, declared.act.Act.Act, declared.act.UnitChoice.UnitChoice, declared.act.UnitChoice.TheVariants.Unit, declared.act.UnitChoice.TheVariants.Role, declared.act.Work.Work, declared.act.Work.TheVariants.Follows, declared.act.Work.TheVariants.Runs, declared.acts.Acts.Acts, declared.recipe.Recipe.Recipe}
use Rattle.batch_model.{specs.Lists.Has, specs.Setups.labels, specs.Setups.labels_of_each, specs.Setups.labels_of_cases, specs.Setups.labels_of, specs.Setups.name_role, specs.Setups.reserve_role, specs.Setups.role_of, proofs.Bindings.HaveNoUnits, proofs.Bindings.no-units-below, proofs.Bindings.none-chosen, proofs.Members.Has-left, proofs.Members.Has-right, proofs.Members.Has-split, proofs.Members.find-Has}
use Rattle.batch_verify.proofs.Levels.{found_passes, procedure_kind}

-- From an act along a chart to a label that names it, and back

module _ (named : Name → ActList) (a : Act) where
  -- one of the names stands for the act
  abbrev pub IsFrom : List Name → Type 0
  IsFrom names = (name : Name) × Has names name × Has (named name) (Some a)

  from_first : (xs ys : List Name) → IsFrom xs → IsFrom (xs ++ ys)
  from_first xs ys f = (f.0, Has-left xs ys f.0 f.1, f.2)

  from_later : (xs ys : List Name) → IsFrom ys → IsFrom (xs ++ ys)
  from_later xs ys f = (f.0, Has-right xs ys f.0 f.1, f.2)

  mutual
    pub along_label : (d : Diagram) → Has (acts_along named d) (Some a) → IsFrom (labels d)
    along_label (label name) h = (name, inl refl, h)
    along_label skip (inl e) = absurd cc
    along_label skip (inr h) = absurd h
    along_label (seq ds) (inl e) = absurd cc
    along_label (seq ds) (inr h) = along_each ds h
    along_label (par ds) (inl e) = absurd cc
    along_label (par ds) (inr h) = along_each ds h
    along_label (sel cs) (inl e) = absurd cc
    along_label (sel cs) (inr h) = along_cases cs h
    along_label (loop turns until d) (inl e) = absurd cc
    along_label (loop turns until d) (inr h) = along_label d h

    along_each : (ds : Diagrams) → Has (acts_along_each named ds) (Some a) → IsFrom (labels_of_each ds)
    along_each none h = absurd h
    along_each (more d ds) h = elim (Has-split (acts_along named d) (acts_along_each named ds) (Some a) h) [
      | inl k ↦ from_first (labels d) (labels_of_each ds) (along_label d k)
      | inr k ↦ from_later (labels d) (labels_of_each ds) (along_each ds k)
    ]

    along_cases : (cs : Cases) → Has (acts_along_cases named cs) (Some a) → IsFrom (labels_of_cases cs)
    along_cases (otherwise d) h = along_label d h
    along_cases (when c d cs) h = elim (Has-split (acts_along named d) (acts_along_cases named cs) (Some a) h) [
      | inl k ↦ from_first (labels d) (labels_of_cases cs) (along_label d k)
      | inr k ↦ from_later (labels d) (labels_of_cases cs) (along_cases cs k)
    ]

  mutual
    pub label_along : (d : Diagram) (name : Name) → Has (labels d) name → Has (named name) (Some a) → Has (acts_along named d) (Some a)
    label_along (label own) name (inl e) h = subst (λ n. Has (named n) (Some a)) (sym e) h
    label_along (label own) name (inr m) h = absurd m
    label_along skip name m h = absurd m
    label_along (seq ds) name m h = inr (label_each ds name m h)
    label_along (par ds) name m h = inr (label_each ds name m h)
    label_along (sel cs) name m h = inr (label_cases cs name m h)
    label_along (loop turns until d) name m h = inr (label_along d name m h)

    label_each : (ds : Diagrams) (name : Name) → Has (labels_of_each ds) name → Has (named name) (Some a) → Has (acts_along_each named ds) (Some a)
    label_each none name m h = absurd m
    label_each (more d ds) name m h = elim (Has-split (labels d) (labels_of_each ds) name m) [
      | inl k ↦ Has-left (acts_along named d) (acts_along_each named ds) (Some a) (label_along d name k h)
      | inr k ↦ Has-right (acts_along named d) (acts_along_each named ds) (Some a) (label_each ds name k h)
    ]

    label_cases : (cs : Cases) (name : Name) → Has (labels_of_cases cs) name → Has (named name) (Some a) → Has (acts_along_cases named cs) (Some a)
    label_cases (otherwise d) name m h = label_along d name m h
    label_cases (when c d cs) name m h = elim (Has-split (labels d) (labels_of_cases cs) name m) [
      | inl k ↦ Has-left (acts_along named d) (acts_along_cases named cs) (Some a) (label_along d name k h)
      | inr k ↦ Has-right (acts_along named d) (acts_along_cases named cs) (Some a) (label_cases cs name k h)
    ]

-- No act of the lower tables has a unit

-- no act that a name stands for has a unit of its own
abbrev HaveNone : (Name → ActList) → Type 0
HaveNone named = (name : Name) (a : Act) → Has (named name) (Some a) → a.unit ≡ None

work_none : (named : Name → ActList) → HaveNone named → (w : Work) (a : Act) → Has (acts_below named w) (Some a) → a.unit ≡ None
work_none named h (Follows c) a m = let f = along_label named a (diagram_of c) m in h f.0 a f.2
work_none named h (Runs phase values reports) a m = absurd m

lower_none : (tables : List (List Act)) → HaveNoUnits tables → HaveNone (acts_named tables)
lower_none [] h name a (inl e) = absurd cc
lower_none [] h name a (inr m) = absurd m
lower_none (table ∷ tables) h name a m = go (act_named table name) refl (lower_none tables h.1) m
  where
    go : (o : Option Act) → act_named table name ≡ o → HaveNone (acts_named tables) → Has (elim o [ None ↦ None ∷ [] | Some u ↦ acts_from (acts_named tables) u ]) (Some a) → a.unit ≡ None
    go None e below (inl bad) = absurd cc
    go None e below (inr k) = absurd k
    go (Some u) e below (inl same) = let is : u ≡ a = cc in subst (λ (x : Act). x.unit ≡ None) is (h.0 u (find-Has (λ x. same_name x.name name) table u e))
    go (Some u) e below (inr k) = work_none (acts_named tables) below u.work a k

-- The roles by their names

itself : (name : Name) → same_name name name ≡ true
itself name = (bytes_decides name name).1 refl

abbrev is_role : Option Name → Name → Bool
is_role own role = elim own [ None ↦ false | Some name ↦ same_name name role ]

abbrev role_in : Option UnitChoice → Option Name
role_in unit = elim unit [ None ↦ None | Some choice ↦ elim choice [ Unit unit ↦ None | Role role ↦ Some role ] ]

abbrev has_role : Option Act → Name → Bool
has_role found role = is_role (option_and_then role_of found) role

-- a name stands for a unit procedure that has the role
pub names_role : (table : List Act) (names : List Name) (name : Name) (a : Act) (role : Name) → Has names name → act_named table name ≡ Some a → a.unit ≡ Some (Role role)
    → name_role table names role ≡ true
names_role table [] name a role m found takes = absurd m
names_role table (first ∷ names) name a role (inl e) found takes =
    or_left (has_role (act_named table first) role) (name_role table names role)
    (ap (λ n. has_role (act_named table n) role) e ∙ (ap (λ o. has_role o role) found ∙ (ap (λ u. is_role (role_in u) role) takes ∙ itself role)))
names_role table (first ∷ names) name a role (inr m) found takes =
    or_right (has_role (act_named table first) role) (name_role table names role) (names_role table names name a role m found takes)

-- an act reserves one
abbrev reserves_it : List Act → Name → Option Act → Bool
reserves_it table role found = elim found [ None ↦ false | Some a ↦ name_role table a.reserves.items role ]

pub reserves_role : (table : List Act) (acts : ActList) (a : Act) (role : Name) → Has acts (Some a) → name_role table a.reserves.items role ≡ true → reserve_role table acts role ≡ true
reserves_role table [] a role m h = absurd m
reserves_role table (o ∷ acts) a role (inl e) h = or_left (reserves_it table role o) (reserve_role table acts role) (ap (reserves_it table role) e ∙ h)
reserves_role table (o ∷ acts) a role (inr m) h = or_right (reserves_it table role o) (reserve_role table acts role) (reserves_role table acts a role m h)

role_is : (o : Option UnitChoice) (role : Name) → is_role (role_in o) role ≡ true → o ≡ Some (Role role)
role_is None role h = let bad : false ≡ true = h in absurd cc
role_is (Some (Unit unit)) role h = let bad : false ≡ true = h in absurd cc
role_is (Some (Role own)) role h = ap (λ n. Some (Role n)) ((bytes_decides own role).0 h)

-- a unit procedure that has the role, by one of the names
pub record IsRoleOf (table : List Act) (names : List Name) (role : Name) : Type 0 where
  pub name : Name
  pub own : Act
  pub has : Has names name
  pub found : act_named table name ≡ Some own
  pub takes : own.unit ≡ Some (Role role)

pub role_named : (table : List Act) (names : List Name) (role : Name) → name_role table names role ≡ true → IsRoleOf table names role
role_named table [] role h = let bad : false ≡ true = h in absurd cc
role_named table (name ∷ names) role h =
    elim (or_cases (has_role (act_named table name) role) (name_role table names role) h) [
      | inl here ↦ go (act_named table name) refl here
      | inr later ↦ (let r = role_named table names role later in record { name = r.name; own = r.own; has = inr r.has; found = r.found; takes = r.takes })
    ]
  where
    go : (o : Option Act) → act_named table name ≡ o → has_role o role ≡ true → IsRoleOf table (name ∷ names) role
    go None e here = let bad : false ≡ true = here in absurd cc
    go (Some a) e here = record { name = name; own = a; has = inl refl; found = e; takes = role_is a.unit role here }

-- an act that reserves a unit procedure of the role
pub record IsReservedBy (table : List Act) (acts : ActList) (role : Name) : Type 0 where
  pub by : Act
  pub has : Has acts (Some by)
  pub names : name_role table by.reserves.items role ≡ true

pub role_reserved : (table : List Act) (acts : ActList) (role : Name) → reserve_role table acts role ≡ true → IsReservedBy table acts role
role_reserved table [] role h = let bad : false ≡ true = h in absurd cc
role_reserved table (o ∷ acts) role h =
    elim (or_cases (reserves_it table role o) (reserve_role table acts role) h) [
      | inl here ↦ go o here
      | inr later ↦ (let r = role_reserved table acts role later in record { by = r.by; has = inr r.has; names = r.names })
    ]
  where
    go : (q : Option Act) → reserves_it table role q ≡ true → IsReservedBy table (q ∷ acts) role
    go None here = let bad : false ≡ true = here in absurd cc
    go (Some a) here = record { by = a; has = inl refl; names = here }

-- The acts of a recipe

module _ (acts : Acts) (kinds : are_kinds acts ≡ true) where
  abbrev units : List Act
  units = acts.unit_procedures.items

  abbrev lower : List (List Act)
  lower = acts.operations.items ∷ acts.phases.items ∷ []

  abbrev labels_in : Work → List Name
  labels_in w = elim w [ Follows chart ↦ labels (diagram_of chart) | Runs phase values reports ↦ [] ]

  no_own_unit : acts.procedure.unit ≡ None
  no_own_unit = none-chosen acts.procedure.unit (and_parts (not (has_unit acts.procedure)) (has_chart acts.procedure) (procedure_kind acts kinds)).0

  module _ (a : Act) (own : UnitChoice) (has_own : a.unit ≡ Some own) where
    at_name : (name : Name) → Has (acts_named (units ∷ lower) name) (Some a) → act_named units name ≡ Some a
    at_name name m = go (act_named units name) refl m
      where
        go : (o : Option Act) → act_named units name ≡ o → Has (elim o [ None ↦ None ∷ [] | Some u ↦ acts_from (acts_named lower) u ]) (Some a) → act_named units name ≡ Some a
        go None e (inl bad) = absurd cc
        go None e (inr k) = absurd k
        go (Some u) e (inl same) = e ∙ same
        go (Some u) e (inr k) =
            let no : a.unit ≡ None = work_none (acts_named lower) (lower_none lower (no-units-below acts kinds)) u.work a k in
            let bad : None ≡ Some own = sym no ∙ has_own in
            absurd cc

    in_work : (w : Work) → Has (acts_below (acts_named (units ∷ lower)) w) (Some a) → (name : Name) × Has (labels_in w) name × (act_named units name ≡ Some a)
    in_work (Follows c) m = let f = along_label (acts_named (units ∷ lower)) a (diagram_of c) m in (f.0, f.1, at_name f.0 f.2)
    in_work (Runs phase values reports) m = absurd m

    -- an act of the recipe that has a unit is the unit procedure that a label of the procedure names
    pub owner : Has (procedure_acts acts) (Some a) → (name : Name) × Has (labels_of acts.procedure) name × (act_named units name ≡ Some a)
    owner (inl e) =
        let same : acts.procedure ≡ a = cc in
        let bad : None ≡ Some own = sym no_own_unit ∙ subst (λ (x : Act). x.unit ≡ Some own) (sym same) has_own in
        absurd cc
    owner (inr m) = in_work acts.procedure.work m

  -- and the other way round
  pub owned : (name : Name) (a : Act) → Has (labels_of acts.procedure) name → act_named units name ≡ Some a → Has (procedure_acts acts) (Some a)
  owned name a m found = inr (go acts.procedure.work m)
    where
      go : (w : Work) → Has (labels_in w) name → Has (acts_below (acts_named (units ∷ lower)) w) (Some a)
      go (Follows c) k =
          label_along (acts_named (units ∷ lower)) a (diagram_of c) name k
          (subst (λ o. Has (elim o [ None ↦ None ∷ [] | Some u ↦ acts_from (acts_named lower) u ]) (Some a)) (sym found) (inl refl))
      go (Runs phase values reports) k = absurd k

-- A role that the tree names is declared

module _ (r : Recipe) where
  abbrev pub table : List Act
  table = r.acts.unit_procedures.items

  abbrev pub declared : List Name
  declared = map (λ role. role.name) r.roles.items

  -- the tree names the role
  abbrev pub names_it : Name → Bool
  names_it role = name_role table (labels_of r.acts.procedure) role || reserve_role table (procedure_acts r.acts) role

  abbrev is_declared : Option UnitChoice → Bool
  is_declared unit = elim unit [ None ↦ true | Some choice ↦ elim choice [ Unit unit ↦ true | Role role ↦ is_among declared role ] ]

  pub declared_role : (name : Name) (a : Act) (role : Name) → act_named table name ≡ Some a → a.unit ≡ Some (Role role) → is_among declared role ≡ true
  declared_role name a role found takes =
      let all = (and_parts (are_distinct declared) (list_all (is_role_among declared) table) r.own_roles).1 in
      let known = found_passes (λ x. same_name x.name name) (is_role_among declared) table a found all in
      sym (ap (λ o. is_declared o) takes) ∙ known
