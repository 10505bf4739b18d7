-- The needs and the units of the nodes of a recipe, by the choices of these, which are the same in all bindings.
use Rattle.std.proofs.Common.{◌≡◌, ◌≢◌, ◌⊎◌, ℕ, zero, suc, ◌+◌, ◌<◌, true, false, not, List, [], ◌∷◌, ◌++◌, map, Option, Some, None, slice_get, get_or, refl, sym, ap, ap₂, ◌∙◌, subst, arith, inl, inr}
use Rattle.std.{specs.Prelude.⊤, specs.Prelude.option_and_then, proofs.lemmas.List.append-nil, proofs.lemmas.Option.slice_get-get_or, proofs.lemmas.Option.slice_get_within, proofs.lemmas.Bool.and_parts, proofs.lemmas.Bool.not-true, proofs.lemmas.Bool.or_cases, proofs.lemmas.Bool.or_left, proofs.lemmas.Bool.or_right}
use Rattle.batch_recipe.{specs.ActsAtNodes.procedure_acts, specs.Conditions.Name, specs.Expanding.Binding, specs.Expanding.unbound, specs.Expanding.act_named, specs.Expanding.asked_in_order, specs.Expanding.needs_with, specs.Expanding.unit_below, specs.Expanding.unit_chosen, specs.Expanding.unit_named, specs.Expanding.unit_with, specs.Needs.one_unit, specs.Needs.resources_needed, specs.Nodes.Node, specs.Nodes.needs_of, specs.Outlines.act_of_kind, specs.Procedure.bound_nodes, specs.Procedure.sites, specs.WellFormed.is_among, specs.WellFormed.has_unit, specs.WellFormed.has_chart, specs.declared.act.Act.Act, specs.declared.act.UnitChoice.UnitChoice, specs.declared.act.UnitChoice.TheVariants.Unit, specs.declared.act.UnitChoice.TheVariants.Role, specs.declared.acts.Acts.Acts, specs.declared.entry.Entry.Entry, specs.declared.entry.Kind.Kind, specs.declared.need.Need.Need, specs.declared.recipe.Recipe.Recipe, proofs.NodesAbove.act_at}
use Rattle.batch_recipe.specs.declared.entry.Kind.TheVariants as kind
use Rattle.batch_model.{specs.Lists.Each, specs.Lists.Has, specs.Cleared.Level, specs.Cleared.is_procedure, specs.Cleared.in_procedure, specs.Cleared.in_unit_procedure, specs.Cleared.in_operation, specs.Cleared.below, specs.Setups.labels_of, specs.Setups.name_role, specs.Setups.reserve_role, proofs.Members.Each-append, proofs.Members.Each-map, proofs.Members.Has-left, proofs.Members.Has-right}
use Rattle.batch_verify.{specs.Walking.is_of_level, specs.Ways.Spot, specs.Ways.Way, specs.Ways.bound_ways, proofs.RolesInTree.declared, proofs.RolesInTree.declared_role, proofs.RolesInTree.names_it, proofs.RolesInTree.names_role, proofs.RolesInTree.owned, proofs.RolesInTree.owner, proofs.RolesInTree.reserves_role, proofs.RolesInTree.role_named, proofs.RolesInTree.role_reserved, proofs.RolesInTree.table, proofs.EntryNodes.IsTop, proofs.EntryNodes.IsBelow, proofs.EntryNodes.Stands, proofs.EntryNodes.node_of, proofs.EntryNodes.stands, proofs.Verdicts.bare_needs, proofs.WayActs.IsHereOn}

-- Needs

-- a need, by how its resource is chosen
pub record Ask : Type 0 where
  pub choice : UnitChoice
  pub units : ℕ

abbrev pub asked : Binding → Ask → Need
asked bound ask = record { resource = unit_chosen bound ask.choice; units = ask.units }

abbrev pub names_by : Binding → List Ask → List Name
names_by bound asks = map (λ ask. unit_chosen bound ask.choice) asks

abbrev of_one : UnitChoice → Ask
of_one choice = record { choice = choice; units = 1 }

abbrev of_need : Need → Ask
of_need need = record { choice = Unit need.resource; units = need.units }

-- the unit of an act, as it is chosen; no unit is the empty name
abbrev own_choice : Option UnitChoice → UnitChoice
own_choice own = elim own [ None ↦ Unit [] | Some choice ↦ choice ]

abbrev found_choice : Option Act → UnitChoice
found_choice found = elim found [ None ↦ Unit [] | Some a ↦ own_choice a.unit ]

-- that of the unit procedure with this name
abbrev choice_named : Acts → Name → UnitChoice
choice_named acts name = found_choice (act_named acts.unit_procedures.items name)

abbrev own_asks : Option UnitChoice → List Ask
own_asks None = []
own_asks (Some choice) = of_one choice ∷ []

abbrev later_asks : Acts → List Name → List Need → List Ask
later_asks acts names needs = map (λ name. of_one (choice_named acts name)) names ++ map of_need needs

-- all that an act asks for
abbrev pub asks_in : Acts → Act → List Ask
asks_in acts a = own_asks a.unit ++ later_asks acts a.reserves.items a.needs.items

abbrev pub asks_at : Acts → Option Act → List Ask
asks_at acts None = []
asks_at acts (Some a) = asks_in acts a

pub names_append : (bound : Binding) (xs ys : List Ask) → names_by bound (xs ++ ys) ≡ names_by bound xs ++ names_by bound ys
names_append bound [] ys = refl
names_append bound (x ∷ xs) ys = ap (λ names. unit_chosen bound x.choice ∷ names) (names_append bound xs ys)

pub resources_are : (bound : Binding) (asks : List Ask) → resources_needed (map (asked bound) asks) ≡ names_by bound asks
resources_are bound [] = refl
resources_are bound (x ∷ xs) = ap (λ names. unit_chosen bound x.choice ∷ names) (resources_are bound xs)

module _ (bound : Binding) where
  own_is : (own : Option UnitChoice) → elim (unit_with bound own) [ None ↦ [] | Some unit ↦ unit ] ≡ unit_chosen bound (own_choice own)
  own_is None = refl
  own_is (Some choice) = refl

  found_is : (found : Option Act) → elim (option_and_then (λ (u : Act). unit_with bound u.unit) found) [ None ↦ [] | Some unit ↦ unit ] ≡ unit_chosen bound (found_choice found)
  found_is None = refl
  found_is (Some a) = own_is a.unit

  needs_back : (needs : List Need) → needs ≡ map (asked bound) (map of_need needs)
  needs_back [] = refl
  needs_back (need ∷ needs) = ap (λ (ns : List Need). need ∷ ns) (needs_back needs)

  module _ (acts : Acts) where
    unit_is : (name : Name) → unit_named (sites bound acts) name ≡ unit_chosen bound (choice_named acts name)
    unit_is name = found_is (act_named acts.unit_procedures.items name)

    later_are : (names : List Name) (needs : List Need) → map one_unit (map (unit_named (sites bound acts)) names) ++ needs ≡ map (asked bound) (later_asks acts names needs)
    later_are [] needs = needs_back needs
    later_are (name ∷ names) needs = ap₂ (λ (unit : Name) (ns : List Need). one_unit unit ∷ ns) (unit_is name) (later_are names needs)

    asked_are : (own : Option UnitChoice) (names : List Name) (needs : List Need)
        → asked_in_order (unit_with bound own) (map (unit_named (sites bound acts)) names) needs ≡ map (asked bound) (own_asks own ++ later_asks acts names needs)
    asked_are None names needs = later_are names needs
    asked_are (Some choice) names needs = ap (λ (ns : List Need). one_unit (unit_chosen bound choice) ∷ ns) (later_are names needs)

    -- the needs of an act in a binding
    pub needs_are : (a : Act) → needs_with (sites bound acts) a ≡ map (asked bound) (asks_in acts a)
    needs_are a = asked_are a.unit a.reserves.items a.needs.items

  -- the unit below an act
  pub below_is : (above : UnitChoice) (own : Option UnitChoice) → unit_below (unit_chosen bound above) (unit_with bound own) ≡ unit_chosen bound (elim own [ None ↦ above | Some choice ↦ choice ])
  below_is above None = refl
  below_is above (Some choice) = refl

pub has_at : {X : Type 0} (xs : List X) (k : ℕ) (x : X) → slice_get xs k ≡ Some x → Has xs x
has_at [] k x e = absurd cc
has_at (y ∷ xs) zero x e = inl cc
has_at (y ∷ xs) (suc k) x e = inr (has_at xs k x e)

-- Where nothing is reserved, one role at most is asked for on a path: that of its unit procedure

-- no role is asked for
abbrev pub IsUnit : UnitChoice → Type 0
IsUnit (Unit unit) = ⊤
IsUnit (Role role) = ⊥

abbrev pub NoRoles : List Ask → Type 0
NoRoles asks = Each (λ ask. IsUnit ask.choice) asks

-- or this one alone
abbrev pub IsUnitOr : Name → UnitChoice → Type 0
IsUnitOr role (Unit unit) = ⊤
IsUnitOr role (Role own) = own ≡ role

abbrev pub OneRole : List Ask → Type 0
OneRole asks = (role : Name) × Each (λ ask. IsUnitOr role ask.choice) asks

-- above the unit procedures there is none
abbrev pub FewRoles : Level → List Ask → Type 0
FewRoles is_procedure asks = NoRoles asks
FewRoles in_procedure asks = NoRoles asks
FewRoles in_unit_procedure asks = OneRole asks
FewRoles in_operation asks = OneRole asks

unit-or : (role : Name) (choice : UnitChoice) → IsUnit choice → IsUnitOr role choice
unit-or role (Unit unit) h = tt
unit-or role (Role own) h = absurd h

units-or : (role : Name) (asks : List Ask) → NoRoles asks → Each (λ (ask : Ask). IsUnitOr role ask.choice) asks
units-or role asks h = Each-map (λ (ask : Ask). IsUnit ask.choice) (λ ask. IsUnitOr role ask.choice) (λ ask k. unit-or role ask.choice k) asks h

needs-bare : (needs : List Need) → NoRoles (map of_need needs)
needs-bare [] = tt
needs-bare (need ∷ needs) = (tt, needs-bare needs)

later-bare : (acts : Acts) (names : List Name) (needs : List Need) → names ≡ [] → NoRoles (later_asks acts names needs)
later-bare acts names needs e = subst (λ ns. NoRoles (later_asks acts ns needs)) (sym e) (needs-bare needs)

own-bare : (o : Option UnitChoice) → elim o [ None ↦ false | Some choice ↦ true ] ≡ false → NoRoles (own_asks o)
own-bare None e = tt
own-bare (Some choice) e = let bad : true ≡ false = e in absurd cc

own-one : (o : Option UnitChoice) → OneRole (own_asks o)
own-one None = ([], tt)
own-one (Some (Unit unit)) = ([], (tt, tt))
own-one (Some (Role role)) = (role, (refl, tt))

no-unit : (l : Level) (a : Act) → is_of_level l a ≡ true → l ≢ in_procedure → has_unit a ≡ false
no-unit is_procedure a h d = not-true (has_unit a) (and_parts (not (has_unit a)) (has_chart a) h).0
no-unit in_procedure a h d = absurd (d refl)
no-unit in_unit_procedure a h d = not-true (has_unit a) (and_parts (not (has_unit a)) (has_chart a) h).0
no-unit in_operation a h d = not-true (has_unit a) (and_parts (not (has_unit a)) (not (has_chart a)) h).0

all-bare : (acts : Acts) (a : Act) → has_unit a ≡ false → a.reserves.items ≡ [] → NoRoles (asks_in acts a)
all-bare acts a e none =
    Each-append (λ (ask : Ask). IsUnit ask.choice) (own_asks a.unit) (later_asks acts a.reserves.items a.needs.items) (own-bare a.unit e) (later-bare acts a.reserves.items a.needs.items none)

-- an act below asks that are few
act-few : (acts : Acts) (l : Level) (above : List Ask) (a : Act) → is_of_level l a ≡ true → a.reserves.items ≡ [] → FewRoles l above → FewRoles (below l) (above ++ asks_in acts a)
act-few acts is_procedure above a kind none h =
    Each-append (λ (ask : Ask). IsUnit ask.choice) above (asks_in acts a) h (all-bare acts a (no-unit is_procedure a kind (λ e. let bad : is_procedure ≡ in_procedure = e in cc)) none)
act-few acts in_procedure above a kind none h =
    let own = own-one a.unit in (
      own.0,
      Each-append (λ (ask : Ask). IsUnitOr own.0 ask.choice) above (asks_in acts a) (units-or own.0 above h)
          (Each-append (λ (ask : Ask). IsUnitOr own.0 ask.choice) (own_asks a.unit) (later_asks acts a.reserves.items a.needs.items) own.1
          (units-or own.0 (later_asks acts a.reserves.items a.needs.items) (later-bare acts a.reserves.items a.needs.items none))),
    )
act-few acts in_unit_procedure above a kind none h = (
  h.0,
  Each-append (λ (ask : Ask). IsUnitOr h.0 ask.choice) above (asks_in acts a) h.1
      (units-or h.0 (asks_in acts a) (all-bare acts a (no-unit in_unit_procedure a kind (λ e. let bad : in_unit_procedure ≡ in_procedure = e in cc)) none)),
)
act-few acts in_operation above a kind none h = (
  h.0,
  Each-append (λ (ask : Ask). IsUnitOr h.0 ask.choice) above (asks_in acts a) h.1
      (units-or h.0 (asks_in acts a) (all-bare acts a (no-unit in_operation a kind (λ e. let bad : in_operation ≡ in_procedure = e in cc)) none)),
)

module _ (r : Recipe) where
  -- no act reserves anything
  abbrev pub ReservesNothing : Type 0
  ReservesNothing = (k : Kind) (a : Act) → act_of_kind r.acts k ≡ Some a → a.reserves.items ≡ []

  -- a role that is chosen is declared, and the tree names it
  abbrev pub IsNamed : UnitChoice → Type 0
  IsNamed choice = (role : Name) → choice ≡ Role role → (names_it r role ≡ true) × (is_among (declared r) role ≡ true)

  abbrev pub AreNamed : List Ask → Type 0
  AreNamed asks = Each (λ ask. IsNamed ask.choice) asks

  unit_named_by : (unit : Name) → IsNamed (Unit unit)
  unit_named_by unit role e = absurd cc

  module _ (a : Act) (stands_there : Has (procedure_acts r.acts) (Some a)) where
    -- the act's own unit
    own_named : (own : UnitChoice) → a.unit ≡ Some own → IsNamed own
    own_named own is role e =
        let by = owner r.acts r.kinds a own is stands_there in
        let takes : a.unit ≡ Some (Role role) = is ∙ ap Some e in (
          or_left (name_role (table r) (labels_of r.acts.procedure) role) (reserve_role (table r) (procedure_acts r.acts) role) (names_role (table r) (labels_of r.acts.procedure) by.0 a role by.1 by.2 takes),
          declared_role r by.0 a role by.2 takes,
        )

    -- a unit that it reserves
    reserved_named : (name : Name) → Has a.reserves.items name → IsNamed (choice_named r.acts name)
    reserved_named name m = go (act_named (table r) name) refl
      where
        go : (found : Option Act) → act_named (table r) name ≡ found → IsNamed (found_choice found)
        go None found_is = unit_named_by []
        go (Some u) found_is = own u.unit refl
          where
            own : (o : Option UnitChoice) → u.unit ≡ o → IsNamed (own_choice o)
            own None is = unit_named_by []
            own (Some choice) is =
                λ role e.
                let takes : u.unit ≡ Some (Role role) = is ∙ ap Some e in (
                  or_right (name_role (table r) (labels_of r.acts.procedure) role) (reserve_role (table r) (procedure_acts r.acts) role)
                      (reserves_role (table r) (procedure_acts r.acts) a role stands_there (names_role (table r) a.reserves.items name u role m found_is takes)),
                  declared_role r name u role found_is takes,
                )

    own_asks_named : (own : Option UnitChoice) → a.unit ≡ own → AreNamed (own_asks own)
    own_asks_named None is = tt
    own_asks_named (Some choice) is = (own_named choice is, tt)

    reserved_asks_named : (names : List Name) → ((name : Name) → Has names name → IsNamed (choice_named r.acts name)) → AreNamed (map (λ name. of_one (choice_named r.acts name)) names)
    reserved_asks_named [] h = tt
    reserved_asks_named (name ∷ names) h = (h name (inl refl), reserved_asks_named names (λ other m. h other (inr m)))

    need_asks_named : (needs : List Need) → AreNamed (map of_need needs)
    need_asks_named [] = tt
    need_asks_named (need ∷ needs) = (unit_named_by need.resource, need_asks_named needs)

    pub asks_named : AreNamed (asks_in r.acts a)
    asks_named =
        Each-append (λ (ask : Ask). IsNamed ask.choice) (own_asks a.unit) (later_asks r.acts a.reserves.items a.needs.items) (own_asks_named a.unit refl)
        (Each-append (λ (ask : Ask). IsNamed ask.choice) (map (λ name. of_one (choice_named r.acts name)) a.reserves.items) (map of_need a.needs.items)
        (reserved_asks_named a.reserves.items reserved_named) (need_asks_named a.needs.items))

    -- the unit below it
    abbrev unit_after : UnitChoice → Option UnitChoice → UnitChoice
    unit_after above own = elim own [ None ↦ above | Some choice ↦ choice ]

    after_named : (above : UnitChoice) → IsNamed above → (own : Option UnitChoice) → a.unit ≡ own → IsNamed (unit_after above own)
    after_named above h None is = h
    after_named above h (Some choice) is = own_named choice is

  -- an act of the recipe asks for a unit that has the role
  pub record AsksFor (role : Name) : Type 0 where
    pub by : Act
    pub stands_there : Has (procedure_acts r.acts) (Some by)
    pub ask : Ask
    pub asked_for : Has (asks_in r.acts by) ask
    pub is : ask.choice ≡ Role role

  pub has_mapped : {X Y : Type 0} (f : X → Y) (xs : List X) (x : X) → Has xs x → Has (map f xs) (f x)
  has_mapped f [] x m = absurd m
  has_mapped f (y ∷ xs) x (inl e) = inl (ap f e)
  has_mapped f (y ∷ xs) x (inr m) = inr (has_mapped f xs x m)

  pub asks_for : (role : Name) → names_it r role ≡ true → AsksFor role
  asks_for role h = elim (or_cases (name_role (table r) (labels_of r.acts.procedure) role) (reserve_role (table r) (procedure_acts r.acts) role) h) [ inl k ↦ by_label k | inr k ↦ by_reserve k ]
    where
      by_label : name_role (table r) (labels_of r.acts.procedure) role ≡ true → AsksFor role
      by_label k =
          let f = role_named (table r) (labels_of r.acts.procedure) role k in
          record {
            by = f.own;
            stands_there = owned r.acts r.kinds f.name f.own f.has f.found;
            ask = of_one (Role role);
            asked_for = subst (λ o. Has (own_asks o ++ later_asks r.acts f.own.reserves.items f.own.needs.items) (of_one (Role role))) (sym f.takes) (inl refl);
            is = refl;
          }

      by_reserve : reserve_role (table r) (procedure_acts r.acts) role ≡ true → AsksFor role
      by_reserve k =
          let q = role_reserved (table r) (procedure_acts r.acts) role k in
          let f = role_named (table r) q.by.reserves.items role q.names in
          record {
            by = q.by;
            stands_there = q.has;
            ask = of_one (choice_named r.acts f.name);
            asked_for = Has-right (own_asks q.by.unit) (later_asks r.acts q.by.reserves.items q.by.needs.items) (of_one (choice_named r.acts f.name))
                (Has-left (map (λ name. of_one (choice_named r.acts name)) q.by.reserves.items) (map of_need q.by.needs.items) (of_one (choice_named r.acts f.name))
                (has_mapped (λ name. of_one (choice_named r.acts name)) q.by.reserves.items f.name f.has));
            is = ap found_choice f.found ∙ ap own_choice f.takes;
          }

  -- the unit below a node
  abbrev unit_at : UnitChoice → Option Act → UnitChoice
  unit_at above None = above
  unit_at above (Some a) = elim a.unit [ None ↦ above | Some choice ↦ choice ]

  module _ (k : ℕ) (e : Entry) (is : slice_get r.outline.entries.items k ≡ Some e) where
    abbrev here : Option Act
    here = act_of_kind r.acts e.kind

    there : (a : Act) → here ≡ Some a → Has (procedure_acts r.acts) (Some a)
    there a same = has_at (procedure_acts r.acts) k (Some a) (act_at r k e is ∙ ap Some same)

    pub own_asks_are_named : AreNamed (asks_at r.acts here)
    own_asks_are_named = go here refl
      where
        go : (o : Option Act) → here ≡ o → AreNamed (asks_at r.acts o)
        go None same = tt
        go (Some a) same = asks_named a (there a same)

    unit_at_named : (above : UnitChoice) → IsNamed above → IsNamed (unit_at above here)
    unit_at_named above h = go here refl
      where
        go : (o : Option Act) → here ≡ o → IsNamed (unit_at above o)
        go None same = h
        go (Some a) same = after_named a (there a same) above h a.unit refl

    module _ (bound : Binding) where
      abbrev at : Stands r bound k e
      at = stands r bound k e is

      -- the needs of the node in a binding
      pub needs_here : needs_of at.x.node.here ≡ map (asked bound) (asks_at r.acts here)
      needs_here = go here at.on.here
        where
          go : (o : Option Act) → IsHereOn (sites bound r.acts) at.own at.x o → needs_of at.x.node.here ≡ map (asked bound) (asks_at r.acts o)
          go None h = bare_needs at.x.node.here h.0
          go (Some a) h = ap needs_of h.here_is ∙ needs_are bound r.acts a

      names_here : resources_needed (needs_of at.x.node.here) ≡ names_by bound (asks_at r.acts here)
      names_here = ap resources_needed needs_here ∙ resources_are bound (asks_at r.acts here)

      unit_under : (above : UnitChoice) → at.own.here.unit ≡ unit_chosen bound above → at.own.under.unit ≡ unit_chosen bound (unit_at above here)
      unit_under above same = go here at.on.here
        where
          go : (o : Option Act) → IsHereOn (sites bound r.acts) at.own at.x o → at.own.under.unit ≡ unit_chosen bound (unit_at above o)
          go None h = ap (λ (v : Spot). v.unit) h.1 ∙ same
          go (Some a) h = h.under_unit ∙ (ap (λ (unit : Name). unit_below unit (unit_with bound a.unit)) same ∙ below_is bound above a.unit)

  -- the asks of the path to a node are few, where those above it are
  few-here : ReservesNothing → (k : ℕ) (e : Entry) (is : slice_get r.outline.entries.items k ≡ Some e) (above : List Ask) → FewRoles (stands r unbound k e is).own.here.level above
      → FewRoles (stands r unbound k e is).own.under.level (above ++ asks_at r.acts (act_of_kind r.acts e.kind))
  few-here nothing k e is above h = go (act_of_kind r.acts e.kind) refl (stands r unbound k e is).on.here
    where
      go : (o : Option Act) → act_of_kind r.acts e.kind ≡ o → IsHereOn (sites unbound r.acts) (stands r unbound k e is).own (stands r unbound k e is).x o
          → FewRoles (stands r unbound k e is).own.under.level (above ++ asks_at r.acts o)
      go None same w = subst (λ (l : Level). FewRoles l (above ++ [])) (ap (λ (v : Spot). v.level) (sym w.1)) (subst (FewRoles (stands r unbound k e is).own.here.level) (sym (append-nil above)) h)
      go (Some a) same w =
          subst (λ (l : Level). FewRoles l (above ++ asks_in r.acts a)) (sym w.under_level)
          (act-few r.acts (stands r unbound k e is).own.here.level above a w.kind (nothing e.kind a same) h)

  -- the path to a node, and the unit below it
  pub record HasChoices (k : ℕ) (e : Entry) (is : slice_get r.outline.entries.items k ≡ Some e) : Type 0 where
    pub asks : List Ask
    pub asks_are_named : AreNamed asks
    pub path : (bound : Binding) → (stands r bound k e is).x.node.asked ≡ names_by bound asks
    pub few : ReservesNothing → FewRoles (stands r unbound k e is).own.under.level asks
    pub unit : UnitChoice
    pub unit_is_named : IsNamed unit
    pub under : (bound : Binding) → (stands r bound k e is).own.under.unit ≡ unit_chosen bound unit

  abbrev no_entry : Entry
  no_entry = record { kind = kind.Skip; end = 0; parent = 0; child = 0; needs = 0; detail = 0 }

  module _ (k : ℕ) (e : Entry) (is : slice_get r.outline.entries.items k ≡ Some e) where
    abbrev own_asked : List Ask
    own_asked = asks_at r.acts (act_of_kind r.acts e.kind)

    at_top : k ≡ 0 → HasChoices k e is
    at_top first = record {
      asks = own_asked;
      asks_are_named = own_asks_are_named k e is;
      path = λ bound. path_at bound (stands r bound k e is).hangs;
      few = λ nothing. few-here nothing k e is [] (subst (λ (l : Level). FewRoles l []) (sym (top_level (stands r unbound k e is).hangs)) tt);
      unit = unit_at (Unit []) (act_of_kind r.acts e.kind);
      unit_is_named = unit_at_named k e is (Unit []) (unit_named_by []);
      under = λ bound. unit_under k e is bound (Unit []) (stands_on bound (stands r bound k e is).hangs);
    }
      where
        path_at : (bound : Binding) → IsTop k (stands r bound k e is).own (stands r bound k e is).x ⊎ IsBelow (bound_ways bound r.acts) (bound_nodes bound r.acts) k e (stands r bound k e is).own (stands r bound k e is).x
            → (stands r bound k e is).x.node.asked ≡ names_by bound own_asked
        path_at bound (inl t) = t.asks ∙ names_here k e is bound
        path_at bound (inr b) = absurd (omega (arith, b.earlier, first))

        top_level : IsTop k (stands r unbound k e is).own (stands r unbound k e is).x ⊎ IsBelow (bound_ways unbound r.acts) (bound_nodes unbound r.acts) k e (stands r unbound k e is).own (stands r unbound k e is).x
            → (stands r unbound k e is).own.here.level ≡ is_procedure
        top_level (inl t) = ap (λ (v : Spot). v.level) t.stands
        top_level (inr b) = absurd (omega (arith, b.earlier, first))

        stands_on : (bound : Binding) → IsTop k (stands r bound k e is).own (stands r bound k e is).x ⊎ IsBelow (bound_ways bound r.acts) (bound_nodes bound r.acts) k e (stands r bound k e is).own (stands r bound k e is).x
            → (stands r bound k e is).own.here.unit ≡ []
        stands_on bound (inl t) = ap (λ (v : Spot). v.unit) t.stands
        stands_on bound (inr b) = absurd (omega (arith, b.earlier, first))

    module _ (f : Entry) (above_is : slice_get r.outline.entries.items e.parent ≡ Some f) (above : HasChoices e.parent f above_is) (earlier : e.parent < k) where
      way_same : (v w : Way) → Some v ≡ Some w → v ≡ w
      way_same v w same = cc

      node_same : (one other : Node) → Some one ≡ Some other → one ≡ other
      node_same one other same = cc

      node_asked : (bound : Binding) → IsTop k (stands r bound k e is).own (stands r bound k e is).x ⊎ IsBelow (bound_ways bound r.acts) (bound_nodes bound r.acts) k e (stands r bound k e is).own (stands r bound k e is).x
          → (stands r bound k e is).x.node.asked ≡ names_by bound (above.asks ++ own_asked)
      node_asked bound (inl t) = absurd (omega (arith, t.number, earlier))
      node_asked bound (inr b) =
          let up = stands r bound e.parent f above_is in
          let same : b.node ≡ up.x.node = node_same b.node up.x.node (sym b.node_is ∙ node_of r bound e.parent up.x up.x_is) in
          b.asks ∙ (ap₂ (λ (xs ys : List Name). xs ++ ys) (ap (λ (n : Node). n.asked) same ∙ above.path bound) (names_here k e is bound) ∙ sym (names_append bound above.asks own_asked))

      node_unit : (bound : Binding) → IsTop k (stands r bound k e is).own (stands r bound k e is).x ⊎ IsBelow (bound_ways bound r.acts) (bound_nodes bound r.acts) k e (stands r bound k e is).own (stands r bound k e is).x
          → (stands r bound k e is).own.here.unit ≡ unit_chosen bound above.unit
      node_unit bound (inl t) = absurd (omega (arith, t.number, earlier))
      node_unit bound (inr b) =
          let up = stands r bound e.parent f above_is in
          let same : b.way ≡ up.own = way_same b.way up.own (sym b.way_is ∙ up.own_is) in
          ap (λ (v : Spot). v.unit) b.stands ∙ (ap (λ (w : Way). w.under.unit) same ∙ above.under bound)

      node_level : IsTop k (stands r unbound k e is).own (stands r unbound k e is).x ⊎ IsBelow (bound_ways unbound r.acts) (bound_nodes unbound r.acts) k e (stands r unbound k e is).own (stands r unbound k e is).x
          → (stands r unbound k e is).own.here.level ≡ (stands r unbound e.parent f above_is).own.under.level
      node_level (inl t) = absurd (omega (arith, t.number, earlier))
      node_level (inr b) =
          let up = stands r unbound e.parent f above_is in
          let same : b.way ≡ up.own = way_same b.way up.own (sym b.way_is ∙ up.own_is) in
          ap (λ (v : Spot). v.level) b.stands ∙ ap (λ (w : Way). w.under.level) same

      below_it : HasChoices k e is
      below_it = record {
        asks = above.asks ++ own_asked;
        asks_are_named = Each-append (λ (ask : Ask). IsNamed ask.choice) above.asks own_asked above.asks_are_named (own_asks_are_named k e is);
        path = λ bound. node_asked bound (stands r bound k e is).hangs;
        few = λ nothing. few-here nothing k e is above.asks (subst (λ (l : Level). FewRoles l above.asks) (sym (node_level (stands r unbound k e is).hangs)) (above.few nothing));
        unit = unit_at above.unit (act_of_kind r.acts e.kind);
        unit_is_named = unit_at_named k e is above.unit above.unit_is_named;
        under = λ bound. unit_under k e is bound above.unit (node_unit bound (stands r bound k e is).hangs);
      }

  choices_within : (n k : ℕ) → k < n → (e : Entry) (is : slice_get r.outline.entries.items k ≡ Some e) → HasChoices k e is
  choices_within zero k lt e is = absurd (omega (arith, lt))
  choices_within (suc n) k lt e is = go (stands r unbound k e is).hangs (choices_within n)
    where
      go : IsTop k (stands r unbound k e is).own (stands r unbound k e is).x ⊎ IsBelow (bound_ways unbound r.acts) (bound_nodes unbound r.acts) k e (stands r unbound k e is).own (stands r unbound k e is).x
          → ((m : ℕ) → m < n → (f : Entry) (f_is : slice_get r.outline.entries.items m ≡ Some f) → HasChoices m f f_is) → HasChoices k e is
      go (inl t) before = at_top k e is t.number
      go (inr b) before =
          let within = slice_get_within r.outline.entries.items k e is in
          let f_is = slice_get-get_or r.outline.entries.items e.parent no_entry (omega (arith, b.earlier, within)) in
          below_it k e is (get_or r.outline.entries.items e.parent no_entry) f_is (before e.parent (omega (arith, b.earlier, lt)) (get_or r.outline.entries.items e.parent no_entry) f_is) b.earlier

  pub choices : (k : ℕ) (e : Entry) (is : slice_get r.outline.entries.items k ≡ Some e) → HasChoices k e is
  choices k e is = choices_within (k + 1) k (omega arith) e is
