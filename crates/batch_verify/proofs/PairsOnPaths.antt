-- The resources asked for at two places of a path are so in one of the bindings that are looked at.
use Rattle.std.proofs.Common.{◌≡◌, ◌⊎◌, ℕ, ◌<◌, Bool, true, false, List, [], ◌∷◌, length, Option, Some, None, slice_get, get_or, option_map, refl, sym, ap, ap₂, ◌∙◌, subst, arith, inl, inr, ⊎_elim}
use Rattle.std.{specs.Cmp.Lexicographic.bytes_decides, proofs.lemmas.Option.slice_get-get_or, proofs.lemmas.Option.slice_get-map, proofs.lemmas.Option.slice_get_within}
use Rattle.batch_cell.specs.declared.cell.Cell as equipment
use Rattle.batch_recipe.{specs.Conditions.Name, specs.Conditions.same_name, specs.Expanding.Binding, specs.Expanding.unbound, specs.Expanding.unit_chosen, specs.Nodes.Node, specs.Procedure.bound_nodes, specs.WellFormed.are_roles, specs.WellFormed.is_among, specs.declared.act.UnitChoice.UnitChoice, specs.declared.act.UnitChoice.TheVariants.Unit as by_name, specs.declared.act.UnitChoice.TheVariants.Role as by_role, specs.declared.entry.Entry.Entry, specs.declared.recipe.Recipe.Recipe, specs.declared.role.Role.Role, proofs.OutlineLinks.as_many_entries}
use Rattle.batch_recipe.specs.declared.entry.Kind.TheVariants as kind
use Rattle.batch_model.{specs.Lists.Each, specs.Lists.Has, specs.Cleared.Level, specs.Cleared.is_procedure, specs.Cleared.in_procedure, specs.Cleared.in_unit_procedure, specs.Cleared.in_operation, specs.Setups.master_of, specs.Setups.setup_of, proofs.Members.Each-Has}
use Rattle.batch_verify.{specs.Bindings.binding_count, specs.Bindings.numbered_binding, specs.Refusals.IsTried, proofs.Choices.has_at, proofs.Choices.Ask, proofs.Choices.AreNamed, proofs.Choices.FewRoles, proofs.Choices.HasChoices, proofs.Choices.IsNamed, proofs.Choices.IsUnit, proofs.Choices.IsUnitOr, proofs.Choices.NoRoles, proofs.Choices.OneRole, proofs.Choices.ReservesNothing, proofs.Choices.choices, proofs.Choices.names_by, proofs.RolesInTree.declared, proofs.RolesInTree.names_it, proofs.Spots.outlines, proofs.EntryNodes.node_of, proofs.EntryNodes.stands, proofs.NumberedBindings.role-covered, proofs.NumberedBindings.role-tried, proofs.NumberedBindings.some-binding}

abbrev no_entry : Entry
no_entry = record { kind = kind.Skip; end = 0; parent = 0; child = 0; needs = 0; detail = 0 }

-- of this role the candidate with the one number, and of each other role that with the other
abbrev pub apart : equipment.Cell → List Role → Name → ℕ → ℕ → Binding
apart cell roles role own other name = numbered_binding cell roles (elim (same_name name role) [ true ↦ own | false ↦ other ]) name

-- the bindings that are looked at: by number; and, where something is reserved, each two candidates of two roles at once
pub record ShowPairs (cell : equipment.Cell) (recipe : Recipe) (Looked : Binding → Type 0) : Type 0 where
  pub by_number : (number : ℕ) → number < binding_count cell recipe.roles.items → Looked (numbered_binding cell recipe.roles.items number)
  pub by_two : ReservesNothing recipe
      ⊎ ((role : Role) → Has recipe.roles.items role → (own other : ℕ) → own < binding_count cell recipe.roles.items → other < binding_count cell recipe.roles.items
      → Looked (apart cell recipe.roles.items role.name own other))

-- the same is asked for at these two places
pub record IsShownTwice (Looked : Binding → Type 0) (asked : List Name) (asked_by : Binding → List Name) (one other : ℕ) : Type 0 where
  pub binding : Binding
  pub looked : Looked binding
  pub first : slice_get asked one ≡ slice_get (asked_by binding) one
  pub second : slice_get asked other ≡ slice_get (asked_by binding) other

module _ (c : equipment.Cell) (recipes : List Recipe) (recipe : Recipe) (own : are_roles recipe.roles.items recipe.acts ≡ true)
    (Looked : Binding → Type 0) (show : ShowPairs c recipe Looked) (bound : Binding) (tried : IsTried (setup_of c recipes) (master_of c recipe) bound) where
  abbrev roles : List Role
  roles = recipe.roles.items

  -- the choice comes to the same unit
  abbrev Same : Binding → UnitChoice → Type 0
  Same b choice = unit_chosen bound choice ≡ unit_chosen b choice

  covered : (choice : UnitChoice) → IsNamed recipe choice → (j : ℕ) × (j < binding_count c roles) × Same (numbered_binding c roles j) choice
  covered (by_name unit) named = (0, some-binding c roles, refl)
  covered (by_role role) named = let both = named role refl in role-covered c recipes recipe own bound tried role both.0 both.1

  -- One binding, where nothing is reserved

  same-units : (b : Binding) (asks : List Ask) → NoRoles asks → names_by bound asks ≡ names_by b asks
  same-units b [] h = refl
  same-units b (x ∷ xs) h = ap₂ (λ (u : Name) (us : List Name). u ∷ us) (go x.choice h.0) (same-units b xs h.1)
    where
      go : (choice : UnitChoice) → IsUnit choice → Same b choice
      go (by_name unit) k = refl
      go (by_role role) k = absurd k

  same-role : (b : Binding) (role : Name) → bound role ≡ b role → (asks : List Ask) → Each (λ (ask : Ask). IsUnitOr role ask.choice) asks → names_by bound asks ≡ names_by b asks
  same-role b role same [] h = refl
  same-role b role same (x ∷ xs) h = ap₂ (λ (u : Name) (us : List Name). u ∷ us) (go x.choice h.0) (same-role b role same xs h.1)
    where
      go : (choice : UnitChoice) → IsUnitOr role choice → Same b choice
      go (by_name unit) k = refl
      go (by_role other) k = subst (λ (name : Name). bound name ≡ b name) (sym k) same

  -- the role that is asked for, where one is
  asked-role : (role : Name) (asks : List Ask) → Each (λ (ask : Ask). IsUnitOr role ask.choice) asks → AreNamed recipe asks → NoRoles asks ⊎ IsNamed recipe (by_role role)
  asked-role role [] h named = inl tt
  asked-role role (x ∷ xs) h named = go x.choice h.0 named.0 (asked-role role xs h.1 named.1)
    where
      go : (choice : UnitChoice) → IsUnitOr role choice → IsNamed recipe choice → NoRoles xs ⊎ IsNamed recipe (by_role role) → (IsUnit choice × NoRoles xs) ⊎ IsNamed recipe (by_role role)
      go (by_name unit) k n (inl none) = inl (tt, none)
      go (by_name unit) k n (inr some) = inr some
      go (by_role other) k n more = inr (subst (λ (name : Name). IsNamed recipe (by_role name)) k n)

  abbrev IsShownOnce : List Ask → Type 0
  IsShownOnce asks = (b : Binding) × Looked b × (names_by bound asks ≡ names_by b asks)

  shown-units : (asks : List Ask) → NoRoles asks → IsShownOnce asks
  shown-units asks h = (numbered_binding c roles 0, show.by_number 0 (some-binding c roles), same-units (numbered_binding c roles 0) asks h)

  shown-role : (asks : List Ask) → AreNamed recipe asks → OneRole asks → IsShownOnce asks
  shown-role asks named h =
      ⊎_elim (shown-units asks)
      (λ some.
      let by = covered (by_role h.0) some in
      (numbered_binding c roles by.0, show.by_number by.0 by.1, same-role (numbered_binding c roles by.0) h.0 by.2 asks h.1))
      (asked-role h.0 asks h.1 named)

  shown-once : (level : Level) (asks : List Ask) → AreNamed recipe asks → FewRoles level asks → IsShownOnce asks
  shown-once is_procedure asks named h = shown-units asks h
  shown-once in_procedure asks named h = shown-units asks h
  shown-once in_unit_procedure asks named h = shown-role asks named h
  shown-once in_operation asks named h = shown-role asks named h

  -- Two choices

  module _ (two : (role : Role) → Has roles role → (one other : ℕ) → one < binding_count c roles → other < binding_count c roles → Looked (apart c roles role.name one other)) where
    apart-own : (role name : Name) (one other : ℕ) → same_name name role ≡ true → apart c roles role one other name ≡ numbered_binding c roles one name
    apart-own role name one other e = ap (λ t. numbered_binding c roles (elim t [ true ↦ one | false ↦ other ]) name) e

    apart-other : (role name : Name) (one other : ℕ) → same_name name role ≡ false → apart c roles role one other name ≡ numbered_binding c roles other name
    apart-other role name one other e = ap (λ t. numbered_binding c roles (elim t [ true ↦ one | false ↦ other ]) name) e

    abbrev IsShownBoth : UnitChoice → UnitChoice → Type 0
    IsShownBoth one other = (b : Binding) × Looked b × Same b one × Same b other

    both-roles : (one other : Name) → IsNamed recipe (by_role one) → IsNamed recipe (by_role other) → IsShownBoth (by_role one) (by_role other)
    both-roles one other named other_named = go (same_name other one) refl
      where
        n : (names_it recipe one ≡ true) × (is_among (declared recipe) one ≡ true)
        n = named one refl

        by : (j : ℕ) × (j < binding_count c roles) × Same (numbered_binding c roles j) (by_role one)
        by = covered (by_role one) named

        go : (same : Bool) → same_name other one ≡ same → IsShownBoth (by_role one) (by_role other)
        go true e =
            let same : other ≡ one = (bytes_decides other one).0 e in
            (numbered_binding c roles by.0, show.by_number by.0 by.1, by.2, subst (λ (name : Name). bound name ≡ numbered_binding c roles by.0 name) (sym same) by.2)
        go false e =
            let also = covered (by_role other) other_named in
            let role = role-tried c recipes recipe own bound tried one n.0 n.1 in
            let b : Binding = apart c roles role.0.name by.0 also.0 in
            let own_is : same_name one role.0.name ≡ true = (bytes_decides one role.0.name).1 (sym role.2) in
            let other_is : same_name other role.0.name ≡ false = subst (λ (name : Name). same_name other name ≡ false) (sym role.2) e in (
              b,
              two role.0 role.1 by.0 also.0 by.1 also.1,
              by.2 ∙ sym (apart-own role.0.name one by.0 also.0 own_is),
              also.2 ∙ sym (apart-other role.0.name other by.0 also.0 other_is),
            )

    shown-both : (one other : UnitChoice) → IsNamed recipe one → IsNamed recipe other → IsShownBoth one other
    shown-both (by_name unit) other named other_named =
        let by = covered other other_named in (numbered_binding c roles by.0, show.by_number by.0 by.1, refl, by.2)
    shown-both (by_role role) (by_name unit) named other_named =
        let by = covered (by_role role) named in (numbered_binding c roles by.0, show.by_number by.0 by.1, by.2, refl)
    shown-both (by_role role) (by_role other) named other_named = both-roles role other named other_named

    named-at : (asks : List Ask) → AreNamed recipe asks → (i : ℕ) (x : Ask) → slice_get asks i ≡ Some x → IsNamed recipe x.choice
    named-at asks named i x e = Each-Has (λ (ask : Ask). IsNamed recipe ask.choice) asks x named (has_at asks i x e)

    -- two places of a list of asks
    shown-twice : (asks : List Ask) → AreNamed recipe asks → (one other : ℕ) → IsShownTwice Looked (names_by bound asks) (λ b. names_by b asks) one other
    shown-twice asks named one other = go (slice_get asks one) refl (slice_get asks other) refl
      where
        name_at : (b : Binding) (i : ℕ) (o : Option Ask) → slice_get asks i ≡ o → slice_get (names_by b asks) i ≡ option_map (λ (ask : Ask). unit_chosen b ask.choice) o
        name_at b i o e = slice_get-map (λ (ask : Ask). unit_chosen b ask.choice) asks i ∙ ap (option_map (λ (ask : Ask). unit_chosen b ask.choice)) e

        none_at : (b : Binding) (i : ℕ) → slice_get asks i ≡ None → slice_get (names_by bound asks) i ≡ slice_get (names_by b asks) i
        none_at b i e = name_at bound i None e ∙ sym (name_at b i None e)

        some_at : (b : Binding) (i : ℕ) (x : Ask) → slice_get asks i ≡ Some x → Same b x.choice → slice_get (names_by bound asks) i ≡ slice_get (names_by b asks) i
        some_at b i x e same = name_at bound i (Some x) e ∙ (ap (λ (name : Name). Some name) same ∙ sym (name_at b i (Some x) e))

        go : (o : Option Ask) → slice_get asks one ≡ o → (p : Option Ask) → slice_get asks other ≡ p → IsShownTwice Looked (names_by bound asks) (λ b. names_by b asks) one other
        go None e None f =
            let b : Binding = numbered_binding c roles 0 in
            record { binding = b; looked = show.by_number 0 (some-binding c roles); first = none_at b one e; second = none_at b other f }
        go None e (Some y) f =
            let by = covered y.choice (named-at asks named other y f) in
            let b : Binding = numbered_binding c roles by.0 in
            record { binding = b; looked = show.by_number by.0 by.1; first = none_at b one e; second = some_at b other y f by.2 }
        go (Some x) e None f =
            let by = covered x.choice (named-at asks named one x e) in
            let b : Binding = numbered_binding c roles by.0 in
            record { binding = b; looked = show.by_number by.0 by.1; first = some_at b one x e by.2; second = none_at b other f }
        go (Some x) e (Some y) f =
            let by = shown-both x.choice y.choice (named-at asks named one x e) (named-at asks named other y f) in
            record { binding = by.0; looked = by.1; first = some_at by.0 one x e by.2; second = some_at by.0 other y f by.3 }

  asks-shown : (level : Level) (asks : List Ask) → AreNamed recipe asks → (ReservesNothing recipe → FewRoles level asks) → (one other : ℕ)
      → IsShownTwice Looked (names_by bound asks) (λ b. names_by b asks) one other
  asks-shown level asks named few one other =
      ⊎_elim
      (λ nothing.
      let by = shown-once level asks named (few nothing) in
      record { binding = by.0; looked = by.1; first = ap (λ (names : List Name). slice_get names one) by.2; second = ap (λ (names : List Name). slice_get names other) by.2 })
      (λ two. shown-twice two asks named one other)
      show.by_two

  -- Nodes

  -- two places of the path of the node with this number
  pub record IsShownAt (k : ℕ) (node : Node) (one other : ℕ) : Type 0 where
    pub binding : Binding
    pub looked : Looked binding
    pub at : Node
    pub found : slice_get (bound_nodes binding recipe.acts) k ≡ Some at
    pub first : slice_get node.asked one ≡ slice_get at.asked one
    pub second : slice_get node.asked other ≡ slice_get at.asked other

  node_same : (x y : Node) → Some x ≡ Some y → x ≡ y
  node_same x y e = cc

  pub pairs_shown : (k : ℕ) (node : Node) → slice_get (bound_nodes bound recipe.acts) k ≡ Some node → (one other : ℕ) → IsShownAt k node one other
  pairs_shown k node found one other =
      let e : Entry = get_or recipe.outline.entries.items k no_entry in
      let within : k < length (bound_nodes bound recipe.acts) = slice_get_within (bound_nodes bound recipe.acts) k node found in
      let is : slice_get recipe.outline.entries.items k ≡ Some e
      = slice_get-get_or recipe.outline.entries.items k no_entry (omega (arith, within, as_many_entries recipe.acts recipe.outline.entries.items (outlines recipe bound) bound)) in
      let chosen : HasChoices recipe k e is = choices recipe k e is in
      let x = (stands recipe bound k e is).x in
      let same : node ≡ x.node = node_same node x.node (sym found ∙ node_of recipe bound k x (stands recipe bound k e is).x_is) in
      let by = asks-shown (stands recipe unbound k e is).own.under.level chosen.asks chosen.asks_are_named chosen.few one other in
      let y = (stands recipe by.binding k e is).x in
      let asked : node.asked ≡ names_by bound chosen.asks = ap (λ (n : Node). n.asked) same ∙ chosen.path bound in
      let other_asked : names_by by.binding chosen.asks ≡ y.node.asked = sym (chosen.path by.binding) in
      record {
        binding = by.binding;
        looked = by.looked;
        at = y.node;
        found = node_of recipe by.binding k y (stands recipe by.binding k e is).x_is;
        first = ap (λ (names : List Name). slice_get names one) asked ∙ (by.first ∙ ap (λ (names : List Name). slice_get names one) other_asked);
        second = ap (λ (names : List Name). slice_get names other) asked ∙ (by.second ∙ ap (λ (names : List Name). slice_get names other) other_asked);
      }
