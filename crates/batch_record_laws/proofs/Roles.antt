-- Which bindings of roles serve, and which units may so be chosen.
use Rattle.std.proofs.Common.{arith, ◌≡◌, refl, sym, ◌∙◌, ap, subst, List, [], ◌∷◌, Bool, true, false, ◌||◌, not, map, IsTrue, inl, inr, bytes_eq, Some, None}
use Rattle.std.{specs.Prelude.Option, specs.Prelude.option_and_then, specs.List.list_any, proofs.lemmas.Bool.and_parts}
use Rattle.batch_cell.specs.LookUps.{units_of_class}
use Rattle.batch_cell.specs.declared.cell.Cell as equipment
use Rattle.batch_recipe.specs.{Conditions.Name, Conditions.same_name, Expanding.Binding, Expanding.unbound, Expanding.act_named, WellFormed.is_among, WellFormed.are_distinct, declared.act.Act.Act, declared.act.UnitChoice.UnitChoice, declared.act.UnitChoice.TheVariants.Unit, declared.act.UnitChoice.TheVariants.Role, declared.role.Role.Role as RecipeRole}
use Rattle.batch_model.specs.{Lists.Has, Lists.Each, Plant.Role as Declared, Setups.role_of, Setups.name_role}
use Rattle.batch_record_laws.proofs.Entries.{name_self, name_same}

-- A binding with one more role bound

abbrev pub with_role : Name → Name → Binding → Binding
with_role role unit bound other = elim (same_name other role) [ true ↦ unit | false ↦ bound other ]

pub with_role-own : (role unit : Name) (bound : Binding) → with_role role unit bound role ≡ unit
with_role-own role unit bound = grind (arith, name_self role)

module _ (names_role : Name → Bool) where
  -- each of these roles that is named is taken by a unit that may take it
  abbrev pub AreServed : List Declared → Binding → Type 0
  AreServed roles bound = Each (λ role. IsTrue (names_role role.name) → IsTrue (is_among role.candidates (bound role.name))) roles

  pub still-served : (roles : List Declared) (bound : Binding) (role unit : Name) → AreServed roles bound
      → ((declared : Declared) → Has roles declared → declared.name ≡ role → IsTrue (is_among declared.candidates unit)) → AreServed roles (with_role role unit bound)
  still-served [] bound role unit s h = tt
  still-served (d ∷ roles) bound role unit s h =
      (λ named. go (bytes_eq d.name role) refl named, still-served roles bound role unit s.1 (λ e m q. h e (inr m) q))
    where
      go : (t : Bool) → bytes_eq d.name role ≡ t → IsTrue (names_role d.name) → IsTrue (is_among d.candidates (elim t [ true ↦ unit | false ↦ bound d.name ]))
      go true e named = h d (inl refl) (name_same d.name role e)
      go false e named = s.0 named

  -- where each role that is named has a unit that may take it, and names differ, some binding serves
  pub some-serves : (roles : List Declared) → ((d e : Declared) → Has roles d → Has roles e → d.name ≡ e.name → d ≡ e)
      → Each (λ role. IsTrue (names_role role.name) → (unit : Name) × IsTrue (is_among role.candidates unit)) roles → (bound : Binding) × AreServed roles bound
  some-serves [] one h = (unbound, tt)
  some-serves (d ∷ roles) one h =
      let rest = some-serves roles (λ e f m n q. one e f (inr m) (inr n) q) h.1 in go (names_role d.name) refl rest
    where
      go : (t : Bool) → names_role d.name ≡ t → ((bound : Binding) × AreServed roles bound) → (bound : Binding) × AreServed (d ∷ roles) bound
      go false e rest = (rest.0, (λ named. let no : IsTrue false = subst IsTrue e named in absurd cc, rest.1))
      go true e rest =
          let unit = h.0 (subst IsTrue (sym e) refl) in (
            with_role d.name unit.0 rest.0,
            (
              λ named. subst (λ u. IsTrue (is_among d.candidates u)) (sym (with_role-own d.name unit.0 rest.0)) unit.1,
              still-served roles rest.0 d.name unit.0 rest.1
                  (λ f m q. subst (λ z. IsTrue (is_among z.candidates unit.0)) (one d f (inl refl) (inr m) (sym q)) unit.1),
            ),
          )

-- The declared roles of a recipe

module _ (cell : equipment.Cell) where
  abbrev pub declared_of : RecipeRole → Declared
  declared_of role = record { name = role.name; candidates = units_of_class cell role.class }

  abbrev pub names_of : List RecipeRole → List Name
  names_of roles = map (λ role. role.name) roles

  declared-among : (roles : List RecipeRole) (d : Declared) → Has (map declared_of roles) d → is_among (names_of roles) d.name ≡ true
  declared-among [] d h = absurd h
  declared-among (x ∷ roles) d (inl e) =
      ap (λ z. z || is_among (names_of roles) d.name) (subst (λ z. bytes_eq z.name x.name ≡ true) e (name_self x.name))
  declared-among (x ∷ roles) d (inr h) = grind (arith, declared-among roles d h)

  -- names of roles differ
  pub one-declared : (roles : List RecipeRole) → are_distinct (names_of roles) ≡ true
      → (d e : Declared) → Has (map declared_of roles) d → Has (map declared_of roles) e → d.name ≡ e.name → d ≡ e
  one-declared [] distinct d e h k q = absurd h
  one-declared (x ∷ roles) distinct d e h k q = go h k (λ rest a b. one-declared roles rest d e a b q)
    where
      parts : (not (is_among (names_of roles) x.name) ≡ true) × (are_distinct (names_of roles) ≡ true)
      parts = and_parts (not (is_among (names_of roles) x.name)) (are_distinct (names_of roles)) distinct

      apart : (f : Declared) → Has (map declared_of roles) f → x.name ≡ f.name → ⊥
      apart f m p =
          let among : is_among (names_of roles) x.name ≡ true = subst (λ z. is_among (names_of roles) z ≡ true) (sym p) (declared-among roles f m) in
          let no : not (is_among (names_of roles) x.name) ≡ true = parts.0 in
          cc

      go : Has (map declared_of (x ∷ roles)) d → Has (map declared_of (x ∷ roles)) e
          → (are_distinct (names_of roles) ≡ true → Has (map declared_of roles) d → Has (map declared_of roles) e → d ≡ e) → d ≡ e
      go (inl a) (inl b) more = sym a ∙ b
      go (inl a) (inr b) more = absurd (apart e b (ap (λ z. z.name) a ∙ q))
      go (inr a) (inl b) more = absurd (apart d a (ap (λ z. z.name) b ∙ sym q))
      go (inr a) (inr b) more = more parts.1 a b

  -- a name among those of the roles is that of a declared role
  pub some-declared : (roles : List RecipeRole) (role : Name) → is_among (names_of roles) role ≡ true
      → (d : Declared) × Has (map declared_of roles) d × (d.name ≡ role)
  some-declared [] role e = absurd cc
  some-declared (x ∷ roles) role e = go (bytes_eq role x.name) refl e (some-declared roles role)
    where
      go : (t : Bool) → bytes_eq role x.name ≡ t → (t || is_among (names_of roles) role) ≡ true
          → (is_among (names_of roles) role ≡ true → (d : Declared) × Has (map declared_of roles) d × (d.name ≡ role))
          → (d : Declared) × Has (map declared_of (x ∷ roles)) d × (d.name ≡ role)
      go true q e more = (declared_of x, inl refl, sym (name_same role x.name q))
      go false q e more = let k = more e in (k.0, inr k.1, k.2)

-- Roles that charts name

abbrev is_role : Name → Option Name → Bool
is_role role o = elim o [ None ↦ false | Some own ↦ same_name own role ]

abbrev role_chosen : Option UnitChoice → Option Name
role_chosen o = elim o [ None ↦ None | Some choice ↦ elim choice [ Unit unit ↦ None | Role role ↦ Some role ] ]

abbrev has_role : List Act → Name → Name → Bool
has_role units role name = is_role role (option_and_then role_of (act_named units name))

list_any-Has : (p : Name → Bool) (names : List Name) (name : Name) → Has names name → p name ≡ true → list_any p names ≡ true
list_any-Has p [] name h e = absurd h
list_any-Has p (x ∷ names) name (inl q) e = ap (λ z. z || list_any p names) (ap p q ∙ e)
list_any-Has p (x ∷ names) name (inr h) e = grind (arith, list_any-Has p names name h e)

-- the role of a unit procedure that a label names is one that the chart names
pub named-role : (units : List Act) (names : List Name) (name : Name) → Has names name → (a : Act) → act_named units name ≡ Some a
    → (role : Name) → a.unit ≡ Some (Role role) → IsTrue (name_role units names role)
named-role units names name h a found role chosen =
    subst IsTrue
    (sym
    (list_any-Has (has_role units role) names name h
    (ap (λ o. is_role role (option_and_then role_of o)) found ∙ ap (λ o. is_role role (role_chosen o)) chosen ∙ name_self role)))
    refl
