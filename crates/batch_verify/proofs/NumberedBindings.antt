-- The bindings by number are tried, and show each unit that is tried for a role.
use Rattle.std.proofs.Common.{◌≡◌, ℕ, suc, ◌<◌, ◌≤◌, max, Bool, true, false, not, cond, ◌||◌, IsTrue, List, [], ◌∷◌, ◌++◌, length, map, slice_get, Option, Some, None, refl, sym, ap, ◌∙◌, subst, arith, inl, inr}
use Rattle.std.{specs.List.find, specs.List.list_all, specs.Cmp.Lexicographic.bytes_decides, proofs.Math.Nat.le-max_left, proofs.Math.Nat.le-max_right, proofs.lemmas.Bool.false_from_ne_true, proofs.lemmas.Bool.or_from, proofs.lemmas.Bool.or_cases, proofs.lemmas.Bool.or_left, proofs.lemmas.Bool.or_right, proofs.lemmas.Bool.and_parts, proofs.lemmas.Bool.not-true, proofs.lemmas.List.length-append, proofs.lemmas.Option.slice_get_within}
use Rattle.batch_cell.specs.LookUps.{resources_of, units_of_class}
use Rattle.batch_cell.specs.declared.cell.Cell as equipment
use Rattle.batch_recipe.specs.{Conditions.Name, Conditions.same_name, Expanding.Binding, WellFormed.is_among, WellFormed.are_distinct, WellFormed.are_roles, WellFormed.is_role_among, declared.role.Role.Role}
use Rattle.batch_recipe.specs.declared.recipe.Recipe as document
use Rattle.batch_model.specs.{Lists.Each, Lists.Has, Plant.Setup, Plant.Role as ModelRole, Setups.master_of, Setups.setup_of}
use Rattle.batch_verify.{specs.Bindings.nobody, specs.Bindings.candidate_of, specs.Bindings.numbered_binding, specs.Bindings.binding_count, specs.Refusals.IsTried, specs.Refusals.IsTriedFor, proofs.NamesInList.among_at, proofs.NamesInList.same_name_sym}

-- Nobody

abbrev AreShorter : ℕ → List Name → Type 0
AreShorter n names = Each (λ name. length name < n) names

some_length : (names : List Name) → 0 < length (nobody names)
some_length [] = omega arith
some_length (name ∷ names) = omega (arith, length-append name (nobody names), some_length names)

shorter_still : (n m : ℕ) → n ≤ m → (names : List Name) → AreShorter n names → AreShorter m names
shorter_still n m le [] h = tt
shorter_still n m le (name ∷ names) h = (omega (arith, h.0, le), shorter_still n m le names h.1)

are_shorter : (names : List Name) → AreShorter (length (nobody names)) names
are_shorter [] = tt
are_shorter (name ∷ names) = (
  omega (arith, length-append name (nobody names), some_length names),
  shorter_still (length (nobody names)) (length (name ++ nobody names)) (omega (arith, length-append name (nobody names))) names (are_shorter names),
)

longer_is_apart : (names : List Name) (other : Name) → AreShorter (length other) names → is_among names other ≡ false
longer_is_apart [] other h = refl
longer_is_apart (name ∷ names) other h =
    or_from (same_name other name) (is_among names other)
    (false_from_ne_true (same_name other name) (λ e. let same : length other ≡ length name = ap length ((bytes_decides other name).0 e) in omega (arith, same, h.0)))
    (longer_is_apart names other h.1)

pub nobody-apart : (names : List Name) → is_among names (nobody names) ≡ false
nobody-apart names = longer_is_apart names (nobody names) (are_shorter names)

-- Candidates

itself : (name : Name) → same_name name name ≡ true
itself name = (bytes_decides name name).1 refl

pub record StandsAt (names : List Name) (name : Name) : Type 0 where
  pub place : ℕ
  pub found : slice_get names place ≡ Some name

pub stands_at : (names : List Name) (name : Name) → is_among names name ≡ true → StandsAt names name
stands_at [] name h = let bad : false ≡ true = h in absurd cc
stands_at (first ∷ names) name h =
    elim (or_cases (same_name name first) (is_among names name) h) [
      | inl same ↦ record { place = 0; found = ap Some (sym ((bytes_decides name first).0 same)) }
      | inr later ↦ (let at = stands_at names name later in record { place = suc at.place; found = at.found })
    ]

-- who takes a role, where these are its candidates
abbrev taken : Setup → Option Name → Name
taken setup unit = elim unit [ None ↦ nobody setup.resources | Some unit ↦ unit ]

numbered_for : (setup : Setup) (candidates : List Name) (number : ℕ) → IsTriedFor setup candidates (taken setup (candidate_of candidates number))
numbered_for setup [] number = refl
numbered_for setup (first ∷ more) number = go (slice_get (first ∷ more) number) refl
  where
    go : (o : Option Name) → slice_get (first ∷ more) number ≡ o → IsTrue (is_among (first ∷ more) (taken setup (elim o [ None ↦ Some first | Some unit ↦ Some unit ])))
    go None e = among_at (first ∷ more) 0 first first refl (itself first)
    go (Some unit) e = among_at (first ∷ more) number unit unit e (itself unit)

-- Roles by name

abbrev role_names : List Role → List Name
role_names roles = map (λ role. role.name) roles

abbrev role_named : List Role → Name → Option Role
role_named roles name = find (λ role. same_name role.name name) roles

pub record IsFoundRole (roles : List Role) (name : Name) : Type 0 where
  pub role : Role
  pub has : Has roles role
  pub found : role_named roles name ≡ Some role
  pub named : role.name ≡ name

found_role : (roles : List Role) (name : Name) → is_among (role_names roles) name ≡ true → IsFoundRole roles name
found_role [] name h = let bad : false ≡ true = h in absurd cc
found_role (first ∷ roles) name h = go (same_name first.name name) refl (found_role roles name)
  where
    go : (b : Bool) → same_name first.name name ≡ b → (is_among (role_names roles) name ≡ true → IsFoundRole roles name) → IsFoundRole (first ∷ roles) name
    go true e later = record { role = first; has = inl refl; found = ap (λ b. cond b (Some first) (role_named roles name)) e; named = (bytes_decides first.name name).0 e }
    go false e later =
        let apart : same_name name first.name ≡ false = same_name_sym first.name name false e in
        let f = later (ap (λ b. b || is_among (role_names roles) name) (sym apart) ∙ h) in
        record { role = f.role; has = inr f.has; found = ap (λ b. cond b (Some first) (role_named roles name)) e ∙ f.found; named = f.named }

pub has_name : (roles : List Role) (role : Role) (name : Name) → Has roles role → same_name name role.name ≡ true → is_among (role_names roles) name ≡ true
has_name (first ∷ roles) role name (inl e) same = or_left (same_name name first.name) (is_among (role_names roles) name) (ap (λ (r : Role). same_name name r.name) e ∙ same)
has_name (first ∷ roles) role name (inr m) same = or_right (same_name name first.name) (is_among (role_names roles) name) (has_name roles role name m same)
has_name [] role name m same = absurd m

pub own_role : (roles : List Role) → are_distinct (role_names roles) ≡ true → (role : Role) → Has roles role → role_named roles role.name ≡ Some role
own_role [] h role m = absurd m
own_role (first ∷ roles) h role (inl e) = ap (λ b. cond b (Some first) (role_named roles role.name)) ((bytes_decides first.name role.name).1 (ap (λ (r : Role). r.name) e)) ∙ ap Some e
own_role (first ∷ roles) h role (inr m) =
    let both = and_parts (not (is_among (role_names roles) first.name)) (are_distinct (role_names roles)) h in
    let apart : same_name first.name role.name ≡ false =
    false_from_ne_true (same_name first.name role.name) (λ e. let there = has_name roles role first.name m e in let no = not-true (is_among (role_names roles) first.name) both.0 in let bad : true ≡ false = sym there ∙ no in cc) in
    ap (λ b. cond b (Some first) (role_named roles role.name)) apart ∙ own_role roles both.1 role m

module _ (c : equipment.Cell) where
  pub some-binding : (roles : List Role) → 0 < binding_count c roles
  some-binding [] = omega arith
  some-binding (role ∷ roles) = omega (arith, some-binding roles, le-max_right (length (units_of_class c role.class)) (binding_count c roles))

  candidates-counted : (roles : List Role) (role : Role) → Has roles role → length (units_of_class c role.class) ≤ binding_count c roles
  candidates-counted [] role m = absurd m
  candidates-counted (first ∷ roles) role (inl e) =
      subst (λ (r : Role). length (units_of_class c r.class) ≤ max (length (units_of_class c first.class)) (binding_count c roles)) e (le-max_left (length (units_of_class c first.class)) (binding_count c roles))
  candidates-counted (first ∷ roles) role (inr m) =
      omega (arith, candidates-counted roles role m, le-max_right (length (units_of_class c first.class)) (binding_count c roles))

  -- who takes a role that is declared
  abbrev candidate_for : Option Role → ℕ → Option Name
  candidate_for found number = elim found [ None ↦ None | Some role ↦ candidate_of (units_of_class c role.class) number ]

  abbrev who : Option Role → ℕ → Name
  who found number = elim (candidate_for found number) [ None ↦ nobody (resources_of c) | Some unit ↦ unit ]

  module _ (recipes : List document.Recipe) (recipe : document.Recipe) (own : are_roles recipe.roles.items recipe.acts ≡ true) where
    abbrev setup : Setup
    setup = setup_of c recipes

    abbrev roles : List Role
    roles = recipe.roles.items

    abbrev Named : Name → Type 0
    Named name = IsTrue ((master_of c recipe).names_role name)

    abbrev model_role : Role → ModelRole
    model_role role = record { name = role.name; candidates = units_of_class c role.class }

    pub differ : are_distinct (role_names roles) ≡ true
    differ = (and_parts (are_distinct (role_names roles)) (list_all (is_role_among (role_names roles)) recipe.acts.unit_procedures.items) own).0

    -- of each role the candidate with a number of its own
    pub taken-tried : (number_for : Name → ℕ) → IsTried setup (master_of c recipe) (λ name. numbered_binding c roles (number_for name) name)
    taken-tried number_for = go roles (own_role roles differ)
      where
        go : (rest : List Role) → ((role : Role) → Has rest role → role_named roles role.name ≡ Some role)
            → Each (λ role. Named role.name → IsTriedFor setup role.candidates (numbered_binding c roles (number_for role.name) role.name)) (map model_role rest)
        go [] h = tt
        go (role ∷ rest) h = (
          (λ named.
              subst (λ found. IsTriedFor setup (units_of_class c role.class) (who found (number_for role.name))) (sym (h role (inl refl)))
              (numbered_for setup (units_of_class c role.class) (number_for role.name))),
          go rest (λ other m. h other (inr m)),
        )

    -- whether the tree names the role or not
    pub numbered-gives : (number : ℕ) (role : Role) → Has roles role → IsTriedFor setup (units_of_class c role.class) (numbered_binding c roles number role.name)
    numbered-gives number role m =
        subst (λ found. IsTriedFor setup (units_of_class c role.class) (who found number)) (sym (own_role roles differ role m)) (numbered_for setup (units_of_class c role.class) number)

    pub numbered-tried : (number : ℕ) → IsTried setup (master_of c recipe) (numbered_binding c roles number)
    numbered-tried number = taken-tried (λ name. number)

    module _ (bound : Binding) (tried : IsTried setup (master_of c recipe) bound) where
      tried_at : (rest : List Role) (role : Role) → Has rest role → Each (λ role. Named role.name → IsTriedFor setup role.candidates (bound role.name)) (map model_role rest)
          → Named role.name → IsTriedFor setup (units_of_class c role.class) (bound role.name)
      tried_at [] role m h = absurd m
      tried_at (first ∷ rest) role (inl e) h = subst (λ (r : Role). Named r.name → IsTriedFor setup (units_of_class c r.class) (bound r.name)) e h.0
      tried_at (first ∷ rest) role (inr m) h = tried_at rest role m h.1

      -- who is tried for a role that the tree names takes it in a numbered binding
      pub role-covered : (name : Name) → Named name → is_among (role_names roles) name ≡ true → (k : ℕ) × (k < binding_count c roles) × (bound name ≡ numbered_binding c roles k name)
      role-covered name named among =
          let f = found_role roles name among in
          let t : IsTriedFor setup (units_of_class c f.role.class) (bound name) =
          subst (λ n. IsTriedFor setup (units_of_class c f.role.class) (bound n)) f.named (tried_at roles f.role f.has tried (subst Named (sym f.named) named)) in
          go f.role f.found f.has (units_of_class c f.role.class) refl t
        where
          go : (role : Role) → role_named roles name ≡ Some role → Has roles role → (candidates : List Name) → units_of_class c role.class ≡ candidates → IsTriedFor setup candidates (bound name)
              → (k : ℕ) × (k < binding_count c roles) × (bound name ≡ numbered_binding c roles k name)
          go role found m [] is t =
              (0, some-binding roles, t ∙ sym (ap (λ o. who o 0) found ∙ ap (λ cs. taken setup (candidate_of cs 0)) is))
          go role found m (first ∷ more) is t =
              let at = stands_at (first ∷ more) (bound name) t in
              let within : at.place < length (first ∷ more) = slice_get_within (first ∷ more) at.place (bound name) at.found in
              let as_many : length (units_of_class c role.class) ≡ length (first ∷ more) = ap length is in (
                at.place,
                omega (arith, within, as_many, candidates-counted roles role m),
                sym (ap (λ o. who o at.place) found ∙ ap (λ cs. taken setup (candidate_of cs at.place)) is
                    ∙ ap (λ o. taken setup (elim o [ None ↦ slice_get (first ∷ more) 0 | Some unit ↦ Some unit ])) at.found),
              )

      -- who is tried for a role that the tree names, as it is declared
      pub role-tried : (name : Name) → Named name → is_among (role_names roles) name ≡ true → (role : Role) × Has roles role × (role.name ≡ name) × IsTriedFor setup (units_of_class c role.class) (bound name)
      role-tried name named among =
          let f = found_role roles name among in (
            f.role,
            f.has,
            f.named,
            subst (λ n. IsTriedFor setup (units_of_class c f.role.class) (bound n)) f.named (tried_at roles f.role f.has tried (subst Named (sym f.named) named)),
          )
