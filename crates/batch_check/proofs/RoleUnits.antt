-- The units that take roles, by the numbers of the candidates.
use Rattle.std.proofs.Common.{◌≡◌, ◌⊎◌, ℕ, zero, suc, ◌+◌, ◌<◌, ◌≤◌, true, false, not, List, [], ◌∷◌, ◌++◌, map, length, get_or, slice_get, Vec, Option, Some, None, refl, sym, ap, ◌∙◌, subst, arith, inl, inr, length-append}
use mathlib.Core.List.{map-map}
use Rattle.std.{specs.Cmp.Lexicographic.bytes_decides, specs.Global.Global, specs.List.Contains, proofs.lemmas.Bool.and_parts, proofs.lemmas.Bool.cases_eq, proofs.lemmas.Bool.cases_lt, proofs.lemmas.Bool.false_from_ne_true, proofs.lemmas.Bool.not-true, proofs.lemmas.List.ext_get_or, proofs.lemmas.List.get_or-set_same, proofs.lemmas.List.get_or-set_other, proofs.lemmas.List.length-map, proofs.lemmas.List.length-set, proofs.lemmas.Option.same_Some, proofs.lemmas.Option.slice_get_within}
use Rattle.batch_cell.specs.{LookUps.resources_of, declared.cell.Cell.Cell}
use Rattle.batch_recipe.{specs.Conditions.Name, specs.Conditions.same_name, specs.WellFormed.are_distinct, specs.WellFormed.is_among, specs.declared.role.Role.Role, proofs.AppendedLists.slice_get-split}
use Rattle.batch_verify.{specs.Bindings.numbered_binding, specs.Bindings.takers_of, proofs.Choices.has_at, proofs.NamesInList.same_name_sym, proofs.NumberedBindings.has_name}
use Rattle.batch_check.{specs.Collecting.AreUnitsWithin, specs.Collecting.raised, specs.Edges.number_of_resource, specs.Joining.AreBelow, specs.Takings.AreUnitsOf, specs.Takings.Taking, specs.Takings.alike, specs.Takings.apart, specs.Takings.bound_by, specs.Takings.units_by, proofs.EdgesFromNeeds.Contains-at, proofs.EdgesFromNeeds.Contains-one, proofs.EdgesFromNeeds.at-Contains, proofs.ResourceNumbers.numbers_below}

-- the last number, or one before it
pub last_or_before : (k n : ℕ) → k < n + 1 → (k < n) ⊎ (k ≡ n)
last_or_before k n lt = go (cases_lt k n)
  where
    go : (k < n) ⊎ (n ≤ k) → (k < n) ⊎ (k ≡ n)
    go (inl less) = inl less
    go (inr past) = inr (omega (arith, lt, past))

pub item_at : {X : Type 0} (xs : List X) (k : ℕ) → k < length xs → (x : X) × (slice_get xs k ≡ Some x)
item_at [] k lt = absurd (omega (arith, lt))
item_at (x ∷ xs) zero lt = (x, refl)
item_at (x ∷ xs) (suc k) lt = item_at xs k (omega (arith, lt))

-- Numbers of candidates

pub apart_own : (role name : Name) (own other : ℕ) → same_name name role ≡ true → apart role own other name ≡ own
apart_own role name own other e = ap (λ b. let n : ℕ = elim b [ true ↦ own | false ↦ other ] in n) e

pub apart_other : (role name : Name) (own other : ℕ) → same_name name role ≡ false → apart role own other name ≡ other
apart_other role name own other e = ap (λ b. let n : ℕ = elim b [ true ↦ own | false ↦ other ] in n) e

pub itself : (name : Name) → same_name name name ≡ true
itself name = (bytes_decides name name).1 refl

abbrev names_of : List Role → List Name
names_of roles = map (λ role. role.name) roles

is_there : (roles : List Role) (k : ℕ) (role : Role) (name : Name) → slice_get roles k ≡ Some role → same_name name role.name ≡ true → not (is_among (names_of roles) name) ≡ true → ⊥
is_there roles k role name at same none =
    let bad : true ≡ false = sym (has_name roles role name (has_at roles k role at) same) ∙ not-true (is_among (names_of roles) name) none in cc

-- roles at two places have two names
pub roles_apart : (roles : List Role) → are_distinct (names_of roles) ≡ true → (k n : ℕ) (role other : Role) → slice_get roles k ≡ Some role → slice_get roles n ≡ Some other → (k ≡ n → ⊥)
    → same_name other.name role.name ≡ false
roles_apart [] h k n role other at there differ = let bad : None ≡ Some role = at in absurd cc
roles_apart (first ∷ roles) h zero zero role other at there differ = absurd (differ refl)
roles_apart (first ∷ roles) h zero (suc n) role other at there differ =
    false_from_ne_true (same_name other.name role.name)
    (λ e. is_there roles n other first.name there
    (subst (λ (r : Role). same_name r.name other.name ≡ true) (sym (same_Some first role at)) (same_name_sym other.name role.name true e))
    (and_parts (not (is_among (names_of roles) first.name)) (are_distinct (names_of roles)) h).0)
roles_apart (first ∷ roles) h (suc k) zero role other at there differ =
    false_from_ne_true (same_name other.name role.name)
    (λ e. is_there roles k role first.name at
    (subst (λ (r : Role). same_name r.name role.name ≡ true) (sym (same_Some first other there)) e)
    (and_parts (not (is_among (names_of roles) first.name)) (are_distinct (names_of roles)) h).0)
roles_apart (first ∷ roles) h (suc k) (suc n) role other at there differ =
    roles_apart roles (and_parts (not (is_among (names_of roles) first.name)) (are_distinct (names_of roles)) h).1 k n role other at there (λ e. differ (ap suc e))

-- Units

module _ (cell : Cell) (roles : List Role) where
  same_in : (t u : Taking) (some : List Role) (k : ℕ) → ((role : Role) → slice_get some k ≡ Some role → t role.name ≡ u role.name)
      → get_or (map (number_of_resource cell) (map (λ (role : Role). bound_by cell roles t role.name) some)) k None ≡ get_or (map (number_of_resource cell) (map (λ (role : Role). bound_by cell roles u role.name) some)) k None
  same_in t u [] k same = refl
  same_in t u (r ∷ rs) zero same = ap (λ n. number_of_resource cell (numbered_binding cell roles n r.name)) (same r refl)
  same_in t u (r ∷ rs) (suc k) same = same_in t u rs k same

  -- where two takings give a role to candidates of one number, one unit takes it
  pub same_unit : (t u : Taking) (k : ℕ) → ((role : Role) → slice_get roles k ≡ Some role → t role.name ≡ u role.name) → get_or (units_by cell roles t) k None ≡ get_or (units_by cell roles u) k None
  same_unit t u k same = same_in t u roles k same

  pub as_many_units : (t : Taking) → length (units_by cell roles t) ≡ length roles
  as_many_units t = length-map (map (λ (role : Role). bound_by cell roles t role.name) roles) (number_of_resource cell) ∙ length-map roles (λ (role : Role). bound_by cell roles t role.name)

  -- the units of two numbers, where the role at the place takes its candidate with the one
  pub raised_is : are_distinct (names_of roles) ≡ true → (place : ℕ) (role : Role) → slice_get roles place ≡ Some role → (own other : ℕ)
      → raised place (units_by cell roles (alike own)) (units_by cell roles (alike other)) ≡ units_by cell roles (apart role.name own other)
  raised_is distinct place role at own other =
      ext_get_or None (raised place (units_by cell roles (alike own)) (units_by cell roles (alike other))) (units_by cell roles (apart role.name own other))
      (length-set (units_by cell roles (alike other)) place (get_or (units_by cell roles (alike own)) place None) ∙ (as_many_units (alike other) ∙ sym (as_many_units (apart role.name own other))))
      (λ k within. go k (cases_eq k place))
    where
      here : place < length (units_by cell roles (alike other))
      here = omega (arith, slice_get_within roles place role at, as_many_units (alike other))

      own_is : (r : Role) → slice_get roles place ≡ Some r → own ≡ apart role.name own other r.name
      own_is r is =
          let same : role ≡ r = same_Some role r (sym at ∙ is) in
          sym (apart_own role.name r.name own other (ap (λ (x : Role). same_name x.name role.name) (sym same) ∙ itself role.name))

      other_is : (k : ℕ) → (k ≡ place → ⊥) → (r : Role) → slice_get roles k ≡ Some r → other ≡ apart role.name own other r.name
      other_is k differ r is = sym (apart_other role.name r.name own other (roles_apart roles distinct place k role r at is (λ e. differ (sym e))))

      go : (k : ℕ) → (k ≡ place) ⊎ (k ≡ place → ⊥)
          → get_or (raised place (units_by cell roles (alike own)) (units_by cell roles (alike other))) k None ≡ get_or (units_by cell roles (apart role.name own other)) k None
      go k (inl same) =
          ap (λ n. get_or (raised place (units_by cell roles (alike own)) (units_by cell roles (alike other))) n None) same
          ∙ (get_or-set_same (units_by cell roles (alike other)) place (get_or (units_by cell roles (alike own)) place None) None here
          ∙ (same_unit (alike own) (apart role.name own other) place own_is ∙ ap (λ n. get_or (units_by cell roles (apart role.name own other)) n None) (sym same)))
      go k (inr differ) =
          get_or-set_other (units_by cell roles (alike other)) place k (get_or (units_by cell roles (alike own)) place None) None differ
          ∙ same_unit (alike other) (apart role.name own other) k (other_is k differ)

  pub units_none : AreUnitsOf cell roles 0 []
  units_none = record { as_many = refl; each = λ n taken at. let bad : None ≡ Some taken = at in absurd cc }

  pub units_more : (n : ℕ) (units : List (Vec (Option ℕ) Global)) (taken : Vec (Option ℕ) Global) → AreUnitsOf cell roles n units → taken.items ≡ units_by cell roles (alike n)
      → AreUnitsOf cell roles (n + 1) (units ++ taken ∷ [])
  units_more n units taken h is = record {
    as_many = omega (arith, length-append units (taken ∷ []), h.as_many);
    each = λ k own at. elim (slice_get-split units (taken ∷ []) k own at) [
      | inl inside ↦ h.each k own inside
      | inr end ↦
          let same : taken ≡ own = Contains-one taken own (Contains-at (taken ∷ []) end.0 own end.2) in
          let last : n ≡ k = omega (arith, end.1, h.as_many, slice_get_within (taken ∷ []) end.0 own end.2) in
          ap (λ (v : Vec (Option ℕ) Global). v.items) (sym same) ∙ (is ∙ ap (λ j. units_by cell roles (alike j)) last)
    ];
  }

  -- they are resources
  pub units_below : (count : ℕ) (t : Taking) (units : List (Option ℕ)) → count ≡ length (resources_of cell) → units ≡ units_by cell roles t → AreBelow count units
  units_below count t units counted is k among =
      let below = numbers_below cell (map (λ (role : Role). bound_by cell roles t role.name) roles) k (subst (λ (ns : List (Option ℕ)). Contains ns (Some k)) is among) in
      omega (arith, below, counted)

  pub units_within : (count n : ℕ) (units : List (Vec (Option ℕ) Global)) → AreUnitsOf cell roles n units → count ≡ length (resources_of cell) → (place : ℕ) → place < length roles
      → AreUnitsWithin place count units
  units_within count n units are counted place within taken among =
      let at = at-Contains units taken among in
      let is : taken.items ≡ units_by cell roles (alike at.0) = are.each at.0 taken at.1 in (
        omega (arith, within, ap (λ (ns : List (Option ℕ)). length ns) is, as_many_units (alike at.0)),
        units_below count (alike at.0) taken.items counted is,
      )

-- in the binding with a number
pub units_numbered : (cell : Cell) (roles : List Role) (n : ℕ) → takers_of cell (numbered_binding cell roles n) roles ≡ units_by cell roles (alike n)
units_numbered cell roles n = sym (map-map (number_of_resource cell) (λ (role : Role). numbered_binding cell roles n role.name) roles)
