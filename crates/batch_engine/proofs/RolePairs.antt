-- The units that pairs give to the roles of a recipe.
use Rattle.std.proofs.Common.{◌≡◌, ◌≤◌, refl, sym, ◌∙◌, ap, ap₂, subst, ℕ, zero, suc, List, [], ◌∷◌, Bool, true, false, ◌&&◌, ◌||◌, not, cond, Option, Some, None, arith, length, map, filter, find, get_or, nat_eq, inl, inr}
use Rattle.std.{specs.Prelude.slice_get, specs.List.list_all, specs.List.zip, proofs.lemmas.Bool.and_parts, proofs.lemmas.Bool.Decides.eqb_tells}
use Rattle.batch_cell.specs.{Equipment.unit_names, LookUps.is_of_class, LookUps.units_of_class, declared.cell.Cell.Cell, declared.unit.Unit.Unit}
use Rattle.batch_recipe.specs.{Conditions.Name, Conditions.same_name, WellFormed.are_distinct, WellFormed.is_among, declared.recipe.Recipe.Recipe}
use Rattle.batch_recipe.specs.declared.role.Role as document
use Rattle.batch_model.specs.Events as Events
use Rattle.batch_model.specs.{Events.bound_by, Events.is_binding, Plant.Master, Plant.Role}
use Rattle.batch_record_laws.proofs.Entries.{name_same, name_self}
use Rattle.batch_verify.specs.ClearedSet.{ClearedSet}
use Rattle.batch_engine.{specs.Bindings.AreTaken, specs.Bindings.are_of_roles, specs.Bindings.roles_in, specs.Creates.AreUnitsFor, specs.Names.resource_name, specs.Names.roles_taken, specs.View.master_at, proofs.BatchLookups.master-found, proofs.BatchAfterMove.fun_ext, proofs.NumbersOfNames.unit-named, proofs.MoveLines.roles-read}

abbrev names_in : List document.Role → List Name
names_in roles = map (λ (role : document.Role). role.name) roles

-- an empty name
pub no-bytes : (name : Name) → nat_eq (length name) 0 ≡ same_name name []
no-bytes [] = refl
no-bytes (x ∷ name) = elim (eqb_tells (length (x ∷ name)) 0) [ inl q ↦ absurd (let e = q.1 in omega (arith, e)) | inr q ↦ q.0 ]

-- The tests of a binding, one by one

names-kept : (cell : Cell) (roles : List document.Role) → map (λ (role : Role). role.name) (roles_in cell roles) ≡ names_in roles
names-kept cell [] = refl
names-kept cell (role ∷ roles) = ap (λ (ns : List Name). role.name ∷ ns) (names-kept cell roles)

regroup : (a b d l : Bool) → (not a && (b && (d && l))) ≡ ((not a && d) && (b && l))
regroup a b d l = grind arith

of-roles : (names : List Name) (pairs : List (Name × Name)) → are_of_roles names pairs ≡ (are_distinct (map (λ (p : Name × Name). p.0) pairs) && list_all (λ (p : Name × Name). is_among names p.0) pairs)
of-roles names [] = refl
of-roles names (pair ∷ pairs) =
    let firsts : List Name = map (λ (p : Name × Name). p.0) pairs in
    ap (λ (t : Bool). not (is_among firsts pair.0) && (is_among names pair.0 && t)) (of-roles names pairs)
    ∙ regroup (is_among firsts pair.0) (is_among names pair.0) (are_distinct firsts) (list_all (λ (p : Name × Name). is_among names p.0) pairs)

abbrev pub may_take : Cell → List (Name × Name) → document.Role → Bool
may_take cell pairs role = is_among (units_of_class cell role.class) (bound_by pairs role.name)

candidates-kept : (cell : Cell) (pairs : List (Name × Name)) (roles : List document.Role)
    → list_all (λ (role : Role). is_among role.candidates (bound_by pairs role.name)) (roles_in cell roles) ≡ list_all (may_take cell pairs) roles
candidates-kept cell pairs [] = refl
candidates-kept cell pairs (role ∷ roles) = ap (λ (t : Bool). may_take cell pairs role && t) (candidates-kept cell pairs roles)

and-together : (a b c : Bool) → (a && (b && c)) ≡ ((a && b) && c)
and-together true b c = refl
and-together false b c = refl

pub binding-is : (cell : Cell) (roles : List document.Role) (pairs : List (Name × Name))
    → is_binding (roles_in cell roles) pairs ≡ (are_of_roles (names_in roles) pairs && list_all (may_take cell pairs) roles)
binding-is cell roles pairs =
    let firsts : List Name = map (λ (p : Name × Name). p.0) pairs in
    ap₂ (λ (names : List Name) (t : Bool). are_distinct firsts && (list_all (λ (p : Name × Name). is_among names p.0) pairs && t)) (names-kept cell roles) (candidates-kept cell pairs roles)
    ∙ and-together (are_distinct firsts) (list_all (λ (p : Name × Name). is_among (names_in roles) p.0) pairs) (list_all (may_take cell pairs) roles)
    ∙ ap (λ (t : Bool). t && list_all (may_take cell pairs) roles) (sym (of-roles (names_in roles) pairs))

pub not-of-roles : (cell : Cell) (roles : List document.Role) (pairs : List (Name × Name)) → are_of_roles (names_in roles) pairs ≡ false → is_binding (roles_in cell roles) pairs ≡ false
not-of-roles cell roles pairs e = binding-is cell roles pairs ∙ ap (λ (t : Bool). t && list_all (may_take cell pairs) roles) e

all-pass : {X : Type 0} (p : X → Bool) (xs : List X) → ((k : ℕ) (x : X) → slice_get xs k ≡ Some x → p x ≡ true) → list_all p xs ≡ true
all-pass p [] h = refl
all-pass p (x ∷ xs) h = ap₂ (λ (s t : Bool). s && t) (h 0 x refl) (all-pass p xs (λ k y e. h (suc k) y e))

pub all-may : (cell : Cell) (roles : List document.Role) (pairs : List (Name × Name)) → are_of_roles (names_in roles) pairs ≡ true
    → ((k : ℕ) (role : document.Role) → slice_get roles k ≡ Some role → may_take cell pairs role ≡ true) → is_binding (roles_in cell roles) pairs ≡ true
all-may cell roles pairs e h = binding-is cell roles pairs ∙ ap₂ (λ (s t : Bool). s && t) e (all-pass (may_take cell pairs) roles h)

-- Candidates

either-none : (a b : Bool) → a ≡ false → b ≡ false → (a || b) ≡ false
either-none true b e f = absurd cc
either-none false b e f = f

either-first : (a b : Bool) → a ≡ true → (a || b) ≡ true
either-first true b e = refl
either-first false b e = absurd cc

either-second : (a b : Bool) → b ≡ true → (a || b) ≡ true
either-second true b e = refl
either-second false b e = e

-- no unit of the class has the name
pub no-candidate : (class name : Name) (units : List Unit) → ((k : ℕ) (u : Unit) → slice_get units k ≡ Some u → is_of_class class u ≡ true → same_name u.name name ≡ false)
    → is_among (unit_names (filter (is_of_class class) units)) name ≡ false
no-candidate class name [] h = refl
no-candidate class name (u ∷ units) h = go (is_of_class class u) refl (no-candidate class name units (λ k x e. h (suc k) x e))
  where
    differ : (x : Name) → same_name x name ≡ false → (t : Bool) → same_name name x ≡ t → t ≡ false
    differ x e true f = absurd (let q : ◌≡◌ {A = Bool} true false = sym (name_self x) ∙ ap (same_name x) (sym (name_same name x f)) ∙ e in cc)
    differ x e false f = refl

    go : (t : Bool) → is_of_class class u ≡ t → is_among (unit_names (filter (is_of_class class) units)) name ≡ false
        → is_among (unit_names (cond t (u ∷ filter (is_of_class class) units) (filter (is_of_class class) units))) name ≡ false
    go true e later = either-none (same_name name u.name) (is_among (unit_names (filter (is_of_class class) units)) name) (differ u.name (h 0 u refl e) (same_name name u.name) refl) later
    go false e later = later

-- a unit of the class has it
pub a-candidate : (class name : Name) (units : List Unit) (k : ℕ) (u : Unit) → slice_get units k ≡ Some u → is_of_class class u ≡ true → u.name ≡ name
    → is_among (unit_names (filter (is_of_class class) units)) name ≡ true
a-candidate class name [] k u e f g = absurd cc
a-candidate class name (x ∷ units) zero u e f g =
    let same : x ≡ u = cc in
    ap (λ (t : Bool). is_among (unit_names (cond t (x ∷ filter (is_of_class class) units) (filter (is_of_class class) units))) name) (ap (is_of_class class) same ∙ f)
    ∙ either-first (same_name name x.name) (is_among (unit_names (filter (is_of_class class) units)) name) (ap (same_name name) (ap (λ (z : Unit). z.name) same ∙ g) ∙ name_self name)
a-candidate class name (x ∷ units) (suc k) u e f g = go (is_of_class class x) (a-candidate class name units k u e f g)
  where
    go : (t : Bool) → is_among (unit_names (filter (is_of_class class) units)) name ≡ true
        → is_among (unit_names (cond t (x ∷ filter (is_of_class class) units) (filter (is_of_class class) units))) name ≡ true
    go true later = either-second (same_name name x.name) (is_among (unit_names (filter (is_of_class class) units)) name) later
    go false later = later

-- The unit that a pair of a role gives

abbrev pub given_name : Option (Name × Name) → Name
given_name None = []
given_name (Some pair) = pair.1

pub first-given : (pairs : List (Name × Name)) (role : Name) → bound_by pairs role ≡ given_name (find (λ (p : Name × Name). same_name p.0 role) pairs)
first-given [] role = refl
first-given (pair ∷ pairs) role = go (same_name pair.0 role) (first-given pairs role)
  where
    go : (t : Bool) → bound_by pairs role ≡ given_name (find (λ (p : Name × Name). same_name p.0 role) pairs)
        → elim t [ true ↦ pair.1 | false ↦ bound_by pairs role ] ≡ given_name (cond t (Some pair) (find (λ (p : Name × Name). same_name p.0 role) pairs))
    go true later = refl
    go false later = later

-- The units as the engine keeps them

unbound-name : (names : List Name) (pairs : List (Name × Name)) (name : Name) → list_all (λ (p : Name × Name). is_among names p.0) pairs ≡ true → is_among names name ≡ false → bound_by pairs name ≡ []
unbound-name names [] name h e = refl
unbound-name names (pair ∷ pairs) name h e =
    let each = and_parts (is_among names pair.0) (list_all (λ (p : Name × Name). is_among names p.0) pairs) h in
    go (same_name pair.0 name) refl each.0 (unbound-name names pairs name each.1 e)
  where
    go : (t : Bool) → same_name pair.0 name ≡ t → is_among names pair.0 ≡ true → bound_by pairs name ≡ [] → ◌≡◌ {A = Name} (elim t [ true ↦ pair.1 | false ↦ bound_by pairs name ]) []
    go true f own later = absurd (let q : ◌≡◌ {A = Bool} true false = sym own ∙ ap (is_among names) (name_same pair.0 name f) ∙ e in cc)
    go false f own later = later

module _ (c : ClearedSet) (pairs : List (Name × Name)) where
  -- the units have the names that the pairs give to the roles
  abbrev AreNamed : List document.Role → List ℕ → Type 0
  AreNamed roles units = (k : ℕ) (role : document.Role) → slice_get roles k ≡ Some role → resource_name c (get_or units k 0) ≡ bound_by pairs role.name

  abbrev kept_pairs : List document.Role → List ℕ → List (Name × Name)
  kept_pairs roles units = zip (names_in roles) (map (resource_name c) units)

  pub told-same : (roles : List document.Role) (units : List ℕ) → length roles ≤ length units → AreNamed roles units
      → Events.roles_told (roles_in c.cell roles) (bound_by pairs) ≡ kept_pairs roles units
  told-same [] [] l h = refl
  told-same [] (u ∷ units) l h = refl
  told-same (role ∷ roles) [] l h = absurd (omega arith)
  told-same (role ∷ roles) (u ∷ units) l h =
      ap₂ (λ (name : Name) (ps : List (Name × Name)). (let p : Name × Name = (role.name, name) in p) ∷ ps) (sym (h 0 role refl)) (told-same roles units (omega arith) (λ k x e. h (suc k) x e))

  bound-among : (roles : List document.Role) (units : List ℕ) → length roles ≤ length units → AreNamed roles units → (name : Name) → is_among (names_in roles) name ≡ true
      → bound_by (kept_pairs roles units) name ≡ bound_by pairs name
  bound-among [] units l h name e = absurd cc
  bound-among (role ∷ roles) [] l h name e = absurd (omega arith)
  bound-among (role ∷ roles) (u ∷ units) l h name e =
      go (same_name role.name name) refl (bound-among roles units (omega arith) (λ k x q. h (suc k) x q) name)
    where
      later : (a b : Bool) → (a || b) ≡ true → a ≡ false → b ≡ true
      later true b q f = absurd cc
      later false b q f = q

      apart : same_name role.name name ≡ false → (t : Bool) → same_name name role.name ≡ t → t ≡ false
      apart f true g = absurd (let q : ◌≡◌ {A = Bool} true false = sym (name_self role.name) ∙ ap (same_name role.name) (sym (name_same name role.name g)) ∙ f in cc)
      apart f false g = refl

      go : (t : Bool) → same_name role.name name ≡ t → (is_among (names_in roles) name ≡ true → bound_by (kept_pairs roles units) name ≡ bound_by pairs name)
          → elim t [ true ↦ resource_name c u | false ↦ bound_by (kept_pairs roles units) name ] ≡ bound_by pairs name
      go true f more = h 0 role refl ∙ ap (bound_by pairs) (name_same role.name name f)
      go false f more = more (later (same_name name role.name) (is_among (names_in roles) name) e (apart f (same_name name role.name) refl))

  bound-nowhere : (roles : List document.Role) (units : List ℕ) → (name : Name) → is_among (names_in roles) name ≡ false → bound_by (kept_pairs roles units) name ≡ []
  bound-nowhere [] [] name e = refl
  bound-nowhere [] (u ∷ units) name e = refl
  bound-nowhere (role ∷ roles) [] name e = refl
  bound-nowhere (role ∷ roles) (u ∷ units) name e = go (same_name role.name name) refl (bound-nowhere roles units name)
    where
      both : (a b : Bool) → (a || b) ≡ false → (a ≡ false) × (b ≡ false)
      both true b q = absurd cc
      both false b q = (refl, q)

      go : (t : Bool) → same_name role.name name ≡ t → (is_among (names_in roles) name ≡ false → bound_by (kept_pairs roles units) name ≡ [])
          → ◌≡◌ {A = Name} (elim t [ true ↦ resource_name c u | false ↦ bound_by (kept_pairs roles units) name ]) []
      go true f more =
          absurd (let q : ◌≡◌ {A = Bool} true false = sym (name_self name) ∙ ap (same_name name) (sym (name_same role.name name f)) ∙ (both (same_name name role.name) (is_among (names_in roles) name) e).0 in cc)
      go false f more = more (both (same_name name role.name) (is_among (names_in roles) name) e).1

  bound-same : (roles : List document.Role) (units : List ℕ) → length roles ≤ length units → AreNamed roles units → list_all (λ (p : Name × Name). is_among (names_in roles) p.0) pairs ≡ true
      → bound_by pairs ≡ bound_by (kept_pairs roles units)
  bound-same roles units l h own = fun_ext (λ name. go name (is_among (names_in roles) name) refl)
    where
      go : (name : Name) (t : Bool) → is_among (names_in roles) name ≡ t → bound_by pairs name ≡ bound_by (kept_pairs roles units) name
      go name true e = sym (bound-among roles units l h name e)
      go name false e = unbound-name (names_in roles) pairs name own e ∙ sym (bound-nowhere roles units name e)

  pub units-for : (recipe : ℕ) (r : Recipe) → slice_get c.recipes recipe ≡ Some r → (units : List ℕ) → AreTaken c.cell r.roles.items pairs units → AreUnitsFor c recipe pairs units
  units-for recipe r at units taken =
      let roles = r.roles.items in
      let own : list_all (λ (p : Name × Name). is_among (names_in roles) p.0) pairs ≡ true =
      (and_parts (are_distinct (map (λ (p : Name × Name). p.0) pairs)) (list_all (λ (p : Name × Name). is_among (names_in roles) p.0) pairs)
      (sym (of-roles (names_in roles) pairs)
      ∙ (and_parts (are_of_roles (names_in roles) pairs) (list_all (may_take c.cell pairs) roles) (sym (binding-is c.cell roles pairs) ∙ taken.binds)).0)).1 in
      let few : length roles ≤ length units = omega (arith, r.few_roles, taken.count) in
      let named : AreNamed roles units = λ k role e. unit-named c (get_or units k 0) (bound_by pairs role.name) (taken.each k role e) in
      let master : master_at c recipe ≡ Rattle.batch_model.specs.Setups.master_of c.cell r = master-found c recipe r at in
      let kept : kept_pairs roles units ≡ roles_taken c recipe units = ap (λ (ns : List Name). zip ns (map (resource_name c) units)) (sym (roles-read c recipe r at)) in
      record {
        binds = subst (λ (m : Master). is_binding m.roles pairs ≡ true) (sym master) taken.binds;
        own = record { count = taken.count; within = taken.within };
        bound = bound-same roles units few named own ∙ ap bound_by kept;
        told = ap (λ (m : Master). Events.roles_told m.roles (bound_by pairs)) master ∙ told-same roles units few named ∙ kept;
      }
