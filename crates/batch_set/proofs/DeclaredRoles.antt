-- The acts of a recipe: their roles are declared, and the unit procedures that they reserve have units.
use Rattle.std.proofs.Common.{◌≡◌, arith, ℕ, zero, suc, List, [], ◌∷◌, map, Bool, true, false, ◌&&◌, cond, find, nat_le, not, length, Option, Some, None, refl, subst, slice_get}
use Rattle.std.{specs.List.list_all, specs.Cmp.Lexicographic.nat_list_eq_equiv, proofs.lemmas.Bool.and_parts, proofs.lemmas.Bool.not-true, proofs.lemmas.Bool.Decides.nat_tests}
use Rattle.batch_recipe.specs.{Conditions.Name, Conditions.same_name, Expanding.act_named, Outlines.act_of_kind, WellFormed.act_names, WellFormed.are_distinct, WellFormed.has_chart, WellFormed.has_unit, WellFormed.is_among, WellFormed.is_role_among, WellFormed.reserve_well, WellFormed.reserves_among, WellFormed.reserves_none, WellFormed.reserves_once, declared.act.Act.Act, declared.act.UnitChoice.UnitChoice, declared.acts.LabelTable.TheVariants.UnitProcedures, declared.acts.LabelTable.TheVariants.Operations, declared.acts.LabelTable.TheVariants.Phases, declared.entry.Kind.Kind, declared.recipe.Recipe.Recipe, declared.role.Role.Role}
use Rattle.batch_recipe.specs.declared.act.UnitChoice.TheVariants as Choice
use Rattle.batch_recipe.specs.declared.entry.Kind.TheVariants as kind

all-at : {X : Type 0} (q : X → Bool) (xs : List X) (n : ℕ) (x : X) → slice_get xs n ≡ Some x → list_all q xs ≡ true → q x ≡ true
all-at q [] n x is all = let bad : None ≡ Some x = is in cc
all-at q (y ∷ xs) zero x is all = let same : y ≡ x = cc in subst (λ z. q z ≡ true) same (and_parts (q y) (list_all q xs) all).0
all-at q (y ∷ xs) (suc n) x is all = all-at q xs n x is (and_parts (q y) (list_all q xs) all).1

found-all : {X : Type 0} (q p : X → Bool) (xs : List X) (x : X) → find p xs ≡ Some x → list_all q xs ≡ true → q x ≡ true
found-all q p [] x e all = absurd cc
found-all {X} q p (y ∷ xs) x e all = go (p y) e (λ later. found-all q p xs x later own.1)
  where
    own : (q y ≡ true) × (list_all q xs ≡ true)
    own = and_parts (q y) (list_all q xs) all

    go : (t : Bool) → cond t (Some y) (find p xs) ≡ Some x → (find p xs ≡ Some x → q x ≡ true) → q x ≡ true
    go true f later = subst (λ z. q z ≡ true) (let same : y ≡ x = cc in same) own.0
    go false f later = later f

pub same_name_sym : (a b : Name) (r : Bool) → same_name a b ≡ r → same_name b a ≡ r
same_name_sym a b r e = let turned : same_name b a ≡ same_name a b = nat_list_eq_equiv.symm b a in cc

abbrev has_found_unit : Option Act → Bool
has_found_unit found = elim found [ None ↦ false | Some a ↦ has_unit a ]

named-has : (xs : List Act) (name : Name) → list_all (λ u. has_unit u && has_chart u) xs ≡ true → is_among (act_names xs) name ≡ true → has_found_unit (act_named xs name) ≡ true
named-has [] name all is = let bad : false ≡ true = is in cc
named-has (x ∷ xs) name all is = grind (arith, and_parts, same_name_sym, named-has xs name)

none-named : (q : Name → Bool) (xs : List Name) → nat_le (length xs) 0 ≡ true → list_all q xs ≡ true
none-named q [] h = refl
none-named q (x ∷ xs) h = grind (arith, nat_tests)

module _ (r : Recipe) where
  abbrev units : List Act
  units = r.acts.unit_procedures.items

  abbrev roles : List Name
  roles = map (λ (role : Role). role.name) r.roles.items

  abbrev is_unit_procedure : Act → Bool
  is_unit_procedure u = has_unit u && has_chart u

  abbrev is_operation : Act → Bool
  is_operation o = not (has_unit o) && has_chart o

  abbrev is_phase_step : Act → Bool
  is_phase_step s = not (has_unit s) && not (has_chart s)

  tables-are : (list_all is_unit_procedure units && (list_all is_operation r.acts.operations.items && list_all is_phase_step r.acts.phases.items)) ≡ true
  tables-are = (and_parts (not (has_unit r.acts.procedure) && has_chart r.acts.procedure) _ r.kinds).1

  have-units : list_all is_unit_procedure units ≡ true
  have-units = (and_parts (list_all is_unit_procedure units) _ tables-are).0

  lower-are : (list_all is_operation r.acts.operations.items && list_all is_phase_step r.acts.phases.items) ≡ true
  lower-are = (and_parts (list_all is_unit_procedure units) _ tables-are).1

  -- the role of a unit procedure
  pub units-declared : list_all (is_role_among roles) units ≡ true
  units-declared = (and_parts (are_distinct roles) _ r.own_roles).1

  without-unit : (a : Act) → has_unit a ≡ false → is_role_among roles a ≡ true
  without-unit a e = go a.unit e
    where
      go : (o : Option UnitChoice) → elim o [ None ↦ false | Some unit ↦ true ] ≡ false
          → elim o [ None ↦ true | Some choice ↦ elim choice [ Choice.Unit unit ↦ true | Choice.Role role ↦ is_among roles role ] ] ≡ true
      go None f = refl
      go (Some choice) f = absurd cc

  -- the role of an act, where it has one
  pub declared : (k : Kind) (a : Act) → act_of_kind r.acts k ≡ Some a → is_role_among roles a ≡ true
  declared kind.Procedure a is =
      let same : r.acts.procedure ≡ a = cc in
      let none = and_parts (not (has_unit r.acts.procedure)) _ (and_parts (not (has_unit r.acts.procedure) && has_chart r.acts.procedure) _ r.kinds).0 in
      subst (λ (x : Act). is_role_among roles x ≡ true) same (without-unit r.acts.procedure (not-true (has_unit r.acts.procedure) none.0))
  declared (kind.Act UnitProcedures n) a is = all-at (is_role_among roles) units n a is units-declared
  declared (kind.Act Operations n) a is =
      let all = (and_parts (list_all is_operation r.acts.operations.items) _ lower-are).0 in
      without-unit a (not-true (has_unit a) (and_parts (not (has_unit a)) _ (all-at is_operation r.acts.operations.items n a is all)).0)
  declared (kind.Act Phases n) a is =
      let all = (and_parts (list_all is_operation r.acts.operations.items) (list_all is_phase_step r.acts.phases.items) lower-are).1 in
      without-unit a (not-true (has_unit a) (and_parts (not (has_unit a)) _ (all-at is_phase_step r.acts.phases.items n a is all)).0)
  declared _ a is = let bad : None ≡ Some a = is in cc

  in-table : (table : List Act) → reserve_well (act_names units) table ≡ true → (n : ℕ) (a : Act) → slice_get table n ≡ Some a → list_all (is_among (act_names units)) a.reserves.items ≡ true
  in-table table well n a is = all-at (reserves_among (act_names units)) table n a is (and_parts (list_all reserves_once table) (list_all (reserves_among (act_names units)) table) well).1

  own-tables : (reserve_well (act_names units) units && (reserve_well (act_names units) r.acts.operations.items && reserve_well (act_names units) r.acts.phases.items)) ≡ true
  own-tables = (and_parts (reserves_none r.acts.procedure) _ r.own_reserves).1

  lower-tables : (reserve_well (act_names units) r.acts.operations.items && reserve_well (act_names units) r.acts.phases.items) ≡ true
  lower-tables = (and_parts (reserve_well (act_names units) units) _ own-tables).1

  -- the names that an act reserves are those of unit procedures
  pub reserves-units : (k : Kind) (a : Act) → act_of_kind r.acts k ≡ Some a → list_all (is_among (act_names units)) a.reserves.items ≡ true
  reserves-units kind.Procedure a is =
      let same : r.acts.procedure ≡ a = cc in
      subst (λ (x : Act). list_all (is_among (act_names units)) x.reserves.items ≡ true) same
      (none-named (is_among (act_names units)) r.acts.procedure.reserves.items (and_parts (reserves_none r.acts.procedure) _ r.own_reserves).0)
  reserves-units (kind.Act UnitProcedures n) a is = in-table units (and_parts (reserve_well (act_names units) units) _ own-tables).0 n a is
  reserves-units (kind.Act Operations n) a is = in-table r.acts.operations.items (and_parts (reserve_well (act_names units) r.acts.operations.items) _ lower-tables).0 n a is
  reserves-units (kind.Act Phases n) a is =
      in-table r.acts.phases.items (and_parts (reserve_well (act_names units) r.acts.operations.items) (reserve_well (act_names units) r.acts.phases.items) lower-tables).1 n a is
  reserves-units _ a is = let bad : None ≡ Some a = is in cc

  -- the unit procedure with a name that is reserved
  pub named-unit : (name : Name) → is_among (act_names units) name ≡ true → (a : Act) × (act_named units name ≡ Some a) × (has_unit a ≡ true) × (is_role_among roles a ≡ true)
  named-unit name among = go (act_named units name) refl (named-has units name have-units among)
    where
      go : (found : Option Act) → act_named units name ≡ found → has_found_unit found ≡ true → (a : Act) × (act_named units name ≡ Some a) × (has_unit a ≡ true) × (is_role_among roles a ≡ true)
      go None e h = let bad : false ≡ true = h in absurd cc
      go (Some a) e h = (a, e, h, found-all (is_role_among roles) (λ (z : Act). same_name z.name name) units a e units-declared)

  pub unit-declared : (k : ℕ) (a : Act) → slice_get units k ≡ Some a → is_role_among roles a ≡ true
  unit-declared k a at = all-at (is_role_among roles) units k a at units-declared
