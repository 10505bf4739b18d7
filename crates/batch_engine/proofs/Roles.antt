-- Roles: the units with these numbers take them.
use Rattle.std.proofs.Common.{◌≡◌, ◌<◌, ◌≤◌, refl, ◌∙◌, ap, ℕ, zero, suc, List, [], ◌∷◌, Bool, true, false, ◌||◌, not, arith, length, get_or}
use Rattle.std.{specs.List.list_all, specs.List.list_any, specs.List.zip, proofs.lemmas.Bool.and_parts, proofs.lemmas.Bool.not-true}
use Rattle.batch_recipe.specs.{Conditions.Name, Conditions.same_name, WellFormed.are_distinct, WellFormed.is_among, WellFormed.is_role_among, declared.recipe.Recipe.Recipe}
use Rattle.batch_model.specs.Events.{bound_by}
use Rattle.batch_record_laws.proofs.Entries.{name_self}
use Rattle.batch_engine.specs.Names.{roles_of}

pub names-differ : (r : Recipe) → are_distinct (roles_of r) ≡ true
names-differ r = (and_parts (are_distinct (roles_of r)) (list_all (is_role_among (roles_of r)) r.acts.unit_procedures.items) r.own_roles).0

-- The unit that pairs bind a role to

or-none : (a b : Bool) → (a || b) ≡ false → (a ≡ false) × (b ≡ false)
or-none true b e = absurd cc
or-none false b e = (refl, e)

nowhere : (names : List Name) (name : Name) (i : ℕ) → list_any (same_name name) names ≡ false → i < length names → same_name name (get_or names i []) ≡ false
nowhere [] name i e l = absurd (omega arith)
nowhere (n ∷ names) name zero e l = (or-none (same_name name n) (list_any (same_name name) names) e).0
nowhere (n ∷ names) name (suc i) e l = nowhere names name i (or-none (same_name name n) (list_any (same_name name) names) e).1 (omega arith)

here-bound : (pair : Name × Name) (pairs : List (Name × Name)) (role : Name) → same_name pair.0 role ≡ true → bound_by (pair ∷ pairs) role ≡ pair.1
here-bound pair pairs role e = ap (λ (t : Bool). let z : Name = elim t [ true ↦ pair.1 | false ↦ bound_by pairs role ] in z) e

later-bound : (pair : Name × Name) (pairs : List (Name × Name)) (role : Name) → same_name pair.0 role ≡ false → bound_by (pair ∷ pairs) role ≡ bound_by pairs role
later-bound pair pairs role e = ap (λ (t : Bool). let z : Name = elim t [ true ↦ pair.1 | false ↦ bound_by pairs role ] in z) e

-- the roles in order, each with its unit
pub bound-at : (names us : List Name) (i : ℕ) → are_distinct names ≡ true → length names ≤ length us → i < length names → bound_by (zip names us) (get_or names i []) ≡ get_or us i []
bound-at [] us i d l m = absurd (omega arith)
bound-at (n ∷ names) [] i d l m = absurd (omega arith)
bound-at (n ∷ names) (u ∷ us) zero d l m = here-bound (n, u) (zip names us) n (name_self n)
bound-at (n ∷ names) (u ∷ us) (suc i) d l m =
    let k = and_parts (not (is_among names n)) (are_distinct names) d in
    later-bound (n, u) (zip names us) (get_or names i []) (nowhere names n i (not-true (is_among names n) k.0) (omega arith)) ∙ bound-at names us i k.1 (omega arith) (omega arith)
