-- A unit procedure's table has the unit, or the role in its place.
use Rattle.std.proofs.Common.{arith, ◌≡◌, ℕ, true, List, Option, Some, None, codes, refl, sym, ◌∙◌, subst}
use Rattle.std.proofs.lemmas.Bool.{false≢true}
use Rattle.toml.specs.Data.{Data, Members, get_member}
use Rattle.batch_recipe.specs.declared.act.{Act.Act, UnitChoice.UnitChoice, UnitChoice.TheVariants.Unit, UnitChoice.TheVariants.Role}
use Rattle.batch_reader.{proofs.KnownKeys.unknown_missing, proofs.OneEntry.HasName_missing, proofs.OneEntry.HasName_unique, specs.Entries.HasName, specs.Entries.MayHaveName, specs.Keys.has_known_keys, specs.Keys.is_known, specs.RecipeTables.IsUnitProcedureTable, specs.RecipeTables.choice_key, specs.RecipeTables.choice_name, specs.declared.fault.TableKind.TheVariants.UnitProcedure}

-- the key at which the choice stands: `role` where it is there, and else `unit`
abbrev unit_key : Option Data → List ℕ
unit_key None = codes "unit"
unit_key (Some role) = codes "role"

-- the choice stands at that key, since beside a role no unit is known
key_of_choice : (ms : Members) (choice : UnitChoice) (role : Option Data) → get_member (codes "role") ms ≡ role → has_known_keys UnitProcedure ms ≡ true
    → HasName (choice_key choice) ms (choice_name choice) → choice_key choice ≡ unit_key role
unfolding is_known
key_of_choice ms (Unit unit) None missing only chosen = refl
key_of_choice ms (Unit unit) (Some d) found only chosen =
    absurd (HasName_missing (codes "unit") ms unit (unknown_missing (is_known UnitProcedure ms) (codes "unit") ms only (rw found refl)) chosen)
key_of_choice ms (Role role) None missing only chosen = absurd (HasName_missing (codes "role") ms role missing chosen)
key_of_choice ms (Role role) (Some d) found only chosen = refl

key_of_table : (ms : Members) (a : Act) (h : IsUnitProcedureTable ms a) → choice_key h.choice ≡ unit_key (get_member (codes "role") ms)
key_of_table ms a h = key_of_choice ms h.choice (get_member (codes "role") ms) refl h.keys h.chosen

-- a table without a name at that key stands for none
choice_refused : (ms : Members) → ((name : List ℕ) → HasName (unit_key (get_member (codes "role") ms)) ms name → ⊥) → (a : Act) → IsUnitProcedureTable ms a → ⊥
choice_refused ms none a h = none (choice_name h.choice) (subst (λ key. HasName key ms (choice_name h.choice)) (key_of_table ms a h) h.chosen)

no_role : (ms : Members) (role : Option Data) → get_member (codes "role") ms ≡ role → ((name : Option (List ℕ)) → MayHaveName (codes "role") ms name → ⊥)
    → (name : List ℕ) → HasName (unit_key role) ms name → ⊥
no_role ms None missing none name h = none None missing
no_role ms (Some d) found none name h = none (Some name) h

pub role_refused : (ms : Members) → ((name : Option (List ℕ)) → MayHaveName (codes "role") ms name → ⊥) → (a : Act) → IsUnitProcedureTable ms a → ⊥
role_refused ms none = choice_refused ms (no_role ms (get_member (codes "role") ms) refl none)

pub unit_refused : (ms : Members) → get_member (codes "role") ms ≡ None → ((name : List ℕ) → HasName (codes "unit") ms name → ⊥) → (a : Act) → IsUnitProcedureTable ms a → ⊥
unit_refused ms missing none = choice_refused ms (λ name h. none name (subst (λ role. HasName (unit_key role) ms name) missing h))

-- the table has one choice at most
same_choice : (ms : Members) (c d : UnitChoice) → choice_key c ≡ choice_key d → HasName (choice_key c) ms (choice_name c) → HasName (choice_key d) ms (choice_name d) → c ≡ d
same_choice ms c d e h k = grind (arith, HasName_unique, false≢true)

pub same_unit : (ms : Members) (a b : Act) → IsUnitProcedureTable ms a → IsUnitProcedureTable ms b → a.unit ≡ b.unit
same_unit ms a b h k = grind (arith, same_choice ms h.choice k.choice (key_of_table ms a h ∙ sym (key_of_table ms b k)) h.chosen k.chosen, key_of_table ms a h, key_of_table ms b k)
