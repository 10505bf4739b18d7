-- A recipe's acts are well formed if their names differ and the names that they use are declared.
use Rattle.std.proofs.Common.{arith, ◌≡◌, Bool, true, ◌&&◌, List, [], ◌∷◌, refl}
use Rattle.std.specs.List.{list_all}
use Rattle.batch_recipe.specs.{Conditions.Name, WellFormed.act_names, WellFormed.follows_no_par, WellFormed.is_well_formed, WellFormed.is_work, declared.act.Act.Act, declared.acts.Acts.Acts}
use Rattle.batch_reader.{specs.Naming.names_differ, specs.Naming.acts_are_declared, proofs.Conjunctions.both_true}

alone : (a b : Bool) → ((a && true) && b) ≡ (a && b)
alone a b = grind arith

-- a test that all elements pass adds nothing
all_pass : (p q : Act → Bool) (xs : List Act) → list_all q xs ≡ true → list_all (λ x. p x && q x) xs ≡ list_all p xs
all_pass p q [] h = refl
all_pass p q (x ∷ xs) h =
    let k = both_true (q x) (list_all q xs) h in
    rw (k.0, all_pass p q xs k.1) (alone (p x) (list_all p xs))

pub well_formed_parts : (values : List Name) (a : Acts) → list_all follows_no_par a.unit_procedures.items ≡ true
    → is_well_formed values a ≡ (names_differ values a && acts_are_declared values a)
well_formed_parts values a no_par = grind (arith, all_pass (is_work (act_names a.operations.items) values) follows_no_par a.unit_procedures.items no_par)
