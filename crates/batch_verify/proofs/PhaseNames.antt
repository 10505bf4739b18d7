-- Which names are among those of two lists joined, and the names of two lists of phases joined.
use Rattle.std.proofs.Common.{◌≡◌, ◌||◌, ◌++◌, List}
use Rattle.std.proofs.lemmas.List.{map-append, Folds.list_any-append}
use Rattle.batch_recipe.specs.{Conditions.Name, Conditions.same_name, Tree.Phase, WellFormed.is_among}
use Rattle.batch_verify.specs.Walking.{phase_names}

pub is_among-append : (xs ys : List Name) (x : Name) → is_among (xs ++ ys) x ≡ (is_among xs x || is_among ys x)
is_among-append xs ys x = list_any-append (same_name x) xs ys

pub phase_names-append : (ps qs : List Phase) → phase_names (ps ++ qs) ≡ phase_names ps ++ phase_names qs
phase_names-append ps qs = map-append (λ (phase : Phase). phase.name) ps qs
