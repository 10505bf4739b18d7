-- surface: values of which no two have the same name.
use Rattle.std.specs.Prelude.{◌≡◌, map, true}
use Rattle.batch_recipe.specs.Conditions.{ValueList}
use Rattle.batch_recipe.specs.WellFormed.{are_distinct}

-- no name has two values
abbrev pub HaveDistinctValueNames : ValueList → Type 0
HaveDistinctValueNames vs = are_distinct (map (λ v. v.0) vs) ≡ true
