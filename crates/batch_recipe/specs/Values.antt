-- trusted: the values of a batch when outputs are set, which outputs a report may set, and which it leaves out.
use Rattle.std.specs.Prelude.{ℕ, List, [], ◌∷◌, map, Bool, true, false, ◌&&◌, not, nat_le, Option, find}
use Rattle.std.specs.List.{list_any}
use Rattle.batch_recipe.specs.Conditions.{Name, ValueList, same_name}
use Rattle.batch_recipe.specs.declared.scaling.TheConstants.{MAX_VALUE}

-- the values, with n for each of this name
abbrev pub with_value : Name → ℕ → ValueList → ValueList
with_value name n vs = map (λ v. elim (same_name v.0 name) [ true ↦ (name, n) | false ↦ v ]) vs

abbrev pub with_values : ValueList → ValueList → ValueList
with_values [] vs = vs
with_values (o ∷ os) vs = with_values os (with_value o.0 o.1 vs)

abbrev pub with_outputs_zero : List Name → ValueList → ValueList
with_outputs_zero names vs = with_values (map (λ name. (name, 0)) names) vs

-- each is an output of the recipe, named once, with a value in range
abbrev pub are_outputs : List Name → ValueList → Bool
are_outputs names [] = true
are_outputs names (o ∷ os) =
    list_any (same_name o.0) names && not (list_any (λ q. same_name q.0 o.0) os) && nat_le o.1 MAX_VALUE && are_outputs names os

-- the outputs have a value with this name
abbrev pub have_output : ValueList → Name → Bool
have_output outputs name = list_any (λ o. same_name o.0 name) outputs

-- the first of the names that the outputs have no value with
abbrev pub left_out : List Name → ValueList → Option Name
left_out names outputs = find (λ name. not (have_output outputs name)) names
