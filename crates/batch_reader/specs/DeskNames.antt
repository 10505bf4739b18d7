-- trusted: the names of desks.
use Rattle.std.specs.Prelude.{ℕ, List, map, nat_eq}
use Rattle.std.specs.Cmp.Lexicographic.{pointwise}
use Rattle.std.specs.List.{IsDistinct}
use Rattle.batch_reader.specs.declared.desk.Desk.{Desk}

abbrev pub desk_names : List Desk → List (List ℕ)
desk_names desks = map (λ desk. desk.name) desks

abbrev pub HaveDistinctNames : List Desk → Type 0
HaveDistinctNames desks = IsDistinct (pointwise nat_eq) (desk_names desks)
