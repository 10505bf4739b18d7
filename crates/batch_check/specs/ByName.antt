-- trusted: circles and rankings of a cell's resources, by name.
use Rattle.std.specs.Prelude.{◌≡◌, ℕ, ◌<◌, List, [], ◌∷◌, length, slice_index, ⊤, ◌↔◌}
use Rattle.std.specs.Cmp.Lexicographic.{slice_cmp}
use Rattle.std.specs.List.{All, AllPairs, slice_index_or, zip}
use Rattle.std.specs.List.Sorted.{IsPermutation}
use Rattle.std.specs.Ordering.{nat_cmp}
use Rattle.std.specs.declared.cmp.Ordering.TheVariants.{Less}
use Rattle.batch_cell.specs.LookUps.{resources_of}
use Rattle.batch_cell.specs.declared.cell.Cell.{Cell}
use Rattle.batch_recipe.specs.Conditions.{Name}
use Rattle.batch_verify.specs.Refusals.{rank_in}
use Rattle.batch_check.specs.declared.edge.Edge.{Edge}
use Rattle.batch_check.specs.LeastRanking.{HasEndsBelow}

-- the name of the resource with this number
abbrev pub resource_name_in : Cell → ℕ → Name
resource_name_in c resource = slice_index_or (resources_of c) resource []

-- the first name comes before the second in the order of their bytes
abbrev pub IsBelow : Name → Name → Type 0
IsBelow x y = slice_cmp nat_cmp x y ≡ Less

-- no resource that the edges come from has a name below that of the resource that the first edge comes from
abbrev pub BeginsWithLeastName : Cell → List Edge → Type 0
BeginsWithLeastName c [] = ⊤
BeginsWithLeastName c (first ∷ rest) = All (λ e. ¬ (IsBelow (resource_name_in c e.earlier) (resource_name_in c first.earlier))) rest

-- each resource's name with its rank, in order of name
pub record IsCertificateOf (c : Cell) (ranks : List ℕ) (entries : List (Name × ℕ)) : Type 0 where
  pub whole : IsPermutation (zip (resources_of c) ranks) entries
  pub in_order : AllPairs (λ x y. IsBelow x.0 y.0) entries

-- the rank of a resource's name is the rank of its number
abbrev pub RanksByName : Type 0
RanksByName = (c : Cell) (ranks : List ℕ) (resource : ℕ) → resource < length (resources_of c)
    → rank_in c ranks (resource_name_in c resource) ≡ slice_index ranks resource

-- along edges between resources, ranks rise by name just where they rise by number
abbrev pub RanksRiseByName : Type 0
RanksRiseByName = (c : Cell) (ranks : List ℕ) (edges : List Edge) → HasEndsBelow (length (resources_of c)) edges
    → (All (λ e. slice_index ranks e.earlier < slice_index ranks e.later) edges
    ↔ All (λ e. rank_in c ranks (resource_name_in c e.earlier) < rank_in c ranks (resource_name_in c e.later)) edges)
