-- private: to which resources edges lead.
use Rattle.std.specs.Prelude.{◌≡◌, ℕ, Bool, true, false, List, slice_index_or}
use Rattle.std.specs.List.{All, Contains}
use Rattle.batch_check.specs.LeastRanking.{LeadsAlong}
use Rattle.batch_check.specs.declared.edge.Edge.{Edge}

-- edges lead from the start to the resource
pub record IsReached (edges : List Edge) (start resource : ℕ) : Type 0 where
  pub walk : List Edge
  pub leads : LeadsAlong start walk resource
  pub standing : All (Contains edges) walk

-- so to each resource that is marked
abbrev pub AreReached : List Edge → ℕ → List Bool → Type 0
AreReached edges start marks = (resource : ℕ) → slice_index_or marks resource false ≡ true → IsReached edges start resource
