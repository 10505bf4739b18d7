-- surface: which node of a chart is above which.
use Rattle.std.specs.Prelude.{◌<◌, ◌≤◌, ℕ, List, length}
use Rattle.batch_recipe.specs.declared.entry.Entry.{Entry}
use Rattle.batch_chart.specs.Outlined.{entry_at, end_at}

abbrev pub parent_at : List Entry → ℕ → ℕ
parent_at ns n = (entry_at ns n).parent

-- node p is the next above node n: its subtree goes past n, and those of the nodes between them have ended
pub record IsAbove (ns : List Entry) (p n : ℕ) : Type 0 where
  pub before : p < n
  pub past : n < end_at ns p
  pub between : (m : ℕ) → p < m → m < n → end_at ns m ≤ n

-- each node but the first, up to node j, has the number of the one above it
abbrev pub HaveParentsTo : List Entry → ℕ → Type 0
HaveParentsTo ns j = (n : ℕ) → 0 < n → n < j → IsAbove ns (parent_at ns n) n

abbrev pub HaveParents : List Entry → Type 0
HaveParents ns = HaveParentsTo ns (length ns)
