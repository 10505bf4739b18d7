-- private: which nodes surely run a phase, by number.
use Rattle.std.specs.Prelude.{◌≡◌, ◌≤◌, ℕ, List, Bool, length, Some, slice_get}
use Rattle.batch_recipe.specs.Nodes.{Node}
use Rattle.batch_model.specs.Cleared.{surely_runs}

-- it is known of each node from number n on
abbrev pub RunsFrom : List Node → List Bool → ℕ → Type 0
RunsFrom ns runs n = (length runs ≡ length ns) × ((k : ℕ) (x : Node) → n ≤ k → slice_get ns k ≡ Some x → slice_get runs k ≡ Some (surely_runs x.here))
