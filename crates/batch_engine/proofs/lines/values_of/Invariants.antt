use Rattle.std.proofs.Common.{◌≡◌, ◌<◌, ℕ, [], length, get_or}
use Rattle.batch_recipe.specs.Conditions.{value_or_0}
use Rattle.batch_engine.proofs.lines.values_of.Given as goal

-- the values of the names so far stand in their places
abbrev pub invariant-loop-index : goal.invariant-loop-index
invariant-loop-index l = (length l.handed ≡ 4) × ((k : ℕ) → k < l.index → get_or l.handed k 0 ≡ value_or_0 l.values (get_or l.names k []))
