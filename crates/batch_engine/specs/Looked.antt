-- trusted: look-ups in a plant.
use Rattle.std.specs.Prelude.{ℕ, ◌||◌, count_by, not, Option, Some, None}
use Rattle.batch_matrix.specs.Matrix.{same_state}
use Rattle.batch_matrix.specs.declared.state.State.{State}
use Rattle.batch_matrix.specs.declared.state.State.TheVariants.{Complete}
use Rattle.batch_model.specs.Moves.{is_stopped}
use Rattle.batch_recipe.specs.Conditions.{Name, value_of}
use Rattle.batch_model.specs.Plant.{Plant, batch_at}

-- a value of the batch with this number
abbrev pub value_in : Plant → ℕ → Name → Option ℕ
value_in s n name = elim (batch_at s n) [ None ↦ None | Some b ↦ value_of b.values name ]

-- the state of the batch with this number
abbrev pub batch_state_in : Plant → ℕ → Option State
batch_state_in s n = elim (batch_at s n) [ None ↦ None | Some b ↦ Some b.state ]

-- how many batches are neither complete, stopped nor aborted
abbrev pub unfinished : Plant → ℕ
unfinished s = count_by (λ b. not (same_state b.state Complete || is_stopped b.state)) s.batches
