-- surface: the signs of acts, and the acts of a chart noted by them.
use Rattle.std.specs.Prelude.{◌≡◌, ℕ, List, [], ◌∷◌, length, Bool, true, false, ◌&&◌, nat_lt, nat_le, nat_eq, slice_set}
use Rattle.std.specs.Int.Bits.{bit_and, bit_or, bit_xor}
use Rattle.batch_matrix.specs.declared.command.Command.{Command}
use Rattle.batch_matrix.specs.declared.command.Command.TheVariants.{Start, Pause, Resume, Hold, Restart, Stop, Abort, Reset}
use Rattle.batch_matrix.specs.declared.state.State.{State}
use Rattle.batch_matrix.specs.declared.state.State.TheVariants as state
use Rattle.batch_recipe.specs.Nodes.{node_count}
use Rattle.batch_recipe.specs.Tree.{Tree}
use Rattle.batch_model.specs.Rest.{Rest, ready, asking, open_act, live, freeing, acts}
use Rattle.batch_model.specs.Moves.{is_empty}
use Rattle.batch_recipe.specs.declared.entry.Entry.{Entry}
use Rattle.batch_chart.specs.declared.stage.Stage.{Stage}
use Rattle.batch_chart.specs.declared.stage.Stage.TheVariants as stage
use Rattle.batch_chart.specs.declared.sign.TheConstants.{LACKS, FITS, WAITS, IS_OVER, FREES, HOLDS, IS_ACT, IDLE, RUNNING, PAUSING, PAUSED, HOLDING, HELD, RESTARTING, STOPPING, STOPPED, ABORTING, ABORTED, COMPLETE, LIVES, CAN_HOLD, CAN_STOP, CAN_ABORT, CAN_RESET}
use Rattle.batch_signs.specs.Signs.{sign_at}
use Rattle.batch_chart.specs.Outlined.{kind_at}
use Rattle.batch_chart.specs.Needs.{needs_of_kind}
use Rattle.batch_chart.specs.Numbered.{numbered}

-- one of the first k needs can be given back
abbrev pub gives : ℕ → ℕ → Bool
gives needs k = nat_lt 0 k && nat_le k needs

abbrev pub flag : Bool → ℕ → ℕ
flag true sign = sign
flag false sign = 0

abbrev pub state_sign : State → ℕ
state_sign state.Idle = IDLE
state_sign state.Running = RUNNING
state_sign state.Pausing = PAUSING
state_sign state.Paused = PAUSED
state_sign state.Holding = HOLDING
state_sign state.Held = HELD
state_sign state.Restarting = RESTARTING
state_sign state.Stopping = STOPPING
state_sign state.Stopped = STOPPED
state_sign state.Aborting = ABORTING
state_sign state.Aborted = ABORTED
state_sign state.Complete = COMPLETE

-- those of all other states
abbrev pub but : State → ℕ
but x = bit_xor LIVES (state_sign x)

abbrev pub ready_signs : ℕ → ℕ → ℕ
ready_signs needs k = bit_or (bit_or (bit_or IS_ACT (flag (nat_lt k needs) LACKS)) (flag (nat_le needs k) FITS)) (flag (nat_lt 0 k && nat_lt 0 needs) HOLDS)

abbrev pub asking_signs : ℕ → ℕ → ℕ
asking_signs needs k = bit_or (bit_or IS_ACT (flag (nat_lt k needs) WAITS)) (flag (nat_lt 0 k && nat_lt 0 needs) HOLDS)

abbrev pub freeing_signs : ℕ → ℕ → ℕ
freeing_signs needs k = bit_or (bit_or IS_ACT (flag (gives needs k) FREES)) (flag (nat_lt 0 k && nat_lt 0 needs) HOLDS)

abbrev pub live_signs : ℕ → State → ℕ
live_signs needs x = bit_or (bit_or IS_ACT (state_sign x)) (flag (nat_lt 0 needs) HOLDS)

abbrev pub open_signs : ℕ → Bool → ℕ
open_signs needs over = bit_or (bit_or IS_ACT (flag over IS_OVER)) (flag (nat_lt 0 needs) HOLDS)

abbrev pub signs_of : Rest → ℕ
signs_of (ready s w k) = ready_signs (length s.needs) k
signs_of (asking s w k) = asking_signs (length s.needs) k
signs_of (open_act s r) = open_signs (length s.needs) (is_empty (acts r))
signs_of (live s p x) = live_signs (length s.needs) x
signs_of (freeing s k) = freeing_signs (length s.needs) k
signs_of _ = 0

-- the same by the stage of an act that follows no chart
abbrev pub stage_signs : ℕ → Stage → ℕ
stage_signs needs (stage.Ready k) = ready_signs needs k
stage_signs needs (stage.Asking k) = asking_signs needs k
stage_signs needs (stage.Live x) = live_signs needs x
stage_signs needs (stage.Freeing k) = freeing_signs needs k
stage_signs needs _ = 0

-- the signs of an act that had these signs in a queue, and is ready again
abbrev pub readied : ℕ → ℕ
readied signs = elim (nat_eq (bit_and signs WAITS) 0) [ true ↦ bit_or signs FITS | false ↦ bit_or (bit_xor signs WAITS) LACKS ]

-- those of the states that accept the command
abbrev pub states_accepting : Command → ℕ
states_accepting Start = IDLE
states_accepting Pause = RUNNING
states_accepting Resume = PAUSED
states_accepting Hold = CAN_HOLD
states_accepting Restart = HELD
states_accepting Stop = CAN_STOP
states_accepting Abort = CAN_ABORT
states_accepting Reset = CAN_RESET

-- the signs of the last of these acts with number k, or else `none`
abbrev pub sign_in : ℕ → List (ℕ × Rest) → ℕ → ℕ
sign_in k [] none = none
sign_in k (a ∷ more) none = sign_in k more (elim (nat_eq a.0 k) [ true ↦ signs_of a.1 | false ↦ none ])

-- each node has the signs of its act if the act is reached and isn't finished, and else none
pub record AreNoted (t : Tree) (xs : List Stage) (signs : List ℕ) : Type 0 where
  pub count : length signs ≡ node_count t
  pub shown : (k : ℕ) → sign_at signs k ≡ sign_in k (numbered t 0 xs) 0

-- the stage of the act at node k has been set, and its signs have been
pub record HasCome (ns : List Entry) (k : ℕ) (x : Stage) (xs ys : List Stage) (old new : List ℕ) : Type 0 where
  pub stages : ys ≡ slice_set xs k x
  pub signs : new ≡ slice_set old k (stage_signs (needs_of_kind (kind_at ns k)) x)
