-- trusted: the state of a plant by its record, beside who holds and who waits: which batches are listed, and in which state each
-- live phase is.
use Rattle.std.specs.Prelude.{ℕ, List, [], ◌∷◌, ◌++◌, map, filter, fold, Bool, true, false, not, Option, Some, None, option_map, unwrap_or, nat_eq}
use Rattle.batch_matrix.specs.declared.state.State.{State}
use Rattle.batch_matrix.specs.declared.state.State.TheVariants.{Idle, Running, Paused, Held}
use Rattle.batch_matrix.specs.declared.command.Command.{Command}
use Rattle.batch_matrix.specs.declared.report.Report.{Report}
use Rattle.batch_matrix.specs.Matrix.{after}
use Rattle.batch_recipe.specs.Conditions.{Name}
use Rattle.batch_model.specs.Plant.{BatchAct, Share, is_same_act}
use Rattle.batch_model.specs.Moves as moves
use Rattle.batch_model.specs.Events.{created, ordered, removed, reported}
use Rattle.batch_model.specs.Runs.{Out, reply, move}
use Rattle.batch_model.specs.Records.{ends_phase, holders_after, waiters_after}

-- Batches

-- the recipe of a batch, its size, and the last state that a line gives
pub record Listed : Type 0 where
  pub recipe : Name
  pub size : ℕ
  pub state : State

abbrev pub in_state : State → Listed → Listed
in_state becomes listed = record { recipe = listed.recipe; size = listed.size; state = becomes }

-- a line gives the batch's state: it changes if the number is the batch's
abbrev pub state_told_to : ℕ → ℕ → State → Option Listed → Option Listed
state_told_to number batch becomes old = elim (nat_eq batch number) [ true ↦ option_map (in_state becomes) old | false ↦ old ]

-- a batch is listed from its making to its removal
abbrev pub listed_after : ℕ → Option Listed → Out → Option Listed
listed_after number old (reply (created batch recipe size roles)) =
    elim (nat_eq batch number) [ true ↦ Some (record { recipe = recipe; size = size; state = Idle }) | false ↦ old ]
listed_after number old (reply (ordered command batch becomes)) = state_told_to number batch becomes old
listed_after number old (reply (removed batch)) = elim (nat_eq batch number) [ true ↦ None | false ↦ old ]
listed_after number old (reply (reported unit name word batch place becomes)) = state_told_to number batch becomes old
listed_after number old (move (moves.state batch becomes)) = state_told_to number batch becomes old
listed_after number old _ = old

-- Live phases

-- a phase of a unit that a phase step runs, and its state
pub record Live : Type 0 where
  pub act : BatchAct
  pub unit : Name
  pub name : Name
  pub state : State

abbrev pub is_at : BatchAct → Live → Bool
is_at act live = is_same_act live.act act

-- the state of the phases at the act became another
abbrev pub moved_at : BatchAct → (State → State) → List Live → List Live
moved_at act change lives =
    map (λ live. elim (is_at act live) [ true ↦ record { act = live.act; unit = live.unit; name = live.name; state = change live.state } | false ↦ live ]) lives

-- the state to which a command leads, or the same if it isn't accepted
abbrev pub led_by : Command → State → State
led_by command now = unwrap_or (after now command) now

-- the state of a phase that goes on after a report
abbrev pub said_by : Report → State → State
said_by Report.Paused now = Paused
said_by Report.Held now = Held
said_by Report.Running now = Running
said_by _ now = now

-- a phase runs from its start, and commands and reports change its state, until a report ends it
abbrev pub live_after : List Live → Out → List Live
live_after lives (move (moves.start number place phase handed)) =
    lives ++ (record { act = (number, place); unit = phase.unit; name = phase.name; state = Running }) ∷ []
live_after lives (move (moves.send number place phase command)) = moved_at (number, place) (led_by command) lives
live_after lives (reply (reported unit name word number place becomes)) =
    elim (ends_phase word) [ true ↦ filter (λ live. not (is_at (number, place) live)) lives | false ↦ moved_at (number, place) (said_by word) lives ]
live_after lives _ = lives

-- All of it

-- who holds each resource and who waits for it, the oldest first; which batches are listed; and the live phases, the oldest first
pub record Tale : Type 0 where
  pub holders : Name → List Share
  pub waiters : Name → List Share
  pub batches : ℕ → Option Listed
  pub live : List Live

-- the state before the first line of a record
abbrev pub empty_tale : Tale
empty_tale = record { holders = λ resource. []; waiters = λ resource. []; batches = λ number. None; live = [] }

-- the state by a record, an out later
abbrev pub tale_after : Tale → Out → Tale
tale_after tale out =
    record {
      holders = λ resource. holders_after resource (tale.holders resource) out;
      waiters = λ resource. waiters_after resource (tale.waiters resource) out;
      batches = λ number. listed_after number (tale.batches number) out;
      live = live_after tale.live out;
    }

-- the state by the outs of a record
abbrev pub tale_told : List Out → Tale
tale_told outs = fold tale_after empty_tale outs
