-- surface: the effect of a turn on a hub.
use Rattle.std.specs.Prelude.{◌≡◌, ℕ, ◌+◌, ◌<◌, ◌⊎◌, List, [], ◌∷◌, ◌++◌, length, IfSome, IsNone, slice_get}
use Rattle.batch_engine.specs.declared.event.Event.{Event}
use Rattle.batch_engine.specs.declared.out.Out.{Out}
use Rattle.batch_engine.specs.declared.out.Out.TheVariants.{Reply, Move}
use Rattle.batch_desk.specs.declared.turned.Turned.{Turned}
use Rattle.batch_desk.specs.declared.turned.Turned.TheVariants.{Idle, Handled, MovesLeft}
use Rattle.batch_desk.specs.HubState.{HubState, IsEngineSettled, outlines}

-- how many of the outs are moves
abbrev pub moves : List Out → ℕ
moves [] = 0
moves (Reply reply ∷ outs) = moves outs
moves (Move line ∷ outs) = 1 + moves outs

-- nothing was taken and nothing was moved
abbrev pub SameWork : HubState → HubState → Type 0
SameWork h g = (g.engine ≡ h.engine) × (g.history ≡ h.history) × (g.outs ≡ h.outs)

-- the port with this number, if there is one, is neither closed nor cut
abbrev pub IsOpen : ℕ → HubState → Type 0
IsOpen port h = IfSome (slice_get (outlines h) port) (λ p. IsNone p.closed)

-- while no move was possible, an event of this port, which is open, was put to the end of the history
pub record Pops (port : ℕ) (h g : HubState) : Type 0 where
  pub event : Event
  pub settled : IsEngineSettled h.engine
  pub was_open : IsOpen port h
  pub history : g.history ≡ h.history ++ (port, event) ∷ []

-- the history has grown by at most one entry at its end, an event of this port
abbrev pub Grows : ℕ → HubState → HubState → Type 0
Grows port h g = (g.history ≡ h.history) ⊎ Pops port h g

-- the meaning of a turn's answer
abbrev pub AnswersTurn : Turned → HubState → HubState → Type 0
AnswersTurn Idle h g = IsEngineSettled h.engine × SameWork h g
AnswersTurn Handled h g = IsEngineSettled g.engine × (length h.history + moves h.outs < length g.history + moves g.outs)
AnswersTurn MovesLeft h g = (¬ IsEngineSettled g.engine) × (moves g.outs ≡ moves h.outs + 64)

-- no out of the port waits, or no place for it is known to be free
abbrev pub IsFlushed : ℕ → HubState → Type 0
IsFlushed port h = IfSome (slice_get h.ports port) (λ p. (p.waiting ≡ []) ⊎ (p.free ≡ 0))
