-- private: the steps of a turn.
use Rattle.std.specs.Prelude.{◌≡◌, ℕ, ◌+◌, ◌<◌, ◌≤◌, ◌∷◌, [], ◌++◌}
use Rattle.batch_engine.specs.declared.event.Event.{Event}
use Rattle.batch_engine.specs.declared.line.Line.{Line}
use Rattle.batch_engine.specs.declared.out.Out.TheVariants.{Reply, Move}
use Rattle.batch_engine.specs.declared.reply.Reply.{Reply as Answer}
use Rattle.batch_desk.specs.declared.turned.Turned.{Turned}
use Rattle.batch_desk.specs.declared.turned.Turned.TheVariants.{Idle, Handled, MovesLeft}
use Rattle.batch_desk.specs.HubState.{HubState, IsEngineSettled}
use Rattle.batch_desk.specs.Turns.{IsOpen, moves}

-- one event of this port was taken and answered
pub record AnswersOne (port : ℕ) (h g : HubState) : Type 0 where
  pub event : Event
  pub reply : Answer
  pub was_open : IsOpen port h
  pub cleared : g.engine.cleared ≡ h.engine.cleared
  pub history : g.history ≡ h.history ++ (port, event) ∷ []
  pub outs : g.outs ≡ h.outs ++ Reply reply ∷ []

-- one move was made
pub record MakesMove (h g : HubState) : Type 0 where
  pub line : Line
  pub cleared : g.engine.cleared ≡ h.engine.cleared
  pub history : g.history ≡ h.history
  pub outs : g.outs ≡ h.outs ++ Move line ∷ []

-- up to 64 moves were made
abbrev pub Moved : HubState → HubState → Type 0
Moved h g = (moves h.outs ≤ moves g.outs) × (moves g.outs ≤ moves h.outs + 64)

-- the meaning of a turn's answer for its moves
abbrev pub EndsTurn : Turned → HubState → HubState → Type 0
EndsTurn Idle h g = ⊥
EndsTurn Handled h g = IsEngineSettled g.engine × (moves h.outs ≤ moves g.outs) × ((¬ IsEngineSettled h.engine) → moves h.outs < moves g.outs)
EndsTurn MovesLeft h g = (¬ IsEngineSettled g.engine) × (moves g.outs ≡ moves h.outs + 64)
