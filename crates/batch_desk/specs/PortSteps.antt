-- private: the effects of the calls of a port.
use Rattle.std.specs.Prelude.{◌≡◌, ℕ, ◌-◌, ◌<◌, ◌⊎◌, List, [], ◌∷◌, ◌++◌, Option, Some, None, MatchOption, IsNone, cond, length, slice_index_or, true, false}
use Rattle.batch_engine.specs.Answered.{IsAnswered}
use Rattle.batch_engine.specs.Surface.{event_of}
use Rattle.batch_engine.specs.View.{EngineView}
use Rattle.batch_engine.specs.declared.event.Event.{Event}
use Rattle.batch_engine.specs.declared.line.Line.{Line}
use Rattle.batch_engine.specs.declared.out.Out.{Out}
use Rattle.batch_engine.specs.declared.out.Out.TheVariants.{Move, Reply}
use Rattle.batch_engine.specs.declared.reply.Reply.{Reply as Answer}
use Rattle.batch_desk.specs.declared.fault.HubFault.{HubFault}
use Rattle.batch_desk.specs.declared.fault.HubFault.TheVariants.{EventsRemain, Closed}
use Rattle.batch_desk.specs.Due.{sees}
use Rattle.batch_desk.specs.PortState.{PortState}

-- the outs that fit went from those that wait into the ring, in order
pub record Flushes (p q : PortState) : Type 0 where
  pub scope : q.scope ≡ p.scope
  pub events : q.events ≡ p.events
  pub taken : q.taken ≡ p.taken
  pub outs : q.outs ≡ p.outs
  pub order : q.put ++ q.waiting ≡ p.put ++ p.waiting
  pub most : (q.waiting ≡ []) ⊎ (q.free ≡ 0)
  pub closed : q.closed ≡ p.closed
  pub cut : q.cut ≡ p.cut

-- an event was taken from the ring, or none was there
abbrev pub TakesEvent : PortState → Option Event → PortState → Type 0
TakesEvent p event q = MatchOption event (q ≡ p) (λ e. q ≡ record p { taken = p.taken ++ e ∷ [] })

abbrev pub without_room : PortState → PortState
without_room p = record p { room = 0 }

-- room for one more out is reserved, unless the port is closed
abbrev pub HasRoom : PortState → Type 0
HasRoom p = IsNone p.closed → 0 < p.room

abbrev pub AllHaveRoom : List PortState → Type 0
AllHaveRoom ps = (k : ℕ) (d : PortState) → k < length ps → HasRoom (slice_index_or ps k d)

-- an out is appended to the port's queue, unless the port is closed
abbrev pub tell : Option ℕ → Out → PortState → PortState
tell None out p = record p { waiting = p.waiting ++ out ∷ []; room = p.room - 1 }
tell (Some n) out p = p

abbrev pub owe : Out → PortState → PortState
owe out p = tell p.closed out p

-- a move that is in the port's scope is appended to its queue, unless the port is closed
abbrev pub owe_line : Line → PortState → PortState
owe_line line p = cond (sees p.scope line) (owe (Move line) p) p

-- an event was taken from the port, and answered
abbrev pub answered : Event → Answer → PortState → PortState
answered event reply p = record p { taken = p.taken ++ event ∷ []; waiting = p.waiting ++ Reply reply ∷ [] }

-- one event was taken and given to the engine, if the port is open and one was there
abbrev pub HandlesEvent : PortState → EngineView → Option (Event × Answer) → PortState → EngineView → Type 0
HandlesEvent p s done q t =
    MatchOption done ((without_room q ≡ without_room p) × (t ≡ s))
    (λ d. IsNone p.closed × IsAnswered s (event_of d.0) d.1 t × (without_room q ≡ without_room (answered d.0 d.1 p)))

-- why a port was not closed: it was cut, or events remain
abbrev pub StaysOpen : PortState → List Event → HubFault → Type 0
StaysOpen p sent Closed = p.cut ≡ true
StaysOpen p sent EventsRemain = (p.cut ≡ false) × (length p.taken < length sent)
StaysOpen p sent _ = ⊥
