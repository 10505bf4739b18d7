-- surface: how ports are closed, cut and sealed.
use Rattle.std.specs.Prelude.{◌≡◌, ℕ, ◌<◌, ◌≤◌, ◌⊎◌, List, length, true, false, Option, Some, None, IfSome, IsSome, slice_get, slice_set}
use Rattle.std.specs.declared.alloc.Global.{Global}
use Rattle.rtrb.specs.Ring.{all_sent}
use Rattle.rtrb.specs.declared.AnyItems.{AnyItems}
use Rattle.rtrb.specs.declared.finished.Finished.{Finished}
use Rattle.batch_engine.specs.declared.event.Event.{Event}
use Rattle.batch_engine.specs.declared.out.Out.{Out}
use Rattle.batch_desk.specs.declared.fault.HubFault.{HubFault}
use Rattle.batch_desk.specs.declared.fault.HubFault.TheVariants.{UnknownPort, EventsRemain, Closed, NotSealable}
use Rattle.batch_desk.specs.Rings.{IsOfRing}
use Rattle.batch_desk.specs.PortState.{PortState, IsSealable, close_at, cut_at, sealed}
use Rattle.batch_desk.specs.HubState.{HubState}
use Rattle.batch_desk.specs.Due.{due, events_of, up_to}

-- the port was closed: its events in the history are all that its desk sent, and of the record it is due no more than there is now
pub record Closes (port : ℕ) (h g : HubState) (sent : List Event) : Type 0 where
  pub p : PortState
  pub at : slice_get h.ports port ≡ Some p
  pub not_cut : p.cut ≡ false
  pub all : events_of port h.history ≡ sent
  pub ports : g.ports ≡ slice_set h.ports port (close_at (length h.outs) p)

-- why a port was not closed: it is unknown, it was cut, or events remain
abbrev pub RefusesClose : ℕ → HubState → List Event → HubFault → Type 0
RefusesClose port h sent fault =
    ((fault ≡ UnknownPort) × (length h.ports ≤ port))
    ⊎ ((fault ≡ Closed) × (p : PortState) × (slice_get h.ports port ≡ Some p) × (p.cut ≡ true))
    ⊎ ((fault ≡ EventsRemain) × (p : PortState) × (slice_get h.ports port ≡ Some p) × (p.cut ≡ false) × (length (events_of port h.history) < length sent))

-- an open port was cut: of the record it is due no more than there is now
pub record Cuts (port : ℕ) (h g : HubState) : Type 0 where
  pub p : PortState
  pub at : slice_get h.ports port ≡ Some p
  pub was_open : p.closed ≡ None
  pub ports : g.ports ≡ slice_set h.ports port (cut_at (length h.outs) p)

-- why a port was not cut: it is unknown, or it was closed or cut before
abbrev pub RefusesCut : ℕ → HubState → HubFault → Type 0
RefusesCut port h UnknownPort = length h.ports ≤ port
RefusesCut port h Closed = IfSome (slice_get h.ports port) (λ p. IsSome p.closed) × (port < length h.ports)
RefusesCut port h _ = ⊥

-- the ring of outs of a closed port, for which none wait, was ended; the outs that the token shows as put are those due to the port
pub record Seals (port : ℕ) (h g : HubState) (token : Option (Finished Out Global AnyItems)) : Type 0 where
  pub p : PortState
  pub at : slice_get h.ports port ≡ Some p
  pub can : IsSealable p
  pub ports : g.ports ≡ slice_set h.ports port (sealed p)
  pub all : IfSome token (λ t. all_sent t ≡ due p.scope port h.history (up_to p.closed h.outs))
  pub ring : IfSome token (λ t. IfSome p.outs (λ ring. IsOfRing t ring))

-- why a port was not sealed: it is unknown, or it isn't closed, outs wait, or it was sealed before
abbrev pub RefusesSeal : ℕ → HubState → HubFault → Type 0
RefusesSeal port h UnknownPort = length h.ports ≤ port
RefusesSeal port h NotSealable = IfSome (slice_get h.ports port) (λ p. ¬ IsSealable p) × (port < length h.ports)
RefusesSeal port h _ = ⊥
