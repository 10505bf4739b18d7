-- surface: the state of a port.
use Rattle.std.specs.Prelude.{◌≡◌, ℕ, Bool, true, false, List, [], Option, Some, None, IsSome}
use Rattle.std.specs.declared.alloc.Global.{Global}
use Rattle.rtrb.specs.Ring.{sent, known_free}
use Rattle.rtrb.specs.declared.AnyItems.{AnyItems}
use Rattle.rtrb.specs.declared.producer.Producer.{Producer}
use Rattle.batch_engine.specs.declared.event.Event.{Event}
use Rattle.batch_engine.specs.declared.out.Out.{Out}
use Rattle.batch_desk.specs.Rings.{Ring, ring_of_producer}
use Rattle.batch_desk.specs.declared.scope.Scope.{Scope}

-- The ring of outs, until it is sealed: its identity, the outs put there, and how many places are known to be free

abbrev pub ring_of_port : Option (Producer Out Global AnyItems) → Option Ring
ring_of_port None = None
ring_of_port (Some p) = Some (ring_of_producer p)

abbrev pub put_of : Option (Producer Out Global AnyItems) → List Out
put_of None = []
put_of (Some p) = sent p

abbrev pub free_of : Option (Producer Out Global AnyItems) → ℕ
free_of None = 0
free_of (Some p) = known_free p

pub record PortState : Type 0 where
  pub scope : Scope
  -- the ring of its events, and those that were taken from it
  pub events : Ring
  pub taken : List Event
  -- the ring of its outs, until it is sealed, those that were put there, and how many places are known to be free
  pub outs : Option Ring
  pub put : List Out
  pub free : ℕ
  -- the outs that wait for a place, and for how many more memory is reserved
  pub waiting : List Out
  pub room : ℕ
  -- how long the record was when the port was closed or cut
  pub closed : Option ℕ
  pub cut : Bool

-- the parts of a port that no turn changes: its scope, its rings, and whether it is closed or cut
abbrev pub outline : PortState → PortState
outline p = record p { taken = []; put = []; free = 0; waiting = []; room = 0 }

-- the rings of a port
abbrev pub port_rings : PortState → Ring × Option Ring
port_rings p = (p.events, p.outs)

-- no event was taken and no out was added, and the port is open
pub record IsNewPort (p : PortState) : Type 0 where
  pub taken : p.taken ≡ []
  pub put : p.put ≡ []
  pub waiting : p.waiting ≡ []
  pub closed : p.closed ≡ None
  pub cut : p.cut ≡ false

-- the port is closed, nothing waits, and it was not sealed
abbrev pub IsSealable : PortState → Type 0
IsSealable p = IsSome p.closed × IsSome p.outs × (p.waiting ≡ [])

-- an open port is closed when the record has n outs
abbrev pub closed_at : Option ℕ → ℕ → PortState → PortState
closed_at None n p = record p { closed = Some n }
closed_at (Some m) n p = p

abbrev pub close_at : ℕ → PortState → PortState
close_at n p = closed_at p.closed n p

-- an open port is cut when the record has n outs
abbrev pub cut_at : ℕ → PortState → PortState
cut_at n p = record p { closed = Some n; cut = true }

abbrev pub sealed : PortState → PortState
sealed p = record p { outs = None; put = []; free = 0 }
