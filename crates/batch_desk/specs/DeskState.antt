-- surface: the states of a desk and of its inbox.
use Rattle.std.specs.Prelude.{◌≡◌, ℕ, List, [], ◌∷◌, ◌++◌, Option, Some, MatchOption}
use mathlib.Core.List.{IsPrefix}
use Rattle.batch_engine.specs.declared.event.Event.{Event}
use Rattle.batch_engine.specs.declared.out.Out.{Out}
use Rattle.batch_desk.specs.Rings.{Ring}

pub record DeskState : Type 0 where
  -- the ring of its events, and that of its outs
  pub events : Ring
  pub outs : Ring
  -- the events that it sent, and the outs that it took
  pub sent : List Event
  pub taken : List Out
  -- how many places for events it knows to be free
  pub free : ℕ

pub record InboxState : Type 0 where
  pub outs : Ring
  pub taken : List Out
  -- the outs that it knows to be in the ring
  pub there : List Out

-- an out was taken, or none was there
abbrev pub TakesOut : DeskState → Option Out → DeskState → Type 0
TakesOut d out e = MatchOption out (e ≡ d) (λ x. e ≡ record d { taken = d.taken ++ x ∷ [] })

-- the event was appended to those sent
pub record Sends (d : DeskState) (event : Event) (e : DeskState) : Type 0 where
  pub sent : e.sent ≡ d.sent ++ event ∷ []
  pub others : e ≡ record d { sent = e.sent; free = e.free }

-- the inbox has the desk's ring of outs, and the outs that the desk took
abbrev pub IsLeftOf : DeskState → InboxState → Type 0
IsLeftOf d i = (i.outs ≡ d.outs) × (i.taken ≡ d.taken)

-- an out was taken: the first of those that are known to be there
pub record TakesNext (i : InboxState) (x : Out) (j : InboxState) : Type 0 where
  pub outs : j.outs ≡ i.outs
  pub taken : j.taken ≡ i.taken ++ x ∷ []
  pub others : IsPrefix i.there (x ∷ j.there)

-- the rings of a desk, as its port has them
abbrev pub desk_rings : DeskState → Ring × Option Ring
desk_rings d = (d.events, Some d.outs)

-- nothing was sent or taken
abbrev pub IsNewDesk : DeskState → Type 0
IsNewDesk d = (d.sent ≡ []) × (d.taken ≡ [])
