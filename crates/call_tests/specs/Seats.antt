-- private: facts of a hub's first port and of the desk at its other end, or of the token and the inbox that the desk left.
use Rattle.std.specs.Prelude.{◌≡◌, Option, IfSome, slice_get}
use Rattle.std.specs.declared.alloc.Global.{Global}
use Rattle.rtrb.specs.declared.AnyItems.{AnyItems}
use Rattle.rtrb.specs.declared.finished.Finished.{Finished}
use Rattle.batch_engine.specs.declared.event.Event.{Event}
use Rattle.batch_desk.specs.DeskState.{DeskState, InboxState}
use Rattle.batch_desk.specs.HubState.{HubState, rings}
use Rattle.batch_desk.specs.Rings.{IsOfRing}

-- the first port's ring of events is the desk's, and so is its ring of outs, until it is sealed
pub record IsSeated (h : HubState) (d : DeskState) : Type 0 where
  pub events : IfSome (slice_get (rings h) 0) (λ r. r.0 ≡ d.events)
  pub outs : IfSome (slice_get (rings h) 0) (λ r. IfSome r.1 (λ ring. ring ≡ d.outs))

-- the token, if there is one, is of the first port's ring of events; its ring of outs, until it is sealed, is the inbox's
pub record IsLeft (h : HubState) (token : Option (Finished Event Global AnyItems)) (i : InboxState) : Type 0 where
  pub events : IfSome token (λ t. IfSome (slice_get (rings h) 0) (λ r. IsOfRing t r.0))
  pub outs : IfSome (slice_get (rings h) 0) (λ r. IfSome r.1 (λ ring. ring ≡ i.outs))
