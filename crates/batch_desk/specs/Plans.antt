-- surface: the plans of a hub's ports, and the ports and desks that are made by them.
use Rattle.std.specs.Prelude.{◌≡◌, ℕ, ◌≤◌, List, length, map, Option, Some}
use Rattle.std.specs.List.{All}
use Rattle.batch_desk.specs.declared.fault.HubFault.{HubFault}
use Rattle.batch_desk.specs.declared.fault.HubFault.TheVariants.{Memory, Limit}
use Rattle.batch_desk.specs.declared.plan.PortPlan.{PortPlan}
use Rattle.batch_desk.specs.declared.scope.Scope.{Scope}
use Rattle.batch_desk.specs.DeskState.{DeskState, IsNewDesk, desk_rings}
use Rattle.batch_desk.specs.PortState.{PortState, IsNewPort, port_rings}
use Rattle.batch_desk.specs.Rings.{sizes_of}

-- rings of 1 to 4,096 places
pub record IsPlanWithin (plan : PortPlan) : Type 0 where
  pub events_least : 1 ≤ plan.event_places
  pub events_most : plan.event_places ≤ 4096
  pub outs_least : 1 ≤ plan.out_places
  pub outs_most : plan.out_places ≤ 4096

-- 1 to 64 ports
pub record ArePlansWithin (plans : List PortPlan) : Type 0 where
  pub least : 1 ≤ length plans
  pub most : length plans ≤ 64
  pub each : All IsPlanWithin plans

-- a port's scope and its free places for outs, by its plan and as it was made
abbrev pub port_planned : PortPlan → Scope × ℕ
port_planned plan = (plan.scope, plan.out_places)

abbrev pub port_made : PortState → Scope × ℕ
port_made p = (p.scope, p.free)

-- how many places the rings of a port have
abbrev pub sizes_planned : PortPlan → ℕ × Option ℕ
sizes_planned plan = (plan.event_places, Some plan.out_places)

abbrev pub sizes_made : PortState → ℕ × Option ℕ
sizes_made p = sizes_of (port_rings p)

abbrev pub places_planned : PortPlan → ℕ
places_planned plan = plan.event_places

abbrev pub places_free : DeskState → ℕ
places_free d = d.free

-- new ports and their desks, by the plans: each port has the scope and the places that its plan says, and the rings of the desk at
-- its place
pub record AreOfPlans (plans : List PortPlan) (ports : List PortState) (desks : List DeskState) : Type 0 where
  pub ports_new : All IsNewPort ports
  pub desks_new : All IsNewDesk desks
  pub rings : map port_rings ports ≡ map desk_rings desks
  pub scopes : map port_made ports ≡ map port_planned plans
  pub places : map places_free desks ≡ map places_planned plans
  pub sizes : map sizes_made ports ≡ map sizes_planned plans

-- why no hub was made
abbrev pub RefusesNew : List PortPlan → HubFault → Type 0
RefusesNew plans Limit = ¬ ArePlansWithin plans
RefusesNew plans Memory = ArePlansWithin plans
RefusesNew plans _ = ⊥
