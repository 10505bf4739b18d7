-- The ports of a plant and their desks, from the new hub to the closed ports.
use Rattle.std.proofs.Common.{◌≡◌, ℕ, zero, suc, ◌+◌, List, [], ◌∷◌, ◌++◌, length, map, Option, Some, None, IfSome, option_map, slice_get, unwrap_or, refl, sym, ap, ◌∙◌, subst, add-one, arith, length-append}
use Rattle.std.{specs.List.All, specs.List.slice_set, proofs.lemmas.List.length-map, proofs.lemmas.Option.same_Some, proofs.lemmas.Option.slice_get-map, proofs.lemmas.Option.IfSome_then, proofs.lemmas.List.Elements.All-nil, proofs.lemmas.List.Elements.All-cons, proofs.lemmas.List.Elements.All-append, proofs.lemmas.List.Elements.All-head, proofs.lemmas.List.Elements.All-tail, specs.declared.alloc.Global.Global}
use Rattle.batch_matrix.specs.declared.{report.Report.Report as Word, state.State.TheVariants.Complete}
use Rattle.batch_recipe.specs.Conditions.{Name}
use Rattle.batch_cell.specs.{LookUps.phases_of, LookUps.resources_of, declared.cell.Cell.Cell}
use Rattle.batch_model.specs.Events as Events
use Rattle.batch_engine.specs.{Looked.batch_state_in, View.EngineView, View.plant_of, Surface.event_of, declared.event.Event.Event, declared.event.Event.TheVariants.Create, declared.event.Event.TheVariants.Order, declared.event.Event.TheVariants.Remove, declared.event.Event.TheVariants.Report, declared.out.Out.Out}
use Rattle.batch_desk.specs.{HubDone.AreComplete, declared.batch_plan.BatchPlan.BatchPlan, Consoles.IsConsole, Due.events_of, Ends.Seals, Rings.IsOfRing, Rings.Ring, Rings.places_of, DeskState.DeskState, DeskState.IsNewDesk, DeskState.desk_rings, HubState.AreFromPorts, HubState.HasHistoryGrown, HubState.HubState, HubState.rings, Plans.AreOfPlans, Plans.places_free, Plans.sizes_made, PortState.PortState, PortState.port_rings, PortState.sealed, declared.plan.PortPlan.PortPlan}
use Rattle.batch_sim.specs.declared.order.Order.{Order as Told}
use Rattle.rtrb.specs.{Ring.all_sent, declared.AnyItems.AnyItems, declared.finished.Finished.Finished}
use Rattle.batch_plant.specs.{Links.Deed, Links.took, Links.ticked, Links.event_list, Links.report_in, Links.report_named, Links.reports_made, Links.IsLinkRun, Parts.AreParts, Parts.HaveRings, Parts.IsRest, Parts.LinkRan, Plants.AreOfConsole, Plants.ComesFromDesks, Plants.HasEventRings, Plants.HasLink, Plants.IsReport, Plants.event_rings}

pub at_place : {X Y : Type 0} (f : X → Y) (xs : List X) (k : ℕ) (y : Y) → slice_get (map f xs) k ≡ Some y → IfSome (slice_get xs k) (λ x. f x ≡ y)
at_place f [] k y is = tt
at_place f (x ∷ xs) zero y is = same_Some (f x) y is
at_place f (x ∷ xs) (suc k) y is = at_place f xs k y is

place_after : {X Y : Type 0} (f : X → Y) (xs : List X) (k : ℕ) (x : X) → slice_get (map f (slice_set xs k x)) (suc k) ≡ slice_get (map f xs) (suc k)
place_after f [] k x = refl
place_after f (y ∷ ys) zero x = refl
place_after f (y ∷ ys) (suc k) x = place_after f ys k x

pub next_place : {X Y : Type 0} (f : X → Y) (xs : List X) (k : ℕ) (x : X) → slice_get (map f (slice_set xs k x)) (k + 1) ≡ slice_get (map f xs) (k + 1)
next_place f xs k x = rw add-one (place_after f xs k x)

-- Reports

abbrev pub IsReportEvent : Events.Event → Type 0
IsReportEvent (Events.report unit phase word outputs) = Unit {0}
IsReportEvent _ = ⊥

report_alone : (o : Option Name) (unit : Name) (word : Word) → All IsReportEvent (event_list (report_named unit o word))
report_alone None unit word = All-nil IsReportEvent
report_alone (Some name) unit word = All-cons IsReportEvent (Events.report unit name word []) [] tt (All-nil IsReportEvent)

answer_alone : (cell : Cell) (unit : ℕ) (answer : Option (ℕ × Word)) → All IsReportEvent (event_list (report_in cell unit answer))
answer_alone cell unit None = All-nil IsReportEvent
answer_alone cell unit (Some (phase, word)) = report_alone (slice_get (phases_of cell unit) phase) (unwrap_or (slice_get (resources_of cell) unit) []) word

reports_alone : (cell : Cell) (deeds : List Deed) → All IsReportEvent (reports_made cell deeds)
reports_alone cell [] = All-nil IsReportEvent
reports_alone cell (took out ∷ deeds) = reports_alone cell deeds
reports_alone cell (ticked unit answer ∷ deeds) =
    All-append IsReportEvent (event_list (report_in cell unit answer)) (reports_made cell deeds) (answer_alone cell unit answer) (reports_alone cell deeds)

of_event : (e : Event) → IsReportEvent (event_of e) → IsReport e
of_event (Create recipe size roles) is = is
of_event (Order command batch) is = is
of_event (Remove batch) is = is
of_event (Report told) is = tt

sent_alone : (more : List Event) (kept all : List Events.Event) → map event_of more ++ kept ≡ all → All IsReportEvent all → All IsReport more
sent_alone [] kept all is each = All-nil IsReport
sent_alone (e ∷ more) kept all is each =
    let here : All IsReportEvent (event_of e ∷ (map event_of more ++ kept)) = subst (All IsReportEvent) (sym is) each in
    All-cons IsReport e more (of_event e (All-head IsReportEvent (event_of e) (map event_of more ++ kept) here))
    (sent_alone more kept (map event_of more ++ kept) refl (All-tail IsReportEvent (event_of e) (map event_of more ++ kept) here))

-- a link sends reports alone
pub link_ran : {D : Type 0} (command_gives : D → ℕ → Told → D → Type 0) (tick_gives : D → Option (ℕ × Word) → D → Type 0) (cell : Cell) (d e : DeskState) (old new : List D)
    → IsLinkRun command_gives tick_gives cell d e old new → LinkRan command_gives tick_gives cell old d e
link_ran command_gives tick_gives cell d e old new h = record {
  events = h.links.events;
  outs = h.links.outs;
  more = h.links.more;
  sent = h.links.sent;
  each = sent_alone h.links.more h.kept (reports_made cell h.links.deeds) h.links.reports (reports_alone cell h.links.deeds);
  later = new;
  works = h;
}

-- a new hub has one desk for each plan
pub two_made : (plan : PortPlan) (h : HubState) (desks : List DeskState) → AreOfPlans (plan ∷ plan ∷ []) h.ports desks → length desks ≡ 2
two_made plan h desks made = sym (length-map desks places_free) ∙ ap length made.places

-- the parts of a new plant
pub parts_made : (plan : PortPlan) (h : HubState) (desks : List DeskState) (c l : DeskState) → AreOfPlans (plan ∷ plan ∷ []) h.ports desks
    → desks ≡ c ∷ l ∷ [] → AreParts h c l × (c.sent ≡ []) × (l.sent ≡ [])
parts_made plan h desks c l made both =
    let rings : map port_rings h.ports ≡ desk_rings c ∷ desk_rings l ∷ [] = made.rings ∙ ap (map desk_rings) both in
    let new : All IsNewDesk (c ∷ l ∷ []) = subst (All IsNewDesk) both made.desks_new in (
      record { of_console = ap (λ xs. slice_get xs 0) rings; of_link = ap (λ xs. slice_get xs 1) rings },
      (All-head IsNewDesk c (l ∷ []) new).0,
      (All-head IsNewDesk l [] (All-tail IsNewDesk c (l ∷ []) new)).0,
    )

-- the desks keep their ports
pub parts_stay : (h g : HubState) (c d l e : DeskState) → rings g ≡ rings h → d.events ≡ c.events → d.outs ≡ c.outs → e.events ≡ l.events → e.outs ≡ l.outs
    → AreParts h c l → AreParts g d e
parts_stay h g c d l e same c_events c_outs l_events l_outs parts = record {
  of_console = ap (λ xs. slice_get xs 0) same ∙ parts.of_console ∙ sym (rw (c_events, c_outs) refl);
  of_link = ap (λ xs. slice_get xs 1) same ∙ parts.of_link ∙ sym (rw (l_events, l_outs) refl);
}

-- Closing a port

pub token_fits : (h : HubState) (port : ℕ) (d : DeskState) (ring : Ring) → slice_get (rings h) port ≡ Some (desk_rings d) → ring ≡ d.events
    → IfSome (slice_get h.ports port) (λ p. ring ≡ p.events)
token_fits h port d ring is fits =
    IfSome_then (slice_get h.ports port) (at_place port_rings h.ports port (desk_rings d) is) (λ p e. fits ∙ sym (ap (λ (r : Ring × Option Ring). r.0) e))

pub inbox_fits : (h : HubState) (port : ℕ) (d : DeskState) (outs : Ring) → slice_get (rings h) port ≡ Some (desk_rings d) → outs ≡ d.outs
    → IfSome (slice_get (rings h) port) (λ (r : Ring × Option Ring). r.1 ≡ Some outs)
inbox_fits h port d outs is left = rw is (ap (λ (r : Ring). Some r) (sym left))

pub rest_fits : (port : ℕ) (h g : HubState) (token : Finished Out Global AnyItems) (outs : Ring) → Seals port h g (Some token)
    → IfSome (slice_get (rings h) port) (λ (r : Ring × Option Ring). r.1 ≡ Some outs) → IsOfRing token outs
rest_fits port h g token outs seals is =
    let here : slice_get (rings h) port ≡ Some (port_rings seals.p) = slice_get-map port_rings h.ports port ∙ ap (option_map port_rings) seals.at in
    let same : seals.p.outs ≡ Some outs = rw here at is in
    rw same at seals.ring

pub next_sealed : (port : ℕ) (h g : HubState) (token : Option (Finished Out Global AnyItems)) → Seals port h g token
    → slice_get (rings g) (port + 1) ≡ slice_get (rings h) (port + 1)
next_sealed port h g token seals = ap (λ ps. slice_get (map port_rings ps) (port + 1)) seals.ports ∙ next_place port_rings h.ports port (sealed seals.p)

-- complete batches are complete with the same engine
pub still_complete : (batches : ℕ) (h g : HubState) → g.engine ≡ h.engine → AreComplete batches h → AreComplete batches g
still_complete batches h g same all n least most = subst (λ (v : EngineView). batch_state_in (plant_of v) n ≡ Some Complete) (sym same) (all n least most)

-- The rings of events

map_kept : {X Y : Type 0} (f : X → Y) (xs : List X) (k : ℕ) (x y : X) → slice_get xs k ≡ Some x → f y ≡ f x → map f (slice_set xs k y) ≡ map f xs
map_kept f [] k x y at same = refl
map_kept f (z ∷ zs) zero x y at same = ap (λ w. w ∷ map f zs) (same ∙ ap f (sym (same_Some z x at)))
map_kept f (z ∷ zs) (suc k) x y at same = ap (λ ws. f z ∷ ws) (map_kept f zs k x y at same)

pub events_sealed : (port : ℕ) (h g : HubState) (token : Option (Finished Out Global AnyItems)) → Seals port h g token → event_rings g ≡ event_rings h
events_sealed port h g token seals =
    ap (map (λ (p : PortState). p.events)) seals.ports ∙ map_kept (λ (p : PortState). p.events) h.ports port seals.p (sealed seals.p) seals.at refl

events_in_rings : (ps : List PortState) → map (λ (p : PortState). p.events) ps ≡ map (λ (r : Ring × Option Ring). r.0) (map port_rings ps)
events_in_rings [] = refl
events_in_rings (p ∷ ps) = ap (λ rs. p.events ∷ rs) (events_in_rings ps)

pub events_kept : (h g : HubState) → rings g ≡ rings h → event_rings g ≡ event_rings h
events_kept h g same = events_in_rings g.ports ∙ (ap (map (λ (r : Ring × Option Ring). r.0)) same ∙ sym (events_in_rings h.ports))

places_made : (ps : List PortState) → map places_of (map (λ (p : PortState). p.events) ps) ≡ map (λ (s : ℕ × Option ℕ). s.0) (map sizes_made ps)
places_made [] = refl
places_made (p ∷ ps) = ap (λ ns. places_of p.events ∷ ns) (places_made ps)

-- the rings of a plant have at its end the places that they were made with
pub rings_at_end : (ring : ℕ) (h g k : HubState) → HaveRings ring h → rings g ≡ rings h → event_rings k ≡ event_rings g → HasEventRings ring k
rings_at_end ring h g k made same kept =
    ap (map places_of) (kept ∙ events_kept h g same) ∙ (places_made h.ports ∙ ap (map (λ (s : ℕ × Option ℕ). s.0)) made)

-- The outs left

pub rest_left : (port : ℕ) (h g : HubState) (token : Finished Out Global AnyItems) (taken there : List Out) (rest : ℕ) → Seals port h g (Some token)
    → taken ++ there ≡ all_sent token → rest ≡ length there → IsRest port h taken rest
rest_left port h g token taken there rest seals all count =
    rw seals.at (omega (arith, ap length all, length-append taken there, count, ap length seals.all))

-- The events of the desks

-- from a new hub on, all came from its two ports
pub from_two : (ring : ℕ) (h g k : HubState) → HaveRings ring h → h.history ≡ [] → HasHistoryGrown (length h.ports) h.history g.history → k.history ≡ g.history → AreFromPorts 2 k.history
from_two ring h g k made new grown same =
    let two : length h.ports ≡ 2 = sym (length-map h.ports sizes_made) ∙ ap length made in
    subst (AreFromPorts 2) (sym (same ∙ (grown.is ∙ ap (λ es. es ++ grown.more) new))) (subst (λ n. AreFromPorts n grown.more) two grown.each)

pub comes : {D : Type 0} (command_gives : D → ℕ → Told → D → Type 0) (tick_gives : D → Option (ℕ × Word) → D → Type 0) (cell : Cell) (units : List D) (plan : BatchPlan) (batches : ℕ) (h : HubState) (c d l e : DeskState) → AreFromPorts 2 h.history → c.sent ≡ [] → l.sent ≡ []
    → IsConsole plan batches c d → LinkRan command_gives tick_gives cell units l e → events_of 0 h.history ≡ d.sent → events_of 1 h.history ≡ e.sent
    → ComesFromDesks plan batches h
comes command_gives tick_gives cell units plan batches h c d l e ports none_c none_l ran ran_l all all_l = record {
  ports = ports;
  console = subst (AreOfConsole plan batches) (sym (all ∙ ran.sent ∙ ap (λ es. es ++ ran.more) none_c)) (record { each = ran.each; creates = ran.creates; once = ran.once });
  link = subst (All IsReport) (sym (all_l ∙ ran_l.sent ∙ ap (λ es. es ++ ran_l.more) none_l)) ran_l.each;
}

pub linked_at_end : {D : Type 0} (command_gives : D → ℕ → Told → D → Type 0) (tick_gives : D → Option (ℕ × Word) → D → Type 0) (cell : Cell) (units : List D) (g h : HubState) (l e : DeskState)
    → l.sent ≡ [] → slice_get (rings g) 1 ≡ Some (desk_rings e) → event_rings h ≡ event_rings g → LinkRan command_gives tick_gives cell units l e
    → events_of 1 h.history ≡ e.sent → HasLink command_gives tick_gives cell units h
linked_at_end command_gives tick_gives cell units g h l e new at kept ran all = record {
  before = l;
  after = e;
  later = ran.later;
  ring = ap (λ rs. slice_get rs 1) (kept ∙ events_in_rings g.ports)
      ∙ (slice_get-map (λ (r : Ring × Option Ring). r.0) (rings g) 1 ∙ ap (option_map (λ (r : Ring × Option Ring). r.0)) at);
  new = new;
  works = ran.works;
  all = all;
}
