-- Closing and sealing a port.
use Rattle.std.proofs.Common.{◌≡◌, ℕ, ◌+◌, ◌<◌, List, [], ◌∷◌, ◌++◌, length, map, take, Option, Some, None, IfSome, IsSome, refl, sym, ◌∙◌, ap, arith, append-nil, inl, inr, set, get_or, slice_get, subst, take_all, Result, Ok, Err, OnOk, IfErr, false}
use Rattle.std.{specs.declared.alloc.Global.Global, specs.List.All, proofs.lemmas.Option.IfSome_then, proofs.lemmas.Option.slice_get_read, proofs.lemmas.List.map_push, proofs.lemmas.List.set-get_or, proofs.lemmas.List.take_more}
use Rattle.rtrb.specs.{Ring.all_sent, Ring.consumer_capacity, Ring.producer_capacity, declared.AnyItems.AnyItems, declared.consumer.Consumer.Consumer, declared.finished.Finished.Finished, declared.producer.Producer.Producer}
use Rattle.batch_model.specs.Plant.{opening}
use Rattle.batch_engine.specs.{View.plant_of, declared.event.Event.Event, declared.out.Out.Out, View.EngineView}
use Rattle.batch_desk.specs.{declared.plan.PortPlan.PortPlan, Due.due, Due.events_of, Due.up_to, declared.fault.HubFault.HubFault, declared.fault.HubFault.TheVariants.Memory, declared.fault.HubFault.TheVariants.UnknownPort, declared.fault.HubFault.TheVariants.EventsRemain, declared.fault.HubFault.TheVariants.Limit, declared.fault.HubFault.TheVariants.Closed, declared.fault.HubFault.TheVariants.NotSealable, PortState.PortState, PortState.IsSealable, PortState.sealed, PortState.IsNewPort, PortState.closed_at, PortState.close_at, PortState.port_rings, Rings.Ring, Rings.ring_of_consumer, Rings.ring_of_producer, Rings.sizes_of, Plans.sizes_made, PortSteps.StaysOpen, DeskState.DeskState, DeskState.desk_rings, Rings.IsOfRing, HubState.HubState, HubState.IsHub, HubState.IsPort, HubState.port_outs, Ends.Closes, Ends.RefusesClose, Ends.Seals}

closes : (h : List (ℕ × Event)) (outs : List Out) (k : ℕ) (p : PortState) (c : Option ℕ) → p.closed ≡ c → IsPort h outs k p → IsPort h outs k (closed_at c (length outs) p)
closes h outs k p None e is = record {
  taken = is.taken;
  told = IfSome_then p.outs is.told (λ ring t. t ∙ (ap (λ c. due p.scope k h (up_to c outs)) e ∙ ap (due p.scope k h) (sym (take_all (length outs) outs (omega arith)))));
  closed = omega arith;
}
closes h outs k p (Some n) e is = is

-- a port with an empty queue has put all outs that are due to it
put_all : (h : List (ℕ × Event)) (outs : List Out) (k : ℕ) (p : PortState) (o : Option Ring) → p.waiting ≡ [] → IsSome o → IfSome o (λ _. port_outs p ≡ due p.scope k h (up_to p.closed outs))
    → p.put ≡ due p.scope k h (up_to p.closed outs)
put_all h outs k p None none some is = cc
put_all h outs k p (Some ring) none some is = sym (append-nil p.put) ∙ (ap (λ xs. p.put ++ xs) (sym none) ∙ is)

port_put_all : (h : List (ℕ × Event)) (outs : List Out) (k : ℕ) (p : PortState) → IsSealable p → IsPort h outs k p → p.put ≡ due p.scope k h (up_to p.closed outs)
port_put_all h outs k p can is = put_all h outs k p p.outs can.2 can.1 is.told

-- Trying to close a port: x becomes q, and r is the answer
module _ {A : Type 0} (r : Result A (HubFault × Finished Event Global AnyItems)) (x q : PortState) (n : ℕ) (sent : List Event) where
  abbrev pub IsClosing : Type 0
  IsClosing = OnOk r ((q ≡ close_at n x) × (x.cut ≡ false) × (x.taken ≡ sent))

  abbrev pub IsRefusing : Type 0
  IsRefusing = IfErr r (λ e. (q ≡ x) × StaysOpen x sent e.0)

same_rings_closed : (c : Option ℕ) (n : ℕ) (p : PortState) → port_rings (closed_at c n p) ≡ port_rings p
same_rings_closed None n p = refl
same_rings_closed (Some m) n p = refl

pub rings_tried : {A : Type 0} (n : ℕ) (x q : PortState) (sent : List Event) (r : Result A (HubFault × Finished Event Global AnyItems))
    → IsClosing r x q n sent → IsRefusing r x q n sent → port_rings q ≡ port_rings x
rings_tried n x q sent (Ok u) ok err = ap port_rings ok.0 ∙ same_rings_closed x.closed n x
rings_tried n x q sent (Err e) ok err = ap port_rings err.0

pub port_tried : {A : Type 0} (h : List (ℕ × Event)) (outs : List Out) (k n : ℕ) (x q : PortState) (sent : List Event) (r : Result A (HubFault × Finished Event Global AnyItems)) → n ≡ length outs
    → IsClosing r x q n sent → IsRefusing r x q n sent → IsPort h outs k x → IsPort h outs k q
port_tried h outs k n x q sent (Ok u) full ok err is = rw (ok.0 ∙ ap (λ m. close_at m x) full) (closes h outs k x x.closed refl is)
port_tried h outs k n x q sent (Err e) full ok err is = rw err.0 is

pub hub_closes : {A : Type 0} (h0 h g : HubState) (k n : ℕ) (x q : PortState) (sent : List Event) (r : Result A (HubFault × Finished Event Global AnyItems))
    → h0 ≡ h → IsHub h0 → k < length h0.ports → x ≡ get_or h0.ports k x → n ≡ length h0.outs → g.ports ≡ set h0.ports k q → IsClosing r x q n sent
    → OnOk r (Closes k h g sent)
hub_closes h0 h g k n x q sent (Err e) same is lt at full ports ok = tt
hub_closes h0 h g k n x q sent (Ok u) same is lt at full ports ok =
    subst (λ f. Closes k f g sent) same (record {
      p = x;
      at = slice_get_read h0.ports (length h0.ports) k x refl lt at;
      not_cut = ok.1;
      all = sym (is.ports k x lt at).taken ∙ ok.2;
      ports = ports ∙ (ap (λ y. set h0.ports k y) ok.0 ∙ ap (λ m. set h0.ports k (close_at m x)) full);
    })

stays_open : (h : HubState) (k : ℕ) (x : PortState) (sent : List Event) (fault : HubFault) → slice_get h.ports k ≡ Some x → x.taken ≡ events_of k h.history → StaysOpen x sent fault
    → RefusesClose k h sent fault
stays_open h k x sent Memory at taken why = absurd why
stays_open h k x sent UnknownPort at taken why = absurd why
stays_open h k x sent EventsRemain at taken why = inr (inr (refl, x, at, why.0, rw (sym taken) why.1))
stays_open h k x sent Limit at taken why = absurd why
stays_open h k x sent Closed at taken why = inr (inl (refl, x, at, why))
stays_open h k x sent NotSealable at taken why = absurd why

pub hub_refuses : {A : Type 0} (h0 h g : HubState) (k n : ℕ) (x q : PortState) (sent : List Event) (r : Result A (HubFault × Finished Event Global AnyItems))
    → h0 ≡ h → IsHub h0 → k < length h0.ports → x ≡ get_or h0.ports k x → g ≡ record h0 { ports = set h0.ports k q } → IsRefusing r x q n sent
    → IfErr r (λ e. (g ≡ h) × RefusesClose k h sent e.0)
hub_refuses h0 h g k n x q sent (Ok u) same is lt at ports err = tt
hub_refuses h0 h g k n x q sent (Err e) same is lt at ports err = (
  ports ∙ (ap (λ y. record h0 { ports = set h0.ports k y }) err.0 ∙ (ap (λ ps. record h0 { ports = ps }) (ap (λ y. set h0.ports k y) at ∙ set-get_or h0.ports k x) ∙ same)),
  subst (λ f. RefusesClose k f sent e.0) same (stays_open h0 k x sent e.0 (slice_get_read h0.ports (length h0.ports) k x refl lt at) (is.ports k x lt at).taken err.1),
)

pub token_back : {A : Type 0} (h0 h : HubState) (k : ℕ) (x : PortState) (sent : List Event) (r : Result A (HubFault × Finished Event Global AnyItems)) → h0 ≡ h → k < length h0.ports → x ≡ get_or h0.ports k x
    → IfErr r (λ e. (all_sent e.1 ≡ sent) × IsOfRing e.1 x.events) → IfErr r (λ e. (all_sent e.1 ≡ sent) × IfSome (slice_get h.ports k) (λ p. IsOfRing e.1 p.events))
token_back h0 h k x sent (Ok u) same lt at back = tt
token_back h0 h k x sent (Err e) same lt at back =
    subst (λ (f : HubState). (all_sent e.1 ≡ sent) × IfSome (slice_get f.ports k) (λ p. IsOfRing e.1 p.events)) same (back.0, rw (slice_get_read h0.ports (length h0.ports) k x refl lt at) back.1)

-- a port that was just made, with no history and no record
opening_port : (k : ℕ) (p : PortState) → IsNewPort p → IsPort [] [] k p
opening_port k p is = record {
  taken = is.taken;
  told = told_none p.outs;
  closed = rw is.closed tt;
} where
  told_none : (o : Option Ring) → IfSome o (λ _. port_outs p ≡ due p.scope k [] (up_to p.closed []))
  told_none None = tt
  told_none (Some ring) = let a = is.put in let b = is.waiting in rw (is.closed, a, b) refl

pub rings_pushed : (ps : List PortState) (ds : List DeskState) (p : PortState) (d : DeskState) → map port_rings ps ≡ map desk_rings ds → port_rings p ≡ desk_rings d
    → map port_rings (ps ++ p ∷ []) ≡ map desk_rings (ds ++ d ∷ [])
rings_pushed ps ds p d e f = map_push port_rings ps p ∙ (ap (λ ls. ls ++ port_rings p ∷ []) e ∙ (ap (λ l. map desk_rings ds ++ l ∷ []) f ∙ sym (map_push desk_rings ds d)))

pub opened_hub : (s : EngineView) (h : List (ℕ × Event)) (outs : List Out) (ps : List PortState) → plant_of s ≡ opening → h ≡ [] → outs ≡ [] → All IsNewPort ps
    → IsHub (record { engine = s; history = h; outs = outs; ports = ps })
opened_hub s h outs ps e f g each = rw (f, g) (record { leads = sym e; ports = λ k p lt at. opening_port k p (rw at (each k p lt)) })

pub port_seals : (h0 h g : HubState) (k : ℕ) (x q : PortState) (token : Option (Finished Out Global AnyItems)) → h0 ≡ h → IsHub h0 → k < length h0.ports → x ≡ get_or h0.ports k x → IsSealable x
    → g.ports ≡ set h0.ports k q → q ≡ sealed x → IfSome token (λ t. (all_sent t ≡ x.put) × IfSome x.outs (λ ring. IsOfRing t ring))
    → Seals k h g token
port_seals h0 h g k x q token e is lt at can ports sealed shown =
    subst (λ (f : HubState). Seals k f g token) e (record {
      p = x;
      at = slice_get_read h0.ports (length h0.ports) k x refl lt at;
      can = can;
      ports = ports ∙ ap (λ y. set h0.ports k y) sealed;
      all = IfSome_then token shown (λ t w. w.0 ∙ port_put_all h0.history h0.outs k x can (is.ports k x lt at));
      ring = IfSome_then token shown (λ t w. w.1);
    })

-- things made by the first plans, and by one more
pub planned_more : {X Y : Type 0} (f : X → Y) (g : PortPlan → Y) (xs : List X) (x : X) (plans : List PortPlan) (n : ℕ) (d : PortPlan) → n < length plans
    → map f xs ≡ map g (take n plans) → f x ≡ g (get_or plans n d) → map f (xs ++ x ∷ []) ≡ map g (take (n + 1) plans)
planned_more f g xs x plans n d lt e same =
    map_push f xs x ∙ (ap (λ ys. ys ++ f x ∷ []) e ∙ (ap (λ y. map g (take n plans) ++ y ∷ []) same
    ∙ (sym (map_push g (take n plans) (get_or plans n d)) ∙ ap (map g) (sym (take_more plans n d lt)))))

-- the rings of a new port have the places that were asked for
pub sizes_new : (p : PortState) (events : Consumer Event Global AnyItems) (outs : Producer Out Global AnyItems) (m n : ℕ) → port_rings p ≡ (ring_of_consumer events, Some (ring_of_producer outs))
    → consumer_capacity events ≡ m → producer_capacity outs ≡ n → sizes_made p ≡ (m, Some n)
sizes_new p events outs m n rings many more =
    ap sizes_of rings ∙ (ap (λ (k : ℕ). (k, Some outs.end.names.0)) (sym events.reads.2 ∙ many) ∙ ap (λ (k : ℕ). (m, Some k)) (sym outs.writes.2 ∙ more))
