-- The effects of one event and of one move on a hub.
use Rattle.std.proofs.Common.{◌≡◌, ℕ, ◌<◌, List, [], ◌∷◌, ◌++◌, map, length, get_or, set, Option, Some, IsNone, IfSome, slice_get, option_map, refl, sym, ◌∙◌, ap, subst, arith, inr}
use Rattle.std.proofs.lemmas.{List.length-map, List.map_push, Option.slice_get-map, Option.slice_get_read}
use mathlib.Core.List.{map-map}
use Rattle.batch_model.specs.{Plant.Plant, Plant.opening, Moves.next, Moves.after_move, Runs.Leads}
use Rattle.batch_step_laws.proofs.RecordGrowth.{Leads-move, Leads-reply}
use Rattle.batch_verify.specs.ClearedSet.{ClearedSet}
use Rattle.batch_engine.specs.{View.EngineView, View.setup, View.plant_of, Answered.IsAnswered, Surface.event_of, Surface.move_of, Surface.out_of, Surface.plant_after, Surface.reply_of, declared.event.Event.Event, declared.out.Out.Out, declared.out.Out.TheVariants.Reply, declared.out.Out.TheVariants.Move, declared.reply.Reply.Reply as Answer, declared.line.Line.Line}
use Rattle.batch_desk.{specs.PortState.PortState, specs.PortState.outline, specs.PortSteps.owe_line, specs.PortSteps.answered, specs.PortSteps.without_room, specs.HubState.HubState, specs.HubState.IsHub, specs.HubState.IsEngineSettled, specs.HubState.events_in, specs.HubState.outs_in, specs.Turns.Grows, specs.TurnSteps.AnswersOne, proofs.Replies.replies, proofs.Replies.replies-led, proofs.HubPorts.ports_step, proofs.HubPorts.ports_mapped, proofs.HubPorts.ports_roomless, proofs.HubPorts.roomless, proofs.PortChanges.reply_own, proofs.PortChanges.reply_other, proofs.PortChanges.line_told, proofs.PortChanges.line_outline}

events_in-append : (h : List (ℕ × Event)) (e : ℕ × Event) → events_in (h ++ e ∷ []) ≡ events_in h ++ event_of e.1 ∷ []
events_in-append h e = map_push (λ (entry : ℕ × Event). event_of entry.1) h e

outs_in-append : (c : ClearedSet) (outs : List Out) (x : Out) → outs_in c (outs ++ x ∷ []) ≡ outs_in c outs ++ out_of c x ∷ []
outs_in-append c outs x = map_push (out_of c) outs x

-- the record leads to the engine's plant
abbrev pub IsLed : EngineView → List (ℕ × Event) → List Out → Type 0
IsLed v h outs = Leads (setup v.cleared) opening (events_in h) (outs_in v.cleared outs) (plant_of v)

pub replies_hub : (v : EngineView) (h : List (ℕ × Event)) (outs : List Out) → IsLed v h outs → replies outs ≡ length h
replies_hub v h outs leads =
    omega (arith, replies-led v.cleared (setup v.cleared) opening (plant_of v) (events_in h) outs leads, length-map h (λ (e : ℕ × Event). event_of e.1))

led_event : (v w : EngineView) (h : List (ℕ × Event)) (outs : List Out) (i : ℕ) (event : Event) (answer : Answer)
    → IsLed v h outs → IsAnswered v (event_of event) answer w → IsLed w (h ++ (i, event) ∷ []) (outs ++ Reply answer ∷ [])
led_event v w h outs i event answer leads step =
    subst (λ (c : ClearedSet). Leads (setup c) opening (events_in (h ++ (i, event) ∷ [])) (outs_in c (outs ++ Reply answer ∷ [])) (plant_of w)) (sym step.cleared)
    (rw (events_in-append h (i, event), outs_in-append v.cleared outs (Reply answer))
    (Leads-reply (setup v.cleared) opening (plant_of v) (plant_of w) (event_of event) (reply_of v.cleared answer) (events_in h) (outs_in v.cleared outs) leads step.reacts))

-- the engine made its next move, which the line reports
pub record IsMade (v : EngineView) (line : Line) (w : EngineView) : Type 0 where
  pub next : next (setup v.cleared) (plant_of v) ≡ Some (move_of v.cleared line)
  pub plant : plant_of w ≡ after_move (plant_of v) (move_of v.cleared line)
  pub cleared : w.cleared ≡ v.cleared

pub made : (v w : EngineView) (r : Option Line) (line : Line) → r ≡ Some line → option_map (move_of v.cleared) r ≡ next (setup v.cleared) (plant_of v)
    → plant_of w ≡ plant_after v.cleared (plant_of v) r → w.cleared ≡ v.cleared → IsMade v line w
made v w r line is told plant cleared = record {
  next = sym told ∙ ap (option_map (move_of v.cleared)) is;
  plant = plant ∙ ap (plant_after v.cleared (plant_of v)) is;
  cleared = cleared;
}

led_move : (v w : EngineView) (h : List (ℕ × Event)) (outs : List Out) (line : Line) → IsLed v h outs → IsMade v line w → IsLed w h (outs ++ Move line ∷ [])
led_move v w h outs line leads step =
    subst (λ (c : ClearedSet). Leads (setup c) opening (events_in h) (outs_in c (outs ++ Move line ∷ [])) (plant_of w)) (sym step.cleared)
    (subst (λ (s : Plant). Leads (setup v.cleared) opening (events_in h) (outs_in v.cleared (outs ++ Move line ∷ [])) s) (sym step.plant)
    (rw (outs_in-append v.cleared outs (Move line))
    (Leads-move (setup v.cleared) opening (plant_of v) (move_of v.cleared line) (events_in h) (outs_in v.cleared outs) leads step.next)))

pub hub_takes : (v w : EngineView) (h : List (ℕ × Event)) (outs : List Out) (ps : List PortState) (i : ℕ) (p q : PortState) (event : Event) (answer : Answer)
    → IsHub (record { engine = v; history = h; outs = outs; ports = ps }) → i < length ps → p ≡ get_or ps i p → IsNone p.closed → IsAnswered v (event_of event) answer w
    → without_room q ≡ without_room (answered event answer p)
    → IsHub (record { engine = w; history = h ++ (i, event) ∷ []; outs = outs ++ Reply answer ∷ []; ports = set ps i q })
hub_takes v w h outs ps i p q event answer is lt at open' reacts same =
    let n : replies outs ≡ length h = replies_hub v h outs is.leads in
    record {
      leads = led_event v w h outs i event answer is.leads reacts;
      ports = ports_step h (h ++ (i, event) ∷ []) outs (outs ++ Reply answer ∷ []) ps i p q lt at is.ports
          (λ was. roomless (h ++ (i, event) ∷ []) (outs ++ Reply answer ∷ []) i (answered event answer p) q same (reply_own h outs event answer i p n open' was))
          (λ k r ne was. reply_other h outs i event answer k r n ne was);
    }

pub hub_moves : (v w : EngineView) (h : List (ℕ × Event)) (outs : List Out) (ps qs : List PortState) (line : Line)
    → IsHub (record { engine = v; history = h; outs = outs; ports = ps }) → IsMade v line w → map without_room qs ≡ map without_room ps
    → IsHub (record { engine = w; history = h; outs = outs ++ Move line ∷ []; ports = map (owe_line line) qs })
hub_moves v w h outs ps qs line is step same = record {
  leads = led_move v w h outs line is.leads step;
  ports = ports_mapped h h outs (outs ++ Move line ∷ []) (owe_line line) qs (ports_roomless h outs ps qs same is.ports) (λ k p was. line_told h outs line k p was);
}

pub hub_roomless : (v : EngineView) (h : List (ℕ × Event)) (outs : List Out) (ps qs : List PortState)
    → IsHub (record { engine = v; history = h; outs = outs; ports = ps }) → map without_room qs ≡ map without_room ps
    → IsHub (record { engine = v; history = h; outs = outs; ports = qs })
hub_roomless v h outs ps qs is same = record { leads = is.leads; ports = ports_roomless h outs ps qs same is.ports }

pub outlines_roomless : (ps qs : List PortState) → map without_room qs ≡ map without_room ps → map outline qs ≡ map outline ps
outlines_roomless ps qs same = sym (map-map outline without_room qs) ∙ (ap (map outline) same ∙ map-map outline without_room ps)

pub outlines_told : (line : Line) (ps : List PortState) → map outline (map (owe_line line) ps) ≡ map outline ps
outlines_told line [] = refl
outlines_told line (p ∷ ps) = rw (line_outline line p) (ap (λ ls. outline p ∷ ls) (outlines_told line ps))

-- an open port
opens : (ps : List PortState) (k : ℕ) (p : PortState) → slice_get ps k ≡ Some p → IsNone p.closed → IfSome (slice_get (map outline ps) k) (λ q. IsNone q.closed)
opens ps k p at none = rw (slice_get-map outline ps k, at) none

pub takes_one : (h0 h g : HubState) (k : ℕ) (x : PortState) (event : Event) (answer : Answer) → h0 ≡ h → k < length h0.ports → x ≡ get_or h0.ports k x → IsNone x.closed
    → g.engine.cleared ≡ h0.engine.cleared → g.history ≡ h0.history ++ (k, event) ∷ [] → g.outs ≡ h0.outs ++ Reply answer ∷ [] → AnswersOne k h g
takes_one h0 h g k x event answer same lt at none cleared history outs =
    subst (λ f. AnswersOne k f g) same
    (record { event = event; reply = answer; was_open = opens h0.ports k x (slice_get_read h0.ports (length h0.ports) k x refl lt at) none; cleared = cleared; history = history; outs = outs })

pub grows_taken : (port : ℕ) (h t g : HubState) → IsEngineSettled h.engine → AnswersOne port h t → g.history ≡ t.history → Grows port h g
grows_taken port h t g settled took later = inr (record { event = took.event; settled = settled; was_open = took.was_open; history = later ∙ took.history })
