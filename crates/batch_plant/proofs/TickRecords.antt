-- The record that the ticks of units tell, and that the machine is settled after each.
use Rattle.std.proofs.Common.{◌≡◌, ℕ, sym, ap, subst, List, [], ◌∷◌, ◌++◌, map, Option, Some, None, inl, inr}
use Rattle.batch_matrix.specs.declared.report.Report.{Report}
use Rattle.batch_model.specs.{Events.Event, Moves.Move, Moves.after_move, Plant.Setup, Plant.Plant, Plant.opening, Runs.Out, Runs.reply, Runs.move, Runs.Leads}
use Rattle.batch_safety.specs.Sets.{RunsSafely}
use Rattle.batch_verify.specs.ClearedSet.{ClearedSet}
use Rattle.batch_engine.specs.View.{setup}
use Rattle.batch_wire.specs.Transcript.{Exchange, silence, followed_by, handled, Settles, Handles}
use Rattle.batch_serve.specs.Settled.{IsSettled}
use Rattle.batch_sim.specs.declared.order.Order.{Order}
use Rattle.batch_plant.specs.{Links.report_in, Drive.Standing, Drive.Comes, Drive.Drives, Written.KeepsRecord, Written.Stops}

-- Records

pub leads_join : (c : Setup) (s t u : Plant) (es : List Event) (outs : List Out) (fs : List Event) (more : List Out)
    → Leads c s es outs t → Leads c t fs more u → Leads c s (es ++ fs) (outs ++ more) u
leads_join c s t u [] [] fs more h k = subst (λ (p : Plant). Leads c p fs more u) (sym h) k
leads_join c s t u (e ∷ es) [] fs more h k = absurd h
leads_join c s t u es (move m ∷ outs) fs more h k = (h.0, leads_join c (after_move s m) t u es outs fs more h.1 k)
leads_join c s t u [] (reply r ∷ outs) fs more h k = absurd h
leads_join c s t u (e ∷ es) (reply r ∷ outs) fs more h k = (h.0, h.1, leads_join c h.0 t u es outs fs more h.2 k)

moves_lead : (c : Setup) (old new : Plant) (moves : List Move) → Settles c old moves new → Leads c old [] (map move moves) new
moves_lead c old new [] s = sym s.1
moves_lead c old new (m ∷ moves) s = (s.0, moves_lead c (after_move old m) new moves s.1)

moves_settle : (c : Setup) (old new : Plant) (moves : List Move) → Settles c old moves new → IsSettled c new
moves_settle c old new [] s = subst (IsSettled c) (sym s.1) s.0
moves_settle c old new (m ∷ moves) s = moves_settle c (after_move old m) new moves s.1

pub handled_leads : (c : Setup) (old new : Plant) (event : Event) (outs : List Out) → Handles c old event outs new → Leads c old (event ∷ []) outs new
handled_leads c old new event outs h =
    subst (λ (l : List Out). Leads c old (event ∷ []) l new) (sym h.tells) (h.mid, h.reacts, moves_lead c h.mid new h.moves h.settles)

-- an exchange keeps the record, if all records run safely
pub keeps : (set : ClearedSet) (old new : Plant) (said : Exchange) → RunsSafely set.cell set.recipes → Leads (setup set) old said.events said.outs new
    → KeepsRecord set old said new
keeps set old new said runs leads = record {
  leads = leads;
  goes_on = λ events outs before.
      let longer = leads_join (setup set) opening old new events outs said.events said.outs before leads in
      (longer, runs.safe (events ++ said.events) (outs ++ said.outs) new longer);
}

-- Ticks

module _ {D : Type 0} (command_gives : D → ℕ → Order → D → Type 0) (tick_gives : D → Option (ℕ × Report) → D → Type 0) (set : ClearedSet) where
  said_leads : (old new : Plant) (said tells : Exchange) → said ≡ tells → Leads (setup set) old tells.events tells.outs new
      → Leads (setup set) old said.events said.outs new
  said_leads old new said tells e h = subst (λ (x : Exchange). Leads (setup set) old x.events x.outs new) (sym e) h

  came_leads : (event : Option Event) (old : Standing D) (said : Exchange) (new : Standing D) → Comes command_gives tick_gives set event old said new
      → Leads (setup set) old.plant said.events said.outs new.plant
  came_leads None old said new h = said_leads old.plant new.plant said silence h.0 (sym (ap (λ (s : Standing D). s.plant) h.1))
  came_leads (Some event) old said new h =
      said_leads old.plant new.plant said (handled event h.0) h.2 (handled_leads (setup set) old.plant new.plant event h.0 h.1.handles)

  came_settles : (event : Option Event) (old : Standing D) (said : Exchange) (new : Standing D) → IsSettled (setup set) old.plant
      → Comes command_gives tick_gives set event old said new → IsSettled (setup set) new.plant
  came_settles None old said new k h = subst (IsSettled (setup set)) (sym (ap (λ (s : Standing D). s.plant) h.1)) k
  came_settles (Some event) old said new k h = moves_settle (setup set) h.1.handles.mid new.plant h.1.handles.moves h.1.handles.settles

  pub drives_lead : (units : List ℕ) (old : Standing D) (said : Exchange) (new : Standing D) → Drives command_gives tick_gives set units old said new
      → Leads (setup set) old.plant said.events said.outs new.plant
  drives_lead [] old said new h = said_leads old.plant new.plant said silence h.0 (sym (ap (λ (s : Standing D). s.plant) h.1))
  drives_lead (unit ∷ others) old said new (first, rest, mid, t, more, e) =
      said_leads old.plant new.plant said (followed_by first rest) e
      (leads_join (setup set) old.plant mid.plant new.plant first.events first.outs rest.events rest.outs
      (came_leads (report_in set.cell unit t.answer) (record { plant = old.plant; units = t.after }) first mid t.comes)
      (drives_lead others mid rest new more))

  pub drives_settle : (units : List ℕ) (old : Standing D) (said : Exchange) (new : Standing D) → IsSettled (setup set) old.plant
      → Drives command_gives tick_gives set units old said new → IsSettled (setup set) new.plant
  drives_settle [] old said new k h = subst (IsSettled (setup set)) (sym (ap (λ (s : Standing D). s.plant) h.1)) k
  drives_settle (unit ∷ others) old said new k (first, rest, mid, t, more, e) =
      drives_settle others mid rest new (came_settles (report_in set.cell unit t.answer) (record { plant = old.plant; units = t.after }) first mid k t.comes) more

  stops_lead : (others : List ℕ) (old : Standing D) (said : Exchange) (new : Standing D) (x y : Option (List ℕ)) → Stops command_gives tick_gives set others old said new x y
      → Leads (setup set) old.plant said.events said.outs new.plant
  stops_lead others old said new x y (inl (e, same, k)) = said_leads old.plant new.plant said silence e (sym (ap (λ (s : Standing D). s.plant) same))
  stops_lead others old said new x y (inr (unit, later, e, t)) =
      said_leads old.plant new.plant said (handled t.event t.outs) t.tells t.stops.leads

  -- some ticks, and the part of the next report's effect that the machine has made
  pub cut_leads : (units others : List ℕ) (old mid : Standing D) (said last_said : Exchange) (new : Standing D) (x y : Option (List ℕ))
      → Drives command_gives tick_gives set units old said mid → Stops command_gives tick_gives set others mid last_said new x y
      → Leads (setup set) old.plant (followed_by said last_said).events (followed_by said last_said).outs new.plant
  cut_leads units others old mid said last_said new x y d h =
      leads_join (setup set) old.plant mid.plant new.plant said.events said.outs last_said.events last_said.outs (drives_lead units old said mid d)
      (stops_lead others mid last_said new x y h)
