-- A record shows exactly the holders, the asks and the live phases of the plant that it leads to, and its batches' states.
use Rattle.std.proofs.Common.{◌≡◌, ⊎_elim, sym, ◌∙◌, ap, subst, List, [], ◌∷◌, ◌++◌, take, slice_get, sum_by, inl, inr}
use Rattle.batch_matrix.specs.declared.state.State.{State}
use Rattle.batch_model.{specs.Lists.Has, specs.Rest.Rest, specs.Rest.ready, specs.Rest.asking, specs.Rest.open_act, specs.Rest.live, specs.Rest.freeing, specs.Rest.in_seq, specs.Rest.in_par, specs.Rest.in_loop, specs.Rest.done, specs.Rest.Rests, specs.Rest.no_rests, specs.Rest.rest, specs.Rest.acts, specs.Rest.acts_of_each, specs.Plant.Setup, specs.Plant.Share, specs.Plant.units_in, specs.Plant.Plant, specs.Plant.opening, specs.Plant.holders, specs.Records.holders_told, specs.Events.Event, specs.Runs.Out, specs.Runs.Leads, specs.Cleared.Ranking, proofs.Members.Has-split, proofs.Members.Has-left, proofs.Members.Has-right}
use Rattle.batch_recipe.specs.Tree.{Place, Step, Phase}
use Rattle.batch_step_laws.proofs.PlantAlongRecord.{opening-stands}
use Rattle.batch_record_laws.{proofs.ClearanceDownTrees.AreClearedDown, proofs.PlantFacts.performing, proofs.PlantFacts.Standing, proofs.PlantFacts.held_at, proofs.PlantFacts.awaited_at, proofs.PlantFacts.facts, proofs.PlantFacts.facts_of_each, proofs.PlantFacts.entries, proofs.PlantFacts.awaiting, proofs.PlantFacts.need, specs.Telling.IsTold, proofs.RanksOfAsks.held-performing, proofs.RanksOfAsks.awaited-performing, proofs.Units.lone-performing, proofs.Batches.holders-entries, proofs.Invariant.IsKept, proofs.Batches.awaiting-of, proofs.Batches.performing-of, proofs.Batches.of-entry, proofs.FactsOfAsks.awaiting-act, proofs.FactsOfAsks.asking-awaits, proofs.InvariantAlongRecord.kept-at_first, proofs.InvariantAlongRecord.kept-along, proofs.Entries.length-sums}

abbrev LiveAt : List Rest → Place → Phase → Type 0
LiveAt as' q x = (p : Step) × (t : State) × Has as' (live p x t) × (p.place ≡ q)

live-left : (xs ys : List Rest) (q : Place) (x : Phase) → LiveAt xs q x → LiveAt (xs ++ ys) q x
live-left xs ys q x h = (h.0, h.1, Has-left xs ys (live h.0 x h.1) h.2, h.3)

live-right : (xs ys : List Rest) (q : Place) (x : Phase) → LiveAt ys q x → LiveAt (xs ++ ys) q x
live-right xs ys q x h = (h.0, h.1, Has-right xs ys (live h.0 x h.1) h.2, h.3)

mutual
  performing-live : (r : Rest) (q : Place) (x : Phase) → Has (facts r) (q, performing x) → LiveAt (acts r) q x
  performing-live (ready s w k) q x h = absurd (held-performing s.place (take k s.needs) q x h)
  performing-live (asking s w k) q x h =
      absurd (⊎_elim (held-performing s.place (take k s.needs) q x) (awaited-performing s.place (slice_get s.needs k) q x)
      (Has-split (held_at s.place (take k s.needs)) (awaited_at s.place (slice_get s.needs k)) (q, performing x) h))
  performing-live (open_act s r) q x h =
      ⊎_elim (λ m. absurd (held-performing s.place s.needs q x m)) (λ m. let k = performing-live r q x m in (k.0, k.1, inr k.2, k.3))
      (Has-split (held_at s.place s.needs) (facts r) (q, performing x) h)
  performing-live (live s y t) q x h =
      ⊎_elim (λ m. absurd (held-performing s.place s.needs q x m))
      (λ m. let e = lone-performing s.place y q x m in (s, t, inl (ap (λ z. live s z t) e.1), e.0))
      (Has-split (held_at s.place s.needs) ((s.place, performing y) ∷ []) (q, performing x) h)
  performing-live (freeing s k) q x h = absurd (held-performing s.place (take k s.needs) q x h)
  performing-live (in_seq r cs) q x h = performing-live r q x h
  performing-live (in_par rs) q x h = performing-live_of_each rs q x h
  performing-live (in_loop n c body r) q x h = performing-live r q x h
  performing-live done q x h = absurd h

  performing-live_of_each : (rs : Rests) (q : Place) (x : Phase) → Has (facts_of_each rs) (q, performing x) → LiveAt (acts_of_each rs) q x
  performing-live_of_each no_rests q x h = absurd h
  performing-live_of_each (rest r rs) q x h =
      ⊎_elim (λ m. live-left (acts r) (acts_of_each rs) q x (performing-live r q x m)) (λ m. live-right (acts r) (acts_of_each rs) q x (performing-live_of_each rs q x m))
      (Has-split (facts r) (facts_of_each rs) (q, performing x) h)

mutual
  live-performing : (r : Rest) (p : Step) (x : Phase) (t : State) → Has (acts r) (live p x t) → Has (facts r) (p.place, performing x)
  live-performing (ready s w k) p x t (inl e) = absurd cc
  live-performing (ready s w k) p x t (inr e) = absurd e
  live-performing (asking s w k) p x t (inl e) = absurd cc
  live-performing (asking s w k) p x t (inr e) = absurd e
  live-performing (open_act s r) p x t (inl e) = absurd cc
  live-performing (open_act s r) p x t (inr e) = Has-right (held_at s.place s.needs) (facts r) (p.place, performing x) (live-performing r p x t e)
  live-performing (live s y u) p x t (inl e) =
      Has-right (held_at s.place s.needs) ((s.place, performing y) ∷ []) (p.place, performing x)
      (inl (let a : s ≡ p = cc in let b : y ≡ x = cc in Rattle.std.proofs.Common.ap₂ (λ i j. let z : Standing = (i.place, performing j) in z) a b))
  live-performing (live s y u) p x t (inr e) = absurd e
  live-performing (freeing s k) p x t (inl e) = absurd cc
  live-performing (freeing s k) p x t (inr e) = absurd e
  live-performing (in_seq r cs) p x t e = live-performing r p x t e
  live-performing (in_par rs) p x t e = live-performing_of_each rs p x t e
  live-performing (in_loop n c body r) p x t e = live-performing r p x t e
  live-performing done p x t e = absurd e

  live-performing_of_each : (rs : Rests) (p : Step) (x : Phase) (t : State) → Has (acts_of_each rs) (live p x t) → Has (facts_of_each rs) (p.place, performing x)
  live-performing_of_each no_rests p x t e = absurd e
  live-performing_of_each (rest r rs) p x t e =
      ⊎_elim (λ m. Has-left (facts r) (facts_of_each rs) (p.place, performing x) (live-performing r p x t m))
      (λ m. Has-right (facts r) (facts_of_each rs) (p.place, performing x) (live-performing_of_each rs p x t m))
      (Has-split (acts r) (acts_of_each rs) (live p x t) e)

told : (d : Setup) (rank : Ranking) (outs : List Out) (s : Plant) → IsKept d rank outs s → IsTold outs s
told d rank outs s k =
    record {
      held = λ r. (λ a h. subst (λ z. Has z a) (sym (holders-entries s r)) ((k.held r).1 a h), λ a h. (k.held r).2 a (subst (λ z. Has z a) (holders-entries s r) h));
      held_count = λ r.
          length-sums (holders_told outs r) ∙ (k.held r).0 (λ h. 1) ∙ ap (λ z. sum_by (λ (h : Share). 1) z) (sym (holders-entries s r)) ∙ sym (length-sums (holders s r));
      held_units = λ r. (k.held r).0 (λ h. h.units) ∙ ap (λ z. units_in z) (sym (holders-entries s r));
      lines = k.lines;
      asks = λ r a. (
        λ h.
            (let e = awaiting-of s.batches a.act (need r a.units) (k.asked r a h) in
            let w = awaiting-act e.0.rest a.act.1 (need r a.units) e.3 in
            (e.0, e.1, e.2, w.0, w.1, w.2, w.3, w.4, w.5)),
        λ h. k.listed r a
            (Rattle.std.proofs.Common.subst₂ (λ m q. Has (entries s.batches) ((m, q), awaiting (need r a.units))) h.2 h.7
            (of-entry s.batches h.0 h.3.place (awaiting (need r a.units)) h.1 (asking-awaits h.0.rest h.3 h.4 h.5 (need r a.units) h.6 h.8))),
      );
      ran = λ a x h.
          (let e = performing-of s.batches a x (k.active (record { act = a; phase = x }) h) in
          let l = performing-live e.0.rest a.1 x e.3 in
          (e.0, e.1, e.2, l.0, l.1, l.2, l.3));
      runs = λ a x h. k.shown a x
          (Rattle.std.proofs.Common.subst₂ (λ m q. Has (entries s.batches) ((m, q), performing x)) h.2 h.6
          (of-entry s.batches h.0 h.3.place (performing x) h.1 (live-performing h.0.rest h.3 x h.4 h.5)));
      states = k.states;
    }

pub tells_the_plant : (d : Setup) (rank : Ranking) → AreClearedDown d rank → (es : List Event) (outs : List Out) (t : Plant) → Leads d opening es outs t → IsTold outs t
tells_the_plant d rank cleared es outs t l = told d rank outs t (kept-along d rank cleared [] opening (opening-stands d) (kept-at_first d rank) es outs t l)
