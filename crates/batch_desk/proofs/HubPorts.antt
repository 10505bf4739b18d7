-- The ports of a hub, if one is changed or a move is added for all.
use Rattle.std.proofs.Common.{◌≡◌, ℕ, ◌+◌, ◌<◌, ◌≢◌, List, map, length, get_or, set, sym, ◌∙◌, ap, arith, below_more, get_or-set_other, get_or-set_same, length-set, inl, inr}
use Rattle.std.proofs.lemmas.{List.get_or-map, List.get_or_default, List.length-map, Bool.Decides.eqb_tells}
use Rattle.batch_engine.specs.declared.{event.Event.Event, out.Out.Out}
use Rattle.batch_desk.{specs.PortState.PortState, specs.PortSteps.Flushes, specs.PortSteps.HasRoom, specs.PortSteps.without_room, proofs.ListImages.map-same_length, specs.HubState.IsPort, specs.HubState.ArePorts, specs.HubState.HubState, specs.PortState.outline}

-- the property of each port still holds of each if one is changed, and history and record with it
pub ports_step : (h h' : List (ℕ × Event)) (outs outs' : List Out) (ps : List PortState) (i : ℕ) (p q : PortState) → i < length ps → p ≡ get_or ps i p → ArePorts h outs ps
    → (IsPort h outs i p → IsPort h' outs' i q) → ((k : ℕ) (r : PortState) → k ≢ i → IsPort h outs k r → IsPort h' outs' k r) → ArePorts h' outs' (set ps i q)
ports_step h h' outs outs' ps i p q lt at are own others k r lt' at' = elim (eqb_tells k i) [
  | inl e ↦
      let is : IsPort h' outs' i q = own (are i p lt at) in
      let r-is : r ≡ q = at' ∙ (ap (λ n. get_or (set ps i q) n r) e.1 ∙ get_or-set_same ps i q r lt) in
      rw (r-is, e.1) is
  | inr ne ↦ others k r ne.1 (are k r (omega (arith, length-set ps i q)) (at' ∙ get_or-set_other ps i k q r ne.1))
]

pub ports_changed : (h : List (ℕ × Event)) (outs : List Out) (ps : List PortState) (i : ℕ) (p q : PortState) → i < length ps → p ≡ get_or ps i p → ArePorts h outs ps
    → (IsPort h outs i p → IsPort h outs i q) → ArePorts h outs (set ps i q)
ports_changed h outs ps i p q lt at are own = ports_step h h outs outs ps i p q lt at are own (λ k r ne is. is)

-- f at each port
pub ports_mapped : (h h' : List (ℕ × Event)) (outs outs' : List Out) (f : PortState → PortState) (ps : List PortState) → ArePorts h outs ps
    → ((k : ℕ) (p : PortState) → IsPort h outs k p → IsPort h' outs' k (f p)) → ArePorts h' outs' (map f ps)
ports_mapped h h' outs outs' f ps are step k r lt at =
    let lt' : k < length ps = omega (arith, length-map ps f) in
    let p : PortState = get_or ps k r in
    rw (at ∙ get_or-map f ps k r r lt') (step k p (are k p lt' (get_or_default ps k r p lt')))

pub roomless : (h : List (ℕ × Event)) (outs : List Out) (k : ℕ) (p q : PortState) → without_room q ≡ without_room p → IsPort h outs k p → IsPort h outs k q
roomless h outs k p q e is =
    let P : PortState → Type 0 = IsPort h outs k in
    let p' : IsPort h outs k (without_room p) = record { taken = is.taken; told = is.told; closed = is.closed } in
    let q' : IsPort h outs k (without_room q) = rw e p' in
    record { taken = q'.taken; told = q'.told; closed = q'.closed }

pub ports_roomless : (h : List (ℕ × Event)) (outs : List Out) (ps qs : List PortState) → map without_room qs ≡ map without_room ps → ArePorts h outs ps → ArePorts h outs qs
ports_roomless h outs ps qs e are k q lt at =
    let lt' : k < length ps = omega (arith, map-same_length without_room qs ps e) in
    let p : PortState = get_or ps k q in
    let same : without_room q ≡ without_room p =
    ap without_room at ∙ (sym (get_or-map without_room qs k q q lt) ∙ (ap (λ xs. get_or xs k q) e ∙ get_or-map without_room ps k q q lt')) in
    roomless h outs k p q same (are k p lt' (get_or_default ps k q p lt'))

module _ (history : List (ℕ × Event)) (outs : List Out) where
  pub flushed : (port : ℕ) (p q : PortState) → IsPort history outs port p → Flushes p q → IsPort history outs port q
  flushed port p q is flushes = record {
    taken = flushes.taken ∙ is.taken;
    told = rw (flushes.outs, flushes.scope, flushes.closed, flushes.order) is.told;
    closed = rw flushes.closed is.closed;
  }

pub within : (h g : HubState) (i : ℕ) → h ≡ g → i < length g.ports → i < length h.ports
within h g i e lt = rw e lt

pub flushed_outline : (p q : PortState) → Flushes p q → outline q ≡ outline p
flushed_outline p q flushes =
    let scope = flushes.scope in
    let events = flushes.events in
    let outs = flushes.outs in
    let closed = flushes.closed in
    let cut' = flushes.cut in
    cc

pub room_more : (ps : List PortState) (n : ℕ) (q : PortState) → n < length ps → HasRoom q
    → ((k : ℕ) (d : PortState) → k < n → HasRoom (get_or ps k d)) → (k : ℕ) (d : PortState) → k < n + 1 → HasRoom (get_or (set ps n q) k d)
room_more ps n q lt here below k d up =
    below_more (λ j. HasRoom (get_or (set ps n q) j d)) n
    (λ j less. let ne : j ≢ n = omega arith in rw (get_or-set_other ps n j q d ne) (below j d less))
    (rw (get_or-set_same ps n q d lt) here) k up
