-- The invariant makes a record safe.
use Rattle.std.proofs.Common.{◌≡◌, ◌⊎◌, ⊎_elim, sym, ◌∙◌, ap, ap₂, subst, subst₂, ◌++◌, false, ℕ, suc, ◌≤◌, ◌<◌, arith, List, [], ◌∷◌, Some, inl, inr}
use Rattle.batch_matrix.specs.declared.state.State.{State}
use Rattle.batch_model.{specs.Lists.Has, specs.Lists.Each, specs.Plant.Setup, specs.Plant.Batch, specs.Plant.BatchAct, specs.Plant.Share, specs.Plant.acts_in, specs.Plant.Plant, specs.Runs.Out, specs.Records.holders_told, specs.Records.waiters_told, specs.Records.state_told, specs.Records.IsAtRest, specs.Records.scene_told, specs.Records.Waiting, specs.Records.IsWaiting, specs.Records.IsAtOrAbove, specs.Records.StandsBefore, specs.Records.WaitsForHolder, specs.Records.WaitsForOlder, specs.Records.PointsTo, specs.Records.PointAlong, specs.Records.HasCapacity, specs.Records.HoldsUnits, specs.Records.StartsIdle, specs.Records.HasNoCircle, specs.Records.RestsEmpty, specs.Records.IsSafeNow, specs.Cleared.Ranking, proofs.Members.Has-split, proofs.Members.Each-Has, specs.Standing.IsAwaited, specs.Standing.IsStandingBatch, specs.Standing.IsStanding}
use Rattle.batch_recipe.specs.{Tree.Place, Needs.one_unit, Conditions.Name}
use Rattle.batch_record_laws.proofs.{PlantFacts.Fact, PlantFacts.holding, PlantFacts.awaiting, PlantFacts.facts, PlantFacts.early_facts, PlantFacts.batch_facts, PlantFacts.entries, PlantFacts.need, PlantFacts.share, Members.Has-map, Members.map-Has, Members.Has-Each, RanksOfAsks.rank-rises, Units.unit-held, Entries.IsOnce, Entries.Has-holders, Entries.holders-Has, Batches.entry-of, Batches.of-entry, Batches.awaiting-of, Batches.performing-of, Batches.early-fact, Batches.same-batch, DuePlaces.awaited-none_under, BatchProgress.is_under_way, BatchProgress.early-none, FactPlaces.fact-stands, Invariant.IsSound, Invariant.IsKept, Invariant.at_rest-nothing, Invariant.standing-of, Invariant.numbers-of}

rests-not_under_way : (x : State) → IsAtRest x → is_under_way x ≡ false
rests-not_under_way x r = grind arith

-- Places in a line

before-Has : (xs : List BatchAct) (a b : BatchAct) → StandsBefore xs a b → Has xs b
before-Has [] a b h = absurd h
before-Has (x ∷ xs) a b (inl p) = inr p.1
before-Has (x ∷ xs) a b (inr p) = inr (before-Has xs a b p)

-- an act that stands first stands nowhere else
stands_once : (x : Share) (xs : List Share) → IsOnce (x ∷ xs) → (a : BatchAct) → x.act ≡ a → Has (acts_in xs) a → ⊥
stands_once x xs h a e k = let m = Has-map (λ z. z.act) xs a k in h.0 m.0 m.1 (m.2 ∙ sym e)

before-on : (xs : List Share) → IsOnce xs → (a b c : BatchAct) → StandsBefore (acts_in xs) a b → StandsBefore (acts_in xs) b c → StandsBefore (acts_in xs) a c
before-on [] h a b c p q = p
before-on (x ∷ xs) h a b c (inl p) (inl q) = inl (p.0, q.1)
before-on (x ∷ xs) h a b c (inl p) (inr q) = inl (p.0, before-Has (acts_in xs) b c q)
before-on (x ∷ xs) h a b c (inr p) (inl q) = absurd (stands_once x xs h b q.0 (before-Has (acts_in xs) a b p))
before-on (x ∷ xs) h a b c (inr p) (inr q) = inr (before-on xs h.1 a b c p q)

not_before : (xs : List Share) → IsOnce xs → (a : BatchAct) → StandsBefore (acts_in xs) a a → ⊥
not_before [] h a p = p
not_before (x ∷ xs) h a (inl p) = stands_once x xs h a p.0 p.1
not_before (x ∷ xs) h a (inr p) = not_before xs h.1 a p

module _ (d : Setup) (rank : Ranking) (outs : List Out) (s : Plant) (sd : IsStanding d s) (k : IsKept d rank outs s) where
  within-capacity : HasCapacity d outs
  within-capacity r = subst (λ z. z ≤ d.capacity r) (sym ((k.held r).0 (λ h. h.units))) (k.within r)

  holds-units : HoldsUnits outs
  holds-units a h =
      let e = performing-of s.batches a.act a.phase (k.active a h) in
      let sound : IsSound d rank e.0 = k.sound e.0 e.1 in let here : IsStandingBatch d e.0 = standing-of d s sd e.0 e.1 in
      go e.0 e.1 e.2 (unit-held [] (0 ∷ []) e.0.recipe.procedure e.0.rest sound.cleared.placed sound.cleared.in_units here.stands a.act.1 a.phase e.3)
    where
      go : (b : Batch) → Has s.batches b → b.number ≡ a.act.0
          → ⊥ ⊎ ((p : Place) × Has (facts b.rest) (p, holding (one_unit a.phase.unit)) × IsAtOrAbove p a.act.1 × (p ≡ a.act.1 → ⊥))
          → (p : Place) × Has (acts_in (holders_told outs a.phase.unit)) (a.act.0, p) × IsAtOrAbove p a.act.1 × (p ≡ a.act.1 → ⊥)
      go b i n (inl o) = absurd o
      go b i n (inr o) = (
        o.0,
        map-Has (λ h. h.act) (holders_told outs a.phase.unit) (share (a.act.0, o.0) 1)
            ((k.held a.phase.unit).2 (share (a.act.0, o.0) 1)
            (holders-Has a.phase.unit (entries s.batches) (share (a.act.0, o.0) 1)
            (subst (λ z. Has (entries s.batches) ((z, o.0), holding (one_unit a.phase.unit))) n (of-entry s.batches b o.0 (holding (one_unit a.phase.unit)) i o.1)))),
        o.2,
        o.3,
      )

  abbrev pub rank_of : Waiting → ℕ
  rank_of w = suc (rank w.resource)

  -- a waiting step has a lower rank than each that stands at or below a holder of its resource
  pub holder-rises : (w v : Waiting) → IsWaiting (scene_told outs) v → WaitsForHolder (scene_told outs) w v → rank_of w < rank_of v
  holder-rises w v h p =
      let x = Has-map (λ z. z.act) (waiters_told outs v.resource) v.act h in
      let y = Has-map (λ z. z.act) (holders_told outs w.resource) (v.act.0, p.0) p.1 in
      let asks = awaiting-of s.batches x.0.act (need v.resource x.0.units) (k.asked v.resource x.0 (subst (λ z. Has z x.0) (k.lines v.resource) x.1)) in
      let holds = entry-of s.batches y.0.act (holding (need w.resource y.0.units)) (Has-holders w.resource (entries s.batches) y.0 ((k.held w.resource).1 y.0 y.1)) in
      let same : holds.0 ≡ asks.0
      = same-batch s.next_number s.batches holds.0 asks.0 (numbers-of d s sd) holds.1 asks.1 (holds.2 ∙ ap (λ z. z.0) y.2 ∙ sym (asks.2 ∙ ap (λ z. z.0) x.2)) in
      let sound : IsSound d rank asks.0 = k.sound asks.0 asks.1 in let here : IsStandingBatch d asks.0 = standing-of d s sd asks.0 asks.1 in
      let below : IsAtOrAbove y.0.act.1 x.0.act.1
      = subst (λ z. IsAtOrAbove z x.0.act.1) (sym (ap (λ z. z.1) y.2)) (subst (λ z. IsAtOrAbove p.0 z) (sym (ap (λ z. z.1) x.2)) p.2) in
      ⊎_elim
      (λ m.
      let held = early-fact asks.0.in_advance y.0.act.1 (holding (need w.resource y.0.units)) m in
      let a = fact-stands asks.0.rest (x.0.act.1, awaiting (need v.resource x.0.units)) asks.3 in
      let due = Each-Has (λ held. IsAwaited asks.0.rest held.place) asks.0.in_advance held.0 here.awaited held.1 in
      absurd (awaited-none_under asks.0.recipe.procedure asks.0.rest sound.cleared.placed here.stands held.0.place due a.0 a.1
      (subst₂ IsAtOrAbove (sym held.2) (sym a.2) below)))
      (λ m.
      rank-rises (λ q. suc (rank q)) 0 (0 ∷ []) asks.0.recipe.procedure asks.0.rest sound.cleared.placed sound.cleared.rising here.stands y.0.act.1 x.0.act.1
      (need w.resource y.0.units) (need v.resource x.0.units) m asks.3 below)
      (Has-split (early_facts asks.0.in_advance) (facts asks.0.rest) (y.0.act.1, holding (need w.resource y.0.units))
      (subst (λ z. Has (batch_facts z) (y.0.act.1, holding (need w.resource y.0.units))) same holds.3))

  -- v's resource has a higher rank than w's, or it is the same one and v's ask is older
  abbrev Precedes : Waiting → Waiting → Type 0
  Precedes w v = (rank_of w < rank_of v) ⊎ WaitsForOlder (scene_told outs) w v

  once-told : (r : Name) → IsOnce (waiters_told outs r)
  once-told r = subst IsOnce (sym (k.lines r)) (k.once r)

  points-on : (w v : Waiting) → IsWaiting (scene_told outs) v → PointsTo (scene_told outs) w v → Precedes w v
  points-on w v h (inl p) = inl (holder-rises w v h p)
  points-on w v h (inr p) = inr p

  precedes-on : (u v w : Waiting) → Precedes u v → Precedes v w → Precedes u w
  precedes-on u v w (inl a) (inl b) = inl (omega (arith, a, b))
  precedes-on u v w (inl a) (inr b) = inl (let e : rank w.resource ≡ rank v.resource = ap rank b.0 in omega (arith, a, e))
  precedes-on u v w (inr a) (inl b) = inl (let e : rank v.resource ≡ rank u.resource = ap rank a.0 in omega (arith, b, e))
  precedes-on u v w (inr a) (inr b) =
      inr (
        b.0 ∙ a.0,
        before-on (waiters_told outs u.resource) (once-told u.resource) w.act v.act u.act
            (subst (λ z. StandsBefore (acts_in (waiters_told outs z)) w.act v.act) a.0 b.1) a.1,
      )

  along-precedes : (w : Waiting) (ws : List Waiting) (last : Waiting) → Each (IsWaiting (scene_told outs)) ws → IsWaiting (scene_told outs) last
      → PointAlong (scene_told outs) w ws last → Precedes w last
  along-precedes w [] last e l h = points-on w last l h
  along-precedes w (v ∷ ws) last e l h = precedes-on w v last (points-on w v e.0 h.0) (along-precedes v ws last e.1 l h.1)

  not-itself : (w : Waiting) → Precedes w w → ⊥
  not-itself w h = grind (arith, not_before)

  has-no_circle : HasNoCircle outs
  has-no_circle [] h = h
  has-no_circle (w ∷ ws) h = not-itself w (along-precedes w ws w h.0.1 h.0.0 h.1)

  nothing-at_rest : (n : ℕ) (x : State) → state_told outs n ≡ Some x → IsAtRest x → (a : BatchAct) (f : Fact) → Has (entries s.batches) (a, f) → a.0 ≡ n → ⊥
  nothing-at_rest n x t r a f h e =
      let w = entry-of s.batches a f h in
      let told : Some x ≡ Some w.0.state = sym t ∙ (ap (state_told outs) (sym (w.2 ∙ e)) ∙ k.states w.0 w.1) in
      let now : x ≡ w.0.state = cc in
      let rests : IsAtRest w.0.state = subst IsAtRest now r in
      let none : batch_facts w.0 ≡ []
      = ap₂ (λ xs ys. early_facts xs ++ ys) (early-none d w.0 (standing-of d s sd w.0 w.1) (rests-not_under_way w.0.state rests)) (at_rest-nothing w.0.state (facts w.0.rest) rests (k.sound w.0 w.1).fits) in
      subst (λ zs. Has zs (a.1, f)) none w.3

  rests-empty : RestsEmpty outs
  rests-empty n x t r q = (
    Has-Each (λ h. h.act.0 ≡ n → ⊥) (holders_told outs q)
        (λ a h. nothing-at_rest n x t r a.act (holding (need q a.units)) (Has-holders q (entries s.batches) a ((k.held q).1 a h))),
    Has-Each (λ h. h.act.0 ≡ n → ⊥) (waiters_told outs q)
        (λ a h. nothing-at_rest n x t r a.act (awaiting (need q a.units)) (k.asked q a (subst (λ z. Has z a) (k.lines q) h))),
  )

  pub safe-now : StartsIdle d outs → IsSafeNow d outs
  safe-now h = record { capacity = within-capacity; units = holds-units; starts = h; circles = has-no_circle; rests = rests-empty }
