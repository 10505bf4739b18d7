-- Where no phase is live, nothing is held and nothing is asked for, there are no facts.
use Rattle.std.proofs.Common.{arith, ◌≡◌, ⊎_elim, refl, ap, List, [], ◌∷◌, ◌++◌, true, take, slice_get, inl, inr}
use Rattle.batch_matrix.specs.declared.state.State.{State, TheVariants.Stopping, TheVariants.Aborting}
use Rattle.batch_model.{specs.Lists.Has, specs.Rest.Rest, specs.Rest.ready, specs.Rest.asking, specs.Rest.open_act, specs.Rest.live, specs.Rest.freeing, specs.Rest.in_seq, specs.Rest.in_par, specs.Rest.in_loop, specs.Rest.done, specs.Rest.Rests, specs.Rest.no_rests, specs.Rest.rest, specs.Rest.acts, specs.Rest.acts_of_each, specs.Plant.held_by, specs.Plant.held_in, specs.Plant.phase_states, specs.Moves.is_quiet, specs.Moves.is_empty, specs.Moves.is_stopping, proofs.Members.Has-split, proofs.Members.Has-left, proofs.Members.Has-right}
use Rattle.batch_recipe.specs.{Tree.Place, Tree.Step, Tree.Phase, declared.need.Need.Need}
use Rattle.batch_record_laws.proofs.{PlantFacts.holding, PlantFacts.awaiting, PlantFacts.performing, PlantFacts.Standing, PlantFacts.held_at, PlantFacts.awaited_at, PlantFacts.facts, PlantFacts.facts_of_each, RanksOfAsks.held-holding, RanksOfAsks.held-performing, RanksOfAsks.awaited-holding, RanksOfAsks.awaited-performing, RanksOfAsks.lone-holding, Units.lone-performing, Invariant.IsFitting, Invariant.NothingAwaited, Invariant.no_members}
use Rattle.batch_step_laws.proofs.HoldersInAdvance.{flat_map-Has}

abbrev pub LiveAct : List Rest → Phase → Type 0
LiveAct as' x = (s : Step) × (t : State) × Has as' (live s x t)

live-left : (xs ys : List Rest) (x : Phase) → LiveAct xs x → LiveAct (xs ++ ys) x
live-left xs ys x h = (h.0, h.1, Has-left xs ys (live h.0 x h.1) h.2)

live-right : (xs ys : List Rest) (x : Phase) → LiveAct ys x → LiveAct (xs ++ ys) x
live-right xs ys x h = (h.0, h.1, Has-right xs ys (live h.0 x h.1) h.2)

mutual
  performing-act : (r : Rest) (q : Place) (x : Phase) → Has (facts r) (q, performing x) → LiveAct (acts r) x
  performing-act (ready s w k) q x h = absurd (held-performing s.place (take k s.needs) q x h)
  performing-act (asking s w k) q x h =
      absurd (⊎_elim (held-performing s.place (take k s.needs) q x) (awaited-performing s.place (slice_get s.needs k) q x)
      (Has-split (held_at s.place (take k s.needs)) (awaited_at s.place (slice_get s.needs k)) (q, performing x) h))
  performing-act (open_act s r) q x h =
      ⊎_elim (λ m. absurd (held-performing s.place s.needs q x m)) (λ m. let k = performing-act r q x m in (k.0, k.1, inr k.2))
      (Has-split (held_at s.place s.needs) (facts r) (q, performing x) h)
  performing-act (live s y t) q x h =
      ⊎_elim (λ m. absurd (held-performing s.place s.needs q x m)) (λ m. (s, t, inl (ap (λ z. live s z t) (lone-performing s.place y q x m).1)))
      (Has-split (held_at s.place s.needs) ((s.place, performing y) ∷ []) (q, performing x) h)
  performing-act (freeing s k) q x h = absurd (held-performing s.place (take k s.needs) q x h)
  performing-act (in_seq r cs) q x h = performing-act r q x h
  performing-act (in_par rs) q x h = performing-act_of_each rs q x h
  performing-act (in_loop n c body r) q x h = performing-act r q x h
  performing-act done q x h = absurd h

  performing-act_of_each : (rs : Rests) (q : Place) (x : Phase) → Has (facts_of_each rs) (q, performing x) → LiveAct (acts_of_each rs) x
  performing-act_of_each no_rests q x h = absurd h
  performing-act_of_each (rest r rs) q x h =
      ⊎_elim (λ m. live-left (acts r) (acts_of_each rs) x (performing-act r q x m)) (λ m. live-right (acts r) (acts_of_each rs) x (performing-act_of_each rs q x m))
      (Has-split (facts r) (facts_of_each rs) (q, performing x) h)

live-state : (as' : List Rest) (s : Step) (x : Phase) (t : State) → Has as' (live s x t) → (u : State) × Has (phase_states as') u
live-state [] s x t h = absurd h
live-state (live u y v ∷ as') s x t h = (v, inl refl)
live-state (ready u w k ∷ as') s x t (inr h) = live-state as' s x t h
live-state (ready u w k ∷ as') s x t (inl e) = absurd cc
live-state (asking u w k ∷ as') s x t (inr h) = live-state as' s x t h
live-state (asking u w k ∷ as') s x t (inl e) = absurd cc
live-state (open_act u r ∷ as') s x t (inr h) = live-state as' s x t h
live-state (open_act u r ∷ as') s x t (inl e) = absurd cc
live-state (freeing u k ∷ as') s x t (inr h) = live-state as' s x t h
live-state (freeing u k ∷ as') s x t (inl e) = absurd cc
live-state (in_seq r cs ∷ as') s x t (inr h) = live-state as' s x t h
live-state (in_seq r cs ∷ as') s x t (inl e) = absurd cc
live-state (in_par rs ∷ as') s x t (inr h) = live-state as' s x t h
live-state (in_par rs ∷ as') s x t (inl e) = absurd cc
live-state (in_loop n c b r ∷ as') s x t (inr h) = live-state as' s x t h
live-state (in_loop n c b r ∷ as') s x t (inl e) = absurd cc
live-state (done ∷ as') s x t (inr h) = live-state as' s x t h
live-state (done ∷ as') s x t (inl e) = absurd cc

empty-none : {X : Type 0} (xs : List X) (x : X) → is_empty xs ≡ true → Has xs x → ⊥
empty-none xs x e h = grind arith

pub quiet-performs_nothing : (r : Rest) → is_quiet r ≡ true → (q : Place) (x : Phase) → Has (facts r) (q, performing x) → ⊥
quiet-performs_nothing r e q x h =
    let a = performing-act r q x h in
    let t = live-state (acts r) a.0 x a.1 a.2 in
    empty-none (phase_states (acts r)) t.0 e t.1

abbrev HoldingAct : List Rest → Need → Type 0
HoldingAct as' x = (a : Rest) × Has as' a × Has (held_by a) x

mutual
  holding-act : (r : Rest) (q : Place) (x : Need) → Has (facts r) (q, holding x) → HoldingAct (acts r) x
  holding-act (ready s w k) q x h = (ready s w k, inl refl, held-holding s.place (take k s.needs) q x h)
  holding-act (asking s w k) q x h = (
    asking s w k,
    inl refl,
    ⊎_elim (held-holding s.place (take k s.needs) q x) (λ m. absurd (awaited-holding s.place (slice_get s.needs k) q x m))
        (Has-split (held_at s.place (take k s.needs)) (awaited_at s.place (slice_get s.needs k)) (q, holding x) h),
  )
  holding-act (open_act s r) q x h =
      ⊎_elim (λ m. (open_act s r, inl refl, held-holding s.place s.needs q x m)) (λ m. let k = holding-act r q x m in (k.0, inr k.1, k.2))
      (Has-split (held_at s.place s.needs) (facts r) (q, holding x) h)
  holding-act (live s y t) q x h = (
    live s y t,
    inl refl,
    ⊎_elim (held-holding s.place s.needs q x) (λ m. absurd (lone-holding s.place y q x m))
        (Has-split (held_at s.place s.needs) ((s.place, performing y) ∷ []) (q, holding x) h),
  )
  holding-act (freeing s k) q x h = (freeing s k, inl refl, held-holding s.place (take k s.needs) q x h)
  holding-act (in_seq r cs) q x h = holding-act r q x h
  holding-act (in_par rs) q x h = holding-act_of_each rs q x h
  holding-act (in_loop n c body r) q x h = holding-act r q x h
  holding-act done q x h = absurd h

  holding-act_of_each : (rs : Rests) (q : Place) (x : Need) → Has (facts_of_each rs) (q, holding x) → HoldingAct (acts_of_each rs) x
  holding-act_of_each no_rests q x h = absurd h
  holding-act_of_each (rest r rs) q x h =
      ⊎_elim (λ m. let k = holding-act r q x m in (k.0, Has-left (acts r) (acts_of_each rs) k.0 k.1, k.2))
      (λ m. let k = holding-act_of_each rs q x m in (k.0, Has-right (acts r) (acts_of_each rs) k.0 k.1, k.2))
      (Has-split (facts r) (facts_of_each rs) (q, holding x) h)

pub holding-nothing : (r : Rest) → is_empty (held_in r) ≡ true → (q : Place) (x : Need) → Has (facts r) (q, holding x) → ⊥
holding-nothing r e q x h =
    let a = holding-act r q x h in
    empty-none (held_in r) x e (flat_map-Has held_by (acts r) a.0 x a.1 a.2)

pub no_facts : (es : List Standing) → NothingAwaited es → ((q : Place) (x : Phase) → Has es (q, performing x) → ⊥) → ((q : Place) (x : Need) → Has es (q, holding x) → ⊥) → es ≡ []
no_facts es w p h = no_members es none
  where
    none : (e : Standing) → Has es e → ⊥
    none (q, holding x) m = h q x m
    none (q, awaiting x) m = w q x m
    none (q, performing x) m = p q x m

pub fit-stopping : (x : State) (es : List Standing) → is_stopping x ≡ true → IsFitting x es → NothingAwaited es
fit-stopping Stopping es e h = h
fit-stopping Aborting es e h = h
fit-stopping x es e h = absurd (grind arith)
