-- A batch that was stopped or aborted has no move.
use Rattle.std.proofs.Common.{arith, ◌≡◌, refl, ℕ, zero, suc, List, [], ◌∷◌, ◌++◌, Option, Some, None, true, take}
use Rattle.std.specs.{Prelude.slice_get, List.filter_map}
use Rattle.batch_matrix.specs.declared.state.State.{State, TheVariants.Stopped, TheVariants.Aborted}
use Rattle.batch_recipe.specs.{declared.need.Need.Need, Tree.Step}
use Rattle.batch_model.{specs.Lists.Each, specs.Moves.Move, specs.Moves.act_move, specs.Moves.batch_moves, specs.Moves.giving_back, specs.Moves.grant, specs.Moves.is_served, specs.Moves.is_stopped, specs.Moves.when, specs.Plant.Setup, specs.Plant.Batch, specs.Plant.Plant, specs.Rest.Rest, specs.Rest.ready, specs.Rest.asking, specs.Rest.open_act, specs.Rest.live, specs.Rest.freeing, specs.Rest.in_seq, specs.Rest.in_par, specs.Rest.in_loop, specs.Rest.done, specs.Rest.Rests, specs.Rest.no_rests, specs.Rest.rest, specs.Rest.acts, specs.Rest.acts_of_each, proofs.Members.Each-append}
use Rattle.batch_record_laws.proofs.{PlantFacts.Standing, PlantFacts.facts, PlantFacts.facts_of_each, PlantFacts.held_at, PlantFacts.awaited_at, Invariant.IsFitting}

left-none : (xs ys : List Standing) → xs ++ ys ≡ [] → xs ≡ []
left-none [] ys e = refl
left-none (x ∷ xs) ys e = absurd cc

right-none : (xs ys : List Standing) → xs ++ ys ≡ [] → ys ≡ []
right-none [] ys e = e
right-none (x ∷ xs) ys e = absurd cc

abbrev HasNoFacts : Rest → Type 0
HasNoFacts r = facts r ≡ []

-- if a rest has no facts, none of its acts has any
mutual
  none-of-acts : (r : Rest) → facts r ≡ [] → Each HasNoFacts (acts r)
  none-of-acts (ready s w k) e = (e, tt)
  none-of-acts (asking s w k) e = (e, tt)
  none-of-acts (open_act s r) e = (e, none-of-acts r (right-none (held_at s.place s.needs) (facts r) e))
  none-of-acts (live s p x) e = (e, tt)
  none-of-acts (freeing s k) e = (e, tt)
  none-of-acts (in_seq r cs) e = none-of-acts r e
  none-of-acts (in_par rs) e = none-of-each rs e
  none-of-acts (in_loop n c body r) e = none-of-acts r e
  none-of-acts done e = tt

  none-of-each : (rs : Rests) → facts_of_each rs ≡ [] → Each HasNoFacts (acts_of_each rs)
  none-of-each no_rests e = tt
  none-of-each (rest r rs) e =
      Each-append HasNoFacts (acts r) (acts_of_each rs) (none-of-acts r (left-none (facts r) (facts_of_each rs) e)) (none-of-each rs (right-none (facts r) (facts_of_each rs) e))

no-moves : (f : Rest → Option Move) → ((a : Rest) → facts a ≡ [] → f a ≡ None) → (rs : List Rest) → Each HasNoFacts rs → filter_map f rs ≡ []
no-moves f none [] h = refl
no-moves f none (a ∷ rs) h = rw (none a h.0) (no-moves f none rs h.1)

gives-nothing : (b : Batch) (s : Step) (k : ℕ) → facts (freeing s k) ≡ [] → giving_back b s k ≡ None
gives-nothing b s zero e = refl
gives-nothing b s (suc k) e = go s.needs e
  where
    go : (ns : List Need) → held_at s.place (take (suc k) ns) ≡ [] → giving_back b (record s { needs = ns }) (suc k) ≡ None
    go [] e = refl
    go (n ∷ ns) e = absurd cc

waits-for-nothing : {X : Type 0} (f : Need → Option X) (s : Step) (o : Option Need) → awaited_at s.place o ≡ [] → ◌≡◌ {A = Option X} (elim o [ None ↦ None | Some r ↦ f r ]) None
waits-for-nothing f s None e = refl
waits-for-nothing f s (Some r) e = absurd cc

module _ (c : Setup) (s : Plant) (b : Batch) where
  stopped-act : (a : Rest) → facts a ≡ [] → act_move c s (record b { state = Stopped }) a ≡ None
  stopped-act (ready p w k) e = refl
  stopped-act (asking p w k) e =
      waits-for-nothing (λ r. when (is_served c s r (b.number, p.place)) (grant b.number p.place r)) p (slice_get p.needs k)
      (right-none (held_at p.place (take k p.needs)) (awaited_at p.place (slice_get p.needs k)) e)
  stopped-act (open_act p r) e = refl
  stopped-act (live p x t) e = refl
  stopped-act (freeing p k) e = gives-nothing (record b { state = Stopped }) p k e
  stopped-act (in_seq r cs) e = refl
  stopped-act (in_par rs) e = refl
  stopped-act (in_loop n d body r) e = refl
  stopped-act done e = refl

  aborted-act : (a : Rest) → facts a ≡ [] → act_move c s (record b { state = Aborted }) a ≡ None
  aborted-act (ready p w k) e = refl
  aborted-act (asking p w k) e =
      waits-for-nothing (λ r. when (is_served c s r (b.number, p.place)) (grant b.number p.place r)) p (slice_get p.needs k)
      (right-none (held_at p.place (take k p.needs)) (awaited_at p.place (slice_get p.needs k)) e)
  aborted-act (open_act p r) e = refl
  aborted-act (live p x t) e = refl
  aborted-act (freeing p k) e = gives-nothing (record b { state = Aborted }) p k e
  aborted-act (in_seq r cs) e = refl
  aborted-act (in_par rs) e = refl
  aborted-act (in_loop n d body r) e = refl
  aborted-act done e = refl

  in-state : (x : State) → is_stopped x ≡ true → IsFitting x (facts b.rest) → batch_moves c s (record b { state = x }) ≡ []
  in-state Stopped e f = no-moves (act_move c s (record b { state = Stopped })) stopped-act (acts b.rest) (none-of-acts b.rest f)
  in-state Aborted e f = no-moves (act_move c s (record b { state = Aborted })) aborted-act (acts b.rest) (none-of-acts b.rest f)
  in-state x h e = absurd (grind arith)

  pub stopped-moves : is_stopped b.state ≡ true → IsFitting b.state (facts b.rest) → batch_moves c s b ≡ []
  stopped-moves e f = in-state b.state e f
