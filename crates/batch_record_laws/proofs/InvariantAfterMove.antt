-- The next move keeps the invariant.
use Rattle.std.proofs.Common.{arith, ◌≡◌, refl, subst, ℕ, List, [], Bool, true, false, ◌&&◌, Option, Some, None, option_and_then, option_to_list, inl, inr, nat_eq, ◌++◌, filter_map}
use Rattle.std.proofs.lemmas.Bool.{and_parts}
use Rattle.batch_matrix.specs.{declared.state.State.State, declared.state.State.TheVariants.Running, declared.state.State.TheVariants.Pausing, declared.state.State.TheVariants.Paused, declared.state.State.TheVariants.Holding, declared.state.State.TheVariants.Held, declared.state.State.TheVariants.Restarting, declared.state.State.TheVariants.Stopping, declared.state.State.TheVariants.Stopped, declared.state.State.TheVariants.Aborting, declared.state.State.TheVariants.Aborted, declared.state.State.TheVariants.Complete, Matrix.ends_as}
use Rattle.batch_model.{specs.Lists.Has, specs.Rest.Rest, specs.Rest.acts, specs.Plant.Setup, specs.Plant.Batch, specs.Plant.Plant, specs.Plant.held_in, specs.Moves.after_move, specs.Moves.Move, specs.Moves.state, specs.Moves.when, specs.Moves.is_quiet, specs.Moves.is_empty, specs.Moves.is_reached, specs.Moves.act_move, specs.Moves.state_move, specs.Moves.batch_moves, specs.Moves.next, specs.Moves.batch_after, specs.Runs.Out, specs.Runs.move, specs.Cleared.Ranking, proofs.Members.Has-filter_map, proofs.Members.Has-flat_map, specs.Standing.IsStandingBatch, specs.Standing.IsStanding}
use Rattle.batch_recipe.specs.Tree.{Place}
use Rattle.batch_record_laws.proofs.{PlantFacts.facts, FactsAfterAdvance.done-facts, Entries.nat_self, Entries.nat_differs, Invariant.IsFitting, Invariant.IsSound, Invariant.IsKept, AbsentFacts.quiet-performs_nothing, AbsentFacts.holding-nothing, AbsentFacts.no_facts, PhaseStarts.starts-nothing, InvariantAfterChange.kept-quiet, ActMoves.Stepped, ActMoves.act-step, ActMoves.no_move, ActMoves.some_move, Invariant.standing-of}
use Rattle.batch_step_laws.proofs.WorkAfterMove.{next-possible}

-- A line that tells the state of one batch

pub tells-other : (n m : ℕ) (new old : Option State) → (m ≡ n → ⊥) → ◌≡◌ {A = Option State} (elim (nat_eq n m) [ true ↦ new | false ↦ old ]) old
tells-other n m new old d = grind (arith, nat_differs)

pub tells-own : (n : ℕ) (new old : Option State) → ◌≡◌ {A = Option State} (elim (nat_eq n n) [ true ↦ new | false ↦ old ]) new
tells-own n new old = grind (arith, nat_self n)

same_some : (x y : State) → ◌≡◌ {A = Option State} (Some x) (Some y) → x ≡ y
same_some x y e = cc

nothing_left : (r : Rest) → (is_quiet r && is_empty (held_in r)) ≡ true → ((p : Place) (x : _) → Has (facts r) (p, Rattle.batch_record_laws.proofs.PlantFacts.awaiting x) → ⊥) → facts r ≡ []
nothing_left r e h = grind (arith, and_parts (is_quiet r) (is_empty (held_in r)) e, no_facts, quiet-performs_nothing, holding-nothing)

-- the facts of a rest that has reached this state fit it
abbrev FitsReached : Rest → State → Type 0
FitsReached r y = is_reached y r ≡ true → IsFitting y (facts r)

fit-reached : (x y : State) (r : Rest) → ends_as x ≡ Some y → is_reached y r ≡ true → IsFitting x (facts r) → IsFitting y (facts r)
fit-reached Running y r f e h = subst (FitsReached r) (same_some Complete y f) (done-facts r) e
fit-reached Pausing y r f e h = subst (FitsReached r) (same_some Paused y f) (λ u. tt) e
fit-reached Holding y r f e h = subst (FitsReached r) (same_some Held y f) (λ u. tt) e
fit-reached Restarting y r f e h = subst (FitsReached r) (same_some Running y f) (λ u. tt) e
fit-reached Stopping y r f e h = subst (FitsReached r) (same_some Stopped y f) (λ u. nothing_left r u h) e
fit-reached Aborting y r f e h = subst (FitsReached r) (same_some Aborted y f) (λ u. nothing_left r u h) e
fit-reached x y r f e h = absurd (grind arith)

module _ (d : Setup) (rank : Ranking) (outs : List Out) (s : Plant) (sd : IsStanding d s) (k : IsKept d rank outs s) where
  state-step : (b : Batch) → Has s.batches b → (m : Move) → state_move b ≡ Some m → Stepped d rank outs s m
  state-step b i m e = ends (ends_as b.state) refl e
    where
      made : (x : State) → is_reached x b.rest ≡ true → ends_as b.state ≡ Some x → Stepped d rank outs s (state b.number x)
      made x r q =
          let sound : IsSound d rank b = k.sound b i in let here : IsStandingBatch d b = standing-of d s sd b i in (
            kept-quiet d rank outs s sd k b i (move (state b.number x)) (batch_after (state b.number x)) refl
                (record { cleared = sound.cleared; fits = fit-reached b.state x b.rest q r sound.fits; apart = sound.apart; units = sound.units })
                refl (λ n old w. tells-other b.number n (Some x) old w, tells-own b.number (Some x) (Some b.state)) (λ q hs. refl) (λ q ws. refl) (λ xs. refl),
            starts-nothing d outs (move (state b.number x)) (λ n q y vs e. cc),
          )

      reached : (x : State) → ends_as b.state ≡ Some x → (t : Bool) → is_reached x b.rest ≡ t → when t (state b.number x) ≡ Some m → Stepped d rank outs s m
      reached x q true r f = subst (Stepped d rank outs s) (some_move (state b.number x) m f) (made x r q)
      reached x q false r f = absurd (no_move m f)

      ends : (o : Option State) → ends_as b.state ≡ o → option_and_then (λ x. when (is_reached x b.rest) (state b.number x)) o ≡ Some m → Stepped d rank outs s m
      ends None q f = absurd (no_move m f)
      ends (Some x) q f = reached x q (is_reached x b.rest) refl f

  batch-step : (b : Batch) → Has s.batches b → (m : Move) → Has (batch_moves d s b) m → IsStanding d (after_move s m) → Stepped d rank outs s m
  batch-step b i m h td = go (state_move b) refl h
    where
      of_act : Has (filter_map (act_move d s b) (acts b.rest)) m → Stepped d rank outs s m
      of_act j = let a = Has-filter_map (act_move d s b) (acts b.rest) m j in act-step d rank outs s sd k b i a.0 m a.1 a.2 td

      go : (o : Option Move) → state_move b ≡ o
          → Has (option_to_list o ++ filter_map (act_move d s b) (acts b.rest)) m → Stepped d rank outs s m
      go None e j = of_act j
      go (Some l) e (inl q) = subst (Stepped d rank outs s) q (state-step b i l e)
      go (Some l) e (inr j) = of_act j

  pub move-step : (m : Move) → next d s ≡ Some m → IsStanding d (after_move s m) → Stepped d rank outs s m
  move-step m e td =
      let b = Has-flat_map (batch_moves d s) s.batches m (next-possible d s m e) in
      batch-step b.0 b.1 m b.2 td
