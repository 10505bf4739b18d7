-- A batch that changes its state by itself has less work left.
use Rattle.std.proofs.Common.{◌≡◌, refl, sym, ◌∙◌, ap, subst, ℕ, suc, length, ◌-◌, Bool, true, false, List, [], ◌∷◌, Some, arith, inl, inr, ◌<◌, ◌≤◌, ◌+◌, ◌*◌}
use Rattle.std.{proofs.lemmas.Bool.and_parts, specs.List.list_all, specs.Prelude.option_and_then}
use Rattle.batch_matrix.specs.{declared.state.State.State, declared.state.State.TheVariants.Running, declared.state.State.TheVariants.Pausing, declared.state.State.TheVariants.Paused, declared.state.State.TheVariants.Holding, declared.state.State.TheVariants.Held, declared.state.State.TheVariants.Restarting, declared.state.State.TheVariants.Stopping, declared.state.State.TheVariants.Stopped, declared.state.State.TheVariants.Aborting, declared.state.State.TheVariants.Aborted, declared.state.State.TheVariants.Complete, Matrix.ends_as}
use Rattle.batch_recipe.specs.Tree.{Step, Phase}
use Rattle.batch_model.{specs.Lists.Has, specs.Lists.Each, specs.Standing.is_resting, specs.Standing.IsUnbegun, specs.Rest.Rest, specs.Rest.ready, specs.Rest.asking, specs.Rest.open_act, specs.Rest.live, specs.Rest.freeing, specs.Rest.in_seq, specs.Rest.in_par, specs.Rest.in_loop, specs.Rest.done, specs.Rest.Rests, specs.Rest.no_rests, specs.Rest.rest, specs.Rest.is_done, specs.Rest.acts, specs.Rest.acts_of_each, specs.Plant.Batch, specs.Plant.phase_states, specs.Moves.Move, specs.Moves.state, specs.Moves.is_running, specs.Moves.when, specs.Moves.is_reached, specs.Moves.state_move, specs.Runs.toil, specs.Runs.toil_of_work, specs.Runs.toil_of_each, specs.Runs.sends, specs.Runs.goes_on, specs.Runs.ahead, specs.Runs.toil_left, specs.Runs.toil_left_in_each, specs.Runs.state_moves_left, proofs.Members.Has-left, proofs.Members.Has-right}
use Rattle.batch_step_laws.proofs.ListsOverActs.{no-acts_of_done}

-- in state y no more lies ahead than in x, and no more is sent to the live phases
module _ (x y : State) (no_more : (n : ℕ) → ahead y n ≤ ahead x n) where
  abbrev SendsNoMore : List Rest → Type 0
  SendsNoMore as' = (s : Step) (p : Phase) (t : State) → Has as' (live s p t) → sends y t ≤ sends x t

  mutual
    calmer : (r : Rest) → SendsNoMore (acts r) → toil_left y r ≤ toil_left x r
    calmer (ready s w k) h = omega (arith, no_more (3 * (length s.needs - k) + toil_of_work w))
    calmer (asking s w k) h = omega (arith, no_more (3 * (length s.needs - suc k) + toil_of_work w))
    calmer (open_act s r) h = omega (arith, no_more 1, calmer r (λ u p t i. h u p t (inr i)))
    calmer (live s p t) h = omega (arith, h s p t (inl refl))
    calmer (in_seq r cs) h = omega (arith, no_more (toil_of_each cs), calmer r h)
    calmer (in_par rs) h = calmer_each rs h
    calmer (in_loop n c body r) h = omega (arith, no_more (n * toil body), calmer r h)
    calmer r h = grind arith

    calmer_each : (rs : Rests) → SendsNoMore (acts_of_each rs) → toil_left_in_each y rs ≤ toil_left_in_each x rs
    calmer_each no_rests h = omega arith
    calmer_each (rest r rs) h =
        omega (
          arith,
          calmer r (λ s p t i. h s p t (Has-left (acts r) (acts_of_each rs) (live s p t) i)),
          calmer_each rs (λ s p t i. h s p t (Has-right (acts r) (acts_of_each rs) (live s p t) i)),
        )

-- a test that holds of the states of all live phases holds of each
live-all : (test : State → Bool) (as' : List Rest) → list_all test (phase_states as') ≡ true → (s : Step) (p : Phase) (t : State) → Has as' (live s p t) → test t ≡ true
live-all test [] e s p t h = absurd h
live-all test (live u q y ∷ more) e s p t (inl f) = let same : y ≡ t = cc in ap test (sym same) ∙ (and_parts (test y) (list_all test (phase_states more)) e).0
live-all test (live u q y ∷ more) e s p t (inr h) = live-all test more ((and_parts (test y) (list_all test (phase_states more)) e).1) s p t h
live-all test (a ∷ more) e s p t (inl f) = absurd cc
live-all test (ready u w k ∷ more) e s p t (inr h) = live-all test more e s p t h
live-all test (asking u w k ∷ more) e s p t (inr h) = live-all test more e s p t h
live-all test (open_act u r ∷ more) e s p t (inr h) = live-all test more e s p t h
live-all test (freeing u k ∷ more) e s p t (inr h) = live-all test more e s p t h
live-all test (in_seq r cs ∷ more) e s p t (inr h) = live-all test more e s p t h
live-all test (in_par rs ∷ more) e s p t (inr h) = live-all test more e s p t h
live-all test (in_loop n c b r ∷ more) e s p t (inr h) = live-all test more e s p t h
live-all test (done ∷ more) e s p t (inr h) = live-all test more e s p t h

-- a running phase isn't told to resume
sends-running : (t : State) → is_running t ≡ true → sends Running t ≡ 0
sends-running t e = grind arith

-- no state in which a batch goes on ends as one in which it doesn't
still-off : (x y : State) → ends_as x ≡ Some y → goes_on y ≡ false → goes_on x ≡ false
still-off x y e f = grind arith

-- m changes the state of a batch in state x to one in which less work is left
abbrev pub IsStateMove : ℕ → State → Rest → Move → Type 0
IsStateMove n x r m =
    (y : State) × (m ≡ state n y) × (state_moves_left y + toil_left y r < state_moves_left x + toil_left x r) × (goes_on y ≡ false → goes_on x ≡ false)
    × (is_resting y ≡ true → Each IsUnbegun (acts r))

taken : (t : Bool) (l m : Move) → when t l ≡ Some m → (t ≡ true) × (m ≡ l)
taken t l m e = grind arith

state_move-lowers : (n : ℕ) (x : State) (r : Rest) (m : Move)
    → option_and_then (λ y. when (is_reached y r) (state n y)) (ends_as x) ≡ Some m → IsStateMove n x r m
state_move-lowers n Running r m e =
    (Complete, (taken (is_done r) (state n Complete) m e).1, omega (arith, calmer Running Complete (λ k. omega arith) r (λ s p t h. omega arith)), still-off Running Complete refl, λ d. subst (Each IsUnbegun) (sym (no-acts_of_done r (taken (is_done r) (state n Complete) m e).0)) tt)
state_move-lowers n Pausing r m e = (
  Paused,
  (taken (is_reached Paused r) (state n Paused) m e).1,
  omega (arith, calmer Pausing Paused (λ k. omega arith) r (λ s p t h. omega arith)),
  still-off Pausing Paused refl,
  λ d. absurd cc,
)
state_move-lowers n Holding r m e = (
  Held,
  (taken (is_reached Held r) (state n Held) m e).1,
  omega (arith, calmer Holding Held (λ k. omega arith) r (λ s p t h. omega arith)),
  still-off Holding Held refl,
  λ d. absurd cc,
)
state_move-lowers n Restarting r m e =
    let all = taken (is_reached Running r) (state n Running) m e in (
      Running,
      all.1,
      omega (
        arith,
        calmer Restarting Running (λ k. omega arith) r (λ s p t h. omega (arith, sends-running t (live-all is_running (acts r) all.0 s p t h))),
      ),
      still-off Restarting Running refl,
      λ d. absurd cc,
    )
state_move-lowers n Stopping r m e = (
  Stopped,
  (taken (is_reached Stopped r) (state n Stopped) m e).1,
  omega (arith, calmer Stopping Stopped (λ k. omega arith) r (λ s p t h. omega arith)),
  still-off Stopping Stopped refl,
  λ d. absurd cc,
)
state_move-lowers n Aborting r m e = (
  Aborted,
  (taken (is_reached Aborted r) (state n Aborted) m e).1,
  omega (arith, calmer Aborting Aborted (λ k. omega arith) r (λ s p t h. omega arith)),
  still-off Aborting Aborted refl,
  λ d. absurd cc,
)
state_move-lowers n x r m e = grind arith

pub state_move-is : (b : Batch) (m : Move) → state_move b ≡ Some m → IsStateMove b.number b.state b.rest m
state_move-is b m e = state_move-lowers b.number b.state b.rest m e
