-- A settled engine, and turns between which only the ports changed.
use Rattle.std.proofs.Common.{◌≡◌, ◌↔◌, ℕ, Bool, true, false, IsTrue, IfSome, IsNone, IfOk, Result, Ok, Err, ◌∷◌, [], ◌++◌, length, slice_get, sym, ◌∙◌, ap, subst, arith, inl, inr}
use Rattle.batch_desk.specs.{HubState.HubState, HubState.IsEngineSettled, HubState.outlines, HubDone.IsHubDone, Turns.AnswersTurn, Turns.Grows, Turns.SameWork, Turns.moves, declared.fault.HubFault.HubFault, declared.turned.Turned.Turned, declared.turned.Turned.TheVariants.Idle, declared.turned.Turned.TheVariants.Handled, declared.turned.Turned.TheVariants.MovesLeft}

pub settled-same : (h g : HubState) (r : Bool) → h ≡ g → IsTrue r ↔ IsEngineSettled h.engine → IsTrue r ↔ IsEngineSettled g.engine
settled-same h g r e told = subst (λ (k : HubState). IsTrue r ↔ IsEngineSettled k.engine) e told

-- if an answer is no, its proposition is false
pub told-no : {P : Type 0} (r : Bool) → IsTrue r ↔ P → r ≡ false → P → ⊥
told-no r told untrue holds = let yes : r ≡ true = told.1 holds in let bad : true ≡ false = sym yes ∙ untrue in absurd cc

pub not-done : (batches : ℕ) (h : HubState) (r : Bool) → r ≡ false → (IsHubDone batches h → ⊥) → IsTrue r ↔ IsHubDone batches h
not-done batches h r untrue left = (λ yes. let bad : true ≡ false = sym yes ∙ untrue in absurd cc, λ done. absurd (left done))

pub grows_between : (port : ℕ) (h f t g : HubState) → SameWork h f → outlines f ≡ outlines h → Grows port f t → SameWork t g → Grows port h g
grows_between port h f t g before stays (inl same) after = inl (after.1 ∙ (same ∙ before.1))
grows_between port h f t g before stays (inr popped) after = inr (record {
  event = popped.event;
  settled = subst IsEngineSettled before.0 popped.settled;
  was_open = subst (λ ps. IfSome (slice_get ps port) (λ p. IsNone p.closed)) stays popped.was_open;
  history = after.1 ∙ (popped.history ∙ ap (λ es. es ++ (port, popped.event) ∷ []) before.1);
})

answered_between : (h f t g : HubState) (turned : Turned) → SameWork h f → SameWork t g → AnswersTurn turned f t → AnswersTurn turned h g
answered_between h f t g Idle before after (settled, same) =
    (subst IsEngineSettled before.0 settled, (after.0 ∙ (same.0 ∙ before.0), after.1 ∙ (same.1 ∙ before.1), after.2 ∙ (same.2 ∙ before.2)))
answered_between h f t g Handled before after (settled, more) =
    (subst IsEngineSettled (sym after.0) settled, omega (arith, ap length before.1, ap moves before.2, ap length after.1, ap moves after.2, more))
answered_between h f t g MovesLeft before after (unsettled, count) =
    (λ settled. unsettled (subst IsEngineSettled after.0 settled), omega (arith, ap moves before.2, ap moves after.2, count))

pub answers_between : (h f t g : HubState) (r : Result Turned HubFault) → SameWork h f → SameWork t g
    → IfOk r (λ turned. AnswersTurn turned f t) → IfOk r (λ turned. AnswersTurn turned h g)
answers_between h f t g (Ok turned) before after ends = answered_between h f t g turned before after ends
answers_between h f t g (Err fault) before after ends = tt
