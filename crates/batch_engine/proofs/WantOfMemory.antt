-- Events to which want of memory may be the answer.
use Rattle.std.proofs.Common.{◌≡◌, ◌⊎◌, Option, Some, None, refl, ap, inl, inr}
use Rattle.batch_model.specs.{Events.Event, Events.refused, Events.no_memory, Events.moves_pending, Events.judged, Events.Answer, Moves.Move, Moves.next, Plant.Setup, Plant.Plant, Runs.IsCreated, Runs.Reacts}

module _ (c : Setup) (s : Plant) (e : Event) (t : Plant) where
  abbrev answer : Option Move → Answer
  answer o = elim o [ Some m ↦ (refused moves_pending, s) | None ↦ judged c s e ]

  by_next : (o : Option Move) → next c s ≡ o → (answer o ≡ (refused no_memory, t)) ⊎ (IsCreated (answer o).0 × (refused no_memory ≡ refused no_memory) × (t ≡ s))
      → next c s ≡ None
  by_next None is w = is
  by_next (Some m) is (inl w) = (let clash : refused moves_pending ≡ refused no_memory = ap (λ (a : Answer). a.0) w in absurd (cc clash))
  by_next (Some m) is (inr w) = absurd w.0

  -- no move is pending
  pub wants-settled : Reacts c s e (refused no_memory) t → next c s ≡ None
  wants-settled wants = by_next (next c s) refl wants
