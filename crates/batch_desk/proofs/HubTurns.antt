-- Properties of a hub that turns, one after the other, keep; and which of its batches are complete.
use Rattle.std.proofs.Common.{◌≡◌, ℕ, ◌+◌, ◌-◌, ◌<◌, ◌≤◌, List, [], ◌∷◌, ◌++◌, length, sym, ◌∙◌, ap, subst, arith, append_assoc, append-nil, inl, inr, ◌⊎◌}
use Rattle.std.proofs.lemmas.{Bool.cases_lt, Bool.Decides.nat_tests, List.Elements.All-nil, List.Elements.All-push}
use mathlib.Core.List.{IsPrefix}
use Rattle.batch_engine.specs.declared.event.Event.{Event}
use Rattle.batch_desk.{specs.HubState.HasHistoryGrown, specs.HubState.HubState, specs.HubState.outlines, specs.HubDone.AreComplete, specs.HubDone.IsComplete, specs.PortState.outline, specs.Turns.Grows, proofs.ListImages.map-same_length}

pub prefix_same : {X : Type 0} (xs : List X) → IsPrefix xs xs
prefix_same xs = ([], append-nil xs)

pub history_same : (ports : ℕ) (history : List (ℕ × Event)) → HasHistoryGrown ports history history
history_same ports history = record { more = []; is = sym (append-nil history); each = All-nil (λ (entry : ℕ × Event). entry.0 < ports) }

pub as_many : (h g : HubState) → outlines g ≡ outlines h → length g.ports ≡ length h.ports
as_many h g same = map-same_length outline g.ports h.ports same

grown_within : (ports port : ℕ) (old : List (ℕ × Event)) (h g : HubState) → port < ports → HasHistoryGrown ports old h.history → Grows port h g → HasHistoryGrown ports old g.history
grown_within ports port old h g below was (inl same) = subst (λ es. HasHistoryGrown ports old es) (sym same) was
grown_within ports port old h g below was (inr pops) = record {
  more = was.more ++ (port, pops.event) ∷ [];
  is = pops.history ∙ (ap (λ es. es ++ (port, pops.event) ∷ []) was.is ∙ append_assoc old was.more ((port, pops.event) ∷ []));
  each = All-push (λ (entry : ℕ × Event). entry.0 < ports) was.more (port, pops.event) was.each below;
}

-- a turn of a port that isn't there changes nothing
pub history_grows : (ports port : ℕ) (old : List (ℕ × Event)) (h g : HubState) → length h.ports ≡ ports → (length h.ports ≤ port → g ≡ h) → HasHistoryGrown ports old h.history
    → Grows port h g → HasHistoryGrown ports old g.history
history_grows ports port old h g many unknown was grown = elim (cases_lt port (length h.ports)) [
  | inl below ↦ grown_within ports port old h g (subst (λ n. port < n) many below) was grown
  | inr out ↦ subst (λ (k : HubState). HasHistoryGrown ports old k.history) (sym (unknown out)) was
]

pub one_incomplete : (h : HubState) (batches later : ℕ) → later < batches → ¬ IsComplete (batches - later) h → ¬ AreComplete batches h
one_incomplete h batches later lt lacks all = lacks (all (batches - later) (omega (arith, lt)) (omega (arith, lt)))

next_or_later : (n batches later : ℕ) → later < batches → n ≤ batches → batches < n + (later + 1) → (n ≡ batches - later) ⊎ (batches < n + later)
next_or_later n batches later lt most late = grind (arith, nat_tests)

pub one_more : (h : HubState) (batches later : ℕ) → later < batches → ((n : ℕ) → 1 ≤ n → n ≤ batches → batches < n + later → IsComplete n h) → IsComplete (batches - later) h
    → (n : ℕ) → 1 ≤ n → n ≤ batches → batches < n + (later + 1) → IsComplete n h
one_more h batches later lt was is n least most late = elim (next_or_later n batches later lt most late) [
  | inl same ↦ subst (λ k. IsComplete k h) (sym same) is
  | inr more ↦ was n least most more
]

pub all_complete : (h : HubState) (batches later : ℕ) → later ≡ batches → ((n : ℕ) → 1 ≤ n → n ≤ batches → batches < n + later → IsComplete n h) → AreComplete batches h
all_complete h batches later same was n least most = was n least most (omega (arith, same, least))
