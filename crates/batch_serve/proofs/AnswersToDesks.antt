-- Desks that are told one after the other.
use Rattle.std.proofs.Common.{◌≡◌, ◌≢◌, ◌<◌, ◌≤◌, ◌+◌, ◌⊎◌, ℕ, length, get_or, set, List, sym, ◌∙◌, subst, arith, inl, inr, get_or-set_other, get_or-set_same}
use Rattle.std.proofs.lemmas.{Bool.cases_lt, List.get_or_default}
use Rattle.batch_serve.specs.{Runs.Run, Told.IsDeskTold, declared.desk.ServedDesk.ServedDesk}

here : (answers : List Run) (first now : List ServedDesk) (i k : ℕ) (other old new : ServedDesk) → k ≡ i → i < length now → old ≡ get_or now i old → get_or now i other ≡ get_or first i other
    → IsDeskTold i answers old new → IsDeskTold k answers (get_or first k other) (get_or (set now i new) k other)
here answers first now i k other old new at within is same was =
    let before : old ≡ get_or first i other = is ∙ get_or_default now i old other within ∙ same in
    let after : new ≡ get_or (set now i new) i other = sym (get_or-set_same now i new other within) in
    subst (λ n. IsDeskTold n answers (get_or first n other) (get_or (set now i new) n other)) (sym at)
    (subst (λ (d : ServedDesk). IsDeskTold i answers (get_or first i other) d) after (subst (λ (d : ServedDesk). IsDeskTold i answers d new) before was))

-- one more desk was told
pub told_more : (answers : List Run) (first now : List ServedDesk) (i : ℕ) (old new : ServedDesk) → i < length now → old ≡ get_or now i old → IsDeskTold i answers old new
    → ((k : ℕ) (other : ServedDesk) → k < i → IsDeskTold k answers (get_or first k other) (get_or now k other))
    → ((k : ℕ) (other : ServedDesk) → i ≤ k → get_or now k other ≡ get_or first k other)
    → (k : ℕ) (other : ServedDesk) → k < i + 1 → IsDeskTold k answers (get_or first k other) (get_or (set now i new) k other)
told_more answers first now i old new within is was so_far rest k other below = go (cases_lt k i)
  where
    go : (k < i) ⊎ (i ≤ k) → IsDeskTold k answers (get_or first k other) (get_or (set now i new) k other)
    go (inl lt) =
        let apart : k ≢ i = omega arith in
        subst (λ (d : ServedDesk). IsDeskTold k answers (get_or first k other) d) (sym (get_or-set_other now i k new other apart)) (so_far k other lt)
    go (inr le) = here answers first now i k other old new (omega arith) within is (rest i other (omega arith)) was

-- and the others are as they were
pub kept_more : (first now : List ServedDesk) (i : ℕ) (new : ServedDesk) → ((k : ℕ) (other : ServedDesk) → i ≤ k → get_or now k other ≡ get_or first k other)
    → (k : ℕ) (other : ServedDesk) → i + 1 ≤ k → get_or (set now i new) k other ≡ get_or first k other
kept_more first now i new rest k other above =
    let apart : k ≢ i = omega arith in
    get_or-set_other now i k new other apart ∙ rest k other (omega arith)
