-- The result of a binary search among the numbers of entries.
use Rattle.std.proofs.Common.{◌≡◌, ◌<◌, ◌≤◌, inl, inr, ◌+◌, refl, sym, ◌∙◌, ap, ap₂, ℕ, zero, suc, List, [], ◌∷◌, Bool, true, false, cond, not, Some, None, Result, Ok, Err, arith, length, map, get_or, nat_eq}
use Rattle.std.{specs.Prelude.nat_lt, specs.Prelude.position, specs.List.position_or_len, specs.List.Sorted.IsSearchInRange, specs.List.Sorted.IsBinarySearchResult, specs.List.Sorted.IsNonDecreasingBy, specs.Ordering.nat_cmp, specs.Ordering.ordering_index, specs.Result.result_ok, proofs.lemmas.Bool.cases_lt, proofs.lemmas.Bool.lt-ltb, proofs.lemmas.Bool.le-ltb, proofs.lemmas.Bool.Decides.nat_tests, proofs.lemmas.Cmp.ranked, proofs.lemmas.List.length-map, proofs.lemmas.List.Sorted.IsNonDecreasingBy-from_default}
use Rattle.batch_engine.{specs.declared.batches.Entry.Entry, specs.Batches.AreRising, specs.Batches.entry_number, proofs.SlabChanges.numbers-rise}
use Rattle.batch_record_laws.proofs.Entries.{nat_differs}

first-len : {X : Type 0} (p : X → Bool) (xs : List X) (i : ℕ) (d : X) → i < length xs → p (get_or xs i d) ≡ true → ((k : ℕ) → k < i → p (get_or xs k d) ≡ false) → position_or_len p xs ≡ i
first-len p [] i d l h b = absurd (omega arith)
first-len p (x ∷ xs) zero d l h b = ap (λ t. cond (not t) (1 + position_or_len p xs) 0) h
first-len p (x ∷ xs) (suc i) d l h b =
    let here : position_or_len p (x ∷ xs) ≡ 1 + position_or_len p xs = ap (λ t. cond (not t) (1 + position_or_len p xs) 0) (b 0 (omega arith)) in
    omega (arith, here, first-len p xs i d (omega arith) h (λ k lt. b (suc k) (omega arith)))

none-len : {X : Type 0} (p : X → Bool) (xs : List X) (d : X) → ((k : ℕ) → k < length xs → p (get_or xs k d) ≡ false) → position_or_len p xs ≡ length xs
none-len p [] d b = refl
none-len p (x ∷ xs) d b =
    let here : position_or_len p (x ∷ xs) ≡ 1 + position_or_len p xs = ap (λ t. cond (not t) (1 + position_or_len p xs) 0) (b 0 (omega arith)) in
    omega (arith, here, none-len p xs d (λ k lt. b (suc k) (omega arith)))

pub position-map : {X Y : Type 0} (p : Y → Bool) (f : X → Y) (xs : List X) → position p (map f xs) ≡ position (λ x. p (f x)) xs
position-map {X} p f xs = ap₂ (λ a b. cond (nat_lt a b) (Some a) None) (go xs) (length-map xs f)
  where
    go : (ys : List X) → position_or_len p (map f ys) ≡ position_or_len (λ x. p (f x)) ys
    go [] = refl
    go (y ∷ ys) = ap (λ n. cond (not (p (f y))) (1 + n) 0) (go ys)

first-found : {X : Type 0} (p : X → Bool) (xs : List X) (i : ℕ) (d : X) → i < length xs → p (get_or xs i d) ≡ true → ((k : ℕ) → k < i → p (get_or xs k d) ≡ false) → position p xs ≡ Some i
first-found p xs i d l h b =
    ap (λ n. cond (nat_lt n (length xs)) (Some n) None) (first-len p xs i d l h b) ∙ ap (λ t. cond t (Some i) None) (lt-ltb i (length xs) l)

none-found : {X : Type 0} (p : X → Bool) (xs : List X) (d : X) → ((k : ℕ) → k < length xs → p (get_or xs k d) ≡ false) → position p xs ≡ None
none-found p xs d b =
    ap (λ n. cond (nat_lt n (length xs)) (Some n) None) (none-len p xs d b) ∙ ap (λ t. cond t (Some (length xs)) None) (le-ltb (length xs) (length xs) (omega arith))

pub no_entry : Entry
no_entry = record { number = 0; key = 0 }

module _ (es : List Entry) (rising : AreRising es) (n : ℕ) where
  comparisons-rise : IsNonDecreasingBy (λ (e : Entry). ordering_index (nat_cmp e.number n)) es
  comparisons-rise = IsNonDecreasingBy-from_default (λ (e : Entry). ordering_index (nat_cmp e.number n)) es no_entry (λ i j le in_range.
      let rise : (get_or es i no_entry).number ≤ (get_or es j no_entry).number =
      grind (arith, numbers-rise es i j no_entry rising, λ (same : i ≡ j). ap (λ k. (get_or es k no_entry).number) same) in
      grind (arith, nat_tests))

  pub found-at : (i : ℕ) → i < length es → (get_or es i no_entry).number ≡ n → Some i ≡ position (λ m. nat_eq m n) (map entry_number es)
  found-at i within here =
      sym (position-map (λ m. nat_eq m n) entry_number es
      ∙ first-found (λ (e : Entry). nat_eq e.number n) es i no_entry within (grind (arith, here))
      (λ k lt. nat_differs _ n (λ same. omega (arith, numbers-rise es k i no_entry rising lt within, here, same))))

  pub searched : (r : Result ℕ ℕ) → IsSearchInRange r (length es) → IsBinarySearchResult (λ (e : Entry). nat_cmp e.number n) es r
      → result_ok r ≡ position (λ m. nat_eq m n) (map entry_number es)
  searched (Ok i) within equal = found-at i within (ranked _ n _ (sym (equal no_entry)))
  searched (Err i) within parted =
      sym (position-map (λ m. nat_eq m n) entry_number es
      ∙ none-found (λ (e : Entry). nat_eq e.number n) es no_entry (λ k lt. nat_differs _ n (λ same. elim (cases_lt k i) [
        | inl below ↦ let less : (get_or es k no_entry).number < n = ranked _ n _ (sym ((parted comparisons-rise).0 k no_entry (omega arith) below)) in omega arith
        | inr above ↦ let more : n < (get_or es k no_entry).number = ranked _ n _ (sym ((parted comparisons-rise).1 k no_entry above lt)) in omega arith
      ])))
