-- Signs of nodes, and the nodes of each sign.
use Rattle.std.proofs.Common.{◌≡◌, ◌<◌, ◌≤◌, refl, sym, ◌∙◌, ap, subst, ℕ, zero, suc, List, length, Bool, true, false, Option, Some, None, inl, inr, ◌⊎◌, arith, nat_eq, bit_and}
use Rattle.std.{specs.Prelude.◌^◌, specs.Prelude.min, specs.Int.bit_at, proofs.lemmas.Bool.cases_lt, proofs.lemmas.List.get_or_past, proofs.lemmas.Nat.Bits.bit_at-lt, proofs.lemmas.Nat.Bits.bit_at-zero, proofs.lemmas.Nat.Bits.bit_at_above}
use Rattle.batch_signs.{specs.SignSets.AreAbsent, specs.SignSets.ShowsNone, specs.SignSets.ShowsSome, specs.SignSets.IsFirstShown, specs.Signs.sign_at, specs.Signs.AreBySign, specs.Signs.FindsNone, specs.Signs.IsNextShown, specs.Signs.NoneShows, proofs.Bits.differs, proofs.Bits.nat-same, proofs.WantedSigns.no-bit, proofs.WantedSigns.all-bits}

none-both : (a b : ℕ) → a < 2 → b < 2 → (b ≡ 1 → a ≡ 0) → min a b ≡ 0
none-both a b l m h = go (cases_lt b 1)
  where
    go : (b < 1) ⊎ (1 ≤ b) → min a b ≡ 0
    go (inl q) = omega arith
    go (inr q) = (let one = h (omega arith) in omega (arith, one))

module _ (signs words : List ℕ) (wanted from : ℕ) (h : AreBySign signs words) (few : wanted < 2 ^ 32) where
  none-of-node : (k : ℕ) → ShowsNone words wanted k → bit_and (sign_at signs k) wanted ≡ 0
  none-of-node k none = all-bits (sign_at signs k) wanted (λ i. go i (cases_lt i 32))
    where
      go : (i : ℕ) → (i < 32) ⊎ (32 ≤ i) → min (bit_at (sign_at signs k) i) (bit_at wanted i) ≡ 0
      go i (inl q) = none-both (bit_at (sign_at signs k) i) (bit_at wanted i) (bit_at-lt (sign_at signs k) i) (bit_at-lt wanted i) (λ e. sym (h.same k i q) ∙ none i q e)
      go i (inr q) = let past = bit_at_above wanted 32 i few q in omega (arith, past)

  pub next-none : IsFirstShown words wanted from None → IsNextShown signs wanted from None
  next-none none k a b = none-of-node k (none k a)

  shown-node : (n : ℕ) → ShowsSome words wanted n → (n < length signs) × (bit_and (sign_at signs n) wanted ≡ 0 → ⊥)
  shown-node n shows = (within, some)
    where
      has : bit_at (sign_at signs n) shows.0 ≡ 1
      has = sym (h.same n shows.0 shows.1) ∙ shows.3

      within : n < length signs
      within = elim (cases_lt n (length signs)) [
        | inl q ↦ q
        | inr q ↦ absurd (let none = ap (λ z. bit_at z shows.0) (get_or_past {X = ℕ} signs n 0 q) ∙ bit_at-zero shows.0 in omega (arith, has, none))
      ]

      some : bit_and (sign_at signs n) wanted ≡ 0 → ⊥
      some e = absurd (let none = no-bit (sign_at signs n) wanted e shows.0 in omega (arith, none, has, shows.2))

  pub next-some : (n : ℕ) → IsFirstShown words wanted from (Some n) → IsNextShown signs wanted from (Some n)
  next-some n first = let node = shown-node n first.1 in (first.0, node.0, node.1, λ k a b. none-of-node k (first.2 k a b))

  pub next-shown : (result : Option ℕ) → IsFirstShown words wanted from result → IsNextShown signs wanted from result
  next-shown None h = next-none h
  next-shown (Some n) h = next-some n h

  -- the first of some nodes that shows one of the signs, if one of them does
  first-below : (n : ℕ) → n ≤ length signs → NoneShows signs wanted 0 n ⊎ ((j : ℕ) × IsNextShown signs wanted 0 (Some j))
  first-below zero le = inl (λ k a lt. absurd (omega (arith, lt)))
  first-below (suc n) le = elim (first-below n (omega (arith, le))) [
    | inl q ↦ go q (nat_eq (bit_and (sign_at signs n) wanted) 0) refl
    | inr q ↦ inr q
  ]
    where
      go : NoneShows signs wanted 0 n → (t : Bool) → nat_eq (bit_and (sign_at signs n) wanted) 0 ≡ t → NoneShows signs wanted 0 (suc n) ⊎ ((j : ℕ) × IsNextShown signs wanted 0 (Some j))
      go q true e = inl (λ k a lt. elim (cases_lt k n) [
        | inl l ↦ q k a l
        | inr l ↦ subst (λ z. bit_and (sign_at signs z) wanted ≡ 0) (let same : n ≡ k = omega (arith, l, lt) in same) (nat-same (bit_and (sign_at signs n) wanted) 0 e)
      ])
      go q false e = inr (n, (omega arith, omega (arith, le), differs (bit_and (sign_at signs n) wanted) 0 e, q))

  pub finds-none : (none : Bool) → AreAbsent words wanted none → FindsNone signs wanted none
  finds-none true absent = (None, λ k a lt. none-of-node k (absent k), refl)
  finds-none false shown =
      let node = shown-node shown.0 shown.1 in
      elim (first-below (length signs) (omega arith)) [
        | inl q ↦ absurd (node.1 (q shown.0 (omega arith) node.0))
        | inr q ↦ (Some q.0, q.1, refl)
      ]
