-- The bits of sets of phases.
use Rattle.std.proofs.Common.{◌≡◌, ◌<◌, ◌≤◌, ◌+◌, ◌-◌, ◌*◌, ◌%◌, ◌||◌, ℕ, Bool, true, false, nat_eq, nat_lt, bit_and, bit_or, inl, inr, refl, sym, ap, ◌∙◌, subst, arith}
use Rattle.std.{specs.Prelude.◌^◌, specs.Prelude.min, specs.Int.bit_at, proofs.lemmas.Bool.cases_lt, proofs.lemmas.Bool.eqb-false, proofs.lemmas.Bool.eqb-true, proofs.lemmas.Bool.le-ltb, proofs.lemmas.Bool.lt-ltb, proofs.lemmas.Nat.one_shl, proofs.lemmas.Nat.Bits.bit_at-lt, proofs.lemmas.Nat.Bits.bit_at-pow_other, proofs.lemmas.Nat.Bits.bit_at-pow_same, proofs.lemmas.Nat.Bits.bit_at-zero, proofs.lemmas.Nat.Bits.bit_at_above, proofs.lemmas.Nat.Bits.bit_at_and, proofs.lemmas.Nat.Bits.bit_at_or, proofs.lemmas.Nat.Bits.same_from_bits}
use Rattle.batch_verify.specs.{PhaseSets.has, PhaseSets.has_in, declared.phase_set.PhaseSet.PhaseSet}

or_bit : (a b k : ℕ) → nat_eq (bit_at (bit_or a b) k) 1 ≡ (nat_eq (bit_at a k) 1 || nat_eq (bit_at b k) 1)
or_bit a b k = grind (arith, bit_at_or a b k, bit_at-lt a k, bit_at-lt b k)

pub joined_has : (t : Bool) (a b c : PhaseSet) → c.low ≡ bit_or a.low b.low → c.high ≡ bit_or a.high b.high → (k : ℕ) → has_in t c k ≡ (has_in t a k || has_in t b k)
joined_has true a b c low high k = ap (λ w. nat_eq (bit_at w k) 1) low ∙ or_bit a.low b.low k
joined_has false a b c low high k = ap (λ w. nat_eq (bit_at w (k - 128)) 1) high ∙ or_bit a.high b.high (k - 128)

one_bit : (at k : ℕ) → at < 128 → (t : Bool) → nat_eq k at ≡ t → nat_eq (bit_at (1 * 2 ^ at % 2 ^ 128) k) 1 ≡ t
one_bit at k few t e = ap (λ w. nat_eq (bit_at w k) 1) (one_shl at 128 few) ∙ by t e
  where
    by : (t : Bool) → nat_eq k at ≡ t → nat_eq (bit_at (2 ^ at) k) 1 ≡ t
    by true e = subst (λ z. nat_eq (bit_at (2 ^ at) z) 1 ≡ true) (sym (eqb-true k at e)) (ap (λ b. nat_eq b 1) (bit_at-pow_same at))
    by false e = ap (λ b. nat_eq b 1) (bit_at-pow_other at k (eqb-false k at e))

no_bit : (k : ℕ) → nat_eq (bit_at 0 k) 1 ≡ false
no_bit k = ap (λ b. nat_eq b 1) (bit_at-zero k)

past : (k at : ℕ) → nat_lt k 128 ≡ false → at < 128 → nat_eq k at ≡ false
past k at e few = grind arith

before : (k at : ℕ) → nat_lt k 128 ≡ true → 128 ≤ at → nat_eq k at ≡ false
before k at e many = grind arith

less : (k at : ℕ) → nat_lt k 128 ≡ false → 128 ≤ at → nat_eq (k - 128) (at - 128) ≡ nat_eq k at
less k at e many = grind arith

pub low_has : (c : PhaseSet) (at : ℕ) → at < 128 → c.low ≡ 1 * 2 ^ at % 2 ^ 128 → c.high ≡ 0 → (k : ℕ) (t : Bool) → nat_lt k 128 ≡ t → has_in t c k ≡ nat_eq k at
low_has c at few low high k true e = ap (λ w. nat_eq (bit_at w k) 1) low ∙ one_bit at k few (nat_eq k at) refl
low_has c at few low high k false e = ap (λ w. nat_eq (bit_at w (k - 128)) 1) high ∙ no_bit (k - 128) ∙ sym (past k at e few)

pub high_has : (c : PhaseSet) (at : ℕ) → 128 ≤ at → at < 256 → c.high ≡ 1 * 2 ^ (at - 128) % 2 ^ 128 → c.low ≡ 0 → (k : ℕ) (t : Bool) → nat_lt k 128 ≡ t → has_in t c k ≡ nat_eq k at
high_has c at many few high low k true e = ap (λ w. nat_eq (bit_at w k) 1) low ∙ no_bit k ∙ sym (before k at e many)
high_has c at many few high low k false e =
    ap (λ w. nat_eq (bit_at w (k - 128)) 1) high ∙ one_bit (at - 128) (k - 128) (omega (arith, few)) (nat_eq (k - 128) (at - 128)) refl ∙ less k at e many

-- words without a common bit
pub none_common : (a b : ℕ) → bit_and a b ≡ 0 → (k : ℕ) → nat_eq (bit_at a k) 1 ≡ true → nat_eq (bit_at b k) 1 ≡ true → ⊥
none_common a b e k x y =
    let bit : min (bit_at a k) (bit_at b k) ≡ 0 = sym (bit_at_and a b k) ∙ (ap (λ w. bit_at w k) e ∙ bit_at-zero k) in
    absurd (omega (arith, bit, eqb-true (bit_at a k) 1 x, eqb-true (bit_at b k) 1 y))

least : (x y : ℕ) → x < 2 → (nat_eq x 1 ≡ true → nat_eq y 1 ≡ true → ⊥) → y < 2 → min x y ≡ 0
least x y few h less = grind arith

pub no_common : (a b : ℕ) → a < 2 ^ 128 → ((k : ℕ) → k < 128 → nat_eq (bit_at a k) 1 ≡ true → nat_eq (bit_at b k) 1 ≡ true → ⊥) → bit_and a b ≡ 0
no_common a b fits h = same_from_bits (bit_and a b) 0 (λ i. bit_at_and a b i ∙ (none i ∙ sym (bit_at-zero i)))
  where
    none : (i : ℕ) → min (bit_at a i) (bit_at b i) ≡ 0
    none i = elim (cases_lt i 128) [
      | inl few ↦ least (bit_at a i) (bit_at b i) (bit_at-lt a i) (h i few) (bit_at-lt b i)
      | inr many ↦ let zero : bit_at a i ≡ 0 = bit_at_above a 128 i fits many in omega (arith, zero)
    ]

-- no bit is set in both words
abbrev ShareNone : ℕ → ℕ → Type 0
ShareNone a b = (k : ℕ) → nat_eq (bit_at a k) 1 ≡ true → nat_eq (bit_at b k) 1 ≡ true → ⊥

pub disjoint_has : (a b : PhaseSet) → ShareNone a.low b.low → ShareNone a.high b.high → (t : Bool) (k : ℕ) → has_in t a k ≡ true → has_in t b k ≡ true → ⊥
disjoint_has a b low high true k x y = low k x y
disjoint_has a b low high false k x y = high (k - 128) x y

module _ (a b : PhaseSet) (h : (k : ℕ) → has a k ≡ true → has b k ≡ true → ⊥) where
  at : (k : ℕ) (t : Bool) → nat_lt k 128 ≡ t → has_in t a k ≡ true → has_in t b k ≡ true → ⊥
  at k t e x y = h k (ap (λ b'. has_in b' a k) e ∙ x) (ap (λ b'. has_in b' b k) e ∙ y)

  behind : (k : ℕ) → (k + 128) - 128 ≡ k
  behind k = omega arith

  pub low_shares : (k : ℕ) → k < 128 → nat_eq (bit_at a.low k) 1 ≡ true → nat_eq (bit_at b.low k) 1 ≡ true → ⊥
  low_shares k few x y = at k true (lt-ltb k 128 few) x y

  pub high_shares : (k : ℕ) → k < 128 → nat_eq (bit_at a.high k) 1 ≡ true → nat_eq (bit_at b.high k) 1 ≡ true → ⊥
  high_shares k few x y = at (k + 128) false (le-ltb (k + 128) 128 (omega arith)) (ap (λ i. nat_eq (bit_at a.high i) 1) (behind k) ∙ x) (ap (λ i. nat_eq (bit_at b.high i) 1) (behind k) ∙ y)
