-- Bits of words.
use Rattle.std.proofs.Common.{◌≡◌, ◌<◌, ◌≤◌, ◌+◌, ◌-◌, ◌*◌, ◌%◌, refl, sym, ◌∙◌, ap, subst, ℕ, Bool, true, false, Option, Some, None, inl, inr, ◌⊎◌, arith, nat_eq, bit_and, bit_or, get_or, w64}
use Rattle.std.{specs.Prelude.◌^◌, specs.Prelude.min, specs.Int.bit_at, specs.Int.bit_not, specs.Int.trailing_zeros, proofs.lemmas.Nat.Bits.bit_at-lt, proofs.lemmas.Nat.Bits.bit_at-zero, proofs.lemmas.Nat.Bits.bit_at_and, proofs.lemmas.Nat.Bits.bit_at_above, proofs.lemmas.Nat.Bits.bit_at_set_same, proofs.lemmas.Nat.Bits.bit_at_set_other, proofs.lemmas.Nat.Bits.bit_at_clear_same, proofs.lemmas.Nat.Bits.bit_at_clear_other, proofs.lemmas.Nat.Bits.bit_at_mask_inside, proofs.lemmas.Nat.Bits.bit_at_mask_below, proofs.lemmas.Nat.Bits.ones_shl, proofs.lemmas.Nat.Bits.bit_at-trailing_zeros, proofs.lemmas.Nat.Bits.same_from_bits}
use Rattle.batch_signs.specs.Bits.{with_one, with_zero, IsLowestFrom}

pub nat-same : (m n : ℕ) → nat_eq m n ≡ true → m ≡ n
nat-same m n e = grind arith

pub nat-self : (n : ℕ) → nat_eq n n ≡ true
nat-self n = grind arith

pub differs : (m n : ℕ) → nat_eq m n ≡ false → m ≡ n → ⊥
differs m n e f = absurd (let g : ◌≡◌ {A = Bool} true false = sym (subst (λ z. nat_eq m z ≡ true) f (nat-self m)) ∙ e in cc)

pub set-bit : (word at : ℕ) → at < 64 → (k : ℕ) → bit_at (bit_or word (1 * 2 ^ at % 2 ^ 64)) k ≡ with_one at (bit_at word) k
set-bit word at l k = go (nat_eq k at) refl
  where
    go : (t : Bool) → nat_eq k at ≡ t → bit_at (bit_or word (1 * 2 ^ at % 2 ^ 64)) k ≡ elim t [ true ↦ 1 | false ↦ bit_at word k ]
    go true e = subst (λ z. bit_at (bit_or word (1 * 2 ^ at % 2 ^ 64)) z ≡ 1) (sym (nat-same k at e)) (bit_at_set_same w64 word at l)
    go false e = bit_at_set_other w64 word at l k (differs k at e)

pub within-or_past : (k n : ℕ) → (k < n) ⊎ (n ≤ k)
within-or_past k n = go (Rattle.std.proofs.Common.nat_lt k n) refl
  where
    go : (t : Bool) → Rattle.std.proofs.Common.nat_lt k n ≡ t → (k < n) ⊎ (n ≤ k)
    go true e = inl (grind arith)
    go false e = inr (grind arith)

pub min-zero : (n : ℕ) → min 0 n ≡ 0
min-zero n = grind arith

pub clear-bit : (word at : ℕ) → word < 2 ^ 64 → at < 64 → (k : ℕ) → bit_at (bit_and word (bit_not w64 (1 * 2 ^ at % 2 ^ 64))) k ≡ with_zero at (bit_at word) k
clear-bit word at fits l k = go (nat_eq k at) refl
  where
    mask : ℕ
    mask = bit_not w64 (1 * 2 ^ at % 2 ^ 64)

    go : (t : Bool) → nat_eq k at ≡ t → bit_at (bit_and word mask) k ≡ elim t [ true ↦ 0 | false ↦ bit_at word k ]
    go true e = subst (λ z. bit_at (bit_and word mask) z ≡ 0) (sym (nat-same k at e)) (bit_at_clear_same w64 word at l)
    go false e = elim (within-or_past k 64) [
      | inl q ↦ bit_at_clear_other w64 word at l k q (differs k at e)
      | inr q ↦
          let none : bit_at word k ≡ 0 = bit_at_above word 64 k fits q in
          bit_at_and word mask k ∙ ap (λ z. min z (bit_at mask k)) none ∙ min-zero (bit_at mask k) ∙ sym none
    ]

pub min-one : (a : ℕ) → a < 2 → min a 1 ≡ a
min-one a l = grind arith

pub min-none : (a : ℕ) → min a 0 ≡ 0
min-none a = grind arith

module _ (word from : ℕ) (fits : word < 2 ^ 64) (few : from < 64) (rest : ℕ) (is : rest ≡ bit_and word ((2 ^ 64 - 1) * 2 ^ from % 2 ^ 64)) where
  rest-is : rest ≡ bit_and word (2 ^ 64 - 2 ^ from)
  rest-is = is ∙ ap (bit_and word) (ones_shl 64 from (omega (arith, few)))

  pub inside : (k : ℕ) → from ≤ k → k < 64 → bit_at rest k ≡ bit_at word k
  inside k l q = ap (λ z. bit_at z k) rest-is ∙ bit_at_and word (2 ^ 64 - 2 ^ from) k ∙ ap (min (bit_at word k)) (bit_at_mask_inside from 64 k l q) ∙ min-one (bit_at word k) (bit_at-lt word k)

  pub below : (k : ℕ) → k < from → bit_at rest k ≡ 0
  below k l = ap (λ z. bit_at z k) rest-is ∙ bit_at_and word (2 ^ 64 - 2 ^ from) k ∙ ap (min (bit_at word k)) (bit_at_mask_below from 64 k l) ∙ min-none (bit_at word k)

  pub nothing : rest ≡ 0 → (k : ℕ) → from ≤ k → bit_at word k ≡ 0
  nothing e k l = elim (within-or_past k 64) [
    | inl q ↦ sym (inside k l q) ∙ ap (λ z. bit_at z k) e ∙ bit_at-zero k
    | inr q ↦ bit_at_above word 64 k fits q
  ]

  pub lowest : 0 < rest → rest < 2 ^ 64 → IsLowestFrom word from (Some (trailing_zeros w64 rest))
  lowest some small =
      let t = bit_at-trailing_zeros w64 rest some small in
      let above : from ≤ trailing_zeros w64 rest = elim (within-or_past (trailing_zeros w64 rest) from) [
        | inl q ↦ absurd (let g : ◌≡◌ {A = ℕ} 1 0 = sym t.1 ∙ below (trailing_zeros w64 rest) q in omega (arith, g))
        | inr q ↦ q
      ] in (
        t.0,
        above,
        sym (inside (trailing_zeros w64 rest) above t.0) ∙ t.1,
        λ k l q. sym (inside k l (omega (arith, q, t.0))) ∙ t.2 k q,
      )

-- a word with a bit isn't 0
pub bit-some : (word k : ℕ) → bit_at word k ≡ 1 → 0 < word
bit-some word k e = go word refl
  where
    go : (n : ℕ) → word ≡ n → 0 < word
    go n f = elim (within-or_past 0 word) [
      | inl q ↦ q
      | inr q ↦ absurd (let z : word ≡ 0 = omega (arith, q) in let g : ◌≡◌ {A = ℕ} 1 0 = sym e ∙ ap (λ w. bit_at w k) z ∙ bit_at-zero k in omega (arith, g))
    ]

-- where a bit is left, there was one
pub some-before : (word left at : ℕ) → ((k : ℕ) → bit_at left k ≡ with_zero at (bit_at word) k) → 0 < left → left < 2 ^ 64 → 0 < word
some-before word left at bits some small =
    let t = bit_at-trailing_zeros w64 left some small in
    bit-some word (trailing_zeros w64 left) (go (nat_eq (trailing_zeros w64 left) at) refl t.1)
  where
    go : (t : Bool) → nat_eq (trailing_zeros w64 left) at ≡ t → bit_at left (trailing_zeros w64 left) ≡ 1 → bit_at word (trailing_zeros w64 left) ≡ 1
    go true e f = absurd (let g : ◌≡◌ {A = ℕ} 1 0 = sym f ∙ bits (trailing_zeros w64 left) ∙ ap (λ (t : Bool). let r : ℕ = elim t [ true ↦ 0 | false ↦ bit_at word (trailing_zeros w64 left) ] in r) e in omega (arith, g))
    go false e f = sym (bits (trailing_zeros w64 left) ∙ ap (λ (t : Bool). let r : ℕ = elim t [ true ↦ 0 | false ↦ bit_at word (trailing_zeros w64 left) ] in r) e) ∙ f

pub one-not_zero : (x : ℕ) → x ≡ 1 → x ≡ 0 → ⊥
one-not_zero x e f = absurd (let g : ◌≡◌ {A = ℕ} 1 0 = sym e ∙ f in omega (arith, g))

pub with-one_same : (at : ℕ) (f : ℕ → ℕ) → with_one at f at ≡ 1
with-one_same at f = ap (λ (t : Bool). let r : ℕ = elim t [ true ↦ 1 | false ↦ f at ] in r) (nat-self at)

pub with-one_other : (at k : ℕ) (f : ℕ → ℕ) → nat_eq k at ≡ false → with_one at f k ≡ f k
with-one_other at k f e = ap (λ (t : Bool). let r : ℕ = elim t [ true ↦ 1 | false ↦ f k ] in r) e

pub with-zero_same : (at : ℕ) (f : ℕ → ℕ) → with_zero at f at ≡ 0
with-zero_same at f = ap (λ (t : Bool). let r : ℕ = elim t [ true ↦ 0 | false ↦ f at ] in r) (nat-self at)

pub with-zero_other : (at k : ℕ) (f : ℕ → ℕ) → nat_eq k at ≡ false → with_zero at f k ≡ f k
with-zero_other at k f e = ap (λ (t : Bool). let r : ℕ = elim t [ true ↦ 0 | false ↦ f k ] in r) e

pub not-zero : (n : ℕ) → (n ≡ 0 → ⊥) → 0 < n
not-zero n e = elim (within-or_past 0 n) [
  | inl q ↦ q
  | inr q ↦ absurd (e (omega (arith, q)))
]

pub zeros : (n k : ℕ) → get_or {A = ℕ} (Rattle.std.proofs.Common.replicate n 0) k 0 ≡ 0
zeros n k = elim (within-or_past k n) [
  | inl q ↦ Rattle.std.proofs.lemmas.List.get_or-replicate {A = ℕ} n k 0 0 q
  | inr q ↦ Rattle.std.proofs.lemmas.List.get_or_past {X = ℕ} (Rattle.std.proofs.Common.replicate {A = ℕ} n 0) k 0 (omega (arith, q, Rattle.std.proofs.lemmas.List.length-replicate {A = ℕ} n 0))
]

pub no-bits : (word : ℕ) → ((k : ℕ) → 0 ≤ k → bit_at word k ≡ 0) → word ≡ 0
no-bits word h = same_from_bits word 0 (λ k. h k (omega arith) ∙ sym (bit_at-zero k))
