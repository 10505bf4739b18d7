-- Whether wanted signs are among those of a node.
use Rattle.std.proofs.Common.{◌≡◌, ◌<◌, ◌≤◌, refl, sym, ◌∙◌, ap, ℕ, List, length, Bool, true, false, Some, None, inl, inr, ◌⊎◌, arith, nat_eq, nat_le}
use Rattle.std.{specs.Prelude.min, specs.Prelude.max, specs.Prelude.not, specs.Prelude.◌||◌, specs.Prelude.zero, specs.Prelude.suc, specs.Int.bit_at, specs.Int.Bits.bit_and, specs.Int.Bits.bit_or, proofs.lemmas.Bool.cases_lt, proofs.lemmas.List.get_or_past, proofs.lemmas.Bool.Decides.nat_tests, proofs.lemmas.Nat.and_or_apart, proofs.lemmas.Nat.Bits.bit_at-zero, proofs.lemmas.Nat.Bits.bit_at_and, proofs.lemmas.Nat.Bits.bit_at_or, proofs.lemmas.Nat.Bits.same_from_bits}
use Rattle.batch_signs.specs.Signs.{sign_at, shows, IsNextShown, TellsNone}

pub no-bit : (a m : ℕ) → bit_and a m ≡ 0 → (i : ℕ) → min (bit_at a i) (bit_at m i) ≡ 0
no-bit a m e i = sym (bit_at_and a m i) ∙ ap (λ z. bit_at z i) e ∙ bit_at-zero i

pub all-bits : (a m : ℕ) → ((i : ℕ) → min (bit_at a i) (bit_at m i) ≡ 0) → bit_and a m ≡ 0
all-bits a m h = same_from_bits (bit_and a m) 0 (λ i. bit_at_and a m i ∙ h i ∙ sym (bit_at-zero i))

min-left : (a b c : ℕ) → min (max a b) c ≡ 0 → min a c ≡ 0
min-left a b c e = grind arith

min-right : (a b c : ℕ) → min (max a b) c ≡ 0 → min b c ≡ 0
min-right a b c e = grind arith

pub or-left : (a b m : ℕ) → bit_and (bit_or a b) m ≡ 0 → bit_and a m ≡ 0
or-left a b m e = all-bits a m (λ i. min-left (bit_at a i) (bit_at b i) (bit_at m i) (ap (λ z. min z (bit_at m i)) (sym (bit_at_or a b i)) ∙ no-bit (bit_or a b) m e i))

pub or-right : (a b m : ℕ) → bit_and (bit_or a b) m ≡ 0 → bit_and b m ≡ 0
or-right a b m e = all-bits b m (λ i. min-right (bit_at a i) (bit_at b i) (bit_at m i) (ap (λ z. min z (bit_at m i)) (sym (bit_at_or a b i)) ∙ no-bit (bit_or a b) m e i))

both-zero : (a b m : ℕ) → bit_and a m ≡ 0 → bit_and b m ≡ 0 → bit_and (bit_or a b) m ≡ 0
both-zero a b m e f = and_or_apart m a b f ∙ e

pub more-not_zero : (n : ℕ) → nat_eq (suc n) 0 ≡ false
more-not_zero n = grind (arith, nat_tests)

none-zero : (o p q : ℕ) → (o ≡ 0 → p ≡ 0) → (o ≡ 0 → q ≡ 0) → (p ≡ 0 → q ≡ 0 → o ≡ 0) → not (nat_eq o 0) ≡ (not (nat_eq p 0) || not (nat_eq q 0))
none-zero zero zero zero f g h = refl
none-zero zero (suc p) q f g h = absurd (let e = f refl in omega (arith, e))
none-zero zero zero (suc q) f g h = absurd (let e = g refl in omega (arith, e))
none-zero (suc o) zero zero f g h = absurd (let e = h refl refl in omega (arith, e))
none-zero (suc o) (suc p) q f g h = ap not (more-not_zero o) ∙ sym (ap (λ z. not z || not (nat_eq q 0)) (more-not_zero p))
none-zero (suc o) zero (suc q) f g h = ap not (more-not_zero o) ∙ sym (ap not (more-not_zero q))

pub shows-or : (m a b : ℕ) → shows m (bit_or a b) ≡ (shows m a || shows m b)
shows-or m a b = none-zero (bit_and (bit_or a b) m) (bit_and a m) (bit_and b m) (or-left a b m) (or-right a b m) (both-zero a b m)

min-none : (a : ℕ) → min 0 a ≡ 0
min-none a = grind arith

pub none-shown : (m : ℕ) → bit_and 0 m ≡ 0
none-shown m = all-bits 0 m (λ i. ap (λ z. min z (bit_at m i)) (bit_at-zero i) ∙ min-none (bit_at m i))

pub nothing-shown : (m : ℕ) → shows m 0 ≡ false
nothing-shown m = ap (λ z. not (nat_eq z 0)) (none-shown m)

-- whether none of the signs is shown from n to m, by the next node that shows one

pub tells-none : (signs : List ℕ) (wanted n m : ℕ) → IsNextShown signs wanted n None → TellsNone signs wanted n m true
tells-none signs wanted n m h k a b = go (cases_lt k (length signs))
  where
    go : (k < length signs) ⊎ (length signs ≤ k) → bit_and (sign_at signs k) wanted ≡ 0
    go (inl q) = h k a q
    go (inr q) = ap (λ z. bit_and z wanted) (get_or_past {X = ℕ} signs k 0 q) ∙ none-shown wanted

pub tells-some : (signs : List ℕ) (wanted n m j : ℕ) → IsNextShown signs wanted n (Some j) → TellsNone signs wanted n m (nat_le m j)
tells-some signs wanted n m j h = go (nat_le m j) refl
  where
    go : (b : Bool) → nat_le m j ≡ b → TellsNone signs wanted n m b
    go true e = λ k a lt. (let le : m ≤ j = grind (arith, nat_tests) in h.3 k a (omega arith))
    go false e = (let lt : j < m = grind (arith, nat_tests) in (j, h.0, lt, h.2))
