-- A summary of words.
use Rattle.std.proofs.Common.{◌≡◌, ◌<◌, ◌≤◌, ◌+◌, ◌*◌, ◌/◌, ◌%◌, refl, sym, ◌∙◌, ap, ap₂, subst, ℕ, List, Bool, true, false, Some, None, inl, inr, ◌⊎◌, arith, nat_eq, length}
use Rattle.std.{specs.Prelude.slice_index, specs.Prelude.slice_set, specs.Int.bit_at, proofs.lemmas.Nat.Bits.bit_at-zero, proofs.lemmas.List.get_or-set_same, proofs.lemmas.List.get_or-set_other, proofs.lemmas.Nat.div-add-mod', proofs.lemmas.Nat.mod_below, proofs.lemmas.Nat.div-mul-add, proofs.lemmas.Nat.mod-mul-add}
use Rattle.batch_signs.{specs.Bits.with_one, specs.Bits.IsLowestFrom, proofs.Bits.nat-same, proofs.Bits.differs, proofs.Bits.within-or_past, proofs.Bits.one-not_zero, proofs.Bits.with-one_other, proofs.Bits.no-bits}
use Rattle.batch_engine.specs.Marks.{mark_at, IsNextMark, IsSummary}

module _ (words : List ℕ) (summary : ℕ) (h : IsSummary words summary) (at word : ℕ) (l : at < length words) where
  word-same : (k : ℕ) → nat_eq k at ≡ true → slice_index (slice_set words at word) k ≡ word
  word-same k e = ap (slice_index (slice_set words at word)) (nat-same k at e) ∙ get_or-set_same words at word 0 l

  word-other : (k : ℕ) → nat_eq k at ≡ false → slice_index (slice_set words at word) k ≡ slice_index words k
  word-other k e = get_or-set_other words at k word 0 (differs k at e)

  -- a word that isn't 0 has its bit
  pub summary-some : (new : ℕ) → ((k : ℕ) → bit_at new k ≡ with_one at (bit_at summary) k) → 0 < word → IsSummary (slice_set words at word) new
  summary-some new bits some =
      record {
        count = Rattle.std.proofs.lemmas.List.length-set words at word ∙ h.count;
        none = λ k q e. none k q e (nat_eq k at) refl;
        some = λ k q e. has k q e (nat_eq k at) refl;
      }
    where
      none : (k : ℕ) → k < 64 → bit_at new k ≡ 0 → (t : Bool) → nat_eq k at ≡ t → slice_index (slice_set words at word) k ≡ 0
      none k q e true f = absurd (one-not_zero (bit_at new k) (bits k ∙ ap (λ (t : Bool). let r : ℕ = elim t [ true ↦ 1 | false ↦ bit_at summary k ] in r) f) e)
      none k q e false f = word-other k f ∙ h.none k q (sym (bits k ∙ with-one_other at k (bit_at summary) f) ∙ e)

      has : (k : ℕ) → k < 64 → bit_at new k ≡ 1 → (t : Bool) → nat_eq k at ≡ t → 0 < slice_index (slice_set words at word) k
      has k q e true f = subst (λ z. 0 < z) (sym (word-same k f)) some
      has k q e false f = subst (λ z. 0 < z) (sym (word-other k f)) (h.some k q (sym (bits k ∙ with-one_other at k (bit_at summary) f) ∙ e))

  -- a word that stays other than 0 keeps its bit
  pub summary-kept : 0 < slice_index words at → 0 < word → IsSummary (slice_set words at word) summary
  summary-kept was some =
      record {
        count = Rattle.std.proofs.lemmas.List.length-set words at word ∙ h.count;
        none = λ k q e. zero k q e (nat_eq k at) refl;
        some = λ k q e. has k q e (nat_eq k at) refl;
      }
    where
      zero : (k : ℕ) → k < 64 → bit_at summary k ≡ 0 → (t : Bool) → nat_eq k at ≡ t → slice_index (slice_set words at word) k ≡ 0
      zero k q e true f = absurd (let z : slice_index words at ≡ 0 = ap (slice_index words) (sym (nat-same k at f)) ∙ h.none k q e in omega (arith, z, was))
      zero k q e false f = word-other k f ∙ h.none k q e

      has : (k : ℕ) → k < 64 → bit_at summary k ≡ 1 → (t : Bool) → nat_eq k at ≡ t → 0 < slice_index (slice_set words at word) k
      has k q e true f = subst (λ z. 0 < z) (sym (word-same k f)) some
      has k q e false f = subst (λ z. 0 < z) (sym (word-other k f)) (h.some k q e)

module _ (words : List ℕ) (summary : ℕ) (h : IsSummary words summary) (from : ℕ) (few : from < 4096) where
  -- a word with its bit in the summary has a bit
  pub never : (later : ℕ) → IsLowestFrom summary (from / 64 + 1) (Some later) → IsLowestFrom (slice_index words later) 0 None → ⊥
  never later s w = absurd (let some : 0 < slice_index words later = h.some later s.0 s.2 in let none : slice_index words later ≡ 0 = no-bits (slice_index words later) w in omega (arith, some, none))

  -- the first bit of the first later word that isn't 0
  pub next-later : (later bit : ℕ) → IsLowestFrom (slice_index words (from / 64)) (from % 64) None → IsLowestFrom summary (from / 64 + 1) (Some later)
      → IsLowestFrom (slice_index words later) 0 (Some bit) → IsNextMark words from (Some (later * 64 + bit))
  next-later later bit first s w = (
    omega (arith, s.0, w.0),
    omega (arith, s.1, div-add-mod' from 64, mod_below from 64 (omega arith)),
    ap₂ (λ x y. bit_at (slice_index words x) y) (div-mul-add later 64 bit w.0) (mod-mul-add later 64 bit w.0) ∙ w.2,
    λ i l m. go i l m (within-or_past (from / 64) (i / 64)) (within-or_past (i / 64) later),
  )
    where
      go : (i : ℕ) → from ≤ i → i < later * 64 + bit → (from / 64 < i / 64) ⊎ (i / 64 ≤ from / 64) → (i / 64 < later) ⊎ (later ≤ i / 64) → mark_at words i ≡ 0
      go i l m (inr q) r =
          let same : i / 64 ≡ from / 64 = omega (arith, l, q, div-add-mod' from 64, div-add-mod' i 64, mod_below from 64 (omega arith), mod_below i 64 (omega arith)) in
          ap (λ x. bit_at (slice_index words x) (i % 64)) same ∙ first (i % 64) (omega (arith, l, same, div-add-mod' from 64, div-add-mod' i 64))
      go i l m (inl q) (inl r) =
          let none : bit_at summary (i / 64) ≡ 0 = s.3 (i / 64) (omega (arith, q)) r in
          ap (λ x. bit_at x (i % 64)) (h.none (i / 64) (omega (arith, r, s.0)) none) ∙ bit_at-zero (i % 64)
      go i l m (inl q) (inr r) =
          let same : i / 64 ≡ later = omega (arith, m, r, w.0, div-add-mod' i 64, mod_below i 64 (omega arith)) in
          ap (λ x. bit_at (slice_index words x) (i % 64)) same ∙ w.3 (i % 64) (omega arith) (omega (arith, m, same, div-add-mod' i 64))
