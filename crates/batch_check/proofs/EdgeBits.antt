-- Sets of numbers as bits, and one more edge in a set of edges.
use Rattle.std.proofs.Common.{◌≡◌, ◌≢◌, ◌⊎◌, ℕ, ◌+◌, ◌*◌, ◌<◌, ◌≤◌, ◌/◌, ◌%◌, true, false, nat_eq, IsTrue, List, [], length, replicate, set, get_or, bit_and, inl, inr, sym, ap, ◌∙◌, subst, arith, get_or-set_same, get_or-set_other}
use Rattle.std.{specs.Prelude.min, specs.Int.bit_at, proofs.lemmas.Bool.cases_eq, proofs.lemmas.Bool.eqb-true, proofs.lemmas.Bool.false_from_ne_true, proofs.lemmas.List.get_or_default, proofs.lemmas.Nat.div-add-mod', proofs.lemmas.Nat.Bits.bit_at-lt, proofs.lemmas.Nat.Bits.bit_at-zero, proofs.lemmas.Nat.Bits.bit_at_and, proofs.lemmas.Nat.Bits.same_from_bits}
use Rattle.batch_signs.{specs.Bits.with_one, proofs.Bits.with-one_same, proofs.Bits.with-one_other, proofs.Bits.zeros}
use Rattle.batch_check.specs.{declared.edge.Edge.Edge, Edges.has_pair, Pairs.has_bit}

-- Bits

-- one bit of the words is set
module _ (words : List ℕ) (n word : ℕ) (within : n / 64 < length words) (bits : (k : ℕ) → bit_at word k ≡ with_one (n % 64) (bit_at (get_or words (n / 64) 0)) k) where
  abbrev after : List ℕ
  after = set words (n / 64) word

  pub has_bit-set : has_bit after n ≡ true
  has_bit-set =
      ap (λ w. nat_eq (bit_at w (n % 64)) 1) (get_or-set_same words (n / 64) word 0 within)
      ∙ ap (λ b. nat_eq b 1) (bits (n % 64) ∙ with-one_same (n % 64) (bit_at (get_or words (n / 64) 0)))

  pub has_bit-kept : (m : ℕ) → m ≢ n → has_bit after m ≡ has_bit words m
  has_bit-kept m other = elim (cases_eq (m / 64) (n / 64)) [
    | inl same ↦
        let apart : nat_eq (m % 64) (n % 64) ≡ false = false_from_ne_true (nat_eq (m % 64) (n % 64)) (λ e. let is : m % 64 ≡ n % 64 = eqb-true (m % 64) (n % 64) e in other (omega (arith, is, same, div-add-mod' m 64, div-add-mod' n 64))) in
        ap (λ w. nat_eq (bit_at w (m % 64)) 1) (ap (λ k. get_or after k 0) same ∙ get_or-set_same words (n / 64) word 0 within)
        ∙ ap (λ b. nat_eq b 1) (bits (m % 64) ∙ with-one_other (n % 64) (m % 64) (bit_at (get_or words (n / 64) 0)) apart ∙ ap (λ k. bit_at (get_or words k 0) (m % 64)) (sym same))
    | inr apart ↦ ap (λ w. nat_eq (bit_at w (m % 64)) 1) (get_or-set_other words (n / 64) (m / 64) word 0 apart)
  ]

  pub has_bit-stays : (m : ℕ) → IsTrue (has_bit words m) → IsTrue (has_bit after m)
  has_bit-stays m is = elim (cases_eq m n) [
    | inl same ↦ subst (λ k. IsTrue (has_bit after k)) (sym same) has_bit-set
    | inr other ↦ has_bit-kept m other ∙ is
  ]

-- a word that changes where its bit is set hasn't this bit
was_unset : (word marked at : ℕ) → ((k : ℕ) → bit_at marked k ≡ with_one at (bit_at word) k) → marked ≢ word → ¬ (IsTrue (nat_eq (bit_at word at) 1))
was_unset word marked at bits differ is = differ (same_from_bits marked word (λ k. bits k ∙ same k (cases_eq k at)))
  where
    same : (k : ℕ) → (k ≡ at) ⊎ (k ≢ at) → with_one at (bit_at word) k ≡ bit_at word k
    same k (inl e) = subst (λ i. with_one at (bit_at word) i ≡ bit_at word i) (sym e) (with-one_same at (bit_at word) ∙ sym (eqb-true (bit_at word at) 1 is))
    same k (inr other) = with-one_other at k (bit_at word) (false_from_ne_true (nat_eq k at) (λ e. other (eqb-true k at e)))

-- a bit of the one word is one of the other, where the other has all of them
bit_kept : (a b k : ℕ) → bit_and a b ≡ b → bit_at b k ≡ 1 → bit_at a k ≡ 1
bit_kept a b k whole one =
    let both : min (bit_at a k) (bit_at b k) ≡ 1 = sym (bit_at_and a b k) ∙ (ap (λ n. bit_at n k) whole ∙ one) in
    omega (arith, both, one, bit_at-lt a k)

-- Edges

-- the words have the bits of the pairs that have an edge
abbrev IsExact : ℕ → List ℕ → List Edge → Type 0
IsExact count known edges = (i j : ℕ) → i < count → j < count → has_bit known (j * 448 + i) ≡ has_pair edges i j

-- an edge leads from each number whose bit is set, where the row that begins at this word has all these bits
pub row_has_each : (count : ℕ) (known : List ℕ) (edges : List Edge) (numbers : List ℕ) (i j first : ℕ) → count ≤ 448 → IsExact count known edges → i < count → j < count → first ≡ j * 7
    → ((k : ℕ) → k < 7 → bit_and (get_or known (first + k) 0) (get_or numbers k 0) ≡ get_or numbers k 0) → IsTrue (has_bit numbers i) → IsTrue (has_pair edges i j)
row_has_each count known edges numbers i j first few exact in_i in_j begins whole has =
    let number : bit_at (get_or numbers (i / 64) 0) (i % 64) ≡ 1 = eqb-true (bit_at (get_or numbers (i / 64) 0) (i % 64)) 1 has in
    let there : bit_at (get_or known (first + i / 64) 0) (i % 64) ≡ 1 = bit_kept (get_or known (first + i / 64) 0) (get_or numbers (i / 64) 0) (i % 64) (whole (i / 64) (omega (arith, in_i, few))) number in
    let word : (j * 448 + i) / 64 ≡ first + i / 64 = omega (arith, begins) in
    let bit : (j * 448 + i) % 64 ≡ i % 64 = omega arith in
    sym (exact i j in_i in_j)
    ∙ (ap (λ k. nat_eq (bit_at (get_or known k 0) ((j * 448 + i) % 64)) 1) word
    ∙ (ap (λ k. nat_eq (bit_at (get_or known (first + i / 64) 0) k) 1) bit ∙ ap (λ b. nat_eq b 1) there))

-- no edge leads anywhere at first
pub none-exact : (count words : ℕ) → IsExact count (replicate words 0) []
none-exact count words i j in_i in_j = ap (λ w. nat_eq (bit_at w ((j * 448 + i) % 64)) 1) (zeros words ((j * 448 + i) / 64)) ∙ ap (λ b. nat_eq b 1) (bit_at-zero ((j * 448 + i) % 64))

-- no edge leads from the one resource to the other before a bit is set for it
pub none-before : (count : ℕ) (known : List ℕ) (edges : List Edge) (i j word marked : ℕ) → count ≤ 448 → length known ≡ count * 7 → IsExact count known edges → i < count → j < count
    → word ≡ get_or known ((j * 448 + i) / 64) word → ((k : ℕ) → bit_at marked k ≡ with_one ((j * 448 + i) % 64) (bit_at word) k) → marked ≢ word → ¬ (IsTrue (has_pair edges i j))
none-before count known edges i j word marked few sized exact in_i in_j read bits differ is =
    let there : word ≡ get_or known ((j * 448 + i) / 64) 0 = read ∙ get_or_default known ((j * 448 + i) / 64) word 0 (omega (arith, sized, few, in_i, in_j)) in
    was_unset word marked ((j * 448 + i) % 64) bits differ (ap (λ w. nat_eq (bit_at w ((j * 448 + i) % 64)) 1) there ∙ (exact i j in_i in_j ∙ is))
