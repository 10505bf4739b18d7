-- Batches whose numbers rise, of which one is changed.
use Rattle.std.proofs.Common.{◌≡◌, refl, sym, ◌∙◌, ap, ap₂, subst, ℕ, suc, ◌<◌, arith, List, [], ◌∷◌, ◌++◌, Bool, true, false, cond, inl, inr, nat_eq}
use Rattle.std.{specs.Prelude.map, specs.Prelude.filter, specs.Prelude.sum_by, proofs.lemmas.List.Sums.sum_by-cons}
use Rattle.batch_model.{specs.Lists.Has, specs.Lists.Each, specs.Plant.Batch, specs.Standing.AreNumbered, proofs.Members.Each-Has, proofs.Members.Each-append, proofs.Members.Each-filter}

-- f changes batch n alone
abbrev pub only : ℕ → (Batch → Batch) → Batch → Batch
only n f b = elim (nat_eq b.number n) [ true ↦ f b | false ↦ b ]

same-number : (m n : ℕ) → nat_eq m n ≡ true → m ≡ n
same-number m n e = grind arith

only-this : (n : ℕ) (f : Batch → Batch) (b : Batch) → b.number ≡ n → only n f b ≡ f b
only-this n f b e = grind arith

only-other : (n : ℕ) (f : Batch → Batch) (b : Batch) → (b.number ≡ n → ⊥) → only n f b ≡ b
only-other n f b d = grind (arith, same-number)

only-number : (n : ℕ) (f : Batch → Batch) (b : Batch) → ((d : Batch) → (f d).number ≡ d.number) → (only n f b).number ≡ b.number
only-number n f b h = grind arith

-- a property that the change keeps holds of all batches after it
pub Each-only : (P : Batch → Type 0) (n : ℕ) (f : Batch → Batch) (bs : List Batch) → ((b : Batch) → Has bs b → b.number ≡ n → P b → P (f b)) → Each P bs
    → Each P (map (only n f) bs)
Each-only P n f [] h k = tt
Each-only P n f (b ∷ bs) h k = (go (nat_eq b.number n) refl, Each-only P n f bs (λ d i. h d (inr i)) k.1)
  where
    go : (t : Bool) → nat_eq b.number n ≡ t → P (elim t [ true ↦ f b | false ↦ b ])
    go true e = h b (inl refl) (same-number b.number n e) k.0
    go false e = k.0

later-only : (m n : ℕ) (f : Batch → Batch) (bs : List Batch) → ((d : Batch) → (f d).number ≡ d.number) → Each (λ d. m < d.number) bs
    → Each (λ d. m < d.number) (map (only n f) bs)
later-only m n f bs h k = Each-only (λ d. m < d.number) n f bs (λ b i e l. subst (λ z. m < z) (sym (h b)) l) k

pub AreNumbered-only : (next n : ℕ) (f : Batch → Batch) (bs : List Batch) → ((d : Batch) → (f d).number ≡ d.number) → AreNumbered next bs
    → AreNumbered next (map (only n f) bs)
AreNumbered-only next n f [] h k = tt
AreNumbered-only next n f (b ∷ bs) h k = (
  subst (λ z. z < next) (sym (only-number n f b h)) k.0,
  subst (λ z. Each (λ d. z < d.number) (map (only n f) bs)) (sym (only-number n f b h)) (later-only b.number n f bs h k.1),
  AreNumbered-only next n f bs h k.2,
)

-- a new batch gets the next number
pub AreNumbered-new : (next : ℕ) (bs : List Batch) (b : Batch) → b.number ≡ next → AreNumbered next bs → AreNumbered (suc next) (bs ++ b ∷ [])
AreNumbered-new next [] b e k = (omega (arith, e), tt, tt)
AreNumbered-new next (d ∷ bs) b e k = (
  omega (arith, k.0),
  Each-append (λ z. d.number < z.number) bs (b ∷ []) k.1 (omega (arith, k.0, e), tt),
  AreNumbered-new next bs b e k.2,
)

pub AreNumbered-filter : (next : ℕ) (p : Batch → Bool) (bs : List Batch) → AreNumbered next bs → AreNumbered next (filter p bs)
AreNumbered-filter next p [] k = tt
AreNumbered-filter next p (b ∷ bs) k = go (p b) (AreNumbered-filter next p bs k.2)
  where
    go : (t : Bool) → AreNumbered next (filter p bs) → AreNumbered next (cond t (b ∷ filter p bs) (filter p bs))
    go true h = (k.0, Each-filter (λ d. b.number < d.number) p bs k.1, h)
    go false h = h

-- batches of one number are one
pub one_batch : (next : ℕ) (bs : List Batch) (b d : Batch) → AreNumbered next bs → Has bs b → Has bs d → b.number ≡ d.number → b ≡ d
one_batch next [] b d k i j e = absurd i
one_batch next (x ∷ bs) b d k (inl p) (inl q) e = sym p ∙ q
one_batch next (x ∷ bs) b d k (inl p) (inr j) e =
    absurd (omega (arith, Each-Has (λ z. x.number < z.number) bs d k.1 j, ap (λ z. z.number) p, e))
one_batch next (x ∷ bs) b d k (inr i) (inl q) e =
    absurd (omega (arith, Each-Has (λ z. x.number < z.number) bs b k.1 i, ap (λ z. z.number) q, e))
one_batch next (x ∷ bs) b d k (inr i) (inr j) e = one_batch next bs b d k.2 i j e

others-same : (n : ℕ) (f : Batch → Batch) (bs : List Batch) → Each (λ d. n < d.number) bs → map (only n f) bs ≡ bs
others-same n f [] k = refl
others-same n f (b ∷ bs) k = ap₂ (λ x xs. x ∷ xs) (only-other n f b (λ e. omega (arith, e, k.0))) (others-same n f bs k.1)

-- a change that lowers one batch's share of a sum lowers the sum
pub sum-falls : (w : Batch → ℕ) (f : Batch → Batch) (next : ℕ) (bs : List Batch) (b : Batch) → AreNumbered next bs → Has bs b → w (f b) < w b
    → sum_by w (map (only b.number f) bs) < sum_by w bs
sum-falls w f next [] b k i l = absurd i
sum-falls w f next (d ∷ bs) b k (inl e) l =
    let n = ap (λ z. z.number) e in
    omega (
      arith,
      sum_by-cons w (only b.number f d) (map (only b.number f) bs),
      sum_by-cons w d bs,
      ap w (only-this b.number f d n ∙ ap f e),
      ap (sum_by w) (others-same b.number f bs (subst (λ z. Each (λ x. z < x.number) bs) n k.1)),
      ap w e,
      l,
    )
sum-falls w f next (d ∷ bs) b k (inr i) l =
    omega (
      arith,
      sum_by-cons w (only b.number f d) (map (only b.number f) bs),
      sum_by-cons w d bs,
      ap w (only-other b.number f d (λ e. omega (arith, e, Each-Has (λ z. d.number < z.number) bs b k.1 i))),
      sum-falls w f next bs b k.2 i l,
    )
