-- Sets of nodes by sign.
use Rattle.std.proofs.Common.{◌≡◌, ◌<◌, ◌≤◌, ◌+◌, ◌*◌, ◌/◌, ◌%◌, refl, sym, ◌∙◌, ap, ap₂, subst, ℕ, List, length, Bool, true, false, Option, Some, None, inl, inr, ◌⊎◌, arith, nat_eq, bit_and, bit_or, get_or, w64}
use Rattle.std.{specs.Prelude.◌^◌, specs.Prelude.min, specs.Prelude.max, specs.Prelude.not, specs.Prelude.slice_index, specs.Prelude.slice_set, specs.Int.bit_at, specs.Int.Bits.bit_xor, specs.Int.trailing_zeros, proofs.lemmas.Bool.cases_lt, proofs.lemmas.List.get_or-set_same, proofs.lemmas.List.get_or-set_other, proofs.lemmas.List.get_or_past, proofs.lemmas.List.length-set, proofs.lemmas.Nat.div-add-mod', proofs.lemmas.Nat.mod_below, proofs.lemmas.Nat.div-mul-add, proofs.lemmas.Nat.mod-mul-add, proofs.lemmas.Nat.Bits.bit_at-lt, proofs.lemmas.Nat.Bits.bit_at-zero, proofs.lemmas.Nat.and_le_r, proofs.lemmas.Nat.Bits.bit_at-trailing_zeros, proofs.lemmas.Nat.Bits.bit_at_and, proofs.lemmas.Nat.Bits.bit_at_or, proofs.lemmas.Nat.Bits.bit_at_xor, proofs.lemmas.Nat.Bits.bit_at_above}
use Rattle.batch_signs.{specs.Bits.with_one, specs.Bits.with_told, specs.Bits.IsLowestFrom, specs.SignSets.set_of, specs.SignSets.sign_shown, specs.SignSets.bit_of, specs.SignSets.AreAbsent, specs.SignSets.AreSummed, specs.SignSets.AreJoined, specs.SignSets.IsTurnedAt, specs.SignSets.IsChangedAt, specs.SignSets.ShowsNone, specs.SignSets.ShowsSome, specs.SignSets.IsFirstShown, proofs.Bits.nat-same, proofs.Bits.differs, proofs.Bits.no-bits, proofs.Bits.set-bit, proofs.Bits.zeros, proofs.Bits.with-one_same, proofs.Bits.with-one_other, proofs.Bits.with-zero_same, proofs.Bits.with-zero_other, proofs.WantedSigns.no-bit}

not-one : (x : ℕ) → x ≡ 0 → x ≡ 1 → ⊥
not-one x e f = absurd (omega (arith, e, f))

one-or_none : (a i : ℕ) → (bit_at a i ≡ 0) ⊎ (bit_at a i ≡ 1)
one-or_none a i = elim (cases_lt (bit_at a i) 1) [
  | inl q ↦ inl (omega (arith, q))
  | inr q ↦ inr (omega (arith, q, bit_at-lt a i))
]

pub within-signs : (wanted sign : ℕ) → wanted < 2 ^ 32 → bit_at wanted sign ≡ 1 → sign < 32
within-signs wanted sign fits e = elim (cases_lt sign 32) [
  | inl q ↦ q
  | inr q ↦ absurd (not-one (bit_at wanted sign) (bit_at_above wanted 32 sign fits q) e)
]

-- words joined

pub joined-none : (words : List ℕ) (first wanted : ℕ) → AreJoined words first wanted 0 0
joined-none words first wanted = record {
  none = λ b s e l w. absurd (omega (arith, l));
  some = λ b e. absurd (not-one (bit_at 0 b) (bit_at-zero b) e);
}

max-left : (a b : ℕ) → max a b ≡ 0 → a ≡ 0
max-left a b e = grind arith

max-right : (a b : ℕ) → max a b ≡ 0 → b ≡ 0
max-right a b e = grind arith

max-none : (a b : ℕ) → a ≡ 0 → b ≡ 0 → max a b ≡ 0
max-none a b e f = grind arith

pub joined-more : (words : List ℕ) (first wanted from set sign word : ℕ) → AreJoined words first wanted from set → ((k : ℕ) → from ≤ k → k < sign → bit_at wanted k ≡ 0)
    → bit_at wanted sign ≡ 1 → sign < 32 → word ≡ slice_index words (first + sign) → AreJoined words first wanted (sign + 1) (bit_or set word)
joined-more words first wanted from set sign word j below is small same = record { none = none; some = some }
  where
    none : (b s : ℕ) → bit_at (bit_or set word) b ≡ 0 → s < sign + 1 → bit_at wanted s ≡ 1 → bit_at (slice_index words (first + s)) b ≡ 0
    none b s e l w = go (cases_lt s from) (cases_lt s sign)
      where
        both : max (bit_at set b) (bit_at word b) ≡ 0
        both = sym (bit_at_or set word b) ∙ e

        go : (s < from) ⊎ (from ≤ s) → (s < sign) ⊎ (sign ≤ s) → bit_at (slice_index words (first + s)) b ≡ 0
        go (inl q) _ = j.none b s (max-left (bit_at set b) (bit_at word b) both) q w
        go (inr q) (inl r) = absurd (not-one (bit_at wanted s) (below s q r) w)
        go (inr q) (inr r) =
            let here : sign ≡ s = omega (arith, r, l) in
            subst (λ z. bit_at (slice_index words (first + z)) b ≡ 0) here (ap (λ z. bit_at z b) (sym same) ∙ max-right (bit_at set b) (bit_at word b) both)

    some : (b : ℕ) → bit_at (bit_or set word) b ≡ 1 → (s : ℕ) × (s < 32) × (bit_at wanted s ≡ 1) × (bit_at (slice_index words (first + s)) b ≡ 1)
    some b e = go (one-or_none set b) (one-or_none word b)
      where
        go : (bit_at set b ≡ 0) ⊎ (bit_at set b ≡ 1) → (bit_at word b ≡ 0) ⊎ (bit_at word b ≡ 1) → (s : ℕ) × (s < 32) × (bit_at wanted s ≡ 1) × (bit_at (slice_index words (first + s)) b ≡ 1)
        go (inr q) _ = j.some b q
        go (inl q) (inr r) = (sign, small, is, ap (λ z. bit_at z b) (sym same) ∙ r)
        go (inl q) (inl r) = absurd (not-one (bit_at (bit_or set word) b) (bit_at_or set word b ∙ max-none (bit_at set b) (bit_at word b) q r) e)

-- a bit written

told-same : (t : Bool) (at : ℕ) (f : ℕ → ℕ) → with_told t at f at ≡ bit_of t
told-same true at f = with-one_same at f
told-same false at f = with-zero_same at f

told-other : (t : Bool) (at k : ℕ) (f : ℕ → ℕ) → nat_eq k at ≡ false → with_told t at f k ≡ f k
told-other true at k f e = with-one_other at k f e
told-other false at k f e = with-zero_other at k f e

told-none : (n : ℕ) → bit_of (not (nat_eq n 0)) ≡ 0 → n ≡ 0
told-none n e = go (nat_eq n 0) refl
  where
    go : (t : Bool) → nat_eq n 0 ≡ t → n ≡ 0
    go true f = nat-same n 0 f
    go false f = absurd (not-one (bit_of (not (nat_eq n 0))) e (ap (λ z. bit_of (not z)) f))

told-some : (n : ℕ) → bit_of (not (nat_eq n 0)) ≡ 1 → 0 < n
told-some n e = go (nat_eq n 0) refl
  where
    go : (t : Bool) → nat_eq n 0 ≡ t → 0 < n
    go true f = absurd (not-one (bit_of (not (nat_eq n 0))) (ap (λ z. bit_of (not z)) f) e)
    go false f = Rattle.batch_signs.proofs.Bits.not-zero n (differs n 0 f)

pub told-there : (n : ℕ) → (n ≡ 0 → ⊥) → not (nat_eq n 0) ≡ true
told-there n some = go (nat_eq n 0) refl
  where
    go : (t : Bool) → nat_eq n 0 ≡ t → not (nat_eq n 0) ≡ true
    go true f = absurd (some (nat-same n 0 f))
    go false f = ap not f

pub with-one_there : (word at : ℕ) (f : ℕ → ℕ) → ((k : ℕ) → bit_at word k ≡ with_one at f k) → word ≡ 0 → ⊥
with-one_there word at f bits none = not-one (bit_at word at) (ap (λ z. bit_at z at) none ∙ bit_at-zero at) (bits at ∙ with-one_same at f)

same-place : (w s v t : ℕ) → s < 32 → t < 32 → w * 32 + s ≡ v * 32 + t → (w ≡ v) × (s ≡ t)
same-place w s v t l m e = (omega arith, omega arith)

module _ (words summary : List ℕ) (all word sign set : ℕ) (room : word * 32 + 32 ≤ length words) (small : sign < 32) where
  abbrev pub written : List ℕ
  written = slice_set words (word * 32 + sign) set

  written-same : (w s : ℕ) → nat_eq w word ≡ true → nat_eq s sign ≡ true → set_of written w s ≡ set
  written-same w s e f =
      ap₂ (λ x y. set_of written x y) (nat-same w word e) (nat-same s sign f) ∙ get_or-set_same words (word * 32 + sign) set 0 (omega (arith, room, small))

  pub written-other : (w s : ℕ) → s < 32 → (w ≡ word → s ≡ sign → ⊥) → set_of written w s ≡ set_of words w s
  written-other w s l h = get_or-set_other words (word * 32 + sign) (w * 32 + s) set 0 (λ e. (let both = same-place w s word sign l small e in h both.0 both.1))

  module _ (h : AreSummed words summary all) (bits every : ℕ) (bits-are : (k : ℕ) → bit_at bits k ≡ with_told (not (nat_eq set 0)) word (bit_at (slice_index summary sign)) k)
      (every-are : (k : ℕ) → bit_at every k ≡ with_told (not (nat_eq bits 0)) sign (bit_at all) k) (set-fits : set < 2 ^ 64) (bits-fit : bits < 2 ^ 64) where
    summary-same : (s : ℕ) → nat_eq s sign ≡ true → slice_index (slice_set summary sign bits) s ≡ bits
    summary-same s e = ap (slice_index (slice_set summary sign bits)) (nat-same s sign e) ∙ get_or-set_same summary sign bits 0 (omega (arith, small, h.signs))

    summary-other : (s : ℕ) → nat_eq s sign ≡ false → slice_index (slice_set summary sign bits) s ≡ slice_index summary s
    summary-other s e = get_or-set_other summary sign s bits 0 (differs s sign e)

    none : (w s : ℕ) → s < 32 → bit_at (slice_index (slice_set summary sign bits) s) w ≡ 0 → set_of written w s ≡ 0
    none w s l e = go (nat_eq s sign) refl (nat_eq w word) refl
      where
        go : (t : Bool) → nat_eq s sign ≡ t → (u : Bool) → nat_eq w word ≡ u → set_of written w s ≡ 0
        go true f true g =
            let bit : bit_of (not (nat_eq set 0)) ≡ 0 =
            sym (bits-are w ∙ ap (with_told (not (nat_eq set 0)) word (bit_at (slice_index summary sign))) (nat-same w word g) ∙ told-same (not (nat_eq set 0)) word (bit_at (slice_index summary sign)))
            ∙ ap (λ z. bit_at z w) (sym (summary-same s f)) ∙ e in
            written-same w s g f ∙ told-none set bit
        go true f false g =
            let bit : bit_at (slice_index summary s) w ≡ 0 =
            ap (λ z. bit_at (slice_index summary z) w) (nat-same s sign f) ∙ sym (bits-are w ∙ told-other (not (nat_eq set 0)) word w (bit_at (slice_index summary sign)) g)
            ∙ ap (λ z. bit_at z w) (sym (summary-same s f)) ∙ e in
            written-other w s l (λ x y. differs w word g x) ∙ h.none w s l bit
        go false f u g = written-other w s l (λ x y. differs s sign f y) ∙ h.none w s l (ap (λ z. bit_at z w) (sym (summary-other s f)) ∙ e)

    some : (w s : ℕ) → s < 32 → bit_at (slice_index (slice_set summary sign bits) s) w ≡ 1 → 0 < set_of written w s
    some w s l e = go (nat_eq s sign) refl (nat_eq w word) refl
      where
        go : (t : Bool) → nat_eq s sign ≡ t → (u : Bool) → nat_eq w word ≡ u → 0 < set_of written w s
        go true f true g =
            let bit : bit_of (not (nat_eq set 0)) ≡ 1 =
            sym (bits-are w ∙ ap (with_told (not (nat_eq set 0)) word (bit_at (slice_index summary sign))) (nat-same w word g) ∙ told-same (not (nat_eq set 0)) word (bit_at (slice_index summary sign)))
            ∙ ap (λ z. bit_at z w) (sym (summary-same s f)) ∙ e in
            subst (λ z. 0 < z) (sym (written-same w s g f)) (told-some set bit)
        go true f false g =
            let bit : bit_at (slice_index summary s) w ≡ 1 =
            ap (λ z. bit_at (slice_index summary z) w) (nat-same s sign f) ∙ sym (bits-are w ∙ told-other (not (nat_eq set 0)) word w (bit_at (slice_index summary sign)) g)
            ∙ ap (λ z. bit_at z w) (sym (summary-same s f)) ∙ e in
            subst (λ z. 0 < z) (sym (written-other w s l (λ x y. differs w word g x))) (h.some w s l bit)
        go false f u g = subst (λ z. 0 < z) (sym (written-other w s l (λ x y. differs s sign f y))) (h.some w s l (ap (λ z. bit_at z w) (sym (summary-other s f)) ∙ e))

    missing : (s : ℕ) → s < 32 → bit_at every s ≡ 0 → slice_index (slice_set summary sign bits) s ≡ 0
    missing s l e = go (nat_eq s sign) refl
      where
        go : (t : Bool) → nat_eq s sign ≡ t → slice_index (slice_set summary sign bits) s ≡ 0
        go true f =
            let bit : bit_of (not (nat_eq bits 0)) ≡ 0 =
            sym (every-are s ∙ ap (with_told (not (nat_eq bits 0)) sign (bit_at all)) (nat-same s sign f) ∙ told-same (not (nat_eq bits 0)) sign (bit_at all)) ∙ e in
            summary-same s f ∙ told-none bits bit
        go false f = summary-other s f ∙ h.missing s l (sym (every-are s ∙ told-other (not (nat_eq bits 0)) sign s (bit_at all) f) ∙ e)

    present : (s : ℕ) → s < 32 → bit_at every s ≡ 1 → 0 < slice_index (slice_set summary sign bits) s
    present s l e = go (nat_eq s sign) refl
      where
        go : (t : Bool) → nat_eq s sign ≡ t → 0 < slice_index (slice_set summary sign bits) s
        go true f =
            let bit : bit_of (not (nat_eq bits 0)) ≡ 1 =
            sym (every-are s ∙ ap (with_told (not (nat_eq bits 0)) sign (bit_at all)) (nat-same s sign f) ∙ told-same (not (nat_eq bits 0)) sign (bit_at all)) ∙ e in
            subst (λ z. 0 < z) (sym (summary-same s f)) (told-some bits bit)
        go false f = subst (λ z. 0 < z) (sym (summary-other s f)) (h.present s l (sym (every-are s ∙ told-other (not (nat_eq bits 0)) sign s (bit_at all) f) ∙ e))

    fit : (k : ℕ) → slice_index written k < 2 ^ 64
    fit k = go (nat_eq k (word * 32 + sign)) refl
      where
        go : (t : Bool) → nat_eq k (word * 32 + sign) ≡ t → slice_index written k < 2 ^ 64
        go true f = subst (λ z. z < 2 ^ 64) (sym (ap (slice_index written) (nat-same k (word * 32 + sign) f) ∙ get_or-set_same words (word * 32 + sign) set 0 (omega (arith, room, small)))) set-fits
        go false f = subst (λ z. z < 2 ^ 64) (sym (get_or-set_other words (word * 32 + sign) k set 0 (differs k (word * 32 + sign) f))) (h.fit k)

    fits : (s : ℕ) → slice_index (slice_set summary sign bits) s < 2 ^ 64
    fits s = go (nat_eq s sign) refl
      where
        go : (t : Bool) → nat_eq s sign ≡ t → slice_index (slice_set summary sign bits) s < 2 ^ 64
        go true f = subst (λ z. z < 2 ^ 64) (sym (summary-same s f)) bits-fit
        go false f = subst (λ z. z < 2 ^ 64) (sym (summary-other s f)) (h.fits s)

    pub summed-written : AreSummed written (slice_set summary sign bits) every
    summed-written = record {
      whole = ap (λ z. z % 32) (length-set words (word * 32 + sign) set) ∙ h.whole;
      few = subst (λ z. z ≤ 2048) (sym (length-set words (word * 32 + sign) set)) h.few;
      signs = length-set summary sign bits ∙ h.signs;
      none = none;
      some = some;
      missing = missing;
      present = present;
      fit = fit;
      fits = fits;
    }

pub summed-zeros : (count : ℕ) → count % 32 ≡ 0 → count ≤ 2048 → AreSummed (Rattle.std.proofs.Common.replicate count 0) (Rattle.std.proofs.Common.replicate 32 0) 0
summed-zeros count whole few =
    let long : length (Rattle.std.proofs.Common.replicate {A = ℕ} count 0) ≡ count = Rattle.std.proofs.lemmas.List.length-replicate {A = ℕ} count 0 in
    record {
      whole = ap (λ z. z % 32) long ∙ whole;
      few = subst (λ z. z ≤ 2048) (sym long) few;
      signs = refl;
      none = λ w s l e. zeros count (w * 32 + s);
      some = λ w s l e. absurd (not-one (bit_at (get_or {A = ℕ} (Rattle.std.proofs.Common.replicate 32 0) s 0) w) (ap (λ z. bit_at z w) (zeros 32 s) ∙ bit_at-zero w) e);
      missing = λ s l e. zeros 32 s;
      present = λ s l e. absurd (not-one (bit_at 0 s) (bit_at-zero s) e);
      fit = λ k. subst (λ z. z < 2 ^ 64) (sym (zeros count k)) (omega arith);
      fits = λ s. subst (λ z. z < 2 ^ 64) (sym (zeros 32 s)) (omega arith);
    }

-- one sign of a node

max-zero : (n : ℕ) → max 0 n ≡ n
max-zero n = grind arith

mask-bit : (at k : ℕ) → at < 64 → bit_at (1 * 2 ^ at % 2 ^ 64) k ≡ with_one at (bit_at 0) k
mask-bit at k l =
    let mask : ℕ = 1 * 2 ^ at % 2 ^ 64 in
    sym (max-zero (bit_at mask k)) ∙ ap (λ z. max z (bit_at mask k)) (sym (bit_at-zero k)) ∙ sym (bit_at_or 0 mask k) ∙ set-bit 0 at l k

flip : (b : ℕ) → b < 2 → (b + 1) % 2 ≡ bit_of (nat_eq b 0)
flip b l = elim (cases_lt b 1) [
  | inl q ↦ let e : b ≡ 0 = omega (arith, q) in subst (λ z. (z + 1) % 2 ≡ bit_of (nat_eq z 0)) (sym e) refl
  | inr q ↦ let e : b ≡ 1 = omega (arith, q, l) in subst (λ z. (z + 1) % 2 ≡ bit_of (nat_eq z 0)) (sym e) refl
]

pub flipped : (word at : ℕ) → at < 64 → (k : ℕ) → bit_at (bit_xor word (1 * 2 ^ at % 2 ^ 64)) k ≡ with_told (nat_eq (bit_at word at) 0) at (bit_at word) k
flipped word at l k = go (nat_eq k at) refl
  where
    mask : ℕ
    mask = 1 * 2 ^ at % 2 ^ 64

    go : (t : Bool) → nat_eq k at ≡ t → bit_at (bit_xor word mask) k ≡ with_told (nat_eq (bit_at word at) 0) at (bit_at word) k
    go true e =
        let same : k ≡ at = nat-same k at e in
        subst (λ z. bit_at (bit_xor word mask) z ≡ with_told (nat_eq (bit_at word at) 0) at (bit_at word) z) (sym same)
        (bit_at_xor word mask at ∙ ap (λ z. (bit_at word at + z) % 2) (mask-bit at at l ∙ with-one_same at (bit_at 0)) ∙ flip (bit_at word at) (bit_at-lt word at)
        ∙ sym (told-same (nat_eq (bit_at word at) 0) at (bit_at word)))
    go false e =
        bit_at_xor word mask k ∙ ap (λ z. (bit_at word k + z) % 2) (mask-bit at k l ∙ with-one_other at k (bit_at 0) e ∙ bit_at-zero k) ∙ same-rest (bit_at word k) (bit_at-lt word k)
        ∙ sym (told-other (nat_eq (bit_at word at) 0) at k (bit_at word) e)
      where
        same-rest : (b : ℕ) → b < 2 → (b + 0) % 2 ≡ b
        same-rest b m = omega arith

pub turned : (words : List ℕ) (node sign : ℕ) (shows : Bool) (set : ℕ) → node / 64 * 32 + 32 ≤ length words → sign < 32
    → ((k : ℕ) → bit_at set k ≡ with_told shows (node % 64) (bit_at (slice_index words (node / 64 * 32 + sign))) k)
    → IsTurnedAt words (slice_set words (node / 64 * 32 + sign) set) node sign shows
turned words node sign shows set room small bits = record { count = length-set words (node / 64 * 32 + sign) set; here = here; others = others }
  where
    place : ℕ
    place = node / 64 * 32 + sign

    same : slice_index (slice_set words place set) place ≡ set
    same = get_or-set_same words place set 0 (omega (arith, room, small))

    here : sign_shown (slice_set words place set) node sign ≡ bit_of shows
    here = ap (λ z. bit_at z (node % 64)) same ∙ bits (node % 64) ∙ told-same shows (node % 64) (bit_at (slice_index words place))

    others : (k s : ℕ) → s < 32 → (k ≡ node → s ≡ sign → ⊥) → sign_shown (slice_set words place set) k s ≡ sign_shown words k s
    others k s l h = go (nat_eq (k / 64 * 32 + s) place) refl
      where
        go : (t : Bool) → nat_eq (k / 64 * 32 + s) place ≡ t → sign_shown (slice_set words place set) k s ≡ sign_shown words k s
        go false f = ap (λ z. bit_at z (k % 64)) (get_or-set_other words place (k / 64 * 32 + s) set 0 (differs (k / 64 * 32 + s) place f))
        go true f = at (nat_eq (k % 64) (node % 64)) refl
          where
            one : k / 64 * 32 + s ≡ place
            one = nat-same (k / 64 * 32 + s) place f

            both : (k / 64 ≡ node / 64) × (s ≡ sign)
            both = same-place (k / 64) s (node / 64) sign l small one

            at : (t : Bool) → nat_eq (k % 64) (node % 64) ≡ t → sign_shown (slice_set words place set) k s ≡ sign_shown words k s
            at true g = absurd (h (let rest = nat-same (k % 64) (node % 64) g in omega (arith, rest, both.0, div-add-mod' k 64, div-add-mod' node 64)) both.1)
            at false g =
                ap (λ z. bit_at z (k % 64)) (ap (slice_index (slice_set words place set)) one ∙ same) ∙ bits (k % 64) ∙ told-other shows (node % 64) (k % 64) (bit_at (slice_index words place)) g
                ∙ ap (λ z. bit_at (slice_index words z) (k % 64)) (sym one)

-- the first so many signs of a node are changed
pub record AreChangedTo (old new : List ℕ) (node was signs count : ℕ) : Type 0 where
  pub long : length new ≡ length old
  pub done : (s : ℕ) → s < 32 → s < count → sign_shown new node s ≡ bit_at signs s
  pub left : (s : ℕ) → s < 32 → count ≤ s → sign_shown new node s ≡ bit_at was s
  pub others : (k s : ℕ) → s < 32 → (k ≡ node → ⊥) → sign_shown new k s ≡ sign_shown old k s

even : (a b : ℕ) → a < 2 → b < 2 → (a + b) % 2 ≡ 0 → a ≡ b
even a b l m e = omega arith

same-bit : (a b k : ℕ) → bit_at (bit_xor a b) k ≡ 0 → bit_at a k ≡ bit_at b k
same-bit a b k e = even (bit_at a k) (bit_at b k) (bit_at-lt a k) (bit_at-lt b k) (sym (bit_at_xor a b k) ∙ e)

pub within-turned : (was signs sign : ℕ) → was < 2 ^ 32 → signs < 2 ^ 32 → bit_at (bit_xor was signs) sign ≡ 1 → sign < 32
within-turned was signs sign few small e = elim (cases_lt sign 32) [
  | inl q ↦ q
  | inr q ↦
      let one = bit_at_xor was signs sign in
      let left = bit_at_above was 32 sign few q in
      let right = bit_at_above signs 32 sign small q in
      absurd (not-one (bit_at (bit_xor was signs) sign) (one ∙ ap₂ (λ x y. (x + y) % 2) left right) e)
]

pub other-bit : (a b : ℕ) → a < 2 → b < 2 → (a + b) % 2 ≡ 1 → bit_of (nat_eq a 0) ≡ b
other-bit a b l m e = elim (cases_lt a 1) [
  | inl q ↦ let z : a ≡ 0 = omega (arith, q) in subst (λ n. bit_of (nat_eq n 0) ≡ b) (sym z) (let one : 1 ≡ b = omega (arith, e, z, m) in one)
  | inr q ↦ let z : a ≡ 1 = omega (arith, q, l) in subst (λ n. bit_of (nat_eq n 0) ≡ b) (sym z) (let none : 0 ≡ b = omega (arith, e, z, m) in none)
]

pub changed-more : (old mid new : List ℕ) (node was signs from sign : ℕ) (shows : Bool) → AreChangedTo old mid node was signs from → from ≤ sign → ((k : ℕ) → from ≤ k → k < sign → bit_at (bit_xor was signs) k ≡ 0)
    → sign < 32 → bit_of shows ≡ bit_at signs sign → IsTurnedAt mid new node sign shows → AreChangedTo old new node was signs (sign + 1)
changed-more old mid new node was signs from sign shows c above below small is t = record {
  long = t.count ∙ c.long;
  done = λ s l q. done s l q (cases_lt s from) (cases_lt s sign);
  left = λ s l q. t.others node s l (λ e f. absurd (omega (arith, q, f))) ∙ later s l q (cases_lt s from);
  others = λ k s l q. t.others k s l (λ e f. q e) ∙ c.others k s l q;
}
  where
    done : (s : ℕ) → s < 32 → s < sign + 1 → (s < from) ⊎ (from ≤ s) → (s < sign) ⊎ (sign ≤ s) → sign_shown new node s ≡ bit_at signs s
    done s l q _ (inr r) = let here : sign ≡ s = omega (arith, q, r) in subst (λ z. sign_shown new node z ≡ bit_at signs z) here (t.here ∙ is)
    done s l q (inl p) (inl r) = t.others node s l (λ e f. absurd (omega (arith, r, f))) ∙ c.done s l p
    done s l q (inr p) (inl r) = t.others node s l (λ e f. absurd (omega (arith, r, f))) ∙ c.left s l p ∙ same-bit was signs s (below s p r)

    later : (s : ℕ) → s < 32 → sign + 1 ≤ s → (s < from) ⊎ (from ≤ s) → sign_shown mid node s ≡ bit_at was s
    later s l q (inr p) = c.left s l p
    later s l q (inl p) = absurd (omega (arith, p, q, above))

pub changed-all : (old new : List ℕ) (node was signs from : ℕ) → AreChangedTo old new node was signs from → ((k : ℕ) → from ≤ k → bit_at (bit_xor was signs) k ≡ 0) → IsChangedAt old new node signs
changed-all old new node was signs from c rest = record { count = c.long; here = λ s l. go s l (cases_lt s from); others = c.others }
  where
    go : (s : ℕ) → s < 32 → (s < from) ⊎ (from ≤ s) → sign_shown new node s ≡ bit_at signs s
    go s l (inl q) = c.done s l q
    go s l (inr q) = c.left s l q ∙ same-bit was signs s (rest s q)

-- the first node with a wanted sign

pub rest-shows_none : (words : List ℕ) (wanted word : ℕ) → length words ≤ word * 32 → (k : ℕ) → word ≤ k / 64 → ShowsNone words wanted k
rest-shows_none words wanted word past k l s small is = ap (λ z. bit_at z (k % 64)) (get_or_past {X = ℕ} words (k / 64 * 32 + s) 0 (omega (arith, past, l))) ∙ bit_at-zero (k % 64)

shows-none : (words : List ℕ) (wanted word set k : ℕ) → AreJoined words (word * 32) wanted 32 set → k / 64 ≡ word → bit_at set (k % 64) ≡ 0 → ShowsNone words wanted k
shows-none words wanted word set k j e none s small is = ap (λ z. bit_at (slice_index words (z * 32 + s)) (k % 64)) e ∙ j.none (k % 64) s none small is

shows-some : (words : List ℕ) (wanted word set bit : ℕ) → AreJoined words (word * 32) wanted 32 set → bit < 64 → bit_at set bit ≡ 1 → ShowsSome words wanted (word * 64 + bit)
shows-some words wanted word set bit j small is =
    let one = j.some bit is in (
      one.0,
      one.1,
      one.2,
      ap₂ (λ x y. bit_at (slice_index words (x * 32 + one.0)) y) (div-mul-add word 64 bit small) (mod-mul-add word 64 bit small) ∙ one.3,
    )

module _ (words : List ℕ) (wanted from set : ℕ) (j : AreJoined words (from / 64 * 32) wanted 32 set) where
  -- in the word of the node itself
  pub first-here : (bit : ℕ) → IsLowestFrom set (from % 64) (Some bit) → IsFirstShown words wanted from (Some (from / 64 * 64 + bit))
  first-here bit w = (
    omega (arith, w.1, div-add-mod' from 64),
    shows-some words wanted (from / 64) set bit j w.0 w.2,
    λ k l m.
        let same : k / 64 ≡ from / 64 = omega (arith, l, m, w.0, div-add-mod' from 64, div-add-mod' k 64, mod_below from 64 (omega arith), mod_below k 64 (omega arith)) in
        shows-none words wanted (from / 64) set k j same (w.3 (k % 64) (omega (arith, l, same, div-add-mod' from 64, div-add-mod' k 64)) (omega (arith, m, same, div-add-mod' k 64))),
  )

  none-here : IsLowestFrom set (from % 64) None → (k : ℕ) → from ≤ k → k / 64 ≡ from / 64 → ShowsNone words wanted k
  none-here w k l same = shows-none words wanted (from / 64) set k j same (w (k % 64) (omega (arith, l, same, div-add-mod' from 64, div-add-mod' k 64)))

  pub none-after_last : length words ≤ 2048 → from / 64 ≡ 63 → IsLowestFrom set (from % 64) None → IsFirstShown words wanted from None
  none-after_last few last w k l = go (cases_lt (k / 64) 64)
    where
      go : (k / 64 < 64) ⊎ (64 ≤ k / 64) → ShowsNone words wanted k
      go (inl q) = none-here w k l (omega (arith, q, l, last, div-add-mod' from 64, div-add-mod' k 64, mod_below from 64 (omega arith), mod_below k 64 (omega arith)))
      go (inr q) = rest-shows_none words wanted 64 (omega (arith, few)) k q

  module _ (summary : List ℕ) (all : ℕ) (h : AreSummed words summary all) (sets : ℕ) (joint : AreJoined summary 0 wanted 32 sets) where
    none-later : (k : ℕ) → bit_at sets (k / 64) ≡ 0 → ShowsNone words wanted k
    none-later k e s small is =
        let bit : bit_at (slice_index summary s) (k / 64) ≡ 0 = subst (λ z. bit_at (slice_index summary z) (k / 64) ≡ 0) (omega arith) (joint.none (k / 64) s e small is) in
        ap (λ z. bit_at z (k % 64)) (h.none (k / 64) s small bit) ∙ bit_at-zero (k % 64)

    before-later : IsLowestFrom set (from % 64) None → (end : ℕ) → ((w : ℕ) → from / 64 + 1 ≤ w → w < end → bit_at sets w ≡ 0) → (k : ℕ) → from ≤ k → k / 64 < end → ShowsNone words wanted k
    before-later w end none k l m = go (cases_lt (from / 64) (k / 64))
      where
        go : (from / 64 < k / 64) ⊎ (k / 64 ≤ from / 64) → ShowsNone words wanted k
        go (inl q) = none-later k (none (k / 64) (omega (arith, q)) m)
        go (inr q) = none-here w k l (omega (arith, q, l, div-add-mod' from 64, div-add-mod' k 64, mod_below from 64 (omega arith), mod_below k 64 (omega arith)))

    pub none-anywhere : IsLowestFrom set (from % 64) None → IsLowestFrom sets (from / 64 + 1) None → IsFirstShown words wanted from None
    none-anywhere w none k l = before-later w (k / 64 + 1) (λ n a b. none n a) k l (omega arith)

    module _ (later : ℕ) (found : IsLowestFrom sets (from / 64 + 1) (Some later)) where
      some-later : (s : ℕ) × (s < 32) × (bit_at wanted s ≡ 1) × (0 < set_of words later s)
      some-later =
          let one = joint.some later found.2 in
          (one.0, one.1, one.2, h.some later one.0 one.1 (subst (λ z. bit_at (slice_index summary z) later ≡ 1) (omega arith) one.3))

      module _ (later-set : ℕ) (there : AreJoined words (later * 32) wanted 32 later-set) where
        pub not-empty : IsLowestFrom later-set 0 None → ⊥
        not-empty none = absurd (
            let one = some-later in
            let zero : set_of words later one.0 ≡ 0 = no-bits (set_of words later one.0) (λ b l. there.none b one.0 (none b l) one.1 one.2) in
            omega (arith, zero, one.3)
            )

        pub first-later : IsLowestFrom set (from % 64) None → (bit : ℕ) → IsLowestFrom later-set 0 (Some bit) → IsFirstShown words wanted from (Some (later * 64 + bit))
        first-later w bit low = (
          omega (arith, found.1, div-add-mod' from 64, mod_below from 64 (omega arith)),
          shows-some words wanted later later-set bit there low.0 low.2,
          λ k l m. go k l m (cases_lt (k / 64) later),
        )
          where
            go : (k : ℕ) → from ≤ k → k < later * 64 + bit → (k / 64 < later) ⊎ (later ≤ k / 64) → ShowsNone words wanted k
            go k l m (inl q) = before-later w later (λ n a b. found.3 n a b) k l q
            go k l m (inr q) =
                let same : k / 64 ≡ later = omega (arith, m, q, low.0, div-add-mod' k 64, mod_below k 64 (omega arith)) in
                shows-none words wanted later later-set k there same (low.3 (k % 64) (omega arith) (omega (arith, m, same, div-add-mod' k 64)))

-- where none of the wanted signs is among all

pub none-wanted : (words summary : List ℕ) (all wanted from : ℕ) → AreSummed words summary all → bit_and all wanted ≡ 0 → IsFirstShown words wanted from None
none-wanted words summary all wanted from h e k l s small is =
    let bit : bit_at all s ≡ 0 = least (bit_at all s) (bit_at wanted s) (no-bit all wanted e s) is in
    let none : bit_at (slice_index summary s) (k / 64) ≡ 0 = ap (λ z. bit_at z (k / 64)) (h.missing s small bit) ∙ bit_at-zero (k / 64) in
    ap (λ z. bit_at z (k % 64)) (h.none (k / 64) s small none) ∙ bit_at-zero (k % 64)
  where
    least : (a b : ℕ) → min a b ≡ 0 → b ≡ 1 → a ≡ 0
    least a b m f = grind arith

-- where one of the wanted signs is among all

both-one : (a b : ℕ) → a ≡ 1 → b ≡ 1 → min a b ≡ 1
both-one a b e f = grind arith

one-both : (a b : ℕ) → a < 2 → b < 2 → min a b ≡ 1 → (a ≡ 1) × (b ≡ 1)
one-both a b l m e = (grind arith, grind arith)

some-wanted : (words summary : List ℕ) (all wanted : ℕ) → AreSummed words summary all → wanted < 2 ^ 32 → 0 < bit_and all wanted → (k : ℕ) × ShowsSome words wanted k
some-wanted words summary all wanted h few there_is =
    let one = bit_at-trailing_zeros w64 (bit_and all wanted) there_is (omega (arith, and_le_r all wanted, few)) in
    let sign : ℕ = trailing_zeros w64 (bit_and all wanted) in
    let both = one-both (bit_at all sign) (bit_at wanted sign) (bit_at-lt all sign) (bit_at-lt wanted sign) (sym (bit_at_and all wanted sign) ∙ one.1) in
    let small : sign < 32 = within-signs wanted sign few both.1 in
    let word : ℕ = trailing_zeros w64 (slice_index summary sign) in
    let there = bit_at-trailing_zeros w64 (slice_index summary sign) (h.present sign small both.0) (h.fits sign) in
    let bit : ℕ = trailing_zeros w64 (set_of words word sign) in
    let here = bit_at-trailing_zeros w64 (set_of words word sign) (h.some word sign small there.1) (h.fit (word * 32 + sign)) in
    (word * 64 + bit, (sign, small, both.1, ap₂ (λ x y. bit_at (slice_index words (x * 32 + sign)) y) (div-mul-add word 64 bit here.0) (mod-mul-add word 64 bit here.0) ∙ here.1))

pub absent-told : (words summary : List ℕ) (all wanted : ℕ) → AreSummed words summary all → wanted < 2 ^ 32 → AreAbsent words wanted (nat_eq (bit_and all wanted) 0)
absent-told words summary all wanted h few = go (nat_eq (bit_and all wanted) 0) refl
  where
    go : (t : Bool) → nat_eq (bit_and all wanted) 0 ≡ t → AreAbsent words wanted t
    go true e = λ k. none-wanted words summary all wanted 0 h (nat-same (bit_and all wanted) 0 e) k (omega arith)
    go false e = some-wanted words summary all wanted h few (Rattle.batch_signs.proofs.Bits.not-zero (bit_and all wanted) (differs (bit_and all wanted) 0 e))

-- of the wanted signs only those among all matter

pub first-among : (words summary : List ℕ) (all wanted from : ℕ) → AreSummed words summary all → (found : Option ℕ) → IsFirstShown words (bit_and all wanted) from found → IsFirstShown words wanted from found
first-among words summary all wanted from h found first = go found first
  where
    none : (k : ℕ) → ShowsNone words (bit_and all wanted) k → ShowsNone words wanted k
    none k shows s small is = elim (one-or_none all s) [
      | inl q ↦
          let empty : bit_at (slice_index summary s) (k / 64) ≡ 0 = ap (λ z. bit_at z (k / 64)) (h.missing s small q) ∙ bit_at-zero (k / 64) in
          ap (λ z. bit_at z (k % 64)) (h.none (k / 64) s small empty) ∙ bit_at-zero (k % 64)
      | inr q ↦ shows s small (bit_at_and all wanted s ∙ both-one (bit_at all s) (bit_at wanted s) q is)
    ]

    some : (k : ℕ) → ShowsSome words (bit_and all wanted) k → ShowsSome words wanted k
    some k shows = (shows.0, shows.1, (one-both (bit_at all shows.0) (bit_at wanted shows.0) (bit_at-lt all shows.0) (bit_at-lt wanted shows.0) (sym (bit_at_and all wanted shows.0) ∙ shows.2)).1, shows.3)

    go : (found : Option ℕ) → IsFirstShown words (bit_and all wanted) from found → IsFirstShown words wanted from found
    go None first = λ k l. none k (first k l)
    go (Some n) first = (first.0, some n first.1, λ k l m. none k (first.2 k l m))
