-- Sublists, each by the position in the list at which it begins.
use Rattle.std.proofs.Common.{◌≡◌, ℕ, ◌+◌, ◌≤◌, List, [], ◌∷◌, ◌++◌, length, Some, slice_get, sym, ap, ◌∙◌, refl, arith, append_assoc, length-append}

pub get_seam : {X : Type 0} (xs ys : List X) (x : X) → slice_get (xs ++ x ∷ ys) (length xs) ≡ Some x
get_seam [] ys x = refl
get_seam (y ∷ xs) ys x = get_seam xs ys x

-- These stand in a list from number n on.
module _ {X : Type 0} (all : List X) where
  pub record AreFrom (n : ℕ) (xs : List X) : Type 0 where
    pub front : List X
    pub rest : List X
    pub is : all ≡ front ++ (xs ++ rest)
    pub count : length front ≡ n

  pub from_left : (n : ℕ) (xs ys : List X) → AreFrom n (xs ++ ys) → AreFrom n xs
  from_left n xs ys h = record { front = h.front; rest = ys ++ h.rest; is = h.is ∙ ap (λ zs. h.front ++ zs) (append_assoc xs ys h.rest); count = h.count }

  pub from_right : (n : ℕ) (xs ys : List X) → AreFrom n (xs ++ ys) → AreFrom (n + length xs) ys
  from_right n xs ys h =
      record {
        front = h.front ++ xs;
        rest = h.rest;
        is = h.is ∙ (ap (λ zs. h.front ++ zs) (append_assoc xs ys h.rest) ∙ sym (append_assoc h.front xs (ys ++ h.rest)));
        count = omega (arith, length-append h.front xs, h.count);
      }

  pub from_tail : (n : ℕ) (x : X) (xs : List X) → AreFrom n (x ∷ xs) → AreFrom (n + 1) xs
  from_tail n x xs h = from_right n (x ∷ []) xs h

  pub from_head : (n : ℕ) (x : X) (xs : List X) → AreFrom n (x ∷ xs) → slice_get all n ≡ Some x
  from_head n x xs h = ap (slice_get all) (sym h.count) ∙ (ap (λ zs. slice_get zs (length h.front)) h.is ∙ get_seam h.front (xs ++ h.rest) x)

  pub from_end : (n : ℕ) (xs : List X) → AreFrom n xs → n + length xs ≤ length all
  from_end n xs h = omega (arith, ap length h.is, length-append h.front (xs ++ h.rest), length-append xs h.rest, h.count)
