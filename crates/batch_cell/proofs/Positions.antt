-- The first place at which a test passes, in the front of a longer list.
use Rattle.std.proofs.Common.{◌≡◌, ℕ, ◌<◌, ◌≤◌, Bool, not, List, ◌++◌, length, Some, None, position, arith}
use Rattle.std.proofs.lemmas.{Bool.Decides.nat_tests, Grind.common_steps, List.Folds.prefix_len-append, List.Sums.prefix_len-le-length}

pub position_within_front : {X : Type 0} (p : X → Bool) (xs ys : List X) (i : ℕ) → position p (xs ++ ys) ≡ Some i → i < length xs → position p xs ≡ Some i
position_within_front p xs ys i found within = grind (arith, nat_tests, common_steps, prefix_len-append (λ x. not (p x)) xs ys, prefix_len-le-length (λ x. not (p x)) xs)

pub position_past_front : {X : Type 0} (p : X → Bool) (xs ys : List X) (i : ℕ) → position p (xs ++ ys) ≡ Some i → length xs ≤ i → position p xs ≡ None
position_past_front p xs ys i found past = grind (arith, nat_tests, common_steps, prefix_len-append (λ x. not (p x)) xs ys, prefix_len-le-length (λ x. not (p x)) xs)

pub position_nowhere : {X : Type 0} (p : X → Bool) (xs ys : List X) → position p (xs ++ ys) ≡ None → position p xs ≡ None
position_nowhere p xs ys none = grind (arith, nat_tests, common_steps, prefix_len-append (λ x. not (p x)) xs ys, prefix_len-le-length (λ x. not (p x)) xs)
