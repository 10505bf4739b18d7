-- Conjunctions of tests: their parts and their order.
use Rattle.std.proofs.Common.{arith, ◌≡◌, Bool, true, ◌&&◌}
pub use Rattle.std.proofs.lemmas.Bool.{and_parts as both_true, and_from as and_true, or_parts as both_false}

-- two tests that hold together are the same
pub same_test : (a b : Bool) → (a ≡ true → b ≡ true) → (b ≡ true → a ≡ true) → a ≡ b
same_test a b f g = grind arith

-- four tests, and five, in another order
pub cross : (a b c d : Bool) → ((a && b) && (c && d)) ≡ ((a && c) && (b && d))
cross a b c d = grind arith

pub cross_five : (a b c d e : Bool) → ((a && b) && ((c && d) && e)) ≡ ((c && (a && d)) && (b && e))
cross_five a b c d e = grind arith

pub first_of_three : (a b c : Bool) → ((a && b) && c) ≡ (a && (b && c))
first_of_three a b c = grind arith
