-- Lists of which no element passes a test.
use Rattle.std.proofs.Common.{ℕ, ◌≡◌, ◌<◌, ◌≤◌, List, length, get_or, refl, Bool, true, false, cond, arith, Option, Some, None}
use Rattle.std.{specs.Prelude.nat_lt, specs.Prelude.position, specs.List.position_or_len, proofs.lemmas.List.Sums.fails_before_first}
use borrow.Author.Tests.{ltb-false}

-- no element passes
abbrev pub NonePasses : {X : Type 0} → (X → Bool) → List X → Type 0
NonePasses {X} p xs = (k : ℕ) (d : X) → k < length xs → p (get_or xs k d) ≡ false

none_from : {X : Type 0} (p : X → Bool) (xs : List X) (b : Bool) → nat_lt (position_or_len p xs) (length xs) ≡ b → ◌≡◌ {A = Option ℕ} (cond b (Some (position_or_len p xs)) None) None → length xs ≤ position_or_len p xs
none_from p xs true e h = absurd (let c : ⊥ = cc in c)
none_from p xs false e h = ltb-false _ _ e

pub NonePasses-position : {X : Type 0} (p : X → Bool) (xs : List X) → position p xs ≡ None → NonePasses p xs
NonePasses-position p xs e k d h =
    let past : length xs ≤ position_or_len p xs = none_from p xs (nat_lt (position_or_len p xs) (length xs)) refl e in
    fails_before_first p xs k d (omega arith)
