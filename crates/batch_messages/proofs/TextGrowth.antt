-- A text grows by one character after another.
use Rattle.std.proofs.Common.{◌≡◌, ℕ, ◌++◌, List, [], ◌∙◌, Result, Ok, Err, OnOk, is_ok, if◌then◌else◌, append_assoc, append-nil}

-- a text that grew by another, where there was memory
pub grown_to : {E : Type 0} (result : Result (Unit {0}) E) (new old text all : List ℕ)
    → new ≡ (if is_ok result then old ++ text else old) → old ++ text ≡ all → OnOk result (new ≡ all)
grown_to (Ok done) new old text all grew is = grew ∙ is
grown_to (Err fault) new old text all grew is = tt

pub four_more : (old a b c d : List ℕ) → (((old ++ a) ++ b) ++ c) ++ d ≡ old ++ (a ++ (b ++ (c ++ (d ++ []))))
four_more old a b c d = simp (append_assoc, append-nil)

pub two_more : (old a b : List ℕ) → (old ++ a) ++ b ≡ old ++ (a ++ (b ++ []))
two_more old a b = simp (append_assoc, append-nil)

pub one_more : (old a : List ℕ) → old ++ a ≡ old ++ (a ++ [])
one_more old a = simp append-nil
