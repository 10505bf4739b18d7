-- The code of an explanation that is found by its code, and the code of the first element that has one.
use Rattle.std.proofs.Common.{◌≡◌, ◌++◌, ◌+◌, ◌<◌, ◌∙◌, ℕ, Bool, true, false, List, [], ◌∷◌, Option, None, Some, refl, ap, sym, map, cond, arith, get_or, take, length, zero, suc}
use Rattle.std.{specs.Prelude.find, specs.Prelude.option_map, specs.Option.option_or, specs.Str.str_eq_ignore_ascii_case, proofs.lemmas.List.take_more}
use Rattle.batch_messages.specs.{Explaining.first_code, declared.explanation.Explanation.Explanation}

-- an explanation that is found in a table has the code that is found among the table's codes
pub found_code : (word : List ℕ) (table : List Explanation)
    → option_map (λ (e : Explanation). e.code.now) (find (λ e. str_eq_ignore_ascii_case e.code.now word) table)
    ≡ find (λ known. str_eq_ignore_ascii_case known word) (map (λ (e : Explanation). e.code.now) table)
found_code word [] = refl
found_code word (e ∷ es) = by_test (str_eq_ignore_ascii_case e.code.now word) (found_code word es)
  where
    by_test : (b : Bool)
        → option_map (λ (x : Explanation). x.code.now) (find (λ x. str_eq_ignore_ascii_case x.code.now word) es)
        ≡ find (λ known. str_eq_ignore_ascii_case known word) (map (λ (x : Explanation). x.code.now) es)
        → option_map (λ (x : Explanation). x.code.now) (cond b (Some e) (find (λ x. str_eq_ignore_ascii_case x.code.now word) es))
        ≡ cond b (Some e.code.now) (find (λ known. str_eq_ignore_ascii_case known word) (map (λ (x : Explanation). x.code.now) es))
    by_test true below = refl
    by_test false below = below

-- if the two together give no code, neither gives one
both_none : (a b : Option (List ℕ)) → option_or a b ≡ None → (a ≡ None) × (b ≡ None)
both_none None b is = (refl, is)
both_none (Some code) b is = absurd cc

pub first_of-map : {X Y : Type 0} (code : Y → Option (List ℕ)) (f : X → Y) (xs : List X) → first_code code (map f xs) ≡ first_code (λ x. code (f x)) xs
first_of-map code f [] = refl
first_of-map code f (x ∷ xs) = ap (option_or (code (f x))) (first_of-map code f xs)

module _ {X : Type 0} (code : X → Option (List ℕ)) where
  pub none_more : (xs : List X) (x : X) → first_code code xs ≡ None → code x ≡ None → first_code code (xs ++ x ∷ []) ≡ None
  none_more [] x before none = ap (λ c. option_or c None) none
  none_more (y ∷ xs) x before none =
      let (first, rest) = both_none (code y) (first_code code xs) before in
      ap (λ c. option_or c (first_code code (xs ++ x ∷ []))) first ∙ none_more xs x rest none

  pub none_at : (xs : List X) (i : ℕ) (x : X) → i < length xs → x ≡ get_or xs i x → first_code code (take i xs) ≡ None → code x ≡ None
      → first_code code (take (i + 1) xs) ≡ None
  none_at xs i x within is before none =
      ap (first_code code) (take_more xs i x within) ∙ none_more (take i xs) (get_or xs i x) before (ap code (sym is) ∙ none)

  -- the first code is that of an element before which none has a code
  pub first_at : (xs : List X) (i : ℕ) (x : X) (c : List ℕ) → i < length xs → x ≡ get_or xs i x → first_code code (take i xs) ≡ None → code x ≡ Some c
      → first_code code xs ≡ Some c
  first_at [] i x c within is before found = absurd (omega (arith, within))
  first_at (y ∷ xs) zero x c within is before found = ap (λ o. option_or o (first_code code xs)) (ap code (sym is) ∙ found)
  first_at (y ∷ xs) (suc i) x c within is before found =
      let (first, rest) = both_none (code y) (first_code code (take i xs)) before in
      ap (λ o. option_or o (first_code code xs)) first ∙ first_at xs i x c (omega (arith, within)) is rest found
