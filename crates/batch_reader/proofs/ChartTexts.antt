-- Names and numbers, byte by byte.
use Rattle.std.proofs.Common.{◌≡◌, ℕ, ◌+◌, ◌-◌, ◌<◌, ◌≤◌, List, [], ◌∷◌, ◌++◌, length, true, drop, arith, length-append, length-take, length-drop}
use Rattle.std.{specs.Prelude.slice_range, specs.Prelude.slice_index, specs.Char.is_ascii_alphabetic, specs.Char.is_ascii_digit, specs.List.list_all, proofs.lemmas.List.take_more, proofs.lemmas.List.get_or-drop, proofs.lemmas.List.Folds.list_all-append, proofs.lemmas.Bool.Decides.nat_tests}
use Rattle.batch_text.specs.{NameText.is_name_byte, NameText.IsName, NumberText.IsNumber, declared.name.TheConstants.MAX_NAME_LEN, declared.number.TheConstants.MAX_DIGITS}

-- a name by its first byte and the others
pub record IsNameFrom (b : ℕ) (bs : List ℕ) : Type 0 where
  pub letter : is_ascii_alphabetic b ≡ true
  pub others : list_all is_name_byte bs ≡ true
  pub short : length bs < MAX_NAME_LEN

pub no_name : IsName [] → ⊥
no_name name = let never = name.spelled in absurd cc

pub name_from : (b : ℕ) (bs : List ℕ) → IsName (b ∷ bs) → IsNameFrom b bs
name_from b bs name = record {
  letter = grind (arith, name.spelled);
  others = grind (arith, name.spelled);
  short = omega (arith, name.short);
}

pub name_of_letter : (b : ℕ) → is_ascii_alphabetic b ≡ true → IsName (b ∷ [])
name_of_letter b letter = record { spelled = grind (arith, nat_tests); short = omega arith }

pub name_more : (bytes : List ℕ) (b : ℕ) → IsName bytes → is_name_byte b ≡ true → length bytes < MAX_NAME_LEN → IsName (bytes ++ b ∷ [])
name_more [] b name byte room = absurd (no_name name)
name_more (x ∷ xs) b name byte room =
    let parts = name_from x xs name in
    record { spelled = rw (list_all-append is_name_byte (x ∷ xs) (b ∷ [])) (grind (arith, name.spelled)); short = omega (arith, length-append xs (b ∷ [])) }

pub number_first : (b : ℕ) (bs : List ℕ) → IsNumber (b ∷ bs) → (is_ascii_digit b ≡ true) × (list_all is_ascii_digit bs ≡ true)
number_first b bs number = (grind (arith, number.digits), grind (arith, number.digits))

pub number_of_digit : (b : ℕ) → is_ascii_digit b ≡ true → IsNumber (b ∷ [])
number_of_digit b digit = record { some = omega arith; digits = grind (arith, digit); short = omega arith }

pub number_more : (bytes : List ℕ) (b : ℕ) → IsNumber bytes → is_ascii_digit b ≡ true → length bytes < MAX_DIGITS → IsNumber (bytes ++ b ∷ [])
number_more bytes b number byte room = record {
  some = omega (arith, length-append bytes (b ∷ []));
  digits = rw (list_all-append is_ascii_digit bytes (b ∷ [])) (grind (arith, number.digits));
  short = omega (arith, length-append bytes (b ∷ []));
}

-- ---- tokens as ranges of the text

pub range_length : (text : List ℕ) (start place : ℕ) → place ≤ length text → length (slice_range text start place) ≤ place - start
range_length text start place h = omega (arith, length-take (place - start) (drop start text))

pub begun_name : (text : List ℕ) (start place : ℕ) → place ≤ length text → IsName (slice_range text start place) → start ≤ place
begun_name text start place h name = omega (arith, range_length text start place h, name_some (slice_range text start place) name)
  where
    name_some : (bytes : List ℕ) → IsName bytes → 0 < length bytes
    name_some [] name = absurd (no_name name)
    name_some (b ∷ bs) name = omega arith

pub begun_number : (text : List ℕ) (start place : ℕ) → place ≤ length text → IsNumber (slice_range text start place) → start ≤ place
begun_number text start place h number = omega (arith, range_length text start place h, number.some)

-- the token with the byte at the place
pub one_more : (text : List ℕ) (start place : ℕ) → start ≤ place → place < length text → slice_range text start (place + 1) ≡ slice_range text start place ++ slice_index text place ∷ []
one_more text start place begun inside = grind (arith, length-drop start text, get_or-drop start text (place - start) 0, take_more)

pub just_one : (text : List ℕ) (place : ℕ) → place < length text → slice_range text place (place + 1) ≡ slice_index text place ∷ []
just_one text place inside = grind (arith, one_more)
