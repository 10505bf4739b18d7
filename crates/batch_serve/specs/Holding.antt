-- private: the search for refusals and whole lines in a held text.
use Rattle.std.specs.Prelude.{◌≡◌, ℕ, ◌+◌, ◌≤◌, true, List, ◌++◌, length, take, drop, min, Option, Some, None, MatchOption}
use Rattle.batch_serve.specs.Held.{IsClearText, IsUnended, is_whole}
use Rattle.batch_serve.specs.Replays.{ContainsBytes, ShowsNoWant}

-- the first occurrence of the needle in the text is there
pub record StandsFirst (needle text : List ℕ) (at : ℕ) : Type 0 where
  pub within : at ≤ length text
  pub here : text ≡ take at text ++ (needle ++ drop (at + length needle) text)
  pub before : ContainsBytes needle (take at text) → ⊥

abbrev pub FindsFirst : List ℕ → List ℕ → Option ℕ → Type 0
FindsFirst needle text found = MatchOption found (ContainsBytes needle text → ⊥) (StandsFirst needle text)

-- no want shows before there, and no prefix of the text that ends after it is clear
pub record StopsAt (text : List ℕ) (at : ℕ) : Type 0 where
  pub within : at ≤ length text
  pub shows : ShowsNoWant (take at text)
  pub stops : (n : ℕ) → n ≤ length text → IsClearText (take n text) → n ≤ at

-- the text is whole lines up to there, and an unfinished line after them
pub record IsWholeTo (text : List ℕ) (n : ℕ) : Type 0 where
  pub within : n ≤ length text
  pub whole : is_whole (take n text) ≡ true
  pub rest : IsUnended (drop n text)

-- the least of the places that there are
abbrev pub sooner : Option ℕ → Option ℕ → Option ℕ
sooner None other = other
sooner (Some one) None = Some one
sooner (Some one) (Some other) = Some (min one other)
