-- trusted: the part of a held record that is passed on.
use Rattle.std.specs.Prelude.{◌≡◌, ℕ, ◌≤◌, Bool, true, false, List, [], ◌∷◌, ◌++◌, length, take, drop, Option, Some, option_map, ◌==◌}
use Rattle.std.specs.List.{All}
use Rattle.batch_serve.specs.Replays.{IsWholeLines, ShowsNoWant}

-- the text is empty or ends with a line feed
abbrev pub is_whole : List ℕ → Bool
is_whole [] = true
is_whole (b ∷ []) = b == 10
is_whole (b ∷ c ∷ text) = is_whole (c ∷ text)

-- whole lines, none of which is a refusal for want of memory
pub record IsClearText (text : List ℕ) : Type 0 where
  pub whole : is_whole text ≡ true
  pub shows : ShowsNoWant text

-- no line ends in the text
abbrev pub IsUnended : List ℕ → Type 0
IsUnended text = All (λ b. (b == 10) ≡ false) text

-- no prefix of the text is clear but the empty one: it begins with an unfinished line, or with a refusal for want of memory
abbrev pub IsHeldBack : List ℕ → Type 0
IsHeldBack text = (n : ℕ) → n ≤ length text → IsClearText (take n text) → n ≡ 0

-- if the first contents of a writer are known: it holds them, and then a text that is clear together with the waiting one
pub record IsPassed (first contents : Option (List ℕ)) (waiting : List ℕ) : Type 0 where
  pub kept : (held : List ℕ) → first ≡ Some held → option_map (take (length held)) contents ≡ Some held
  pub clear : (held all : List ℕ) → first ≡ Some held → contents ≡ Some all → IsClearText (drop (length held) all ++ waiting)

-- of the text behind the first contents the writer got `told`; `told` and `waiting` together are whole lines that show no want of memory
pub record TellsClear (held : List ℕ) (contents taken : Option (List ℕ)) : Type 0 where
  pub told : List ℕ
  pub waiting : List ℕ
  pub rest : List ℕ
  pub has_told : contents ≡ Some (held ++ told)
  pub was_taken : taken ≡ Some (held ++ ((told ++ waiting) ++ rest))
  pub whole : IsWholeLines (told ++ waiting)
  pub shows : ShowsNoWant (told ++ waiting)

-- if the text taken after the first contents of the writer is whole lines, the writer got all of it
abbrev pub TellsAll : Option (List ℕ) → Option (List ℕ) → Option (List ℕ) → Type 0
TellsAll first taken contents = (held text : List ℕ) → first ≡ Some held → taken ≡ Some (held ++ text) → IsWholeLines text → contents ≡ Some (held ++ text)
