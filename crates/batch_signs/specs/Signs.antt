-- surface: the signs of nodes.
use Rattle.std.specs.Prelude.{◌≡◌, ◌<◌, ◌≤◌, ℕ, List, length, Bool, true, false, not, nat_eq, Option, Some, None, is_some, slice_index, slice_set}
use Rattle.std.specs.Int.{bit_at}
use Rattle.std.specs.Int.Bits.{bit_and}
use Rattle.batch_signs.specs.SignSets.{AreRoomFor, sign_shown}

-- one of the wanted signs is among these
abbrev pub shows : ℕ → ℕ → Bool
shows wanted signs = not (nat_eq (bit_and signs wanted) 0)

-- the signs of node k
abbrev pub sign_at : List ℕ → ℕ → ℕ
sign_at signs k = slice_index signs k

-- the signs of nodes, and for each sign the nodes that show it
pub record AreBySign (signs words : List ℕ) : Type 0 where
  pub room : AreRoomFor words (length signs)
  pub same : (k sign : ℕ) → sign < 32 → sign_shown words k sign ≡ bit_at (sign_at signs k) sign

abbrev pub NoneShows : List ℕ → ℕ → ℕ → ℕ → Type 0
NoneShows signs wanted from end = (k : ℕ) → from ≤ k → k < end → bit_and (sign_at signs k) wanted ≡ 0

abbrev pub IsNextShown : List ℕ → ℕ → ℕ → Option ℕ → Type 0
IsNextShown signs wanted from None = NoneShows signs wanted from (length signs)
IsNextShown signs wanted from (Some n) = (from ≤ n) × (n < length signs) × (bit_and (sign_at signs n) wanted ≡ 0 → ⊥) × NoneShows signs wanted from n

-- whether the search from the first node on finds none
abbrev pub FindsNone : List ℕ → ℕ → Bool → Type 0
FindsNone signs wanted none = (found : Option ℕ) × IsNextShown signs wanted 0 found × (is_some found ≡ not none)

-- whether none of the wanted signs is shown from node n up to node m
abbrev pub TellsNone : List ℕ → ℕ → ℕ → ℕ → Bool → Type 0
TellsNone signs wanted n m true = NoneShows signs wanted n m
TellsNone signs wanted n m false = (k : ℕ) × (n ≤ k) × (k < m) × (bit_and (sign_at signs k) wanted ≡ 0 → ⊥)

-- the node shows these signs instead, if it shows any
abbrev pub replaced : List ℕ → ℕ → ℕ → List ℕ
replaced signs k new = elim (nat_eq (sign_at signs k) 0) [ true ↦ signs | false ↦ slice_set signs k new ]
