-- trusted: groups of lines, each with a closing line, whatever the sums are.
use Rattle.std.specs.Prelude.{◌≡◌, ℕ, Bool, true, false, List, [], ◌∷◌, ◌++◌, Option, Some, None, ⊤, if◌then◌else◌, not}

-- the sum of a group by the sum before it; which lines close a group at all; and which of them close one with this sum
pub record Format : Type 0 where
  pub next : List ℕ → List (List ℕ) → List ℕ
  pub own : List ℕ → Bool
  pub closes : List ℕ → List ℕ → Bool

-- the lines of the groups that are taken, the first of which has begun with these; none is taken from the first wrong sum on
abbrev pub taken : Format → List ℕ → List (List ℕ) → List (List ℕ) → List (List ℕ)
taken f sum begun [] = []
taken f sum begun (line ∷ lines) =
    if f.own line
    then (if f.closes (f.next sum begun) line then begun ++ taken f (f.next sum begun) [] lines else [])
    else taken f sum (begun ++ line ∷ []) lines

-- nothing is taken: the first line that closes a group doesn't close the one that has begun, or there is none
abbrev pub is_left : Format → List ℕ → List (List ℕ) → List (List ℕ) → Bool
is_left f sum begun [] = true
is_left f sum begun (line ∷ lines) =
    if f.own line then not (f.closes (f.next sum begun) line) else is_left f sum (begun ++ line ∷ []) lines

-- nothing has begun
abbrev pub at_rest : List ℕ → List (List ℕ) → Option (List ℕ)
at_rest sum [] = Some sum
at_rest sum (line ∷ lines) = None

-- the last sum, where all groups are taken and none has begun
abbrev pub last_sum : Format → List ℕ → List (List ℕ) → List (List ℕ) → Option (List ℕ)
last_sum f sum begun [] = at_rest sum begun
last_sum f sum begun (line ∷ lines) =
    if f.own line
    then (if f.closes (f.next sum begun) line then last_sum f (f.next sum begun) [] lines else None)
    else last_sum f sum (begun ++ line ∷ []) lines

-- none of the lines closes a group
abbrev pub AreOthers : Format → List (List ℕ) → Type 0
AreOthers f [] = ⊤
AreOthers f (line ∷ lines) = (f.own line ≡ false) × AreOthers f lines

-- groups behind others that are taken to the end are taken as by themselves, and nothing is taken back
abbrev pub GroupsGoOn : Type 0
GroupsGoOn =
    (f : Format) (sum last : List ℕ) (begun a b : List (List ℕ)) → last_sum f sum begun a ≡ Some last
    → (taken f sum begun (a ++ b) ≡ taken f sum begun a ++ taken f last [] b) × (last_sum f sum begun (a ++ b) ≡ last_sum f last [] b)

-- a group that was written is taken whole
abbrev pub GroupIsTaken : Type 0
GroupIsTaken =
    (f : Format) (sum : List ℕ) (lines : List (List ℕ)) (closing : List ℕ) → AreOthers f lines → f.own closing ≡ true → f.closes (f.next sum lines) closing ≡ true
    → (taken f sum [] (lines ++ closing ∷ []) ≡ lines) × (last_sum f sum [] (lines ++ closing ∷ []) ≡ Some (f.next sum lines))

-- lines whose group isn't closed are left
abbrev pub TornIsLeft : Type 0
TornIsLeft = (f : Format) (sum : List ℕ) (begun lines : List (List ℕ)) → AreOthers f lines → taken f sum begun lines ≡ []
