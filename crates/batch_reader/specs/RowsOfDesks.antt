-- worked rows: the meaning of documents of desks, and their faults.
use Rattle.std.specs.Prelude.{◌≡◌, ◌≢◌, pos, List, [], ◌∷◌, ℕ, Option, Some, None, false, true, option_map, string_bytes, codes}
use Rattle.std.specs.Borrow.{Bor}
use Rattle.toml.specs.Data.{Members, no_members, member, boolean, integer, string}
use Rattle.batch_reader.specs.TableFaults.{IsKeyFault}
use Rattle.batch_reader.specs.declared.fault.EntryFault.{EntryFault}
use Rattle.batch_reader.specs.declared.fault.EntryFault.TheVariants.{Duplicate, MissingKey, OutOfLimit, UnknownKey, WrongKind}
use Rattle.batch_reader.specs.DeskNames.{HaveDistinctNames}
use Rattle.batch_reader.specs.DeskUnits.{HaveUnits}
use Rattle.batch_reader.specs.DesksDocument.{IsDeskTable}
use Rattle.batch_reader.specs.DesksFaults.{HasDeskNameTwice, HasUnknownTable, HasWrongDeskCount, IsDeskFault, path_key}
use Rattle.batch_reader.specs.declared.desk.Desk.{Desk}

-- ---- one table

-- `name = "CONSOLE"`, and more
abbrev pub named : Members → Members
named more = member (codes "name") (string (codes "CONSOLE")) more

-- `name = "CONSOLE"` and `input = "in"`, and more
abbrev pub console : Members → Members
console more = named (member (codes "input") (string (codes "in")) more)

-- the desk has that name and that input, and nothing that its table doesn't say
pub record IsConsole (desk : Desk) : Type 0 where
  pub name : desk.name ≡ codes "CONSOLE"
  pub input : option_map string_bytes desk.input ≡ Some (codes "in")
  pub no_output : desk.output ≡ None
  pub all_units : desk.unit ≡ None
  pub ends : desk.stays ≡ false

-- 4,096 lines may wait for it, and no other number of them
abbrev pub ConsoleIsRead : Type 0
ConsoleIsRead = (desk : Desk) → IsConsole desk → desk.lag ≡ 4096 → IsDeskTable (console no_members) desk

abbrev pub NoOtherLagIsRead : Type 0
NoOtherLagIsRead = (desk : Desk) → desk.lag ≡ 65536 → ¬ IsDeskTable (console no_members) desk

-- it isn't one that stays, unless its table says so
abbrev pub NoStayIsRead : Type 0
NoStayIsRead = (desk : Desk) → desk.stays ≡ true → ¬ IsDeskTable (console no_members) desk

abbrev pub StayIsRead : Type 0
StayIsRead = (desk : Desk) → desk.stays ≡ false → ¬ IsDeskTable (console (member (codes "stays") (boolean true) no_members)) desk

-- nothing is wrong with its table
abbrev pub NothingIsWrong : Type 0
NothingIsWrong = (wrong : EntryFault) → ¬ IsDeskFault (console no_members) wrong

-- a desk with neither input nor output lacks one, which is neither of them, and nothing else is wrong with it
abbrev pub OneWayIsMissing : Type 0
OneWayIsMissing = IsDeskFault (named no_members) (MissingKey None) × ((wrong : EntryFault) → wrong ≢ MissingKey None → ¬ IsDeskFault (named no_members) wrong)

-- an unknown key is reported before a name that is missing
abbrev pub UnknownKeyIsFirst : Type 0
UnknownKeyIsFirst =
    IsDeskFault (member (codes "lags") (integer (pos 1)) no_members) UnknownKey
    × ((key : Option (Bor (List ℕ))) → ¬ IsDeskFault (member (codes "lags") (integer (pos 1)) no_members) (MissingKey key))

-- no line may wait for a desk, or 65,537: both are out of limits; 65,536 may
abbrev pub lag_of : ℕ → Members
lag_of lines = console (member (codes "lag") (integer (pos lines)) no_members)

abbrev pub LagIsLimited : Type 0
LagIsLimited =
    (key : Bor (List ℕ)) → key.now ≡ codes "lag"
    → IsDeskFault (lag_of 0) (OutOfLimit (Some key)) × IsDeskFault (lag_of 65537) (OutOfLimit (Some key)) × (¬ IsDeskFault (lag_of 65536) (OutOfLimit (Some key)))

-- a path without bytes is out of limits, one of a byte isn't, and a number is no path
abbrev pub PathIsLimited : Type 0
PathIsLimited =
    (key : Bor (List ℕ)) → key.now ≡ codes "input"
    → IsKeyFault (path_key (codes "input")) (member (codes "input") (string []) no_members) (OutOfLimit (Some key))
    × (¬ IsKeyFault (path_key (codes "input")) (member (codes "input") (string (codes "i")) no_members) (OutOfLimit (Some key)))
    × IsKeyFault (path_key (codes "input")) (member (codes "input") (integer (pos 1)) no_members) (WrongKind (Some key))

-- the fault of a path names no other key, and one
abbrev pub PathIsNamed : Type 0
PathIsNamed =
    ((key : Bor (List ℕ)) → key.now ≡ codes "output" → ¬ IsKeyFault (path_key (codes "input")) (member (codes "input") (string []) no_members) (OutOfLimit (Some key)))
    × (¬ IsKeyFault (path_key (codes "input")) (member (codes "input") (string []) no_members) (OutOfLimit None))

-- ---- all tables

-- a document that has a key `unit` at its top
abbrev pub UnitIsNoDesk : Type 0
UnitIsNoDesk = HasUnknownTable (member (codes "unit") (string (codes "R1")) no_members) 0 UnknownKey × (¬ HasUnknownTable no_members 0 UnknownKey)

-- without desks there are too few, which is reported at number 0, and of no key
abbrev pub NoDeskIsTooFew : Type 0
NoDeskIsTooFew = HasWrongDeskCount [] 0 (OutOfLimit None) × (¬ HasWrongDeskCount [] 1 (OutOfLimit None)) × ((key : Bor (List ℕ)) → ¬ HasWrongDeskCount [] 0 (OutOfLimit (Some key)))

-- the second of two desks of one name is reported, and not the first
abbrev pub SecondNameIsTold : Type 0
SecondNameIsTold = (one two : Desk) (key : Bor (List ℕ)) → one.name ≡ codes "A" → two.name ≡ codes "A" → key.now ≡ codes "name"
    → HasDeskNameTwice (one ∷ two ∷ []) 1 (Duplicate key) × (¬ HasDeskNameTwice (one ∷ two ∷ []) 0 (Duplicate key))

-- names that differ in a letter differ
abbrev pub OtherNamesDiffer : Type 0
OtherNamesDiffer = (one two : Desk) → one.name ≡ codes "A" → two.name ≡ codes "B" → HaveDistinctNames (one ∷ two ∷ [])

-- ---- units

-- a desk of the unit MIXER in a cell of R1, one of R1, and one of all units
abbrev pub UnitIsLookedUp : Type 0
UnitIsLookedUp = (desk : Desk) → desk.unit ≡ Some (codes "MIXER") → ¬ HaveUnits (codes "R1" ∷ []) (desk ∷ [])

abbrev pub UnitIsFound : Type 0
UnitIsFound = (desk : Desk) → desk.unit ≡ Some (codes "R1") → HaveUnits (codes "R1" ∷ []) (desk ∷ [])

abbrev pub AllUnitsAreFound : Type 0
AllUnitsAreFound = (desk : Desk) → desk.unit ≡ None → HaveUnits (codes "R1" ∷ []) (desk ∷ [])
