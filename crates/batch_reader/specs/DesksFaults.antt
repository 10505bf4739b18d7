-- trusted: the fault for which a document of desks is refused: the first one, in the order in which they are looked for.
use Rattle.std.specs.Prelude.{◌≡◌, ℕ, ◌<◌, ◌≤◌, ◌⊎◌, Bool, true, false, List, Option, Some, None, length, codes}
use Rattle.toml.specs.Data.{Data, Members}
use Rattle.toml.specs.Parse.{parse_document}
use Rattle.batch_reader.specs.Entries.{HasName, HasTables, IsTableOf, IsTruth, MayHaveName, has_only_key, items_at}
use Rattle.batch_reader.specs.Keys.{Key, has_known_keys, needed, optional}
use Rattle.batch_reader.specs.PartFaults.{FailsFirst, IsCountFault, IsDuplicateAt}
use Rattle.batch_reader.specs.TableFaults.{IsArrayFault, IsKeyFault}
use Rattle.batch_reader.specs.declared.document.TheConstants.{MAX_DOCUMENT_LEN}
use Rattle.batch_reader.specs.declared.fault.EntryFault.{EntryFault}
use Rattle.batch_reader.specs.declared.fault.EntryFault.TheVariants.{MissingKey, UnknownKey, OutOfLimit}
use Rattle.batch_reader.specs.declared.fault.TableKind.TheVariants as table
use Rattle.batch_reader.specs.declared.keys.TheConstants.{MAX_LAG, MAX_PATH_LEN}
use Rattle.batch_reader.specs.declared.keys.ValueForm.TheVariants as form
use Rattle.batch_reader.specs.DeskNames.{HaveDistinctNames}
use Rattle.batch_reader.specs.DesksDocument.{IsDeskTable, MayHavePath, has_way}
use Rattle.batch_reader.specs.declared.desk.Desk.{Desk}
use Rattle.batch_reader.specs.declared.desk_set.TheConstants.{MAX_DESKS}

-- one thing is wrong, or it is right and a later one is wrong
abbrev pub First : Type 0 → Type 0 → Type 0 → Type 0
First Wrong Right Later = Wrong ⊎ (Right × Later)

abbrev pub path_key : List ℕ → Key
path_key word = optional word (form.Path MAX_PATH_LEN)

-- this is the first fault of the table of a desk
abbrev pub IsDeskFault : Members → EntryFault → Type 0
IsDeskFault ms wrong =
    First ((wrong ≡ UnknownKey) × (has_known_keys table.Desk ms ≡ false)) (has_known_keys table.Desk ms ≡ true)
    (First (IsKeyFault (needed (codes "name") form.Name) ms wrong) ((name : List ℕ) × HasName (codes "name") ms name)
    (First (IsKeyFault (path_key (codes "input")) ms wrong) ((path : Option (List ℕ)) × MayHavePath (codes "input") ms path)
    (First (IsKeyFault (path_key (codes "output")) ms wrong) ((path : Option (List ℕ)) × MayHavePath (codes "output") ms path)
    (First ((wrong ≡ MissingKey None) × (has_way ms ≡ false)) (has_way ms ≡ true)
    (First (IsKeyFault (optional (codes "unit") form.Name) ms wrong) ((unit : Option (List ℕ)) × MayHaveName (codes "unit") ms unit)
    (First (IsKeyFault (optional (codes "stays") form.Truth) ms wrong) ((stays : Bool) × IsTruth (codes "stays") ms stays)
    (IsKeyFault (optional (codes "lag") (form.Number 1 MAX_LAG)) ms wrong)))))))

-- the value is a table that stands for a desk
abbrev pub IsRightDesk : Data → Type 0
IsRightDesk d = (desk : Desk) × IsTableOf IsDeskTable d desk

-- there are too few desks or too many
abbrev pub HasWrongDeskCount : List Desk → ℕ → EntryFault → Type 0
HasWrongDeskCount desks entry wrong = (wrong ≡ OutOfLimit None) × IsCountFault 1 MAX_DESKS (length desks) entry

abbrev pub HasRightDeskCount : List Desk → Type 0
HasRightDeskCount desks = (1 ≤ length desks) × (length desks ≤ MAX_DESKS)

-- the desk is the first that has the name of one before it
abbrev pub HasDeskNameTwice : List Desk → ℕ → EntryFault → Type 0
HasDeskNameTwice desks entry wrong = IsDuplicateAt (codes "name") wrong × FailsFirst HaveDistinctNames desks entry

-- the tables of the document stand for desks, with which this is wrong
pub record HasSetFault (ms : Members) (entry : ℕ) (wrong : EntryFault) : Type 0 where
  pub desks : List Desk
  pub tables : HasTables IsDeskTable (codes "desk") ms desks
  pub fault : First (HasWrongDeskCount desks entry wrong) (HasRightDeskCount desks) (HasDeskNameTwice desks entry wrong)

-- the document has another key than `desk`, which is reported at number 0
pub record HasUnknownTable (ms : Members) (entry : ℕ) (wrong : EntryFault) : Type 0 where
  pub unknown : has_only_key (codes "desk") ms ≡ false
  pub first : entry ≡ 0
  pub told : wrong ≡ UnknownKey

-- this is the first fault of the table of a document, at the desk of this number
abbrev pub IsDesksFault : Members → ℕ → EntryFault → Type 0
IsDesksFault ms entry wrong =
    First (HasUnknownTable ms entry wrong) (has_only_key (codes "desk") ms ≡ true)
    (IsArrayFault IsRightDesk IsDeskFault (items_at (codes "desk") ms) entry wrong ⊎ HasSetFault ms entry wrong)

-- the bytes are too many, which is reported at number 0
pub record IsDesksDocumentTooLong (bytes : List ℕ) (entry : ℕ) (wrong : EntryFault) : Type 0 where
  pub long : MAX_DOCUMENT_LEN < length bytes
  pub first : entry ≡ 0
  pub told : wrong ≡ OutOfLimit None

-- the bytes are a TOML document, in which this is wrong
pub record IsWrongInDesks (bytes : List ℕ) (entry : ℕ) (wrong : EntryFault) : Type 0 where
  pub document : Members
  pub parsed : parse_document bytes ≡ Some document
  pub wrong_at : IsDesksFault document entry wrong

-- this is wrong with the bytes, at the desk of this number
abbrev pub DesksFaultStands : List ℕ → ℕ → EntryFault → Type 0
DesksFaultStands bytes entry wrong = IsDesksDocumentTooLong bytes entry wrong ⊎ IsWrongInDesks bytes entry wrong
