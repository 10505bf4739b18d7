-- trusted: a document has the fault that its refusal names.
use Rattle.std.specs.Prelude.{◌≡◌, ℕ, ◌<◌, ◌⊎◌, List, Some, None, length}
use Rattle.toml.specs.Data.{Members}
use Rattle.toml.specs.Parse.{parse_document}
use Rattle.batch_reader.specs.PartFaults.{HasEquipmentFault, HasPartFault}
use Rattle.batch_reader.specs.TableFaults.{IsFaultOfTable}
use Rattle.batch_reader.specs.declared.document.TheConstants.{MAX_DOCUMENT_LEN}
use Rattle.batch_reader.specs.declared.fault.EntryFault.{EntryFault}
use Rattle.batch_reader.specs.declared.fault.EntryFault.TheVariants.{OutOfLimit}
use Rattle.batch_reader.specs.declared.fault.Spot.{Spot}
use Rattle.batch_reader.specs.declared.fault.TableKind.TheVariants.{Cell, Recipe}

-- in the document this is wrong at the table: with that table by itself, or among those of a cell, or of a recipe
abbrev pub IsWrongAt : Members → Spot → EntryFault → Type 0
IsWrongAt document spot wrong =
    IsFaultOfTable document spot.kind spot.entry wrong
    ⊎ (HasEquipmentFault document spot.kind spot.entry wrong ⊎ HasPartFault document spot.kind spot.entry wrong)

-- the bytes are too many, which is reported at the top
pub record IsTooLong (bytes : List ℕ) (spot : Spot) (wrong : EntryFault) : Type 0 where
  pub long : MAX_DOCUMENT_LEN < length bytes
  pub top : (spot.kind ≡ Cell) ⊎ (spot.kind ≡ Recipe)
  pub first : spot.entry ≡ 0
  pub told : wrong ≡ OutOfLimit None

-- the bytes are a TOML document, in which this is wrong
pub record IsWrongIn (bytes : List ℕ) (spot : Spot) (wrong : EntryFault) : Type 0 where
  pub document : Members
  pub parsed : parse_document bytes ≡ Some document
  pub wrong_at : IsWrongAt document spot wrong

-- this is wrong with the bytes, at the table that the spot names
abbrev pub FaultStands : List ℕ → Spot → EntryFault → Type 0
FaultStands bytes spot wrong = IsTooLong bytes spot wrong ⊎ IsWrongIn bytes spot wrong
