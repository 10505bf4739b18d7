-- trusted: the meaning of a cell document.
use Rattle.std.specs.Prelude.{◌≡◌, ℕ, ◌<◌, ◌≤◌, ◌⊎◌, true, List, [], Some, None, length, codes}
use Rattle.toml.specs.Data.{Members, get_member}
use Rattle.batch_cell.specs.Equipment.{IsDeclaredOnce, HasDeclaredUnits, OffersPhasesOnce}
use Rattle.batch_cell.specs.declared.cell.Cell.{Cell}
use Rattle.batch_cell.specs.declared.cell.TheConstants.{MAX_UNITS, MAX_MODULES, MAX_SHARED}
use Rattle.batch_cell.specs.declared.module.Module.{Module}
use Rattle.batch_cell.specs.declared.module.TheConstants.{MAX_PHASES}
use Rattle.batch_cell.specs.declared.shared.Shared.{Shared}
use Rattle.batch_cell.specs.declared.shared.TheConstants.{MAX_CAPACITY}
use Rattle.batch_cell.specs.declared.unit.Unit.{Unit}
use Rattle.batch_reader.specs.Entries.{IsDocument, HasName, HasNames, HasNumber, HasTables, MayHaveName}
use Rattle.batch_reader.specs.Keys.{has_known_keys}
use Rattle.batch_reader.specs.declared.fault.TableKind.TheVariants as table_kind

-- the table stands for the unit
pub record IsUnitTable (ms : Members) (unit : Unit) : Type 0 where
  pub keys : has_known_keys table_kind.Unit ms ≡ true
  pub name : HasName (codes "name") ms unit.name
  pub class : MayHaveName (codes "class") ms unit.class

-- the table has no unit, and stands for the free module
pub record IsFreeModuleTable (ms : Members) (m : Module) : Type 0 where
  pub keys : has_known_keys table_kind.Module ms ≡ true
  pub no_unit : get_member (codes "unit") ms ≡ None
  pub name : HasName (codes "name") ms m.name
  pub is_free : m.unit ≡ None
  pub no_phase : m.phases.items ≡ []

-- the table has a unit and phases, and stands for the module of that unit
pub record IsUnitModuleTable (ms : Members) (m : Module) : Type 0 where
  pub keys : has_known_keys table_kind.Module ms ≡ true
  pub name : HasName (codes "name") ms m.name
  pub unit : List ℕ
  pub has_unit : HasName (codes "unit") ms unit
  pub belongs : m.unit ≡ Some unit
  pub phases : HasNames (codes "phases") ms m.phases.items
  pub some_phase : 0 < length m.phases.items
  pub few_phases : length m.phases.items ≤ MAX_PHASES

-- the table stands for the module
abbrev pub IsModuleTable : Members → Module → Type 0
IsModuleTable ms m = IsFreeModuleTable ms m ⊎ IsUnitModuleTable ms m

-- the table stands for the shared resource
pub record IsSharedTable (ms : Members) (shared : Shared) : Type 0 where
  pub keys : has_known_keys table_kind.Shared ms ≡ true
  pub name : HasName (codes "name") ms shared.name
  pub capacity : HasNumber (codes "capacity") ms 1 MAX_CAPACITY shared.capacity

-- the counts and the names of a cell's equipment are as they must be
pub record IsSoundEquipment (units : List Unit) (modules : List Module) (shared : List Shared) : Type 0 where
  pub some_unit : 0 < length units
  pub few_units : length units ≤ MAX_UNITS
  pub few_modules : length modules ≤ MAX_MODULES
  pub few_shared : length shared ≤ MAX_SHARED
  pub declared_once : IsDeclaredOnce units modules shared
  pub declared_units : HasDeclaredUnits units modules
  pub phases_once : OffersPhasesOnce units modules

-- the table of a whole document stands for the cell
pub record IsCellTable (ms : Members) (cell : Cell) : Type 0 where
  pub keys : has_known_keys table_kind.Cell ms ≡ true
  pub name : HasName (codes "cell") ms cell.name
  pub units : HasTables IsUnitTable (codes "unit") ms cell.units.items
  pub modules : HasTables IsModuleTable (codes "module") ms cell.modules.items
  pub shared : HasTables IsSharedTable (codes "shared") ms cell.shared.items
  pub sound : IsSoundEquipment cell.units.items cell.modules.items cell.shared.items

-- the bytes are a document that stands for the cell
abbrev pub IsCellDocument : List ℕ → Cell → Type 0
IsCellDocument bytes cell = IsDocument IsCellTable bytes cell
