-- trusted: the tables of an array that are right by themselves.
use Rattle.toml.specs.Data.{Data}
use Rattle.batch_cell.specs.declared.module.Module.{Module}
use Rattle.batch_cell.specs.declared.shared.Shared.{Shared}
use Rattle.batch_cell.specs.declared.unit.Unit.{Unit}
use Rattle.batch_recipe.specs.Conditions.{Name}
use Rattle.batch_recipe.specs.declared.act.Act.{Act}
use Rattle.batch_recipe.specs.declared.quantity.Quantity.{Quantity}
use Rattle.batch_recipe.specs.declared.role.Role.{Role}
use Rattle.batch_reader.specs.CellDocument.{IsUnitTable, IsModuleTable, IsSharedTable}
use Rattle.batch_reader.specs.Entries.{IsTableOf}
use Rattle.batch_reader.specs.RecipeTables.{IsQuantityTable, IsOutputTable, IsRoleTable, IsUnitProcedureTable, IsOperationTable, IsPhaseTable}
use Rattle.batch_reader.specs.declared.fault.TableKind.{TableKind}
use Rattle.batch_reader.specs.declared.fault.TableKind.TheVariants as table_kind

-- the value is a table of this kind that stands for something
abbrev pub IsRightTable : TableKind → Data → Type 0
IsRightTable table_kind.Unit d = (unit : Unit) × IsTableOf IsUnitTable d unit
IsRightTable table_kind.Module d = (m : Module) × IsTableOf IsModuleTable d m
IsRightTable table_kind.Shared d = (shared : Shared) × IsTableOf IsSharedTable d shared
IsRightTable table_kind.Input d = (q : Quantity) × IsTableOf IsQuantityTable d q
IsRightTable table_kind.Parameter d = (q : Quantity) × IsTableOf IsQuantityTable d q
IsRightTable table_kind.Output d = (output : Name) × IsTableOf IsOutputTable d output
IsRightTable table_kind.Role d = (role : Role) × IsTableOf IsRoleTable d role
IsRightTable table_kind.UnitProcedure d = (a : Act) × IsTableOf IsUnitProcedureTable d a
IsRightTable table_kind.Operation d = (a : Act) × IsTableOf IsOperationTable d a
IsRightTable table_kind.Phase d = (a : Act) × IsTableOf IsPhaseTable d a
IsRightTable _ d = ⊥
