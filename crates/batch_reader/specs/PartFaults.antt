-- trusted: faults among tables that are right by themselves: their count, their names, and the names to which they refer.
use Rattle.std.specs.Prelude.{◌≡◌, ◌≢◌, ℕ, ◌+◌, ◌<◌, ◌⊎◌, true, nat_eq, List, [], map, take, length, Some, None, codes}
use Rattle.std.specs.Cmp.Lexicographic.{pointwise}
use Rattle.std.specs.List.{IsDistinct, list_all, slice_get}
use Rattle.toml.specs.Data.{Members}
use Rattle.batch_cell.specs.Equipment.{IsDeclaredOnce, HasDeclaredUnits, unit_phases}
use Rattle.batch_cell.specs.declared.cell.TheConstants.{MAX_UNITS, MAX_MODULES, MAX_SHARED}
use Rattle.batch_cell.specs.declared.module.Module.{Module}
use Rattle.batch_cell.specs.declared.shared.Shared.{Shared}
use Rattle.batch_cell.specs.declared.unit.Unit.{Unit}
use Rattle.batch_recipe.specs.Conditions.{Name}
use Rattle.batch_recipe.specs.Procedure.{procedure_nodes}
use Rattle.batch_recipe.specs.WellFormed.{act_names, value_names, is_role_among, is_work, reports_among, reports_once, reserves_among, reserves_once}
use Rattle.batch_recipe.specs.declared.act.Act.{Act}
use Rattle.batch_recipe.specs.declared.acts.Acts.{Acts}
use Rattle.batch_recipe.specs.declared.quantity.Quantity.{Quantity}
use Rattle.batch_recipe.specs.declared.recipe.TheConstants.{MAX_ENTRIES, MAX_ACTS, MAX_NODES}
use Rattle.batch_recipe.specs.declared.role.Role.{Role}
use Rattle.batch_recipe.specs.declared.role.TheConstants.{MAX_ROLES}
use Rattle.batch_reader.specs.CellDocument.{IsUnitTable, IsModuleTable, IsSharedTable}
use Rattle.batch_reader.specs.Entries.{HasTables}
use Rattle.batch_reader.specs.RecipeDocument.{HasActs}
use Rattle.batch_reader.specs.RecipeTables.{IsQuantityTable, IsOutputTable, IsRoleTable}
use Rattle.batch_reader.specs.declared.fault.EntryFault.{EntryFault}
use Rattle.batch_reader.specs.declared.fault.EntryFault.TheVariants.{Undeclared, Duplicate, OutOfLimit}
use Rattle.batch_reader.specs.declared.fault.TableKind.{TableKind}
use Rattle.batch_reader.specs.declared.fault.TableKind.TheVariants as table_kind

-- the fact fails with this table, and not with those before it alone
pub record FailsFirst {X : Type 0} (Holds : List X → Type 0) (tables : List X) (entry : ℕ) : Type 0 where
  pub before : Holds (take entry tables)
  pub fails : ¬ Holds (take (entry + 1) tables)

-- the fault is of a name at this key that no table declares
abbrev pub IsUndeclaredAt : List ℕ → EntryFault → Type 0
IsUndeclaredAt word (Undeclared key) = key.now ≡ word
IsUndeclaredAt word _ = ⊥

-- the fault is of a name at this key that stands twice
abbrev pub IsDuplicateAt : List ℕ → EntryFault → Type 0
IsDuplicateAt word (Duplicate key) = key.now ≡ word
IsDuplicateAt word _ = ⊥

-- there are too few tables, which is reported at entry 0, or too many, which is reported at the first one too many
abbrev pub IsCountFault : ℕ → ℕ → ℕ → ℕ → Type 0
IsCountFault least most count entry = ((count < least) × (entry ≡ 0)) ⊎ ((most < count) × (entry ≡ most))

abbrev pub AreDistinct : List Name → Type 0
AreDistinct names = IsDistinct (pointwise nat_eq) names

-- ---- cells

pub record Equipment : Type 0 where
  pub units : List Unit
  pub modules : List Module
  pub shared : List Shared

abbrev pub HasWrongCount : Equipment → TableKind → ℕ → Type 0
HasWrongCount e table_kind.Unit entry = IsCountFault 1 MAX_UNITS (length e.units) entry
HasWrongCount e table_kind.Module entry = IsCountFault 0 MAX_MODULES (length e.modules) entry
HasWrongCount e table_kind.Shared entry = IsCountFault 0 MAX_SHARED (length e.shared) entry
HasWrongCount e _ entry = ⊥

-- the table's name is one that a table before it has, where units stand before modules, and these before shared resources
abbrev pub HasNameTwice : Equipment → TableKind → ℕ → Type 0
HasNameTwice e table_kind.Unit entry = FailsFirst (λ front. IsDeclaredOnce front [] []) e.units entry
HasNameTwice e table_kind.Module entry = FailsFirst (λ front. IsDeclaredOnce e.units front []) e.modules entry
HasNameTwice e table_kind.Shared entry = FailsFirst (λ front. IsDeclaredOnce e.units e.modules front) e.shared entry
HasNameTwice e _ entry = ⊥

-- the module has a phase that its unit, which is one of the cell's, offers by it or a module before it already
pub record OffersTwice (units : List Unit) (modules : List Module) (entry : ℕ) : Type 0 where
  pub place : ℕ
  pub unit : Unit
  pub declared : slice_get units place ≡ Some unit
  pub first : FailsFirst (λ front. AreDistinct (unit_phases front unit.name)) modules entry

abbrev pub HasPhaseTwice : Equipment → TableKind → ℕ → Type 0
HasPhaseTwice e table_kind.Module entry = OffersTwice e.units e.modules entry
HasPhaseTwice e _ entry = ⊥

-- the module is the first whose unit is none of the cell's
abbrev pub HasUndeclaredUnit : Equipment → TableKind → ℕ → Type 0
HasUndeclaredUnit e table_kind.Module entry = FailsFirst (HasDeclaredUnits e.units) e.modules entry
HasUndeclaredUnit e _ entry = ⊥

-- this is wrong with the equipment at the table that has this number among those of its kind
abbrev pub IsEquipmentFault : Equipment → TableKind → ℕ → EntryFault → Type 0
IsEquipmentFault e kind entry wrong =
    ((wrong ≡ OutOfLimit None) × HasWrongCount e kind entry)
    ⊎ ((IsDuplicateAt (codes "name") wrong × HasNameTwice e kind entry)
    ⊎ ((IsUndeclaredAt (codes "unit") wrong × HasUndeclaredUnit e kind entry)
    ⊎ (IsDuplicateAt (codes "phases") wrong × HasPhaseTwice e kind entry)))

-- the tables of the document stand for equipment, with which this is wrong
pub record HasEquipmentFault (document : Members) (kind : TableKind) (entry : ℕ) (wrong : EntryFault) : Type 0 where
  pub equipment : Equipment
  pub units : HasTables IsUnitTable (codes "unit") document equipment.units
  pub modules : HasTables IsModuleTable (codes "module") document equipment.modules
  pub shared : HasTables IsSharedTable (codes "shared") document equipment.shared
  pub fault : IsEquipmentFault equipment kind entry wrong

-- ---- recipes

pub record Parts : Type 0 where
  pub inputs : List Quantity
  pub parameters : List Quantity
  pub outputs : List Name
  pub roles : List Role
  pub acts : Acts

abbrev pub HasWrongCountOfParts : Parts → TableKind → ℕ → Type 0
HasWrongCountOfParts p table_kind.Input entry = IsCountFault 0 MAX_ENTRIES (length p.inputs) entry
HasWrongCountOfParts p table_kind.Parameter entry = IsCountFault 0 MAX_ENTRIES (length p.parameters) entry
HasWrongCountOfParts p table_kind.Output entry = IsCountFault 0 MAX_ENTRIES (length p.outputs) entry
HasWrongCountOfParts p table_kind.Role entry = IsCountFault 0 MAX_ROLES (length p.roles) entry
HasWrongCountOfParts p table_kind.UnitProcedure entry = IsCountFault 1 MAX_ACTS (length p.acts.unit_procedures.items) entry
HasWrongCountOfParts p table_kind.Operation entry = IsCountFault 1 MAX_ACTS (length p.acts.operations.items) entry
HasWrongCountOfParts p table_kind.Phase entry = IsCountFault 1 MAX_ACTS (length p.acts.phases.items) entry
HasWrongCountOfParts p _ entry = ⊥

-- the expanded tree has too many nodes
abbrev pub IsTooLarge : Parts → TableKind → ℕ → Type 0
IsTooLarge p table_kind.Procedure entry = (entry ≡ 0) × (MAX_NODES < length (procedure_nodes p.acts))
IsTooLarge p _ entry = ⊥

-- the input, parameter or output is the first that has the name of one before it, in this order
abbrev pub HasValueTwice : List Quantity → List Quantity → List Name → TableKind → ℕ → Type 0
HasValueTwice inputs parameters outputs table_kind.Input entry = FailsFirst (λ front. AreDistinct (value_names front [] [])) inputs entry
HasValueTwice inputs parameters outputs table_kind.Parameter entry = FailsFirst (λ front. AreDistinct (value_names inputs front [])) parameters entry
HasValueTwice inputs parameters outputs table_kind.Output entry = FailsFirst (λ front. AreDistinct (value_names inputs parameters front)) outputs entry
HasValueTwice inputs parameters outputs _ entry = ⊥

-- the act is the first that has the name of one before it
abbrev pub IsFirstNamedAgain : List Act → ℕ → Type 0
IsFirstNamedAgain acts entry = FailsFirst (λ front. AreDistinct (act_names front)) acts entry

abbrev pub HasActTwice : Acts → TableKind → ℕ → Type 0
HasActTwice acts table_kind.UnitProcedure entry = IsFirstNamedAgain acts.unit_procedures.items entry
HasActTwice acts table_kind.Operation entry = IsFirstNamedAgain acts.operations.items entry
HasActTwice acts table_kind.Phase entry = IsFirstNamedAgain acts.phases.items entry
HasActTwice acts _ entry = ⊥

-- the act is the first of the table that names another label or value than these
abbrev pub IsFirstUndeclared : List Name → List Name → List Act → ℕ → Type 0
IsFirstUndeclared labels values acts entry = FailsFirst (λ front. list_all (is_work labels values) front ≡ true) acts entry

-- the key at which an act of this kind names labels or values
abbrev pub naming_key : TableKind → List ℕ
naming_key table_kind.Phase = codes "values"
naming_key _ = codes "chart"

-- the chart, or the phase step's list of values, has an undeclared name: labels are names of the acts below
abbrev pub HasUndeclaredName : List Name → Acts → TableKind → ℕ → Type 0
HasUndeclaredName values acts table_kind.Procedure entry = (entry ≡ 0) × (is_work (act_names acts.unit_procedures.items) values acts.procedure ≢ true)
HasUndeclaredName values acts table_kind.UnitProcedure entry = IsFirstUndeclared (act_names acts.operations.items) values acts.unit_procedures.items entry
HasUndeclaredName values acts table_kind.Operation entry = IsFirstUndeclared (act_names acts.phases.items) values acts.operations.items entry
HasUndeclaredName values acts table_kind.Phase entry = IsFirstUndeclared [] values acts.phases.items entry
HasUndeclaredName values acts _ entry = ⊥

-- this is wrong with the names of values and acts, or with an act's references to them
abbrev pub IsNamingFault : List Quantity → List Quantity → List Name → Acts → TableKind → ℕ → EntryFault → Type 0
IsNamingFault inputs parameters outputs acts kind entry wrong =
    (IsDuplicateAt (codes "name") wrong × (HasValueTwice inputs parameters outputs kind entry ⊎ HasActTwice acts kind entry))
    ⊎ (IsUndeclaredAt (naming_key kind) wrong × HasUndeclaredName (value_names inputs parameters outputs) acts kind entry)

abbrev pub role_names : List Role → List Name
role_names roles = map (λ role. role.name) roles

-- the role is the first that has the name of one before it
abbrev pub HasRoleTwice : List Role → TableKind → ℕ → Type 0
HasRoleTwice roles table_kind.Role entry = FailsFirst (λ front. AreDistinct (role_names front)) roles entry
HasRoleTwice roles _ entry = ⊥

-- the unit procedure is the first whose role is none of these
abbrev pub HasUndeclaredRole : List Role → Acts → TableKind → ℕ → Type 0
HasUndeclaredRole roles acts table_kind.UnitProcedure entry = FailsFirst (λ front. list_all (is_role_among (role_names roles)) front ≡ true) acts.unit_procedures.items entry
HasUndeclaredRole roles acts _ entry = ⊥

-- this is wrong with the names of the roles, or with a unit procedure's reference to them
abbrev pub IsRoleFault : List Role → Acts → TableKind → ℕ → EntryFault → Type 0
IsRoleFault roles acts kind entry wrong =
    (IsDuplicateAt (codes "name") wrong × HasRoleTwice roles kind entry) ⊎ (IsUndeclaredAt (codes "role") wrong × HasUndeclaredRole roles acts kind entry)

-- the phase step is the first that reports an output twice
abbrev pub HasReportTwice : Acts → TableKind → ℕ → Type 0
HasReportTwice acts table_kind.Phase entry = FailsFirst (λ front. list_all reports_once front ≡ true) acts.phases.items entry
HasReportTwice acts _ entry = ⊥

-- the phase step is the first that reports another output than these
abbrev pub HasUndeclaredReport : List Name → Acts → TableKind → ℕ → Type 0
HasUndeclaredReport outputs acts table_kind.Phase entry = FailsFirst (λ front. list_all (reports_among outputs) front ≡ true) acts.phases.items entry
HasUndeclaredReport outputs acts _ entry = ⊥

-- this is wrong among the outputs that phase steps report
abbrev pub IsReportFault : List Name → Acts → TableKind → ℕ → EntryFault → Type 0
IsReportFault outputs acts kind entry wrong =
    (IsDuplicateAt (codes "reports") wrong × HasReportTwice acts kind entry) ⊎ (IsUndeclaredAt (codes "reports") wrong × HasUndeclaredReport outputs acts kind entry)

-- this one is the first of the acts of a table that reserves a unit procedure twice, or another than these
abbrev pub IsReserveFaultOf : List Name → List Act → ℕ → EntryFault → Type 0
IsReserveFaultOf names acts entry wrong =
    (IsDuplicateAt (codes "reserves") wrong × FailsFirst (λ front. list_all reserves_once front ≡ true) acts entry)
    ⊎ (IsUndeclaredAt (codes "reserves") wrong × FailsFirst (λ front. list_all (reserves_among names) front ≡ true) acts entry)

-- the acts of each table reserve unit procedures
abbrev pub HasReserveFault : Acts → TableKind → ℕ → EntryFault → Type 0
HasReserveFault acts table_kind.UnitProcedure entry wrong = IsReserveFaultOf (act_names acts.unit_procedures.items) acts.unit_procedures.items entry wrong
HasReserveFault acts table_kind.Operation entry wrong = IsReserveFaultOf (act_names acts.unit_procedures.items) acts.operations.items entry wrong
HasReserveFault acts table_kind.Phase entry wrong = IsReserveFaultOf (act_names acts.unit_procedures.items) acts.phases.items entry wrong
HasReserveFault acts _ entry wrong = ⊥

-- this is wrong with the parts of a recipe at the table that has this number among those of its kind
abbrev pub IsPartFault : Parts → TableKind → ℕ → EntryFault → Type 0
IsPartFault p kind entry wrong =
    ((wrong ≡ OutOfLimit None) × (HasWrongCountOfParts p kind entry ⊎ IsTooLarge p kind entry))
    ⊎ (IsNamingFault p.inputs p.parameters p.outputs p.acts kind entry wrong
    ⊎ (IsRoleFault p.roles p.acts kind entry wrong
    ⊎ (IsReportFault p.outputs p.acts kind entry wrong
    ⊎ HasReserveFault p.acts kind entry wrong)))

-- the tables of the document stand for parts of a recipe, with which this is wrong
pub record HasPartFault (document : Members) (kind : TableKind) (entry : ℕ) (wrong : EntryFault) : Type 0 where
  pub parts : Parts
  pub inputs : HasTables IsQuantityTable (codes "input") document parts.inputs
  pub parameters : HasTables IsQuantityTable (codes "parameter") document parts.parameters
  pub outputs : HasTables IsOutputTable (codes "output") document parts.outputs
  pub roles : HasTables IsRoleTable (codes "role") document parts.roles
  pub acts : HasActs document parts.acts
  pub fault : IsPartFault parts kind entry wrong
