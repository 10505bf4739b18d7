-- trusted: the meaning of the tables of a recipe document.
use Rattle.std.specs.Prelude.{◌≡◌, ◌≤◌, ℕ, true, List, [], Some, None, codes, option_map, string_bytes}
use Rattle.std.specs.Global.{Vec}
use Rattle.toml.specs.Data.{Members}
use Rattle.batch_recipe.specs.Conditions.{Name}
use Rattle.batch_recipe.specs.Diagram.{diagram_of}
use Rattle.batch_recipe.specs.WellFormed.{follows_no_par}
use Rattle.batch_recipe.specs.declared.act.Act.{Act}
use Rattle.batch_recipe.specs.declared.act.TheConstants.{MAX_NEEDS, MAX_REPORTS, MAX_RESERVES, MAX_VALUES}
use Rattle.batch_recipe.specs.declared.act.UnitChoice.{UnitChoice}
use Rattle.batch_recipe.specs.declared.act.UnitChoice.TheVariants.{Unit, Role}
use Rattle.batch_recipe.specs.declared.act.Work.TheVariants.{Follows, Runs}
use Rattle.batch_recipe.specs.declared.chart.Chart.{Chart}
use Rattle.batch_recipe.specs.declared.header.Header.{Header}
use Rattle.batch_recipe.specs.declared.header.TheConstants.{MAX_VERSION_LEN, MAX_TEXT_LEN}
use Rattle.batch_recipe.specs.declared.quantity.Quantity.{Quantity}
use Rattle.batch_recipe.specs.declared.role.Role.{Role as RecipeRole}
use Rattle.batch_recipe.specs.declared.scaling.TheConstants.{MAX_VALUE}
use Rattle.batch_reader.specs.Entries.{HasName, HasLabel, HasNameOr, HasNumber, HasText, MayHaveText, HasChart, HasFewNames, HasFewNeeds, IsTruth}
use Rattle.batch_reader.specs.Keys.{has_known_keys}
use Rattle.batch_reader.specs.declared.fault.TableKind.{TableKind}
use Rattle.batch_reader.specs.declared.fault.TableKind.TheVariants.{Input, Output, Procedure, UnitProcedure, Operation, Phase}
use Rattle.batch_reader.specs.declared.fault.TableKind.TheVariants as table_kind

-- the top of the document has the header
pub record HasHeader (ms : Members) (header : Header) : Type 0 where
  pub version : HasText (codes "version") ms MAX_VERSION_LEN (string_bytes header.version)
  pub product : MayHaveText (codes "product") ms MAX_TEXT_LEN (option_map string_bytes header.product)
  pub author : MayHaveText (codes "author") ms MAX_TEXT_LEN (option_map string_bytes header.author)
  pub info : MayHaveText (codes "info") ms MAX_TEXT_LEN (option_map string_bytes header.info)

-- the table of an input or a parameter stands for it
pub record IsQuantityTable (ms : Members) (q : Quantity) : Type 0 where
  pub keys : has_known_keys Input ms ≡ true
  pub name : HasLabel (codes "name") ms q.name
  pub value : HasNumber (codes "value") ms 0 MAX_VALUE q.value
  pub least : HasNumber (codes "min") ms 0 MAX_VALUE q.min
  pub greatest : HasNumber (codes "max") ms 0 MAX_VALUE q.max
  pub ordered : q.min ≤ q.max
  pub fixed : IsTruth (codes "fixed") ms q.fixed

-- the table of an output has its name
pub record IsOutputTable (ms : Members) (output : Name) : Type 0 where
  pub keys : has_known_keys Output ms ≡ true
  pub name : HasLabel (codes "name") ms output

-- the table stands for the role
pub record IsRoleTable (ms : Members) (role : RecipeRole) : Type 0 where
  pub keys : has_known_keys table_kind.Role ms ≡ true
  pub name : HasName (codes "name") ms role.name
  pub class : HasName (codes "class") ms role.class

-- the table has the act's needs
abbrev pub HasNeeds : Members → Act → Type 0
HasNeeds ms a = HasFewNeeds (codes "needs") ms MAX_NEEDS a.needs.items

-- the table has the chart that the act follows
pub record HasCourse (ms : Members) (a : Act) : Type 0 where
  pub chart : Chart
  pub follows : a.work ≡ Follows chart
  pub text : HasChart (codes "chart") ms (diagram_of chart)

-- the table's key `reserves` has the names of the unit procedures that the act reserves
abbrev pub HasReserves : Members → Act → Type 0
HasReserves ms a = HasFewNames (codes "reserves") ms MAX_RESERVES a.reserves.items

-- the table of the procedure stands for it
pub record IsProcedureTable (ms : Members) (a : Act) : Type 0 where
  pub keys : has_known_keys Procedure ms ≡ true
  pub no_unit : a.unit ≡ None
  pub no_reserves : a.reserves.items ≡ []
  pub needs : HasNeeds ms a
  pub course : HasCourse ms a

-- the key at which a unit, or a role in its place, stands
abbrev pub choice_key : UnitChoice → List ℕ
choice_key (Unit unit) = codes "unit"
choice_key (Role role) = codes "role"

abbrev pub choice_name : UnitChoice → Name
choice_name (Unit unit) = unit
choice_name (Role role) = role

-- the table has the unit or the role of the unit procedure that it stands for, and not both; its chart has no `par`
pub record IsUnitProcedureTable (ms : Members) (a : Act) : Type 0 where
  pub choice : UnitChoice
  pub runs_on : a.unit ≡ Some choice
  pub keys : has_known_keys UnitProcedure ms ≡ true
  pub chosen : HasName (choice_key choice) ms (choice_name choice)
  pub name : HasLabel (codes "name") ms a.name
  pub needs : HasNeeds ms a
  pub course : HasCourse ms a
  pub no_par : follows_no_par a ≡ true
  pub reserves : HasReserves ms a

-- the table stands for the operation
pub record IsOperationTable (ms : Members) (a : Act) : Type 0 where
  pub keys : has_known_keys Operation ms ≡ true
  pub name : HasLabel (codes "name") ms a.name
  pub no_unit : a.unit ≡ None
  pub needs : HasNeeds ms a
  pub course : HasCourse ms a
  pub reserves : HasReserves ms a

-- the table stands for the phase step
pub record IsPhaseTable (ms : Members) (a : Act) : Type 0 where
  pub keys : has_known_keys Phase ms ≡ true
  pub name : HasLabel (codes "name") ms a.name
  pub no_unit : a.unit ≡ None
  pub needs : HasNeeds ms a
  pub phase : Name
  pub handed : Vec Name
  pub reported : Vec Name
  pub work : a.work ≡ Runs phase handed reported
  pub runs : HasNameOr (codes "runs") ms a.name phase
  pub values : HasFewNames (codes "values") ms MAX_VALUES handed.items
  pub reports : HasFewNames (codes "reports") ms MAX_REPORTS reported.items
  pub reserves : HasReserves ms a

-- a table of this kind, one of those in which labels are looked up, stands for the act
abbrev pub IsActTable : TableKind → Members → Act → Type 0
IsActTable UnitProcedure = IsUnitProcedureTable
IsActTable Operation = IsOperationTable
IsActTable Phase = IsPhaseTable
IsActTable _ = λ ms a. ⊥
