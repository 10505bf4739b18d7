-- trusted: the words for the tables of documents, as refusals print them.
use Rattle.std.specs.Prelude.{ℕ, List, ◌++◌, codes}
use Rattle.std.specs.Fmt.{decimal}
use Rattle.batch_reader.specs.declared.fault.Spot.{Spot}
use Rattle.batch_reader.specs.declared.fault.TableKind.{TableKind}
use Rattle.batch_reader.specs.declared.fault.TableKind.TheVariants.{Cell, Unit, Module, Shared, Recipe, Input, Parameter, Output, Role, Procedure, UnitProcedure, Operation, Phase, Desk}

abbrev pub table_word : TableKind → List ℕ
table_word Cell = codes "cell"
table_word Unit = codes "unit"
table_word Module = codes "module"
table_word Shared = codes "shared"
table_word Recipe = codes "recipe"
table_word Input = codes "input"
table_word Parameter = codes "parameter"
table_word Output = codes "output"
table_word Role = codes "role"
table_word Procedure = codes "procedure"
table_word UnitProcedure = codes "unit_procedure"
table_word Operation = codes "operation"
table_word Phase = codes "phase"
table_word Desk = codes "desk"

-- the table's word and its number
abbrev pub spot_text : Spot → List ℕ
spot_text spot = table_word spot.kind ++ codes " " ++ decimal spot.entry
