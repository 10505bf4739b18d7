-- private: the rules on `par`s, loops and reserved unit procedures that nodes of a recipe break, whatever units take the roles.
use Rattle.std.specs.Prelude.{◌≡◌, ℕ, List, length, slice_get, Option, Some, None, ⊤}
use Rattle.batch_recipe.specs.Expanding.{Binding}
use Rattle.batch_recipe.specs.Nodes.{Node}
use Rattle.batch_recipe.specs.Procedure.{bound_nodes, bound_tree, procedure_nodes}
use Rattle.batch_recipe.specs.Tree.{Tree}
use Rattle.batch_recipe.specs.declared.act.Act.{Act}
use Rattle.batch_recipe.specs.declared.acts.Acts.{Acts}
use Rattle.batch_model.specs.Cleared.{Level, is_procedure, in_procedure, in_unit_procedure, in_operation, Part, IsApart, TurnsRun, ReservesFollow}
use Rattle.batch_verify.specs.Ways.{bound_parts}
use Rattle.batch_verify.specs.declared.depth.Depth.{Depth}
use Rattle.batch_verify.specs.declared.depth.Depth.TheVariants.{Procedure, InProcedure, InUnitProcedure, InOperation}
use Rattle.batch_verify.specs.declared.rule.Rule.{Rule}
use Rattle.batch_verify.specs.declared.rule.Rule.TheVariants.{SamePhaseInParallel, LoopWithoutPhase, ReserveDoesNotFollow}

abbrev pub depth_is : Depth → Level
depth_is Procedure = is_procedure
depth_is InProcedure = in_procedure
depth_is InUnitProcedure = in_unit_procedure
depth_is InOperation = in_operation

-- the rule that a node breaks as a `par` or a loop, or none
abbrev pub IsChartFault : Part → Option Rule → Type 0
IsChartFault x None = IsApart x.level x.node.here × TurnsRun x.node.here
IsChartFault x (Some SamePhaseInParallel) = ¬ (IsApart x.level x.node.here)
IsChartFault x (Some LoopWithoutPhase) = IsApart x.level x.node.here × ¬ (TurnsRun x.node.here)
IsChartFault x (Some _) = ⊥

-- without a fault the reserved unit procedures follow, by `ReserveDoesNotFollow` they don't, and another fault says nothing of them
abbrev pub IsReserveFault : Tree → Node → Option Rule → Type 0
IsReserveFault procedure at None = ReservesFollow procedure at
IsReserveFault procedure at (Some ReserveDoesNotFollow) = ¬ (ReservesFollow procedure at)
IsReserveFault procedure at (Some rule) = ⊤

-- the rule, if it is one on `par`s and loops
abbrev pub of_chart : Option Rule → Option Rule
of_chart None = None
of_chart (Some ReserveDoesNotFollow) = None
of_chart (Some rule) = Some rule

-- the rule that a node of the procedure breaks whatever units take the roles, or none
abbrev pub IsFaultOf : Tree → Part → Option Rule → Type 0
IsFaultOf procedure x fault = IsChartFault x (of_chart fault) × IsReserveFault procedure x.node fault

-- `IsReserveFault` holds of the node with this number, in all bindings
abbrev pub ReservesAs : Acts → ℕ → Option Rule → Type 0
ReservesAs acts node fault = (bound : Binding) (at : Node) → slice_get (bound_nodes bound acts) node ≡ Some at → IsReserveFault (bound_tree bound acts) at fault

-- how many unit procedures an act reserves
abbrev pub reserve_count : Option Act → ℕ
reserve_count None = 0
reserve_count (Some a) = length a.reserves.items

-- the faults of the nodes of a recipe, by number
pub record AreFaults (acts : Acts) (faults : List (Option Rule)) : Type 0 where
  pub as_many : length faults ≡ length (procedure_nodes acts)
  pub each : (bound : Binding) (k : ℕ) (x : Part) (fault : Option Rule) → slice_get (bound_parts bound acts) k ≡ Some x → slice_get faults k ≡ Some fault → IsFaultOf (bound_tree bound acts) x fault
