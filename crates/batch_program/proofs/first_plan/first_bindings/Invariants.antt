use Rattle.std.proofs.Common.{◌≡◌, ◌++◌, drop}
use Rattle.batch_program.specs.PlantRuns.{first_bindings}
use Rattle.batch_program.proofs.first_plan.first_bindings.Given as goal

-- the bindings so far and those of the roles that are left are those of all
abbrev pub invariant-loop-role : goal.invariant-loop-role
invariant-loop-role l = l.bindings.items ++ first_bindings l.cell (drop l.role-index l.roles) ≡ first_bindings l.cell l.roles
