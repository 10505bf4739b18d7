use Rattle.std.proofs.Common.{◌≡◌, ◌≤◌, max, drop}
use Rattle.batch_cell.specs.declared.cell.TheConstants.{MAX_UNITS}
use Rattle.batch_verify.specs.Bindings.{binding_count}
use Rattle.batch_verify.proofs.bindings.binding_count.Given as goal

abbrev pub invariant-loop-role : goal.invariant-loop-role
invariant-loop-role l = record {
  kept : max l.most (binding_count l.cell (drop l.role-index l.roles)) ≡ binding_count l.cell l.roles;
  some : 1 ≤ l.most;
  few : l.most ≤ MAX_UNITS;
}
