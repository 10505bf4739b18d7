use Rattle.std.proofs.Common.{append-nil, sym}
use Rattle.batch_program.proofs.Plants.{is_bound, is_left_out, next_binding}
use Rattle.batch_program.proofs.first_plan.first_bindings.Goals as goal
use Rattle.batch_program.proofs.first_plan.first_bindings.Goals.{in-Some+in_ok-name+in_ok-copied+in_ok-push, in_default}

pub loop-role-preserved : goal.loop-role-preserved
loop-role-preserved c =
    let role = c.role-item.result in
    let old = c.loop-role.bindings.items in
    elim c.match-first_of_class.branch [
      | in-Some+in_ok-name+in_ok-copied+in_ok-push w ↦
          rw w.bindings-is
          (next_binding c.args.cell.now c.args.roles.now c.loop-role.role-index role old _ _ _ c.loop-role-test.true c.role-item.is w.in_ok-push.ensures.items
          (is_bound role.name _ c.first_of_class.result w.in-Some.unit _ _ c.first_of_class.ensures w.in-Some.is w.in_ok-name.ensures w.in_ok-copied.ensures)
          c.loop-role.invariant)
      | in_default w ↦
          rw w.bindings-is
          (next_binding c.args.cell.now c.args.roles.now c.loop-role.role-index role old _ _ _ c.loop-role-test.true c.role-item.is (sym (append-nil old))
          (is_left_out role.name _ c.first_of_class.result c.first_of_class.ensures w.in_default.is)
          c.loop-role.invariant)
    ]
