use Rattle.std.proofs.Common.{[], nat_eq, ◌∙◌, ap, take_all, arith}
use Rattle.std.specs.Cmp.Lexicographic.{pointwise, nat_list_eq_equiv}
use Rattle.indexmap.specs.IndexSet.{insert_all}
use Rattle.batch_cell.{proofs.DistinctNames.inserted_all, specs.Equipment.unit_phases}
use Rattle.batch_cell.proofs.index.phases_of_unit.Goals as goal

pub returns : goal.returns
returns c =
    let modules = c.args.modules.now in
    let unit = c.args.unit.now in
    c.loop-module.invariant
    ∙ ap (λ so_far. insert_all (pointwise nat_eq) [] (unit_phases so_far unit)) (take_all c.loop-module.module-index modules (omega (arith, c.loop-module-test.false)))
    ∙ inserted_all nat_list_eq_equiv (unit_phases modules unit) c.requires
