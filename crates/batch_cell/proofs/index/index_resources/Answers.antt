use Rattle.std.proofs.Common.{[], nat_eq, ◌∙◌, ap, take_all, arith}
use Rattle.std.specs.Cmp.Lexicographic.{pointwise, nat_list_eq_equiv}
use Rattle.indexmap.specs.IndexSet.{insert_all}
use Rattle.batch_cell.{proofs.DistinctNames.inserted_all, proofs.ResourceNames.resources_once, specs.Equipment.resource_names}
use Rattle.batch_cell.proofs.index.index_resources.Goals as goal

pub returns : goal.returns
returns c =
    let units = c.args.units.now in
    let modules = c.args.modules.now in
    let shared = c.args.shared.now in
    c.loop-resource.invariant
    ∙ ap (λ so_far. insert_all (pointwise nat_eq) [] (resource_names units modules so_far)) (take_all c.loop-resource.resource-index shared (omega (arith, c.loop-resource-test.false)))
    ∙ inserted_all nat_list_eq_equiv (resource_names units modules shared) (resources_once units modules shared c.requires)
