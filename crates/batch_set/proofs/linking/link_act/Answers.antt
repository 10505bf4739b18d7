use Rattle.std.proofs.Common.{[], ◌∷◌, ◌++◌, ap, map, ◌∙◌}
use Rattle.batch_set.{specs.Linking.need_linked, specs.Linking.one_unit_linked, specs.Linking.reserved_need, specs.Linking.unit_needs, proofs.TableRows.AreAdded-more, proofs.TableRows.AreAdded-all}
use Rattle.batch_set.proofs.linking.link_act.Goals as goal

pub loop-name-preserved : goal.loop-name-preserved
loop-name-preserved c =
    AreAdded-more (unit_needs c.args.cell.now c.args.recipe.now c.args.act.now.unit) (reserved_need c.args.cell.now c.args.recipe.now) c.deref-name-items.result.now c.loop-name.name-index
    c.loop-name.needs.items c.push.new.self.items c.loop-name.invariant c.name-item.result c.loop-name-test.true c.name-item.is
    (c.in_ok-push.ensures.items ∙ ap (λ source. c.loop-name.needs.items ++ one_unit_linked source ∷ []) c.reserved-source.ensures)

pub loop-need-preserved : goal.loop-need-preserved
loop-need-preserved c =
    AreAdded-more (unit_needs c.args.cell.now c.args.recipe.now c.args.act.now.unit ++ map (reserved_need c.args.cell.now c.args.recipe.now) c.args.act.now.reserves.items) (need_linked c.args.cell.now)
    c.deref-need-items.result.now c.loop-need.need-index c.loop-need.needs.items c.push-in-loop-need.new.self.items c.loop-need.invariant c.need-item.result c.loop-need-test.true c.need-item.is
    (c.in_ok-push-2.ensures.items ∙ ap (λ need. c.loop-need.needs.items ++ need ∷ []) c.link_need.ensures)

pub returns : goal.returns
returns c =
    AreAdded-all _ _ _ c.loop-need.need-index _ c.loop-need.invariant c.loop-need-test.false
    ∙ ap (λ needs. (unit_needs c.args.cell.now c.args.recipe.now c.args.act.now.unit ++ map (reserved_need c.args.cell.now c.args.recipe.now) c.args.act.now.reserves.items) ++ map (need_linked c.args.cell.now) needs) c.deref-need-items.ensures.value
