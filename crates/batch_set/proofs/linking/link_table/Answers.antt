use Rattle.std.proofs.Common.{[]}
use Rattle.batch_set.{specs.Linking.needs_linked, specs.Linking.table_items, proofs.TableRows.AreAdded-more, proofs.TableRows.AreAdded-all, proofs.TableRows.row}
use Rattle.batch_set.proofs.linking.link_table.Goals as goal

pub loop-act-preserved : goal.loop-act-preserved
loop-act-preserved c =
    AreAdded-more [] (needs_linked c.args.cell.now c.args.recipe.now) c.args.table.now c.loop-act.act-index (table_items c.loop-act.needs.items) (table_items c.push.new.self.items)
    c.loop-act.invariant c.act-item.result c.loop-act-test.true c.act-item.is
    (row c.loop-act.needs.items c.push.new.self.items c.in_ok-own.own _ c.in_ok-push.ensures.items c.in_ok-own.ensures)

pub returns : goal.returns
returns c = AreAdded-all [] (needs_linked c.args.cell.now c.args.recipe.now) c.args.table.now c.loop-act.act-index (table_items c.loop-act.needs.items) c.loop-act.invariant c.loop-act-test.false
