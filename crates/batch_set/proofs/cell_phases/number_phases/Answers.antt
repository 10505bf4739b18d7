use Rattle.std.proofs.Common.{[], sym, arith}
use Rattle.std.proofs.lemmas.Option.{get_or_from_slice_get, slice_get_within}
use Rattle.batch_set.{specs.Linking.numbers_on, specs.Linking.table_items, proofs.TableRows.AreAdded-more, proofs.TableRows.AreAdded-all, proofs.TableRows.row}
use Rattle.batch_set.proofs.cell_phases.number_phases.Goals as goal

pub loop-index-preserved : goal.loop-index-preserved
loop-index-preserved c =
    AreAdded-more [] (numbers_on c.args.cell.now) c.args.names.now.keys c.loop-index.index (table_items c.loop-index.numbers.items) (table_items c.push.new.self.items)
    c.loop-index.invariant c.index.result.now (slice_get_within c.args.names.now.keys c.loop-index.index c.index.result.now c.index.ensures)
    (sym (get_or_from_slice_get c.args.names.now.keys c.loop-index.index c.index.result.now c.index.result.now c.index.ensures))
    (row c.loop-index.numbers.items c.push.new.self.items c.in_ok-row.row _ c.in_ok-push.ensures.items c.in_ok-row.ensures)

pub returns : goal.returns
returns c = AreAdded-all [] (numbers_on c.args.cell.now) c.args.names.now.keys c.loop-index.index (table_items c.loop-index.numbers.items) c.loop-index.invariant (omega (arith, c.len-index-end.ensures, c.loop-index-test.false))
