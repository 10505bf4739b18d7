use Rattle.batch_set.{specs.Linking.numbers_on, specs.Linking.table_items, proofs.TableRows.AreMapped}
use Rattle.batch_set.proofs.cell_phases.number_phases.Given as goal

abbrev pub invariant-loop-index : goal.invariant-loop-index
invariant-loop-index l = AreMapped (numbers_on l.cell) l.names.keys l.index (table_items l.numbers.items)
