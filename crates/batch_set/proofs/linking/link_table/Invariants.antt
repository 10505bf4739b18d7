use Rattle.batch_set.{specs.Linking.needs_linked, specs.Linking.table_items, proofs.TableRows.AreMapped}
use Rattle.batch_set.proofs.linking.link_table.Given as goal

abbrev pub invariant-loop-act : goal.invariant-loop-act
invariant-loop-act l = AreMapped (needs_linked l.cell l.recipe) l.table l.act-index (table_items l.needs.items)
