use Rattle.std.proofs.Common.{◌≡◌, ◌++◌, length}
use Rattle.std.specs.Vec.Iter.{into_iter_items, into_iter_len}
use Rattle.batch_pipes.specs.{Kept.ArePortsOf, Opened.IsOpened, OutputEnds.IsHandedBack, Outputs.AreOutputsOpened}
use Rattle.batch_pipes.proofs.opening.open_each.Given as goal

-- the rings of the desks so far are made
abbrev pub invariant-loop-desk : goal.invariant-loop-desk
invariant-loop-desk g l = record {
  left : l.yielded ++ into_iter_items l.desk-iterator ≡ into_iter_items l.initial.desk-iterator;
  count : into_iter_len l.desk-iterator ≡ length (into_iter_items l.desk-iterator);
  ports : ArePortsOf l.server.desks.items l.ports;
  opened : IsOpened l.initial.server.engine l.yielded l.server l.ports;
  outputs : AreOutputsOpened (IsHandedBack g.W.Write.contents g.P.Outputs.stands g.P.Outputs.hands_back) l.fronts l.yielded l.outputs.items l.ports.writers.items;
}
