use Rattle.std.proofs.Common.{◌≡◌, ◌≤◌, length}
use Rattle.batch_engine.specs.View.{plant_of}
use Rattle.batch_wire.specs.{Known.AreKnown, Transcript.lines_of}
use Rattle.batch_keep.specs.Auditing.{IsAudited}
use Rattle.batch_keep.proofs.auditing.audit_each.Given as goal

abbrev pub invariant-loop-at : goal.invariant-loop-at
invariant-loop-at l = record {
  kept : l.engine.cleared ≡ l.fn.engine.cleared;
  known : AreKnown l.engine.cleared l.places;
  within : length l.rest ≤ length l.sent;
  audited : IsAudited l.fn.engine.cleared (lines_of l.sent) (lines_of l.rest) (plant_of l.engine) l.text l.audited.count l.audited.rest.now;
}

abbrev pub decreases-loop-at : goal.decreases-loop-at
decreases-loop-at l = length l.rest
