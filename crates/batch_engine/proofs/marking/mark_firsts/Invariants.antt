use Rattle.std.proofs.Common.{◌<◌, ℕ}
use Rattle.batch_engine.specs.Marking.{IsFirstMarked, KeepsMarks}
use Rattle.batch_engine.proofs.marking.mark_firsts.Given as goal

-- the first of each line so far is marked
abbrev pub invariant-loop-resource : goal.invariant-loop-resource
invariant-loop-resource l = record { firsts : (q : ℕ) → q < l.resource → IsFirstMarked l.control q l.marks; kept : KeepsMarks l.fn.marks l.marks }
