use Rattle.std.proofs.Common.{take}
use Rattle.batch_cell.specs.Equipment.{OffersPhasesOnce}
use Rattle.batch_reader.proofs.offered.check_offered_phases.Given as goal

-- the units so far offer each phase once
abbrev pub invariant-loop-unit : goal.invariant-loop-unit
invariant-loop-unit l = OffersPhasesOnce (take l.unit-index l.units) l.modules
