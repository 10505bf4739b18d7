use Rattle.std.proofs.Common.{◌≡◌, ◌++◌, drop}
use Rattle.batch_set.specs.Linking.{numbers_on, numbers_on_each}
use Rattle.batch_set.proofs.cell_phases.number_phase.Given as goal

-- the units so far, and then those to come
abbrev pub invariant-loop-unit : goal.invariant-loop-unit
invariant-loop-unit l = l.numbers.items ++ numbers_on_each l.cell l.phase l.unit (drop l.unit l.cell.units.items) ≡ numbers_on l.cell l.phase
