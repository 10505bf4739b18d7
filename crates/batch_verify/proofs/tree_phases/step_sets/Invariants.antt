use Rattle.std.proofs.Common.{◌≡◌, ℕ, Some, length, slice_get, take}
use Rattle.batch_recipe.specs.{Conditions.Name, declared.act.Act.Act}
use Rattle.batch_verify.specs.{NodePhases.phase_run, PhaseSets.IsSetOf, PhaseSets.number_in, PhaseSets.number_of, declared.phase_set.PhaseSet.PhaseSet}
use Rattle.batch_verify.proofs.tree_phases.step_sets.Given as goal

-- the phases so far have their numbers, and the steps so far their sets
abbrev pub invariant-loop-index : goal.invariant-loop-index
invariant-loop-index l = record {
  many : length l.sets.items ≡ l.index;
  known : (phase : Name) → number_in l.numbers.entries phase ≡ number_of (take l.index l.steps) phase;
  each : (i : ℕ) (a : Act) (set : PhaseSet) → slice_get l.steps i ≡ Some a → slice_get l.sets.items i ≡ Some set → IsSetOf l.steps (phase_run a.work) set;
}
