use Rattle.std.specs.Option.{option_copied}
use Rattle.batch_verify.{specs.Refusals.ranking_in, specs.Trials.bound_by, proofs.Paths.KeepsPaths}
use Rattle.batch_verify.proofs.walk.broken_on.Given as goal

abbrev pub invariant-loop-entry : goal.invariant-loop-entry
invariant-loop-entry l = KeepsPaths l.cell (ranking_in l.cell (option_copied l.ranks)) (bound_by l.cell l.recipe.roles.items l.trial) l.recipe l.paths.items l.entry-index
