use Rattle.std.proofs.Common.{◌≡◌, take}
use Rattle.batch_verify.specs.Trials.{extreme, rank_at}
use Rattle.batch_verify.proofs.trial.extreme_of.Given as goal

-- the best of the candidates so far
abbrev pub invariant-loop-candidate : goal.invariant-loop-candidate
invariant-loop-candidate l = l.best ≡ extreme (rank_at l.ranks) l.is_greatest (take l.candidate-index l.candidates)
