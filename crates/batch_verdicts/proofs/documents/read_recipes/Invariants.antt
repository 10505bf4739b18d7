use Rattle.std.proofs.Common.{map, take, string_bytes}
use Rattle.batch_verdicts.specs.Taking.{AreTaken}
use Rattle.batch_verdicts.proofs.documents.read_recipes.Given as goal

abbrev pub invariant-loop-path : goal.invariant-loop-path
invariant-loop-path g l = AreTaken g.T.TextTaker.has_taken (g.D.Documents.gives l.documents) (map string_bytes (take l.path-index l.paths)) l.read l.initial.taker l.taker
