use Rattle.std.proofs.Common.{map, take, string_bytes}
use Rattle.batch_verdicts.specs.Looking.{LooksOn}
use Rattle.batch_verdicts.proofs.every.recipes_or_refusals.Given as goal

abbrev pub invariant-loop-path : goal.invariant-loop-path
invariant-loop-path g l =
    LooksOn (g.D.Documents.gives l.documents) (map string_bytes (take l.path-index l.paths)) l.fn.refusals.items l.looked.recipes l.looked.refusals.items
