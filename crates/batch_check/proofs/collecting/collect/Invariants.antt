use Rattle.batch_check.{specs.Sites.numbers_at, proofs.EdgesAlongPaths.AreJoined, proofs.EdgesAlongPaths.KeepsPaths}
use Rattle.batch_check.proofs.collecting.collect.Given as goal

abbrev pub invariant-loop-node : goal.invariant-loop-node
invariant-loop-node l = record {
  paths : KeepsPaths l.site l.top l.edges l.paths.items l.node;
  joined : AreJoined (numbers_at l.site l.linked) l.joined.items l.edges;
}
