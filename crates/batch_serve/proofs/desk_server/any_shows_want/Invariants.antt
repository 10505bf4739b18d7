use Rattle.std.proofs.Common.{take}
use Rattle.batch_serve.specs.Served.{ShowNoWant}
use Rattle.batch_serve.proofs.desk_server.any_shows_want.Given as goal

-- none of the answers so far does
abbrev pub invariant-loop-answer : goal.invariant-loop-answer
invariant-loop-answer l = record {
  none : ShowNoWant (take l.answer-index l.answers);
}
