use Rattle.std.proofs.Common.{take}
use Rattle.batch_serve.specs.Told.{IsDeskTold}
use Rattle.batch_serve.proofs.desk.ServedDesk.queue_answers.Given as goal

-- the answers so far were told
abbrev pub invariant-loop-answer : goal.invariant-loop-answer
invariant-loop-answer l = IsDeskTold l.desk (take l.answer-index l.answers) l.initial.self l.self
