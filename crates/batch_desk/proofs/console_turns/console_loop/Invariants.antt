use Rattle.batch_desk.specs.{ConsoleSteps.Follows, Gates.AreAsked}
use Rattle.batch_desk.proofs.console_turns.console_loop.Given as goal

abbrev pub invariant-loop-turn : goal.invariant-loop-turn
invariant-loop-turn g l = record {
  follows : Follows l.plan l.batches l.initial.desk l.console l.desk;
  asked : AreAsked g.G.Gate.passes l.turn l.initial.gate l.gate;
}
