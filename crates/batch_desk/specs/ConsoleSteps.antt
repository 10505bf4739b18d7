-- private: the state of a console, and the steps of its turns.
use Rattle.std.specs.Prelude.{◌≡◌, ℕ, ◌+◌, ◌-◌, ◌<◌, ◌≤◌, ◌⊎◌, List, length, nat_lt, true, false}
use Rattle.batch_matrix.specs.declared.command.Command.TheVariants as command
use Rattle.batch_matrix.specs.declared.state.State.TheVariants.{Complete}
use Rattle.batch_engine.specs.declared.event.Event.{Event}
use Rattle.batch_engine.specs.declared.line.Line.TheVariants.{State}
use Rattle.batch_engine.specs.declared.out.Out.{Out}
use Rattle.batch_engine.specs.declared.out.Out.TheVariants.{Reply, Move}
use Rattle.batch_engine.specs.declared.reply.Reply.TheVariants.{Created, Ordered, Refused}
use Rattle.batch_desk.specs.declared.batch_plan.BatchPlan.{BatchPlan}
use Rattle.batch_desk.specs.declared.step.Step.{Step}
use Rattle.batch_desk.specs.declared.step.Step.TheVariants.{Create, Start, Wait}
use Rattle.batch_desk.specs.declared.console.Console.{Console}
use Rattle.batch_desk.specs.DeskState.{DeskState}
use Rattle.batch_desk.specs.Consoles.{IsConsole, completes, creates, creations, refusals, starts}

-- the state of a console of so many batches agrees with the events that it sent and the outs that it took. No batch above the last was
-- started. The batch that is to be started was created, and not started yet
pub record Minds (batches : ℕ) (c : Console) (sent : List Event) (taken : List Out) : Type 0 where
  pub to_create : creates sent + c.to_create ≡ batches
  pub to_complete : c.to_complete ≡ batches - completes taken
  pub above : (n : ℕ) → c.last < n → starts n sent ≡ 0
  pub next : (n : ℕ) → c.step ≡ Start n → (n ≤ c.last) × (starts n sent ≡ 0) × (1 ≤ creations n taken)
  pub refused : c.refused ≡ true → 1 ≤ refusals taken
  pub none_refused : c.refused ≡ false → refusals taken ≡ 0

-- the events sent and the outs taken since `before` are a console's, and its state agrees with them
pub record Follows (plan : BatchPlan) (batches : ℕ) (before : DeskState) (c : Console) (d : DeskState) : Type 0 where
  pub is : IsConsole plan batches before d
  pub minds : Minds batches c is.more is.seen

-- it goes on so
abbrev pub GoesOn : BatchPlan → Console → DeskState → Console → DeskState → Type 0
GoesOn plan c d f e = (batches : ℕ) (before : DeskState) → Follows plan batches before c d → Follows plan batches before f e

-- an event was sent, or the same is to be sent as before
abbrev pub IsTried : Console → DeskState → Console → DeskState → Type 0
IsTried c d f e = (f ≡ c) ⊎ (length e.sent ≡ length d.sent + 1)

-- after a start is answered the next create follows
abbrev pub step_after_start : Step → Step
step_after_start Wait = Create
step_after_start step = step

-- the state of a console after it took an out
abbrev pub learned : Out → Console → Console
learned (Reply (Created batch recipe size units)) c = elim (nat_lt c.last batch) [ true ↦ record c { step = Start batch; last = batch } | false ↦ c ]
learned (Reply (Ordered command.Start batch state)) c = record c { step = step_after_start c.step }
learned (Reply (Refused refusal)) c = record c { refused = true }
learned (Move (State batch Complete)) c = record c { to_complete = c.to_complete - 1 }
learned _ c = c
