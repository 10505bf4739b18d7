-- The state of a console, by the outs that it takes.
use Rattle.std.proofs.Common.{◌≡◌, ℕ, ◌+◌, ◌-◌, ◌<◌, ◌≤◌, Bool, true, false, cond, eqb, nat_lt, List, [], ◌∷◌, ◌++◌, refl, arith, true≢false}
use Rattle.std.proofs.lemmas.{Bool.Decides.nat_tests, List.Sums.sum_by_push}
use Rattle.batch_matrix.specs.declared.command.Command.TheVariants as command
use Rattle.batch_matrix.specs.declared.state.State.{State as BatchState}
use Rattle.batch_matrix.specs.declared.state.State.TheVariants as state
use Rattle.batch_engine.specs.declared.{event.Event.Event, line.Line.TheVariants.Send, line.Line.TheVariants.State, line.Line.TheVariants.Claim, line.Line.TheVariants.Begin, line.Line.TheVariants.Start, line.Line.TheVariants.End, line.Line.TheVariants.Pass, out.Out.Out, out.Out.TheVariants.Reply, out.Out.TheVariants.Move, refusal.Refusal.Refusal, reply.Reply.TheVariants.Created, reply.Reply.TheVariants.Ordered, reply.Reply.TheVariants.Removed, reply.Reply.TheVariants.Reported, reply.Reply.TheVariants.Refused}
use Rattle.batch_desk.specs.{declared.step.Step.Step, declared.console.Console.Console, Consoles.creations, Consoles.refusals, Consoles.telling_complete, Consoles.telling_created, Consoles.telling_refused, ConsoleSteps.Minds, ConsoleSteps.learned, ConsoleSteps.step_after_start}
use Rattle.batch_desk.specs.declared.step.Step.TheVariants as step

-- one more out, after which no other batch is to be started than before
more : (batches : ℕ) (c d : Console) (sent : List Event) (taken : List Out) (out : Out) → d.to_create ≡ c.to_create → d.to_complete ≡ c.to_complete - telling_complete out → d.last ≡ c.last
    → ((n : ℕ) → d.step ≡ step.Start n → c.step ≡ step.Start n) → (d.refused ≡ true → 1 ≤ refusals taken + telling_refused out) → (d.refused ≡ false → refusals taken + telling_refused out ≡ 0)
    → Minds batches c sent taken → Minds batches d sent (taken ++ out ∷ [])
more batches c d sent taken out creates completes last starts refuses refuses-none was = record {
  to_create = omega (arith, creates, was.to_create);
  to_complete = omega (arith, completes, was.to_complete, sum_by_push telling_complete taken out);
  above = λ n up. was.above n (omega (arith, last, up));
  next = λ n e. let w = was.next n (starts n e) in (omega (arith, last, w.0), w.1, omega (arith, sum_by_push (telling_created n) taken out, w.2));
  refused = λ e. omega (arith, refuses e, sum_by_push telling_refused taken out);
  none_refused = λ e. omega (arith, refuses-none e, sum_by_push telling_refused taken out);
}

-- an out of which nothing is kept in mind
others : (batches : ℕ) (c : Console) (sent : List Event) (taken : List Out) (out : Out) → telling_complete out ≡ 0 → telling_refused out ≡ 0
    → Minds batches c sent taken → Minds batches c sent (taken ++ out ∷ [])
others batches c sent taken out incomplete unrefused was =
    more batches c c sent taken out refl (omega (arith, incomplete)) refl (λ n e. e) (λ e. omega (arith, was.refused e)) (λ e. omega (arith, was.none_refused e, unrefused)) was

same_start : (m n : ℕ) → step.Start m ≡ step.Start n → m ≡ n
same_start m n e = cc

told_created : (n batch recipe size : ℕ) (units : List ℕ) (taken : List Out) → creations n (taken ++ Reply (Created batch recipe size units) ∷ []) ≡ creations n taken + cond (eqb batch n) 1 0
told_created n batch recipe size units taken = sum_by_push (telling_created n) taken (Reply (Created batch recipe size units))

created : (batches : ℕ) (c : Console) (sent : List Event) (taken : List Out) (batch recipe size : ℕ) (units : List ℕ) (later : Bool) → nat_lt c.last batch ≡ later → Minds batches c sent taken
    → Minds batches (elim later [ true ↦ record c { step = step.Start batch; last = batch } | false ↦ c ]) sent (taken ++ Reply (Created batch recipe size units) ∷ [])
created batches c sent taken batch recipe size units true is was =
    let above : c.last < batch = grind (arith, nat_tests) in
    record {
      to_create = was.to_create;
      to_complete = omega (arith, was.to_complete, sum_by_push telling_complete taken (Reply (Created batch recipe size units)));
      above = λ n up. was.above n (omega (arith, above, up));
      next = λ n e.
          let same = same_start batch n e in
          let told = told_created n batch recipe size units taken in
          (omega (arith, same), was.above n (omega (arith, same, above)), grind (arith, nat_tests));
      refused = λ e. omega (arith, was.refused e, sum_by_push telling_refused taken (Reply (Created batch recipe size units)));
      none_refused = λ e. omega (arith, was.none_refused e, sum_by_push telling_refused taken (Reply (Created batch recipe size units)));
    }
created batches c sent taken batch recipe size units false is was = others batches c sent taken (Reply (Created batch recipe size units)) refl refl was

same_step : (s : Step) (n : ℕ) → step_after_start s ≡ step.Start n → s ≡ step.Start n
same_step step.Create n e = e
same_step (step.Start m) n e = e
same_step step.Wait n e = cc

started : (batches : ℕ) (c : Console) (sent : List Event) (taken : List Out) (batch : ℕ) (now : BatchState) → Minds batches c sent taken
    → Minds batches (record c { step = step_after_start c.step }) sent (taken ++ Reply (Ordered command.Start batch now) ∷ [])
started batches c sent taken batch now was =
    more batches c (record c { step = step_after_start c.step }) sent taken (Reply (Ordered command.Start batch now)) refl (omega arith) refl (λ n e. same_step c.step n e)
    (λ e. omega (arith, was.refused e)) (λ e. omega (arith, was.none_refused e)) was

completed : (batches : ℕ) (c : Console) (sent : List Event) (taken : List Out) (batch : ℕ) → Minds batches c sent taken
    → Minds batches (record c { to_complete = c.to_complete - 1 }) sent (taken ++ Move (State batch state.Complete) ∷ [])
completed batches c sent taken batch was =
    more batches c (record c { to_complete = c.to_complete - 1 }) sent taken (Move (State batch state.Complete)) refl refl refl (λ n e. e)
    (λ e. omega (arith, was.refused e)) (λ e. omega (arith, was.none_refused e)) was

refused : (batches : ℕ) (c : Console) (sent : List Event) (taken : List Out) (refusal : Refusal) → Minds batches c sent taken
    → Minds batches (record c { refused = true }) sent (taken ++ Reply (Refused refusal) ∷ [])
refused batches c sent taken refusal was =
    more batches c (record c { refused = true }) sent taken (Reply (Refused refusal)) refl (omega arith) refl (λ n e. e) (λ e. omega arith) (λ e. absurd (true≢false e)) was

pub learns : (batches : ℕ) (c : Console) (sent : List Event) (taken : List Out) (out : Out) → Minds batches c sent taken → Minds batches (learned out c) sent (taken ++ out ∷ [])
learns batches c sent taken (Reply (Created batch recipe size units)) was = created batches c sent taken batch recipe size units (nat_lt c.last batch) refl was
learns batches c sent taken (Reply (Ordered command.Start batch now)) was = started batches c sent taken batch now was
learns batches c sent taken (Reply (Ordered command.Pause batch now)) was = others batches c sent taken (Reply (Ordered command.Pause batch now)) refl refl was
learns batches c sent taken (Reply (Ordered command.Resume batch now)) was = others batches c sent taken (Reply (Ordered command.Resume batch now)) refl refl was
learns batches c sent taken (Reply (Ordered command.Hold batch now)) was = others batches c sent taken (Reply (Ordered command.Hold batch now)) refl refl was
learns batches c sent taken (Reply (Ordered command.Restart batch now)) was = others batches c sent taken (Reply (Ordered command.Restart batch now)) refl refl was
learns batches c sent taken (Reply (Ordered command.Stop batch now)) was = others batches c sent taken (Reply (Ordered command.Stop batch now)) refl refl was
learns batches c sent taken (Reply (Ordered command.Abort batch now)) was = others batches c sent taken (Reply (Ordered command.Abort batch now)) refl refl was
learns batches c sent taken (Reply (Ordered command.Reset batch now)) was = others batches c sent taken (Reply (Ordered command.Reset batch now)) refl refl was
learns batches c sent taken (Reply (Removed batch)) was = others batches c sent taken (Reply (Removed batch)) refl refl was
learns batches c sent taken (Reply (Reported unit phase word batch recipe node now)) was = others batches c sent taken (Reply (Reported unit phase word batch recipe node now)) refl refl was
learns batches c sent taken (Reply (Refused refusal)) was = refused batches c sent taken refusal was
learns batches c sent taken (Move (Send batch recipe node unit phase word)) was = others batches c sent taken (Move (Send batch recipe node unit phase word)) refl refl was
learns batches c sent taken (Move (State batch state.Idle)) was = others batches c sent taken (Move (State batch state.Idle)) refl refl was
learns batches c sent taken (Move (State batch state.Running)) was = others batches c sent taken (Move (State batch state.Running)) refl refl was
learns batches c sent taken (Move (State batch state.Pausing)) was = others batches c sent taken (Move (State batch state.Pausing)) refl refl was
learns batches c sent taken (Move (State batch state.Paused)) was = others batches c sent taken (Move (State batch state.Paused)) refl refl was
learns batches c sent taken (Move (State batch state.Holding)) was = others batches c sent taken (Move (State batch state.Holding)) refl refl was
learns batches c sent taken (Move (State batch state.Held)) was = others batches c sent taken (Move (State batch state.Held)) refl refl was
learns batches c sent taken (Move (State batch state.Restarting)) was = others batches c sent taken (Move (State batch state.Restarting)) refl refl was
learns batches c sent taken (Move (State batch state.Stopping)) was = others batches c sent taken (Move (State batch state.Stopping)) refl refl was
learns batches c sent taken (Move (State batch state.Stopped)) was = others batches c sent taken (Move (State batch state.Stopped)) refl refl was
learns batches c sent taken (Move (State batch state.Aborting)) was = others batches c sent taken (Move (State batch state.Aborting)) refl refl was
learns batches c sent taken (Move (State batch state.Aborted)) was = others batches c sent taken (Move (State batch state.Aborted)) refl refl was
learns batches c sent taken (Move (State batch state.Complete)) was = completed batches c sent taken batch was
learns batches c sent taken (Move (Claim kind batch recipe node resource units)) was = others batches c sent taken (Move (Claim kind batch recipe node resource units)) refl refl was
learns batches c sent taken (Move (Begin batch recipe node)) was = others batches c sent taken (Move (Begin batch recipe node)) refl refl was
learns batches c sent taken (Move (Pass batch recipe node to resource units)) was = others batches c sent taken (Move (Pass batch recipe node to resource units)) refl refl was
learns batches c sent taken (Move (Start batch recipe node unit phase values)) was = others batches c sent taken (Move (Start batch recipe node unit phase values)) refl refl was
learns batches c sent taken (Move (End batch recipe node)) was = others batches c sent taken (Move (End batch recipe node)) refl refl was
