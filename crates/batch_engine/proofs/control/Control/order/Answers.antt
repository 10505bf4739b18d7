use Rattle.std.proofs.Common.{◌≡◌, refl, sym, ◌∙◌, subst, ℕ, Some, None}
use Rattle.batch_matrix.specs.{Matrix.after, Matrix.target, declared.command.Command.Command, declared.command.Command.TheVariants.Start, declared.command.Command.TheVariants.Pause, declared.command.Command.TheVariants.Resume, declared.command.Command.TheVariants.Hold, declared.command.Command.TheVariants.Restart, declared.command.Command.TheVariants.Stop, declared.command.Command.TheVariants.Abort, declared.command.Command.TheVariants.Reset, declared.state.State.State}
use Rattle.batch_model.specs.Events as Events
use Rattle.batch_model.specs.{Moves.next, Runs.Reacts}
use Rattle.batch_engine.{specs.Answered.IsAnswered, specs.Orders.IsOrder, specs.Orders.IsOrdered, specs.Orders.IsPlain, specs.View.EngineView, specs.View.model_batch, specs.View.plant_of, specs.View.setup, specs.declared.batch.Batch.Batch, proofs.AcceptedCommands.accepted, proofs.AcceptedCommands.not-accepted, proofs.OrderAnswers.order-refused, proofs.OrderAnswers.order-unknown, proofs.BatchAtIndex.IsFound, proofs.BatchAtIndex.found-here, proofs.BatchByNumber.none-found}
use Rattle.batch_engine.specs.declared.reply.Reply.TheVariants as Reply
use Rattle.batch_engine.proofs.control.Control.order.Goals as goal
use Rattle.batch_engine.proofs.control.Control.order.Goals.{After-index}

found : (c : After-index) → IsFound c.args.self.now c.args.number c.in-Some.index c.index.result.now
found c = found-here c.self.view_is c.self.invariant.kept (sym c.index_of.ensures ∙ c.in-Some.is) c.index.ensures

made-order : (v : EngineView) (i : ℕ) (command : Command) (n : ℕ) (b : Batch) → IsFound v n i b → next (setup v.cleared) (plant_of v) ≡ None → (x : State) → after b.state command ≡ Some x
    → IsOrder v i command n × (x ≡ target command)
made-order v i command n b f settled x e =
    let go = accepted b.state command x e in
    (record { batch = b; at = f.at; number = f.number; found = f.is; settled = settled; accepted = go.0 }, go.1)

plain : (command : Command) → (command ≡ Stop → ⊥) → (command ≡ Abort → ⊥) → (command ≡ Reset → ⊥) → IsPlain command
plain Start f g h = tt
plain Pause f g h = tt
plain Resume f g h = tt
plain Hold f g h = tt
plain Restart f g h = tt
plain Stop f g h = f refl
plain Abort f g h = g refl
plain Reset f g h = h refl

answered : (old new : EngineView) (command : Command) (n : ℕ) (x : State) → x ≡ target command → IsOrdered old command n new → IsAnswered old (Events.order command n) (Reply.Ordered command n x) new
answered old new command n x is o =
    record { cleared = o.cleared; reacts = subst (λ (y : State). Reacts (setup old.cleared) (plant_of old) (Events.order command n) (Events.ordered command n y) (plant_of new)) (sym is) o.reacts }

pub returns-in_default : goal.returns-in_default
returns-in_default c =
    let v : EngineView = c.args.self.now in
    record { cleared = refl; reacts = order-unknown v c.args.command c.args.number c.requires (none-found v c.args.number (sym c.index_of.ensures ∙ c.in_default.is)) }

pub returns-in_default-after : goal.returns-in_default-after
returns-in_default-after c =
    let v : EngineView = c.args.self.now in
    let b : Batch = c.index.result.now in
    record {
      cleared = refl;
      reacts = order-refused v c.args.command c.args.number (model_batch v.cleared b) c.requires (found (goal.at.returns-in_default-after c).After-index).is
          (not-accepted b.state c.args.command (sym c.after.ensures ∙ c.in_default-after.is));
    }

pub stop-requires-clause-order : goal.stop-requires-clause-order
stop-requires-clause-order c =
    (made-order c.args.self.now c.in-Some.index c.args.command c.args.number c.index.result.now (found (goal.at.stop-requires-clause-order c).After-index) c.requires c.in-Some-after.next (sym c.after.ensures ∙ c.in-Some-after.is)).0

pub reset-requires : goal.reset-requires
reset-requires c =
    let o = made-order c.args.self.now c.in-Some.index c.args.command c.args.number c.index.result.now (found (goal.at.reset-requires c).After-index) c.requires c.in-Some-after.next (sym c.after.ensures ∙ c.in-Some-after.is) in
    record { order = subst (λ (z : Command). IsOrder c.args.self.now c.in-Some.index z c.args.number) c.in-Reset.is o.0 }

pub enter-requires : goal.enter-requires
enter-requires c =
    let o = made-order c.args.self.now c.in-Some.index c.args.command c.args.number c.index.result.now (found (goal.at.enter-requires c).After-index) c.requires c.in-Some-after.next (sym c.after.ensures ∙ c.in-Some-after.is) in
    record {
      order = o.0;
      plain = plain c.args.command c.in_default-command.not-Stop c.in_default-command.not-Abort c.in_default-command.not-Reset;
      target = o.1;
    }

pub returns-in-Stop : goal.returns-in-Stop
returns-in-Stop c =
    let o = made-order c.args.self.now c.in-Some.index c.args.command c.args.number c.index.result.now (found (goal.at.returns-in-Stop c).After-index) c.requires c.in-Some-after.next (sym c.after.ensures ∙ c.in-Some-after.is) in
    answered c.args.self.now c.stop.new.self c.args.command c.args.number c.in-Some-after.next o.1 c.stop.ensures

pub returns-in-Reset : goal.returns-in-Reset
returns-in-Reset c =
    let o = made-order c.args.self.now c.in-Some.index c.args.command c.args.number c.index.result.now (found (goal.at.returns-in-Reset c).After-index) c.requires c.in-Some-after.next (sym c.after.ensures ∙ c.in-Some-after.is) in
    answered c.args.self.now c.reset.new.self c.args.command c.args.number c.in-Some-after.next o.1 (subst (λ (z : Command). IsOrdered c.args.self.now z c.args.number c.reset.new.self) (sym c.in-Reset.is) c.reset.ensures)

pub returns-in_default-command : goal.returns-in_default-command
returns-in_default-command c =
    let o = made-order c.args.self.now c.in-Some.index c.args.command c.args.number c.index.result.now (found (goal.at.returns-in_default-command c).After-index) c.requires c.in-Some-after.next (sym c.after.ensures ∙ c.in-Some-after.is) in
    answered c.args.self.now c.enter.new.self c.args.command c.args.number c.in-Some-after.next o.1 c.enter.ensures
