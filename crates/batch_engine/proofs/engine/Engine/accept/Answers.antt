use Rattle.std.proofs.Common.{◌≡◌, refl, sym, subst, None}
use Rattle.batch_model.specs.Moves.{next}
use Rattle.batch_engine.{specs.View.EngineView, specs.View.setup, specs.View.plant_of, specs.Answered.IsAnswered, specs.Marked.AreHoldingsNoted, proofs.HeldUnits.reply-kept, specs.Surface.event_of, proofs.BatchMarks.marked-answered}
use Rattle.batch_engine.proofs.engine.Engine.accept.Goals as goal

pub answer_event-reply-requires-clause-noted : goal.answer_event-reply-requires-clause-noted
answer_event-reply-requires-clause-noted c = subst (AreHoldingsNoted c.self.inside.control) (sym c.deref.ensures.value) c.self.invariant.noted_are

pub invariant_of-self : goal.invariant_of-self
invariant_of-self c =
    let v : EngineView = c.self.inside.control in
    let w : EngineView = c.answer_event-reply.new.self in
    let settled : next (setup v.cleared) (plant_of v) ≡ None =
    subst (λ (z : EngineView). next (setup z.cleared) (plant_of z) ≡ None) (sym c.self.view_is) (c.if-not-settled.ensures.0 refl) in
    record {
      kept = c.recall_invariant.ensures;
      marked = marked-answered v w c.self.invariant.kept c.recall_invariant.ensures settled (event_of c.args.event.now) c.answer_event-reply.result c.answer_event-reply.ensures
          c.mark_answered.new.marks c.mark_answered.ensures;
      noted_are = reply-kept v w c.self.invariant.kept c.recall_invariant.ensures c.self.inside.holders.items c.self.invariant.noted_are (event_of c.args.event.now) c.answer_event-reply.result c.answer_event-reply.ensures;
    }

pub returns : goal.returns
returns c = subst (λ (v : EngineView). IsAnswered v (event_of c.args.event.now) c.answer_event-reply.result c.answer_event-reply.new.self) c.self.view_is c.answer_event-reply.ensures
