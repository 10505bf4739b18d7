use Rattle.std.proofs.Common.{◌<◌, ◌∙◌, sym, subst, subst₂, ℕ, Option}
use Rattle.std.specs.Prelude.{IfSome}
use Rattle.batch_engine.{specs.Marking.IsTouched, specs.Steps.IsNext, specs.Steps.touched_by, specs.Surface.move_of, specs.View.EngineView, specs.declared.step.Step.Step, proofs.HeldUnits.move-kept, proofs.HeldUnits.next-noted, proofs.BatchMarks.marked-after, proofs.BatchMarks.next-touches, proofs.BatchMarks.same-count}
use Rattle.batch_engine.proofs.engine.Engine.next_move.Goals as goal

pub mark_moved-requires : goal.mark_moved-requires
mark_moved-requires c =
    let v : EngineView = c.self.inside.control in
    let w : EngineView = c.make_step-line.new.self in
    subst₂ (λ (o : Option ℕ) n. IfSome o (λ q. q < n)) (sym c.touched.ensures) (sym (same-count v w c.self.invariant.kept c.recall_invariant.ensures c.in-Some.step c.in-Some.ensures.step.0 c.make_step-line.ensures.made)) c.make_step-line.ensures.told.known

pub note_grant-requires : goal.note_grant-requires
note_grant-requires c = subst (λ n. IfSome (touched_by c.make_step-line.result) (λ q. q < n)) (sym c.self.invariant.noted_are.count) c.make_step-line.ensures.told.known

pub invariant_of-self : goal.invariant_of-self
invariant_of-self c = record { kept = c.self.invariant.kept; marked = c.in_default.ensures.marked; noted_are = c.self.invariant.noted_are }

pub invariant_of-self-2 : goal.invariant_of-self-2
invariant_of-self-2 c =
    let v : EngineView = c.self.inside.control in
    let w : EngineView = c.make_step-line.new.self in
    let s : Step = c.in-Some.step in
    let zs = c.mark_moved.new.marks in
    record {
      kept = c.recall_invariant.ensures;
      marked = marked-after v w c.self.invariant.kept c.recall_invariant.ensures c.take_step.new.marks zs c.in-Some.ensures.marked s c.in-Some.ensures.step c.make_step-line.ensures.made
          c.touched.result (subst (IsTouched v) (sym c.touched.ensures) (next-touches v c.self.invariant.kept c.make_step-line.result c.make_step-line.ensures.told))
          (record { own = λ u. c.in-Some.ensures.set (c.mark_moved.ensures.kept _ u); first = c.mark_moved.ensures.first }) c.mark_moved.ensures.kept;
      noted_are = move-kept v w c.self.invariant.kept c.recall_invariant.ensures c.self.inside.holders.items c.self.invariant.noted_are s c.in-Some.ensures.step.0 c.make_step-line.ensures.made c.note_grant.new.holders.items
          (λ m is. c.note_grant.ensures ∙ next-noted v c.self.invariant.kept c.make_step-line.result c.make_step-line.ensures.told c.self.inside.holders.items m is);
    }

pub returns-clause-next : goal.returns-clause-next
returns-clause-next c = sym (subst (λ (z : EngineView). IsNext z (move_of z.cleared c.make_step-line.result)) c.self.view_is c.make_step-line.ensures.told.is)
