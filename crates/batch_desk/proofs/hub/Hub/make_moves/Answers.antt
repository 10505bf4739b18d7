use Rattle.std.proofs.Common.{ap, ◌∙◌, arith, rules, inl, inr}
use Rattle.std.proofs.lemmas.Bool.Decides.{eqb_tells}
use Rattle.batch_desk.{specs.HubState.IsEngineSettled, specs.HubState.HubState, proofs.Moves.moves_made, proofs.Moves.prefix_more}
use Rattle.batch_engine.specs.declared.out.Out.TheVariants.{Move}
use Rattle.batch_desk.proofs.hub.Hub.make_moves.Goals as goal

pub returns-then-is_settled-clause-some : goal.returns-then-is_settled-clause-some
returns-then-is_settled-clause-some c unsettled =
    let settled : IsEngineSettled c.loop.self.engine = c.is_settled.ensures.0 (search rules) in
    elim (eqb_tells c.loop.counter 0) [
      | inl e ↦ absurd (unsettled (rw (ap (λ (h : HubState). h.engine) (c.loop.invariant.begin e.1)) at settled))
      | inr ne ↦ omega (arith, c.loop.invariant.count)
    ]

pub loop-preserved : goal.loop-preserved
loop-preserved c =
    let made = c.in_ok-make_move.ensures.ok in record {
      begin = λ e. absurd (omega arith);
      outlines = c.make_move.ensures.outlines ∙ c.loop.invariant.outlines;
      cleared = made.cleared ∙ c.loop.invariant.cleared;
      history = made.history ∙ c.loop.invariant.history;
      record_grows = prefix_more _ _ _ (Move made.line) c.loop.invariant.record_grows made.outs;
      count = omega (arith, moves_made _ _ made, c.loop.invariant.count);
    }
