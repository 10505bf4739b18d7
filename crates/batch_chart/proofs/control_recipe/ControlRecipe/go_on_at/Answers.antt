use Rattle.batch_chart.{specs.Stages.is_over_at, specs.Stages.stage_at, proofs.TreePositions.within, proofs.TreePositions.par-standing, proofs.TreePositions.end-fits, proofs.TreeAdvance.left-at, proofs.ClimbFromNode.no-skip, proofs.ClimbFromNode.no-phase, proofs.ClimbFromNode.passed-act, proofs.ClimbFromNode.passed-par, proofs.ClimbFromNode.passed-sel, proofs.ClimbFromNode.told-under, proofs.FinishedRows.over-tells, proofs.ClimbSigns.not-over, proofs.ClimbSigns.finished-row, proofs.ClimbSigns.sel-others, proofs.ClimbSigns.neat-under, proofs.ClimbSigns.neatly-act, proofs.ClimbSigns.neatly-par, proofs.ClimbSigns.neatly-sel}
use Rattle.std.proofs.Common.{arith, refl, ◌∙◌, ap, inl, inr, length, length-set, sym, rules}
use Rattle.batch_chart.proofs.control_recipe.ControlRecipe.go_on_at.Goals as goal

pub returns-then-is_over_at : goal.returns-then-is_over_at
returns-then-is_over_at c = record { passes = λ xs ws ms r s. absurd (not-over _ _ _ _ _ c.requires.standing c.requires.above xs ms _ s (c.if-is_over_at.ensures ∙ ap (λ κ. is_over_at κ (stage_at c.args.stages.now c.args.p)) c.kind_of-kind.ensures)); count = refl }

pub returns-in-Skip : goal.returns-in-Skip
returns-in-Skip c = record {
  passes = λ xs ws ms r s. absurd (elim c.in-Skip.is [
    | inl e ↦ no-skip _ _ _ _ _ c.requires.standing c.requires.above (sym c.kind_of-kind.ensures ∙ e)
    | inr e ↦ no-phase _ _ _ _ _ c.requires.standing c.requires.above e.0 e.1 (sym c.kind_of-kind.ensures ∙ e.2)
  ]);
  count = refl;
}

pub set-requires : goal.set-requires
set-requires c = let h = within _ _ _ _ c.requires.standing in omega (arith, h, c.requires.fits)

pub returns-in-Act : goal.returns-in-Act
returns-in-Act c =
    let h = within _ _ _ _ c.requires.standing in
    record {
      passes = λ xs ws ms r s. (
        passed-act _ _ _ _ _ _ c.requires.standing c.requires.above xs ws r _ (sym c.kind_of-kind.ensures ∙ c.in-Act.is) (left-at c.args.self.now.nodes.now c.args.stages.now c.args.p _ (sym c.kind_of-kind.ensures ∙ c.in-Act.is) (c.if-is_over_at.ensures ∙ ap (λ κ. is_over_at κ (stage_at c.args.stages.now c.args.p)) c.kind_of-kind.ensures)),
        rw c.set.ensures (neatly-act _ _ _ _ _ c.requires.standing c.requires.above xs ms _ s _ _ (sym c.kind_of-kind.ensures ∙ c.in-Act.is) (omega (arith, h, c.requires.fits)) c.of_open.ensures),
      );
      count = ap length c.set.ensures ∙ length-set _ _ _;
    }

pub returns-in-Par : goal.returns-in-Par
returns-in-Par c =
    let h = within _ _ _ _ c.requires.standing in
    let row = par-standing _ _ _ _ _ c.requires.standing (sym c.kind_of-kind.ensures ∙ c.in-Par.is) c.requires.standing.0 in
    record {
      passes = λ xs ws ms r s. (
          let tells = over-tells _ _ _ _ _ _ _ row.1 (neat-under _ _ _ _ _ c.requires.standing c.requires.above xs ms _ s) (told-under _ _ _ _ _ _ c.requires.standing c.requires.above xs ws r) c.has_none-over.ensures in (
            passed-par _ _ _ _ _ _ c.requires.standing c.requires.above xs ws r _ _ _ (omega (arith, h, c.requires.standing.0)) c.close.ensures (sym c.kind_of-kind.ensures ∙ c.in-Par.is)
                (left-at c.args.self.now.nodes.now c.args.stages.now c.args.p _ (sym c.kind_of-kind.ensures ∙ c.in-Par.is) (c.if-is_over_at.ensures ∙ ap (λ κ. is_over_at κ (stage_at c.args.stages.now c.args.p)) c.kind_of-kind.ensures)) tells.1,
            neatly-par _ _ _ _ _ c.requires.standing c.requires.above xs ms _ s (sym c.kind_of-kind.ensures ∙ c.in-Par.is) _ _ _ (omega (arith, h, c.requires.standing.0)) c.close.ensures tells.0,
          ));
      count = refl;
    }

pub returns-in-Sel : goal.returns-in-Sel
returns-in-Sel c =
    let h = within _ _ _ _ c.requires.standing in
    record {
      passes = λ xs ws ms r s. (
        passed-sel _ _ _ _ _ _ c.requires.standing c.requires.above xs ws r _ _ _ _ (omega (arith, h, c.requires.standing.0)) c.close-in-Sel.ensures (sym c.kind_of-kind.ensures ∙ c.in-Sel.is)
            (left-at c.args.self.now.nodes.now c.args.stages.now c.args.p _ (sym c.kind_of-kind.ensures ∙ c.in-Sel.is) (c.if-is_over_at.ensures ∙ ap (λ κ. is_over_at κ (stage_at c.args.stages.now c.args.p)) c.kind_of-kind.ensures)) (finished-row _ _ _ _ _ (sel-others _ _ _ _ _ c.requires.standing c.requires.above xs ms _ s _ (sym c.kind_of-kind.ensures ∙ c.in-Sel.is))),
        neatly-sel _ _ _ _ _ c.requires.standing c.requires.above xs ms _ s _ (sym c.kind_of-kind.ensures ∙ c.in-Sel.is) _ _ (omega (arith, h, c.requires.standing.0)) c.close-in-Sel.ensures,
      );
      count = refl;
    }

pub overflow_cast-node : goal.overflow_cast-node
overflow_cast-node c = let h = end-fits _ _ _ _ c.requires.standing in search rules
