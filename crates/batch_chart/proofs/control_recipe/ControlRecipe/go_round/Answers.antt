use Rattle.std.proofs.Common.{◌≡◌, ◌⊎◌, inl, inr, arith, true, refl, sym, ◌∙◌}
use Rattle.batch_chart.{specs.Outlined.condition_holds, specs.Outlined.condition_at, proofs.TreePositions.within, proofs.ClimbFromNode.n-standing, proofs.ClimbFromNode.passed-last, proofs.ClimbFromNode.passed-round, proofs.ClimbSigns.loop-runs, proofs.ClimbSigns.neatly-last, proofs.ClimbSigns.neatly-round}
use Rattle.batch_chart.proofs.control_recipe.ControlRecipe.go_round.Goals as goal

pub reach-over-requires : goal.reach-over-requires
reach-over-requires c = record { standing = n-standing _ _ _ _ _ c.requires.standing c.requires.above; fits = c.requires.fits }

pub returns-in_default : goal.returns-in_default
returns-in_default c = record { passes = λ xs ws ms r s. absurd (loop-runs _ _ _ c.requires.looped.1 c.requires.left (sym c.in_default.is ∙ c.turns.ensures)); count = refl }

pub returns-then-left-eq0 : goal.returns-then-left-eq0
returns-then-left-eq0 c =
    let h = within _ _ _ _ c.requires.standing in
    let last : (c.in-Some.left ≡ 0) ⊎ (true ≡ condition_holds (condition_at c.args.self.now.master.now c.args.until) c.args.self.now.values.now) =
    elim c.then-left-eq0.branch [ goal.then-left-eq0-via-then-left-eq0 w ↦ inl w.if-left-eq0.true | goal.then-left-eq0-via-else-left-eq0+then-condition_holds w ↦ inr w.if-condition_holds.ensures ] in
    record {
      passes = λ xs ws ms r s. (
        passed-last _ _ _ _ _ _ c.requires.standing c.requires.above xs ws r _ _ _ c.requires.looped.1 c.in-Some.ensures (omega (arith, h, c.requires.standing.0)) last,
        neatly-last _ _ _ _ _ c.requires.standing c.requires.above xs ms _ s _ _ c.requires.looped.1 (omega (arith, h, c.requires.standing.0)),
      );
      count = refl;
    }

pub returns : goal.returns
returns c =
    let h = within _ _ _ _ c.requires.standing in
    record {
      passes = λ xs ws ms r s. (
        passed-round _ _ _ _ _ _ c.requires.standing c.requires.above xs ws r _ _ _ c.requires.looped.1 c.in-Some.ensures c.if-left-eq0.false c.if-condition_holds.ensures _ _ _ _
            (omega (arith, h, c.requires.standing.0, c.reach-over.auto.stages)) c.reach-over.ensures.reached c.close_loop.ensures,
        neatly-round _ _ _ _ _ c.requires.standing c.requires.above xs ms _ s _ _ c.requires.looped.1 _ _ _ _ _ _ (omega (arith, h, c.requires.standing.0, c.reach-over.auto.stages))
            c.reach-over.ensures.reached.outside c.reach-over.ensures.reached.own c.reach-over.ensures.neatly c.close_loop.ensures,
      );
      count = c.reach-over.ensures.neatly.count;
    }
