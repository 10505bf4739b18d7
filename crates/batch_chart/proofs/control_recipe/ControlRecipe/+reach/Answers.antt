use Rattle.batch_chart.specs.declared.node.Kind.TheVariants as kind
use Rattle.batch_chart.{specs.Needs.needs_of_kind, specs.Outlined.kind_at, proofs.FewTurns.few-turns, proofs.TreePositions.within, proofs.TreePositions.below-end, proofs.TreePositions.seq-standing, proofs.TreePositions.par-standing, proofs.TreePositions.sel-standing, proofs.TreePositions.loop-standing, proofs.TreePositions.first-standing, proofs.TreePositions.rest-standing, proofs.TreePositions.choice-standing, proofs.TreePositions.choices-standing, proofs.TreePositions.choices-below, proofs.TreePositions.end-fits, proofs.ReachedTree.reached-step, proofs.ReachedTree.reached-skip, proofs.ReachedTree.reached-seq, proofs.ReachedTree.reached-par, proofs.ReachedTree.reached-sel, proofs.ReachedTree.reached-loop, proofs.ReachedTree.first-end_of_row, proofs.ReachedTree.first-later, proofs.ReachedTree.first-here, proofs.ReachedTree.each-end_of_row, proofs.ReachedTree.each-more, proofs.ReachedTree.choice-last, proofs.ReachedTree.choice-taken, proofs.ReachedTree.choice-passed, proofs.ReachedTreeSigns.neatly-ready, proofs.ReachedTreeSigns.neatly-none, proofs.ReachedTreeSigns.neatly-seq, proofs.ReachedTreeSigns.neatly-par, proofs.ReachedTreeSigns.neatly-sel, proofs.ReachedTreeSigns.neatly-loop, proofs.ReachedTreeSigns.neatly-end, proofs.ReachedTreeSigns.neatly-later, proofs.ReachedTreeSigns.neatly-here, proofs.ReachedTreeSigns.neatly-chosen, proofs.ReachedTreeSigns.neatly-passed, specs.Noting.stage_signs, specs.declared.stage.Stage.TheVariants.Ready}
use Rattle.std.proofs.Common.{rules, arith, ◌∙◌, ◌≡◌, ◌&&◌, true, false, refl, sym, ap, subst, ℕ, ◌⊎◌}
use Rattle.std.proofs.Math.ListN.{length-set}
use Rattle.batch_chart.proofs.control_recipe.ControlRecipe.+reach.Goals as goal

pub reach-bounds-self-n : goal.reach-bounds-self-n
reach-bounds-self-n t c = within _ _ _ _ c.requires.standing

pub reach-offset_bounds-self-n : goal.reach-offset_bounds-self-n
reach-offset_bounds-self-n t c = let h = within _ _ _ _ c.requires.standing in search rules

pub reach-bounds-stages-n : goal.reach-bounds-stages-n
reach-bounds-stages-n t c = let h = within _ _ _ _ c.requires.standing in omega arith

pub reach-offset_bounds-stages-n : goal.reach-offset_bounds-stages-n
reach-offset_bounds-stages-n t c = let h = within _ _ _ _ c.requires.standing in search rules

pub reach-bounds-stages-n-in-Skip : goal.reach-bounds-stages-n-in-Skip
reach-bounds-stages-n-in-Skip t c = let h = within _ _ _ _ c.requires.standing in omega arith

pub reach-offset_bounds-stages-n-in-Skip : goal.reach-offset_bounds-stages-n-in-Skip
reach-offset_bounds-stages-n-in-Skip t c = let h = within _ _ _ _ c.requires.standing in search rules

pub reach-reach_first-over-requires : goal.reach-reach_first-over-requires
reach-reach_first-over-requires t c =
    let h = within _ _ _ _ c.requires.standing in
    (omega arith, (seq-standing _ _ _ _ _ c.requires.standing (sym c.kind_of-kind.ensures ∙ c.in-Seq.is) c.requires.standing.0, c.requires.fits))

pub reach-reach_each-over-requires : goal.reach-reach_each-over-requires
reach-reach_each-over-requires t c =
    let h = within _ _ _ _ c.requires.standing in
    (omega arith, (par-standing _ _ _ _ _ c.requires.standing (sym c.kind_of-kind.ensures ∙ c.in-Par.is) c.requires.standing.0, c.requires.fits))

pub reach-reach_chosen-over-requires : goal.reach-reach_chosen-over-requires
reach-reach_chosen-over-requires t c =
    let h = within _ _ _ _ c.requires.standing in
    (omega arith, (sel-standing _ _ _ _ _ _ c.requires.standing (sym c.kind_of-kind.ensures ∙ c.in-Sel.is) c.requires.standing.0, c.requires.fits))

pub reach-reach-over-requires : goal.reach-reach-over-requires
reach-reach-over-requires t c =
    let h = within _ _ _ _ c.requires.standing in
    (omega arith, (loop-standing _ _ _ _ _ _ _ c.requires.standing (sym c.kind_of-kind.ensures ∙ c.in-Loop.is) c.requires.standing.0, c.requires.fits))

pub reach-returns-in-Phase : goal.reach-returns-in-Phase
reach-returns-in-Phase t c =
    let h = within _ _ _ _ c.requires.standing in
    let step = subst (λ κ. ((k : ℕ) × (i : ℕ) × (κ ≡ kind.Phase k i)) ⊎ ((k : ℕ) × (κ ≡ kind.Act k))) c.kind_of-kind.ensures c.in-Phase.is in
    record {
      reached = reached-step _ _ _ _ _ c.requires.standing step (omega arith);
      neatly = rw c.set.ensures (neatly-ready _ _ _ _ c.requires.standing _ _ (omega arith) (omega (arith, c.requires.fits)) (c.of_stage.ensures ∙ ap (λ k. stage_signs k (Ready 0)) (c.needs.ensures ∙ ap needs_of_kind c.kind_of-kind.ensures)) step);
    }

pub reach-returns-in-Skip : goal.reach-returns-in-Skip
reach-returns-in-Skip t c =
    let h = within _ _ _ _ c.requires.standing in
    record {
      reached = reached-skip _ _ _ _ _ c.requires.standing (sym c.kind_of-kind.ensures ∙ c.in-Skip.is) (omega arith);
      neatly = neatly-none _ _ _ _ c.requires.standing _ (omega arith);
    }

pub reach-returns-in-Seq : goal.reach-returns-in-Seq
reach-returns-in-Seq t c =
    let h = within _ _ _ _ c.requires.standing in
    record {
      reached = reached-seq _ _ _ _ _ c.requires.standing _ _ _ _ (omega arith) c.close.ensures (sym c.kind_of-kind.ensures ∙ c.in-Seq.is) c.reach_first-over.ensures.reached;
      neatly = neatly-seq _ _ _ _ c.requires.standing _ _ _ _ _ _ (omega arith) c.close.ensures (sym c.kind_of-kind.ensures ∙ c.in-Seq.is) c.reach_first-over.ensures.neatly;
    }

pub reach-returns-in-Par : goal.reach-returns-in-Par
reach-returns-in-Par t c =
    let h = within _ _ _ _ c.requires.standing in
    record {
      reached = reached-par _ _ _ _ _ c.requires.standing _ _ _ _ (omega arith) c.close-in-Par.ensures (sym c.kind_of-kind.ensures ∙ c.in-Par.is) c.reach_each-over.ensures.reached;
      neatly = neatly-par _ _ _ _ c.requires.standing _ _ _ _ _ _ (omega arith) c.close-in-Par.ensures (sym c.kind_of-kind.ensures ∙ c.in-Par.is) c.reach_each-over.ensures.neatly;
    }

pub reach-returns-in-Sel : goal.reach-returns-in-Sel
reach-returns-in-Sel t c =
    let h = within _ _ _ _ c.requires.standing in
    record {
      reached = reached-sel _ _ _ _ _ c.requires.standing _ _ _ _ (omega arith) c.close-in-Sel.ensures _ (sym c.kind_of-kind.ensures ∙ c.in-Sel.is) c.reach_chosen-over.ensures.reached;
      neatly = neatly-sel _ _ _ _ c.requires.standing _ _ _ _ _ _ (omega arith) c.close-in-Sel.ensures _ (sym c.kind_of-kind.ensures ∙ c.in-Sel.is) c.reach_chosen-over.ensures.neatly;
    }

pub reach-returns-in-Loop : goal.reach-returns-in-Loop
reach-returns-in-Loop t c =
    let h = within _ _ _ _ c.requires.standing in
    record {
      reached = reached-loop _ _ _ _ _ c.requires.standing _ _ _ _ _ _ _ c.saturating_sub.ensures (sym c.kind_of-kind.ensures ∙ c.in-Loop.is) (omega arith) c.reach-over.ensures.reached c.close_loop.ensures;
      neatly = neatly-loop _ _ _ _ c.requires.standing _ _ (sym c.kind_of-kind.ensures ∙ c.in-Loop.is) _ _ _ _ _ _ _ (omega arith) c.close_loop.ensures c.reach-over.ensures.reached.own c.reach-over.ensures.neatly;
    }

pub reach_first-reach-requires : goal.reach_first-reach-requires
reach_first-reach-requires t c = (omega arith, (first-standing _ _ _ _ _ c.if-n-end.false c.requires.standing, c.requires.fits))

pub reach_first-bounds-self-n : goal.reach_first-bounds-self-n
reach_first-bounds-self-n t c = within _ _ _ _ (first-standing _ _ _ _ _ c.if-n-end.false c.requires.standing)

pub reach_first-offset_bounds-self-n : goal.reach_first-offset_bounds-self-n
reach_first-offset_bounds-self-n t c =
    let h = within _ _ _ _ (first-standing _ _ _ _ _ c.if-n-end.false c.requires.standing) in search rules

pub reach_first-reach_first-requires : goal.reach_first-reach_first-requires
reach_first-reach_first-requires t c =
    let first = first-standing _ _ _ _ _ c.if-n-end.false c.requires.standing in
    let below = below-end _ _ _ _ first in
    let inside = within _ _ _ _ first in
    (omega arith, (rest-standing _ _ _ _ _ _ c.if-n-end.false c.requires.standing (c.reach.auto.stages ∙ c.requires.standing.0), c.reach.ensures.neatly.count ∙ c.requires.fits))

pub reach_first-returns-then-n-end : goal.reach_first-returns-then-n-end
reach_first-returns-then-n-end t c = record { reached = first-end_of_row _ _ _ _ _ _ c.if-n-end.true; neatly = neatly-end _ _ _ _ _ _ _ _ c.if-n-end.true }

pub reach_first-returns-then-reach : goal.reach_first-returns-then-reach
reach_first-returns-then-reach t c = record {
  reached = first-later _ _ _ _ _ _ c.if-n-end.false c.requires.standing _ _ _ c.if-reach.ensures.reached c.reach_first.ensures.reached;
  neatly = neatly-later _ _ _ _ _ c.if-n-end.false c.requires.standing true true true _ _ _ _ _ _ c.if-reach.ensures.reached.outside c.reach_first.ensures.reached.outside c.if-reach.ensures.reached.own (λ e. refl)
      c.if-reach.ensures.neatly c.reach_first.ensures.neatly;
}

pub reach_first-returns-else-reach : goal.reach_first-returns-else-reach
reach_first-returns-else-reach t c = record {
  reached = first-here _ _ _ _ _ _ c.if-n-end.false c.requires.standing _ c.if-reach.ensures.reached;
  neatly = neatly-here _ _ _ _ _ c.if-n-end.false c.requires.standing true true _ _ _ c.if-reach.ensures.reached.outside c.if-reach.ensures.reached.own c.if-reach.ensures.neatly;
}

pub reach_each-returns-then-n-end : goal.reach_each-returns-then-n-end
reach_each-returns-then-n-end t c = record { reached = each-end_of_row _ _ _ _ _ _ _ c.if-n-end.true; neatly = neatly-end _ _ _ _ _ _ _ _ c.if-n-end.true }

pub reach_each-reach-first-requires : goal.reach_each-reach-first-requires
reach_each-reach-first-requires t c = (omega arith, (first-standing _ _ _ _ _ c.if-n-end.false c.requires.standing, c.requires.fits))

pub reach_each-bounds-self-n : goal.reach_each-bounds-self-n
reach_each-bounds-self-n t c = within _ _ _ _ (first-standing _ _ _ _ _ c.if-n-end.false c.requires.standing)

pub reach_each-offset_bounds-self-n : goal.reach_each-offset_bounds-self-n
reach_each-offset_bounds-self-n t c =
    let h = within _ _ _ _ (first-standing _ _ _ _ _ c.if-n-end.false c.requires.standing) in search rules

pub reach_each-reach_each-requires : goal.reach_each-reach_each-requires
reach_each-reach_each-requires t c =
    let first = first-standing _ _ _ _ _ c.if-n-end.false c.requires.standing in
    let below = below-end _ _ _ _ first in
    let inside = within _ _ _ _ first in
    (omega arith, (rest-standing _ _ _ _ _ _ c.if-n-end.false c.requires.standing (c.reach-first.auto.stages ∙ c.requires.standing.0), c.reach-first.ensures.neatly.count ∙ c.requires.fits))

pub reach_each-returns : goal.reach_each-returns
reach_each-returns t c =
    let first = c.reach-first.result in
    let both : c.if-over.reach_each ≡ (c.args.over && first) =
    elim c.if-over.branch [
      | goal.reach_each-then-over w ↦ w.reach_each-is ∙ sym (ap (λ b. b && first) w.if-over.true)
      | goal.reach_each-else-over w ↦ w.reach_each-is ∙ w.if-over.false ∙ sym (ap (λ b. b && first) w.if-over.false)
    ] in
    record {
      reached = each-more _ _ _ _ _ _ c.if-n-end.false c.requires.standing _ _ _ _ _ c.reach-first.ensures.reached (rw both at c.reach_each.ensures.reached);
      neatly = neatly-later _ _ _ _ _ c.if-n-end.false c.requires.standing false c.args.over first _ _ _ _ _ _ c.reach-first.ensures.reached.outside c.reach_each.ensures.reached.outside c.reach-first.ensures.reached.own (λ e. absurd (cc))
          c.reach-first.ensures.neatly (rw both at c.reach_each.ensures.neatly);
    }

pub reach_chosen-bounds-self-n : goal.reach_chosen-bounds-self-n
reach_chosen-bounds-self-n t c = within _ _ _ _ (choice-standing _ _ _ _ _ _ c.requires.standing)

pub reach_chosen-offset_bounds-self-n : goal.reach_chosen-offset_bounds-self-n
reach_chosen-offset_bounds-self-n t c = let h = within _ _ _ _ (choice-standing _ _ _ _ _ _ c.requires.standing) in search rules

pub reach_chosen-bounds-stages-n : goal.reach_chosen-bounds-stages-n
reach_chosen-bounds-stages-n t c = let h = within _ _ _ _ (choice-standing _ _ _ _ _ _ c.requires.standing) in omega arith

pub reach_chosen-offset_bounds-stages-n : goal.reach_chosen-offset_bounds-stages-n
reach_chosen-offset_bounds-stages-n t c = let h = within _ _ _ _ (choice-standing _ _ _ _ _ _ c.requires.standing) in search rules

pub reach_chosen-reach-requires : goal.reach_chosen-reach-requires
reach_chosen-reach-requires t c = (omega arith, (choice-standing _ _ _ _ _ _ c.requires.standing, c.requires.fits))

pub reach_chosen-reach-requires-then-condition_holds : goal.reach_chosen-reach-requires-then-condition_holds
reach_chosen-reach-requires-then-condition_holds t c = (omega arith, (choice-standing _ _ _ _ _ _ c.requires.standing, c.requires.fits))

pub reach_chosen-reach_chosen-requires : goal.reach_chosen-reach_chosen-requires
reach_chosen-reach_chosen-requires t c =
    let first = choice-standing _ _ _ _ _ _ c.requires.standing in
    let below = below-end _ _ _ _ first in
    let inside = within _ _ _ _ first in
    (omega arith, (choices-standing _ _ _ _ _ _ _ c.if-next-end.false c.requires.standing (length-set _ _ _ ∙ c.requires.standing.0), c.requires.fits))

pub reach_chosen-returns-then-next-end : goal.reach_chosen-returns-then-next-end
reach_chosen-returns-then-next-end t c = record {
  reached = choice-last _ _ _ _ _ _ _ c.requires.standing _ _ c.if-next-end.true c.reach.ensures.reached;
  neatly = neatly-chosen _ _ _ _ _ _ c.requires.standing _ _ _ _ c.reach.ensures.reached.outside c.reach.ensures.reached.own c.reach.ensures.neatly;
}

pub reach_chosen-returns-then-condition_holds : goal.reach_chosen-returns-then-condition_holds
reach_chosen-returns-then-condition_holds t c = record {
  reached = choice-taken _ _ _ _ _ _ _ c.requires.standing _ _ c.if-next-end.false c.if-condition_holds.ensures c.reach-then-condition_holds.ensures.reached;
  neatly = neatly-chosen _ _ _ _ _ _ c.requires.standing _ _ _ _ c.reach-then-condition_holds.ensures.reached.outside c.reach-then-condition_holds.ensures.reached.own c.reach-then-condition_holds.ensures.neatly;
}

pub reach_chosen-returns : goal.reach_chosen-returns
reach_chosen-returns t c =
    let h = within _ _ _ _ (choice-standing _ _ _ _ _ _ c.requires.standing) in
    record {
      reached = choice-passed _ _ _ _ _ _ _ c.requires.standing _ _ (omega arith) c.if-next-end.false c.if-condition_holds.ensures c.reach_chosen.ensures.reached;
      neatly = neatly-passed _ _ _ _ _ _ c.requires.standing _ _ _ _ (omega arith) c.reach_chosen.ensures.reached.outside c.reach_chosen.ensures.neatly;
    }

pub reach_chosen-overflow_add-condition : goal.reach_chosen-overflow_add-condition
reach_chosen-overflow_add-condition t c =
    let h = choices-below _ _ _ _ _ _ c.if-next-end.false c.requires.standing in search rules

pub reach-overflow_cast-end : goal.reach-overflow_cast-end
reach-overflow_cast-end t c = let h = end-fits _ _ _ _ c.requires.standing in search rules

pub reach-overflow_cast-saturating_sub : goal.reach-overflow_cast-saturating_sub
reach-overflow_cast-saturating_sub t c =
    let few = few-turns c.args.self.now.master.now c.args.n c.in-Loop.turns c.in-Loop.until
    (subst (λ es. kind_at es c.args.n ≡ kind.Loop c.in-Loop.turns c.in-Loop.until) c.args.self.now.own (sym c.kind_of-kind.ensures ∙ c.in-Loop.is)) in
    omega (arith, few, c.saturating_sub.ensures)
