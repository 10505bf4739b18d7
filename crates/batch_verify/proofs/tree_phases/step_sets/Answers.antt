use Rattle.std.proofs.Common.{◌≡◌, ◌+◌, ◌++◌, ◌∷◌, [], ℕ, Some, drop, length, slice_get, take, refl, sym, ap, ◌∙◌, subst, arith, inl, inr}
use Rattle.std.proofs.lemmas.{List.length-append, List.length-take-le, List.take-append-drop, List.take_more, Option.slice_get_read}
use Rattle.batch_recipe.{specs.Conditions.Name, specs.declared.act.Act.Act, proofs.FirstMatch.position_front}
use Rattle.batch_verify.{specs.NodePhases.phase_run, specs.PhaseSets.IsSetOf, specs.PhaseSets.number_in, specs.PhaseSets.number_of, specs.PhaseSets.runs, proofs.Faults.one_more, proofs.PhaseSets.IsSetOf-none, proofs.PhaseSets.IsSetOf-one, proofs.PhaseSets.numbered, proofs.PhaseSets.numbered_own, proofs.PhaseSets.numbered_still}
use Rattle.batch_verify.proofs.tree_phases.step_sets.Goals as goal
use Rattle.batch_verify.proofs.tree_phases.step_sets.Goals.{in-Follows, in-Runs+in_ok-number_of-in-Runs}

pub loop-index-preserved : goal.loop-index-preserved
loop-index-preserved c =
    let i = c.loop-index.index in
    let steps = c.args.steps.now in
    let inv = c.loop-index.invariant in
    let a = c.index-steps-index.result in
    let prior = take i steps in
    let at = slice_get_read steps (length steps) i a refl c.loop-index-test.true c.index-steps-index.is in
    let more : prior ++ a ∷ [] ≡ take (i + 1) steps = ap (λ x. prior ++ x ∷ []) c.index-steps-index.is ∙ sym (take_more steps i a c.loop-index-test.true) in
    let size : i ≡ length prior = sym (length-take-le i steps (omega (arith, c.loop-index-test.true))) in
    let whole : (phase : Name) (n : ℕ) → number_of (prior ++ a ∷ []) phase ≡ Some n → number_of steps phase ≡ Some n =
    λ phase n is. ap (λ acts. number_of acts phase) (sym (take-append-drop (i + 1) steps)) ∙ position_front (runs phase) (take (i + 1) steps) (drop (i + 1) steps) n (ap (λ acts. number_of acts phase) (sym more) ∙ is) in
    let next : ((phase : Name) → number_in c.match-step.numbers.entries phase ≡ number_of (prior ++ a ∷ []) phase) × IsSetOf steps (phase_run a.work) c.match-step.set = elim c.match-step.branch [
      | in-Follows w ↦
          let run = ap phase_run w.in-Follows.is in (
            λ phase. rw w.numbers-is (inv.known phase ∙ sym (numbered_still prior a phase run)),
            rw w.set-is (subst (λ xs. IsSetOf steps xs w.new-set.result) (sym run) (IsSetOf-none steps w.new-set.result w.new-set.ensures)),
          )
      | in-Runs+in_ok-number_of-in-Runs w ↦
          let run = ap phase_run w.in-Runs.is in
          let gives = w.in_ok-number_of-in-Runs.ensures in
          let known = numbered prior a w.in-Runs.phase c.loop-index.numbers.entries w.number_of.new.numbers.entries i w.in_ok-number_of-in-Runs.field-0 run size inv.known gives in (
            λ phase. rw w.numbers-is (known phase),
            rw w.set-is (subst (λ xs. IsSetOf steps xs w.of-set.result) (sym run)
                (IsSetOf-one steps w.in-Runs.phase w.in_ok-number_of-in-Runs.field-0 w.of-set.result w.of-set.ensures (whole w.in-Runs.phase _ (sym (known w.in-Runs.phase) ∙ numbered_own gives)))),
          )
    ] in
    let here : (b : Act) → Some a ≡ Some b → a ≡ b = λ b e. cc in
    rw c.in_ok-push.ensures.items (record {
      many = omega (arith, inv.many, length-append c.loop-index.sets.items (c.match-step.set ∷ []));
      known = λ phase. next.0 phase ∙ ap (λ acts. number_of acts phase) more;
      each = λ k b set b_is set_is. elim (one_more c.loop-index.sets.items c.match-step.set i k set inv.many set_is) [
        | inl old ↦ inv.each k b set b_is old.1
        | inr new ↦
            let same = here b (sym at ∙ (ap (slice_get steps) (sym new.0) ∙ b_is)) in
            subst (IsSetOf steps (phase_run b.work)) new.1 (subst (λ (x : Act). IsSetOf steps (phase_run x.work) c.match-step.set) same next.1)
      ];
    })
