use Rattle.std.proofs.Common.{◌≡◌, ◌<◌, ◌∙◌, sym, ap, subst, ℕ, arith, length, inl, inr}
use Rattle.std.proofs.lemmas.Bool.Decides.{eqb_tells}
use Rattle.batch_engine.{specs.View.EngineView, specs.Marked.HasNoMove, specs.Marks.IsUnmarked, specs.Marks.mark_at, specs.Steps.IsLeastAt, specs.Steps.IsNext, specs.Steps.IsBatchStep, specs.Steps.index_of, proofs.BatchMarks.few, proofs.NextStep.step-map, proofs.NextStep.next-at, proofs.NextStep.none-next}
use Rattle.batch_engine.proofs.control.Control.take_step.Goals as goal
use Rattle.batch_signs.proofs.Bits.{one-not_zero, with-zero_other, within-or_past}

pub returns-then-index-len-clause-step : goal.returns-then-index-len-clause-step
returns-then-index-len-clause-step c =
    let v : EngineView = c.args.self.now in
    none-next v c.recall_invariant.ensures (λ j lt. elim (within-or_past j c.loop-index.from) [
      | inl q ↦ c.loop-index.invariant.none j q lt
      | inr q ↦ c.loop-index.invariant.marked j lt (c.in-Some.ensures.3 j q (omega (arith, lt, c.len.ensures, c.if-index-len.true, ap (λ (z : EngineView). length z.batches) c.self.view_is)))
    ])

pub returns-in-Some-batch_step-clause-step : goal.returns-in-Some-batch_step-clause-step
returns-in-Some-batch_step-clause-step c =
    let v : EngineView = c.args.self.now in
    let less : c.in-Some.index < length v.batches = omega (arith, c.len.ensures, c.if-index-len.false, ap (λ (z : EngineView). length z.batches) c.self.view_is) in
    let before : (j : ℕ) → j < c.in-Some.index → HasNoMove v j = λ j lt. elim (within-or_past j c.loop-index.from) [
      | inl q ↦ c.loop-index.invariant.none j q (omega (arith, lt, less))
      | inr q ↦ c.loop-index.invariant.marked j (omega (arith, lt, less)) (c.in-Some.ensures.3 j q lt)
    ] in
    let here : index_of c.in-Some-batch_step.step ≡ c.in-Some.index = c.in-Some-batch_step.ensures.0 in (
      step-map v (IsLeastAt v c.in-Some.index) (IsNext v) (λ m l. next-at v c.recall_invariant.ensures c.in-Some.index m before l) c.in-Some-batch_step.step c.in-Some-batch_step.ensures.1,
      subst (λ n. n < length v.batches) (sym here) less,
      λ i lt. before i (subst (λ n. i < n) here lt),
    )

pub returns-in-Some-batch_step-clause-set : goal.returns-in-Some-batch_step-clause-set
returns-in-Some-batch_step-clause-set c = λ u. one-not_zero _ c.in-Some.ensures.2 (subst (IsUnmarked c.loop-index.marks) c.in-Some-batch_step.ensures.0 u)

pub loop-index-init : goal.loop-index-init
loop-index-init c = record { within = omega arith; none = λ i lt less. absurd (omega (arith, lt)); marked = c.requires }

pub loop-index-preserved : goal.loop-index-preserved
loop-index-preserved c =
    let v : EngineView = c.args.self.now in
    let here : HasNoMove v c.in-Some.index = subst (IsBatchStep v c.in-Some.index) c.in_default-batch_step.is c.batch_step.ensures in
    record {
      within = omega (arith, c.in-Some.ensures.0);
      none = λ i lt less. elim (within-or_past i c.loop-index.from) [
        | inl q ↦ c.loop-index.invariant.none i q less
        | inr q ↦ elim (within-or_past i c.in-Some.index) [
          | inl r ↦ c.loop-index.invariant.marked i less (c.in-Some.ensures.3 i q r)
          | inr r ↦ subst (HasNoMove v) (let e : c.in-Some.index ≡ i = omega (arith, lt, r) in e) here
        ]
      ];
      marked = λ i less u. elim (eqb_tells i c.in-Some.index) [
        | inl q ↦ subst (HasNoMove v) (sym q.1) here
        | inr q ↦ c.loop-index.invariant.marked i less (sym (c.clear.ensures i ∙ with-zero_other c.in-Some.index i (mark_at c.loop-index.marks) q.0) ∙ u)
      ];
    }

pub returns-clause-step : goal.returns-clause-step
returns-clause-step c =
    let v : EngineView = c.args.self.now in
    none-next v c.recall_invariant.ensures (λ j lt. elim (within-or_past j c.loop-index.from) [
      | inl q ↦ c.loop-index.invariant.none j q lt
      | inr q ↦ c.loop-index.invariant.marked j lt (c.in_default.ensures j q (omega (arith, lt, few v c.recall_invariant.ensures)))
    ])
