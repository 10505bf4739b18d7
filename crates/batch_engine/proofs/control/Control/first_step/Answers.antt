use Rattle.std.proofs.Common.{◌≡◌, ◌<◌, sym, ap, subst, ℕ, arith, length, inl, inr}
use Rattle.batch_engine.{specs.View.EngineView, specs.Marked.HasNoMove, specs.Steps.IsLeastAt, specs.Steps.IsNext, specs.Steps.IsBatchStep, specs.Steps.index_of, proofs.BatchMarks.few, proofs.NextStep.step-map, proofs.NextStep.next-at, proofs.NextStep.none-next}
use Rattle.batch_engine.proofs.control.Control.first_step.Goals as goal
use Rattle.batch_signs.proofs.Bits.{within-or_past}

pub returns-then-marked-len : goal.returns-then-marked-len
returns-then-marked-len c =
    let v : EngineView = c.args.self.now in
    none-next v c.recall_invariant.ensures (λ j lt. elim (within-or_past j c.loop-marked.from) [
      | inl q ↦ c.loop-marked.invariant.1 j q lt
      | inr q ↦ c.requires j lt (c.in-Some.ensures.3 j q (omega (arith, lt, c.len.ensures, c.if-marked-len.true, ap (λ (z : EngineView). length z.batches) c.self.view_is)))
    ])

pub returns-in-Some-step_of : goal.returns-in-Some-step_of
returns-in-Some-step_of c =
    let v : EngineView = c.args.self.now in
    let less : c.in-Some.marked < length v.batches = omega (arith, c.len.ensures, c.if-marked-len.false, ap (λ (z : EngineView). length z.batches) c.self.view_is) in
    let before : (j : ℕ) → j < c.in-Some.marked → HasNoMove v j = λ j lt. elim (within-or_past j c.loop-marked.from) [
      | inl q ↦ c.loop-marked.invariant.1 j q (omega (arith, lt, less))
      | inr q ↦ c.requires j (omega (arith, lt, less)) (c.in-Some.ensures.3 j q lt)
    ] in
    let here : index_of c.in-Some-step_of.step ≡ c.in-Some.marked = c.in-Some-step_of.ensures.0 in (
      step-map v (IsLeastAt v c.in-Some.marked) (IsNext v) (λ m l. next-at v c.recall_invariant.ensures c.in-Some.marked m before l) c.in-Some-step_of.step c.in-Some-step_of.ensures.1,
      subst (λ n. n < length v.batches) (sym here) less,
      λ i lt. before i (subst (λ n. i < n) here lt),
    )

pub loop-marked-preserved : goal.loop-marked-preserved
loop-marked-preserved c =
    let v : EngineView = c.args.self.now in
    let here : HasNoMove v c.in-Some.marked = subst (IsBatchStep v c.in-Some.marked) c.in_default-step_of.is c.step_of.ensures in (
      omega (arith, c.in-Some.ensures.0),
      λ i lt less. elim (within-or_past i c.loop-marked.from) [
        | inl q ↦ c.loop-marked.invariant.1 i q less
        | inr q ↦ elim (within-or_past i c.in-Some.marked) [
          | inl r ↦ c.requires i less (c.in-Some.ensures.3 i q r)
          | inr r ↦ subst (HasNoMove v) (let e : c.in-Some.marked ≡ i = omega (arith, lt, r) in e) here
        ]
      ],
    )

pub returns : goal.returns
returns c =
    let v : EngineView = c.args.self.now in
    none-next v c.recall_invariant.ensures (λ j lt. elim (within-or_past j c.loop-marked.from) [
      | inl q ↦ c.loop-marked.invariant.1 j q lt
      | inr q ↦ c.requires j lt (c.in_default.ensures j q (omega (arith, lt, few v c.recall_invariant.ensures)))
    ])
