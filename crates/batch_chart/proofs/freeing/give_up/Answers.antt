use Rattle.std.proofs.Common.{arith, inl, inr, refl, sym}
use Rattle.batch_chart.proofs.freeing.give_up.Goals as goal

pub returns-then-end-n : goal.returns-then-end-n
returns-then-end-n c = inr (refl, refl, λ lt. absurd (omega (arith, lt, c.if-end-n.true)))

pub returns-then-is_finished : goal.returns-then-is_finished
returns-then-is_finished c = inr (refl, refl, λ lt. sym c.if-is_finished.ensures)

pub returns : goal.returns
returns c = inl c.clear.ensures
