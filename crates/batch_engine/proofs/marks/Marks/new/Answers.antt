use Rattle.std.proofs.Common.{◌≡◌, refl, sym, ◌∙◌, ap, ℕ, arith}
use Rattle.std.{specs.Int.bit_at, specs.Prelude.◌/◌, specs.Prelude.◌%◌, proofs.lemmas.Nat.Bits.bit_at-zero}
use Rattle.batch_signs.proofs.Bits.{zeros}
use Rattle.batch_engine.proofs.marks.Marks.new.Goals as goal

pub invariant_of-result : goal.invariant_of-result
invariant_of-result c = record { count = refl; none = λ k q e. zeros 64 k; some = λ k q e. absurd (let g : ◌≡◌ {A = ℕ} 0 1 = sym (bit_at-zero k) ∙ e in omega (arith, g)) }

pub returns : goal.returns
returns c i = ap (λ w. bit_at w (i % 64)) (zeros 64 (i / 64)) ∙ bit_at-zero (i % 64)
