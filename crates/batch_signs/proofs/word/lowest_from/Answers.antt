use Rattle.std.proofs.Common.{refl, arith, ◌<◌, ℕ, ◌*◌, ◌%◌, bit_and}
use Rattle.std.{specs.Prelude.◌^◌, specs.Prelude.◌-◌, proofs.lemmas.Nat.and_le_l}
use Rattle.batch_signs.proofs.Bits.{nothing, lowest, not-zero}
use Rattle.batch_signs.proofs.word.lowest_from.Goals as goal

pub returns-then-rest-eq0 : goal.returns-then-rest-eq0
returns-then-rest-eq0 c = nothing c.args.word c.args.from c.ranges.word.fits c.requires _ refl c.if-rest-eq0.true

pub returns : goal.returns
returns c =
    let fits : c.args.word < 2 ^ 64 = c.ranges.word.fits in
    let rest : ℕ = bit_and c.args.word ((2 ^ 64 - 1) * 2 ^ c.args.from % 2 ^ 64) in
    lowest c.args.word c.args.from fits c.requires rest refl (not-zero rest c.if-rest-eq0.false) (omega (arith, and_le_l c.args.word ((2 ^ 64 - 1) * 2 ^ c.args.from % 2 ^ 64), fits))
