-- The numbers that nineteen digits write.
use Rattle.std.proofs.Common.{◌≡◌, ℕ, ◌^◌, ◌-◌, ◌<◌, ◌≤◌, true, List, arith, rules}
use Rattle.std.proofs.lemmas.Str.Parse.{digits_value_short, numerals_by_value, IsNumeralModel}
use Rattle.batch_text.specs.NumberText.{is_digits, number_of, IsNumber}

-- `is_digits` tells the texts that are decimal digits
decimal_digits : IsNumeralModel (λ ds. is_digits ds ≡ true) number_of
decimal_digits = numerals_by_value _ (search rules)

pub number_fits : (bytes : List ℕ) → IsNumber bytes → number_of bytes ≤ 2 ^ 64 - 1
number_fits bytes number = let bound : number_of bytes < 10 ^ 19 = digits_value_short decimal_digits bytes 19 number.digits number.short in omega (arith, bound)
