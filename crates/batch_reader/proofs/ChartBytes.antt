-- The kinds of bytes exclude one another.
use Rattle.std.proofs.Common.{◌≡◌, ℕ, true, false, eqb, arith}
use Rattle.std.{proofs.lemmas.Bool.Decides.nat_tests, specs.Char.is_ascii_alphabetic, specs.Char.is_ascii_digit}
use Rattle.batch_text.specs.NameText.{is_name_byte}
use Rattle.batch_reader.specs.ChartGrammar.{is_chart_space}

pub letter-no_space : (b : ℕ) → is_ascii_alphabetic b ≡ true → is_chart_space b ≡ false
letter-no_space b h = grind (arith, nat_tests)

pub digit-no_space : (b : ℕ) → is_ascii_digit b ≡ true → is_chart_space b ≡ false
digit-no_space b h = grind (arith, nat_tests)

pub digit-no_letter : (b : ℕ) → is_ascii_digit b ≡ true → is_ascii_alphabetic b ≡ false
digit-no_letter b h = grind (arith, nat_tests)

pub space-no_name_byte : (b : ℕ) → is_chart_space b ≡ true → is_name_byte b ≡ false
space-no_name_byte b h = grind (arith, nat_tests)

pub space-not_equals : (b : ℕ) → is_chart_space b ≡ true → eqb b 61 ≡ false
space-not_equals b h = grind (arith, nat_tests)

pub letter-not_equals : (b : ℕ) → is_ascii_alphabetic b ≡ true → eqb b 61 ≡ false
letter-not_equals b h = grind (arith, nat_tests)

pub digit-not_equals : (b : ℕ) → is_ascii_digit b ≡ true → eqb b 61 ≡ false
digit-not_equals b h = grind (arith, nat_tests)
