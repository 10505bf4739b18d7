-- The number that a word gives.
use Rattle.std.proofs.Common.{◌≡◌, ◌≤◌, ℕ, Bool, true, false, List, MatchOption, None, Option, Some, refl, sym, unwrap_or}
use Rattle.std.specs.Str.Parse.{digits_value, without_leading_plus}
use Rattle.clap.{specs.Values.IsUnsignedIn, specs.ValueTests.is_unsigned_in, proofs.ValueTestLemmas.accepts-Accepts, proofs.ValueTestLemmas.Accepts-accepts}
use Rattle.clap.specs.declared.builder.value_parser.ValueParser.TheVariants as parser
use Rattle.batch_cli.specs.CommandLine.{number_given}

-- a number of the range is the one that the word gives
pub number_is : (least most usual n : ℕ) (text : List ℕ) → IsUnsignedIn least most text × (n ≡ digits_value 10 (without_leading_plus text))
    → n ≡ number_given least most usual (Some text)
number_is least most usual n text (within, is) = rw (Accepts-accepts false (parser.Unsigned least most) text within) is

-- a word that gives none in the range gives the usual number
pub number_is_none : (least most usual : ℕ) (text : List ℕ) → (IsUnsignedIn least most text → ⊥) → usual ≡ number_given least most usual (Some text)
number_is_none least most usual text outside = by_test (is_unsigned_in least most text) refl
  where
    by_test : (b : Bool) → is_unsigned_in least most text ≡ b → usual ≡ number_given least most usual (Some text)
    by_test true is = absurd (outside (accepts-Accepts false (parser.Unsigned least most) text is))
    by_test false is = rw is refl

-- the number of the range that the word gives, or else the usual one
pub number_or : (least most usual : ℕ) (text : List ℕ) (given : Option ℕ)
    → MatchOption given (IsUnsignedIn least most text → ⊥) (λ n. IsUnsignedIn least most text × (n ≡ digits_value 10 (without_leading_plus text)))
    → unwrap_or given usual ≡ number_given least most usual (Some text)
number_or least most usual text None outside = number_is_none least most usual text outside
number_or least most usual text (Some n) is = number_is least most usual n text is

pub number_or-within : (least most usual : ℕ) (text : List ℕ) (given : Option ℕ) → (least ≤ usual) × (usual ≤ most)
    → MatchOption given (IsUnsignedIn least most text → ⊥) (λ n. IsUnsignedIn least most text × (n ≡ digits_value 10 (without_leading_plus text)))
    → (least ≤ unwrap_or given usual) × (unwrap_or given usual ≤ most)
number_or-within least most usual text None within outside = within
number_or-within least most usual text (Some n) within (is, read) = rw read (is.2, is.3)
