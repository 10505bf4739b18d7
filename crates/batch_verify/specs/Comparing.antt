-- private: which of two broken rules is checked first.
use Rattle.std.specs.Prelude.{Bool, true, false, ◌&&◌, ◌||◌, nat_eq, nat_lt, Option, Some, None}
use Rattle.batch_verify.specs.Refusals.{rule_number}
use Rattle.batch_verify.specs.declared.rule.Broken.{Broken}

abbrev pub is_before : Broken → Broken → Bool
is_before one other = nat_lt one.node other.node || (nat_eq one.node other.node && nat_lt (rule_number one.rule) (rule_number other.rule))

-- the one that is checked first, the former if both are the same
abbrev pub earlier_of : Option Broken → Option Broken → Option Broken
earlier_of None other = other
earlier_of (Some first) None = Some first
earlier_of (Some first) (Some second) = elim (is_before second first) [ true ↦ Some second | false ↦ Some first ]
