-- trusted: where a name keeps its bytes.
use Rattle.std.specs.Prelude.{ℕ, ◌-◌, ◌≤◌, ◌≡◌, List, length, take, drop, replicate}
use Rattle.batch_text.specs.declared.spelling.Spelling.{Spelling}
use Rattle.batch_text.specs.declared.spelling.Spelling.TheVariants.{Short, Long}
use Rattle.batch_text.specs.declared.spelling.TheConstants.{MAX_SHORT_LEN}
use Rattle.batch_text.specs.declared.name.TheConstants.{MAX_NAME_LEN}

-- the bytes that it keeps
abbrev pub letters : Spelling → List ℕ
letters (Short len bytes) = take len bytes
letters (Long len bytes) = take len bytes.value

-- they lie within its room, and the rest of a short name's is zeroes, so that its bytes are compared whole
abbrev pub IsWithinRoom : Spelling → Type 0
IsWithinRoom (Short len bytes) = (len ≤ MAX_SHORT_LEN) × (length bytes ≡ MAX_SHORT_LEN) × (drop len bytes ≡ replicate (MAX_SHORT_LEN - len) 0)
IsWithinRoom (Long len bytes) = len ≤ MAX_NAME_LEN
