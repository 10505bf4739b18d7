-- The test `is_name` tells the texts that are names.
use Rattle.std.proofs.Common.{◌≡◌, ℕ, ◌↔◌, true, List, length}
use Rattle.std.proofs.lemmas.Bool.{and_from, and_parts, leb-true, le-leb}
use Rattle.batch_text.specs.{NameText.is_name, NameText.is_name_spelling, NameText.IsName, declared.name.TheConstants.MAX_NAME_LEN}

-- the test is true exactly of the names
pub is_name-true : (bytes : List ℕ) → (is_name bytes ≡ true) ↔ IsName bytes
is_name-true bytes = (
  λ test.
      let (spelled, short) = and_parts (is_name_spelling bytes) _ test in
      record { spelled = spelled; short = leb-true (length bytes) MAX_NAME_LEN short },
  λ name. and_from _ _ name.spelled (le-leb (length bytes) MAX_NAME_LEN name.short),
)
