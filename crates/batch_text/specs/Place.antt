-- surface: the numbers that are a place.
use Rattle.std.specs.Prelude.{ℕ, ◌<◌, ◌≤◌, List, length, All}
use Rattle.batch_text.specs.declared.place.TheConstants.{MAX_PLACE_LEN, MAX_CHILD_NUMBER}

-- one number for each level from the root down
pub record IsPlace (numbers : List ℕ) : Type 0 where
  pub some : 0 < length numbers
  pub few : length numbers ≤ MAX_PLACE_LEN
  pub in_range : All (λ n. n ≤ MAX_CHILD_NUMBER) numbers
