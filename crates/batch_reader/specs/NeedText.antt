-- trusted: the texts that are needs: the name of a resource, and after a star how many units of it.
use Rattle.std.specs.Prelude.{◌≡◌, ℕ, ◌+◌, ◌≤◌, Bool, nat_eq, Option, Some, None, List, take, drop, position}
use Rattle.batch_text.specs.NameText.{IsName}
use Rattle.batch_text.specs.NumberText.{IsNumber, number_of}
use Rattle.batch_recipe.specs.declared.need.Need.{Need}
use Rattle.batch_recipe.specs.declared.need.TheConstants.{MAX_NEED_UNITS}

-- the byte is `*`
abbrev pub is_star : ℕ → Bool
is_star byte = nat_eq byte 42

-- the text is the number of units, which is in range
pub record IsUnits (text : List ℕ) (units : ℕ) : Type 0 where
  pub number : IsNumber text
  pub value : units ≡ number_of text
  pub some : 1 ≤ units
  pub few : units ≤ MAX_NEED_UNITS

-- the name ends at the first star, and the number of units begins after it; without a star it is one unit
abbrev pub IsNeedCut : Option ℕ → List ℕ → Need → Type 0
IsNeedCut None text need = IsName text × (need.resource ≡ text) × (need.units ≡ 1)
IsNeedCut (Some star) text need = IsName (take star text) × (need.resource ≡ take star text) × IsUnits (drop (star + 1) text) need.units

abbrev pub IsNeedText : List ℕ → Need → Type 0
IsNeedText text need = IsNeedCut (position is_star text) text need
