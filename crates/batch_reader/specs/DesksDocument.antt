-- trusted: the meaning of a document of desks.
use Rattle.std.specs.Prelude.{◌≡◌, ℕ, ◌≤◌, ◌⊎◌, Bool, true, ◌||◌, List, Option, Some, None, is_some, option_map, string_bytes, length, codes}
use Rattle.toml.specs.Data.{Members, get_member}
use Rattle.batch_reader.specs.Entries.{IsDocument, HasName, HasNumber, HasTables, HasText, IsTruth, MayHaveName, has_only_key}
use Rattle.batch_reader.specs.Keys.{has_known_keys}
use Rattle.batch_reader.specs.declared.fault.TableKind.TheVariants as table
use Rattle.batch_reader.specs.declared.keys.TheConstants.{MAX_LAG, MAX_PATH_LEN}
use Rattle.batch_reader.specs.DeskNames.{HaveDistinctNames}
use Rattle.batch_reader.specs.declared.desk.Desk.{Desk}
use Rattle.batch_reader.specs.declared.desk.TheConstants.{USUAL_LAG}
use Rattle.batch_reader.specs.declared.desk_set.Desks.{Desks}
use Rattle.batch_reader.specs.declared.desk_set.TheConstants.{MAX_DESKS}

-- the key has the path: a text of some bytes, and not too many
pub record HasPath (key : List ℕ) (ms : Members) (path : List ℕ) : Type 0 where
  pub text : HasText key ms MAX_PATH_LEN path
  pub some : 1 ≤ length path

-- the key has the path; where it is missing, there is none
abbrev pub MayHavePath : List ℕ → Members → Option (List ℕ) → Type 0
MayHavePath key ms None = get_member key ms ≡ None
MayHavePath key ms (Some path) = HasPath key ms path

-- `lag` has the number, which is in range; where it is missing, it is the usual one
abbrev pub HasLag : Members → ℕ → Type 0
HasLag ms lag = HasNumber (codes "lag") ms 1 MAX_LAG lag ⊎ ((get_member (codes "lag") ms ≡ None) × (lag ≡ USUAL_LAG))

-- lines come from the desk, or go to it
abbrev pub has_way : Members → Bool
has_way ms = is_some (get_member (codes "input") ms) || is_some (get_member (codes "output") ms)

-- the table stands for the desk
pub record IsDeskTable (ms : Members) (desk : Desk) : Type 0 where
  pub keys : has_known_keys table.Desk ms ≡ true
  pub name : HasName (codes "name") ms desk.name
  pub input : MayHavePath (codes "input") ms (option_map string_bytes desk.input)
  pub output : MayHavePath (codes "output") ms (option_map string_bytes desk.output)
  pub some_way : has_way ms ≡ true
  pub unit : MayHaveName (codes "unit") ms desk.unit
  pub stays : IsTruth (codes "stays") ms desk.stays
  pub lag : HasLag ms desk.lag

-- the table of a whole document stands for the desks
pub record IsDesksTable (ms : Members) (desks : Desks) : Type 0 where
  pub keys : has_only_key (codes "desk") ms ≡ true
  pub tables : HasTables IsDeskTable (codes "desk") ms desks.desks.items
  pub some_desk : 1 ≤ length desks.desks.items
  pub few_desks : length desks.desks.items ≤ MAX_DESKS
  pub distinct : HaveDistinctNames desks.desks.items

-- the bytes are a document that stands for the desks
abbrev pub IsDesksDocument : List ℕ → Desks → Type 0
IsDesksDocument bytes desks = IsDocument IsDesksTable bytes desks
