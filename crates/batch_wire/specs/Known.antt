-- trusted: places whose texts are kept.
use Rattle.std.specs.Prelude.{◌≡◌, ℕ, ◌+◌, ◌-◌, ◌≤◌, ◌<◌, ◌⊎◌, List, Option, Some, codes, decimal, drop, length, take, get_or, slice_set}
use Rattle.std.specs.List.{All}
use Rattle.batch_recipe.specs.Texts.{place_text}
use Rattle.batch_verify.specs.ClearedSet.{ClearedSet}
use Rattle.batch_engine.specs.Names.{recipe_place_at}
use Rattle.batch_wire.specs.declared.known_places.KnownPlaces.{KnownPlaces}
use Rattle.batch_wire.specs.declared.line_room.LineRoom.{LineRoom}
use Rattle.batch_wire.specs.declared.recipe_places.Known.{Known}
use Rattle.batch_wire.specs.declared.recipe_places.RecipePlaces.{RecipePlaces}

abbrev pub known_at : RecipePlaces → ℕ → Known
known_at k i = get_or k.path i (record { node = 0; end = 0 })

-- a space is before the place, and before it are the digits of the batch
pub record HoldsBatch (batch : Option ℕ) (start : ℕ) (text : List ℕ) : Type 0 where
  pub space : drop 23 (take 24 text) ≡ codes " "
  pub digits : (n : ℕ) → batch ≡ Some n → (start ≤ 23) × (drop start (take 23 text) ≡ decimal n)

-- the text that is kept begins with that of each node kept, from its 24th byte on
pub record AreKnownBy (text_of : ℕ → List ℕ) (k : RecipePlaces) : Type 0 where
  pub batch : HoldsBatch k.batch k.start k.text
  pub few : k.depth ≤ 192
  pub rise : (i j : ℕ) → i ≤ j → j < k.depth → (known_at k i).end ≤ (known_at k j).end
  pub fit : (i : ℕ) → i < k.depth → (24 ≤ (known_at k i).end) × ((known_at k i).end ≤ 408)
  pub told : (i : ℕ) → i < k.depth → drop 24 (take (known_at k i).end k.text) ≡ text_of (known_at k i).node

-- the places kept are those of a recipe of the set
abbrev pub AreKnownIn : ClearedSet → RecipePlaces → Type 0
AreKnownIn c k = AreKnownBy (λ node. place_text (recipe_place_at c k.recipe node)) k

-- and those of all entries
abbrev pub AreKnown : ClearedSet → KnownPlaces → Type 0
AreKnown c k = All (AreKnownIn c) k.entries

-- the text that waits to be written
abbrev pub waiting_in : LineRoom → List ℕ
waiting_in room = take room.len room.bytes

abbrev pub waiting : KnownPlaces → List ℕ
waiting k = waiting_in k.line

-- a text ends there, after all kept ones
pub record EndsAt (text : List ℕ) (end : ℕ) (k : RecipePlaces) : Type 0 where
  pub from : 24 ≤ end
  pub within : end ≤ 408
  pub last : (i : ℕ) → i < k.depth → (known_at k i).end ≤ end
  pub told : drop 24 (take end k.text) ≡ text

-- the node is the last one, and the text of its place ends there
abbrev pub IsLast : ℕ → ℕ → RecipePlaces → Type 0
IsLast node end k = (1 ≤ k.depth) × ((known_at k (k.depth - 1)).node ≡ node) × ((known_at k (k.depth - 1)).end ≡ end)

-- the last nodes were forgotten, or none
pub record IsCutBack (old new : RecipePlaces) : Type 0 where
  pub fewer : new.depth ≤ old.depth
  pub path : new.path ≡ old.path
  pub text : new.text ≡ old.text
  pub batch : new.batch ≡ old.batch
  pub start : new.start ≡ old.start
  pub recipe : new.recipe ≡ old.recipe

-- a node is kept after the others
pub record IsAdded (node end : ℕ) (old new : RecipePlaces) : Type 0 where
  pub room : old.depth < 192
  pub all : length old.path ≡ 192
  pub deeper : new.depth ≡ old.depth + 1
  pub path : new.path ≡ slice_set old.path old.depth (record { node = node; end = end })

-- the node is added, or nothing changed, for want of room
pub record IsAddedIfRoom (node end : ℕ) (old new : RecipePlaces) : Type 0 where
  pub text : new.text ≡ old.text
  pub batch : new.batch ≡ old.batch
  pub start : new.start ≡ old.start
  pub recipe : new.recipe ≡ old.recipe
  pub path : ((new.depth ≡ old.depth) × (new.path ≡ old.path)) ⊎ IsAdded node end old new
