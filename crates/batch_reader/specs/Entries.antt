-- trusted: the meaning of the entries of a table, and of a document by its table.
use Rattle.std.specs.Prelude.{◌≡◌, ℕ, ◌≤◌, pos, Bool, true, false, ◌&&◌, ◌⊎◌, ⊤, List, [], ◌∷◌, length, Option, Some, None, option_and_then, nat_eq, IsUtf8}
use Rattle.std.specs.Cmp.Lexicographic.{pointwise}
use Rattle.std.specs.Option.{option_map_or}
use Rattle.toml.specs.Data.{Data, Items, no_items, item, Members, no_members, member, get_member, as_str, as_integer, as_bool, as_array, as_table}
use Rattle.toml.specs.Parse.{parse_document}
use Rattle.batch_text.specs.NameText.{IsName}
use Rattle.batch_recipe.specs.Diagram.{Diagram}
use Rattle.batch_recipe.specs.declared.need.Need.{Need}
use Rattle.batch_reader.specs.ChartGrammar.{IsChart, IsLabel}
use Rattle.batch_reader.specs.declared.chart_reading.TheConstants.{MAX_CHART_LEN}
use Rattle.batch_reader.specs.NeedText.{IsNeedText}
use Rattle.batch_reader.specs.declared.document.TheConstants.{MAX_DOCUMENT_LEN}

-- each key of the table is so
abbrev pub all_keys : (List ℕ → Bool) → Members → Bool
all_keys is_so no_members = true
all_keys is_so (member key d ms) = is_so key && all_keys is_so ms

-- each key of the table is this one
abbrev pub has_only_key : List ℕ → Members → Bool
has_only_key key ms = all_keys (λ word. pointwise nat_eq word key) ms

-- the value is a text, which is the name
pub record IsNameItem (d : Data) (name : List ℕ) : Type 0 where
  pub text : as_str d ≡ Some name
  pub valid : IsName name

-- the value is a text, which is the need
pub record IsNeedItem (d : Data) (need : Need) : Type 0 where
  pub text : List ℕ
  pub found : as_str d ≡ Some text
  pub says : IsNeedText text need

-- the key has a text, which is the name
pub record HasName (key : List ℕ) (ms : Members) (name : List ℕ) : Type 0 where
  pub text : option_and_then as_str (get_member key ms) ≡ Some name
  pub valid : IsName name

-- the key has a text, which is the name and none of the words of charts
pub record HasLabel (key : List ℕ) (ms : Members) (name : List ℕ) : Type 0 where
  pub text : option_and_then as_str (get_member key ms) ≡ Some name
  pub label : IsLabel name

-- the key has the name; where it is missing, there is none
abbrev pub MayHaveName : List ℕ → Members → Option (List ℕ) → Type 0
MayHaveName key ms None = get_member key ms ≡ None
MayHaveName key ms (Some name) = HasName key ms name

-- the key has the name; where it is missing, the name is this other one
abbrev pub HasNameOr : List ℕ → Members → List ℕ → List ℕ → Type 0
HasNameOr key ms other name = HasName key ms name ⊎ ((get_member key ms ≡ None) × (name ≡ other))

-- the key has the text, of at most so many bytes
pub record HasText (key : List ℕ) (ms : Members) (most : ℕ) (text : List ℕ) : Type 0 where
  pub found : option_and_then as_str (get_member key ms) ≡ Some text
  pub short : length text ≤ most

-- the key has the text; where it is missing, there is none
abbrev pub MayHaveText : List ℕ → Members → ℕ → Option (List ℕ) → Type 0
MayHaveText key ms most None = get_member key ms ≡ None
MayHaveText key ms most (Some text) = HasText key ms most text

-- the key has a text of the chart
pub record HasChart (key : List ℕ) (ms : Members) (chart : Diagram) : Type 0 where
  pub text : List ℕ
  pub found : HasText key ms MAX_CHART_LEN text
  pub is_chart : IsChart text chart

-- the key has the truth value; where it is missing, it is false
abbrev pub IsTruth : List ℕ → Members → Bool → Type 0
IsTruth key ms b = option_map_or as_bool (get_member key ms) (Some false) ≡ Some b

-- the key has the number, which is in range
pub record HasNumber (key : List ℕ) (ms : Members) (low high number : ℕ) : Type 0 where
  pub integer : option_and_then as_integer (get_member key ms) ≡ Some (pos number)
  pub at_least : low ≤ number
  pub at_most : number ≤ high

-- the items say the values, one for one and in order
abbrev pub AllItems : {X : Type 0} → (Data → X → Type 0) → Items → List X → Type 0
AllItems R no_items [] = ⊤
AllItems R no_items (x ∷ xs) = ⊥
AllItems R (item d ds) [] = ⊥
AllItems R (item d ds) (x ∷ xs) = R d x × AllItems R ds xs

-- the key has a list of texts, which are the names
pub record HasNames (key : List ℕ) (ms : Members) (names : List (List ℕ)) : Type 0 where
  pub items : Items
  pub found : option_and_then as_array (get_member key ms) ≡ Some items
  pub listed : AllItems IsNameItem items names

-- the items of the array at a key, none where the key is missing
abbrev pub items_at : List ℕ → Members → Option Items
items_at key ms = option_map_or as_array (get_member key ms) (Some no_items)

-- the key has a list of at most so many items, which say the values; where it is missing, there are none
pub record HasFew {X : Type 0} (R : Data → X → Type 0) (key : List ℕ) (ms : Members) (most : ℕ) (values : List X) : Type 0 where
  pub items : Items
  pub found : items_at key ms ≡ Some items
  pub listed : AllItems R items values
  pub few : length values ≤ most

-- texts that are names
abbrev pub HasFewNames : List ℕ → Members → ℕ → List (List ℕ) → Type 0
HasFewNames key ms most names = HasFew IsNameItem key ms most names

-- texts that are needs
abbrev pub HasFewNeeds : List ℕ → Members → ℕ → List Need → Type 0
HasFewNeeds key ms most needs = HasFew IsNeedItem key ms most needs

-- the key has a table that stands for x
pub record HasTable {X : Type 0} (R : Members → X → Type 0) (key : List ℕ) (ms : Members) (x : X) : Type 0 where
  pub members : Members
  pub found : option_and_then as_table (get_member key ms) ≡ Some members
  pub stands_for : R members x

-- the item is a table that stands for x
pub record IsTableOf {X : Type 0} (R : Members → X → Type 0) (d : Data) (x : X) : Type 0 where
  pub members : Members
  pub is_table : as_table d ≡ Some members
  pub stands_for : R members x

-- the tables at the key stand for the values, one for one and in order
pub record HasTables {X : Type 0} (R : Members → X → Type 0) (key : List ℕ) (ms : Members) (values : List X) : Type 0 where
  pub items : Items
  pub found : items_at key ms ≡ Some items
  pub tables : AllItems (IsTableOf R) items values

-- the bytes are a document of at most so many bytes, whose table stands for x
pub record IsDocument {X : Type 0} (R : Members → X → Type 0) (bytes : List ℕ) (x : X) : Type 0 where
  pub short : length bytes ≤ MAX_DOCUMENT_LEN
  pub is_text : IsUtf8 bytes
  pub members : Members
  pub parsed : parse_document bytes ≡ Some members
  pub stands_for : R members x
