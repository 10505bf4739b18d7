-- surface: for each sign the nodes that show it.
use Rattle.std.specs.Prelude.{◌≡◌, ◌<◌, ◌≤◌, ◌+◌, ◌*◌, ◌/◌, ◌%◌, ◌^◌, ℕ, List, length, Bool, true, false, Option, Some, None, slice_index}
use Rattle.std.specs.Int.{bit_at}

-- those of 64 nodes that show the sign
abbrev pub set_of : List ℕ → ℕ → ℕ → ℕ
set_of words word sign = slice_index words (word * 32 + sign)

-- 1 if the node shows the sign, and else 0
abbrev pub sign_shown : List ℕ → ℕ → ℕ → ℕ
sign_shown words node sign = bit_at (set_of words (node / 64) sign) (node % 64)

abbrev pub AreRoomFor : List ℕ → ℕ → Type 0
AreRoomFor words count = count ≤ 2 * length words

-- each bit of the summary tells whether its word is 0, and each bit of `all` whether the summary of its sign is 0
pub record AreSummed (words summary : List ℕ) (all : ℕ) : Type 0 where
  pub whole : length words % 32 ≡ 0
  pub few : length words ≤ 2048
  pub signs : length summary ≡ 32
  pub none : (word sign : ℕ) → sign < 32 → bit_at (slice_index summary sign) word ≡ 0 → set_of words word sign ≡ 0
  pub some : (word sign : ℕ) → sign < 32 → bit_at (slice_index summary sign) word ≡ 1 → 0 < set_of words word sign
  pub missing : (sign : ℕ) → sign < 32 → bit_at all sign ≡ 0 → slice_index summary sign ≡ 0
  pub present : (sign : ℕ) → sign < 32 → bit_at all sign ≡ 1 → 0 < slice_index summary sign
  pub fit : (k : ℕ) → slice_index words k < 2 ^ 64
  pub fits : (sign : ℕ) → slice_index summary sign < 2 ^ 64

abbrev pub bit_of : Bool → ℕ
bit_of true = 1
bit_of false = 0

-- the sign of one node has been set or cleared
pub record IsTurnedAt (old new : List ℕ) (node sign : ℕ) (shows : Bool) : Type 0 where
  pub count : length new ≡ length old
  pub here : sign_shown new node sign ≡ bit_of shows
  pub others : (k s : ℕ) → s < 32 → (k ≡ node → s ≡ sign → ⊥) → sign_shown new k s ≡ sign_shown old k s

-- one node shows these signs, and no others
pub record IsChangedAt (old new : List ℕ) (node signs : ℕ) : Type 0 where
  pub count : length new ≡ length old
  pub here : (s : ℕ) → s < 32 → sign_shown new node s ≡ bit_at signs s
  pub others : (k s : ℕ) → s < 32 → (k ≡ node → ⊥) → sign_shown new k s ≡ sign_shown old k s

-- the bits that some word has of those of the wanted signs, among the first so many
pub record AreJoined (words : List ℕ) (first wanted count set : ℕ) : Type 0 where
  pub none : (bit sign : ℕ) → bit_at set bit ≡ 0 → sign < count → bit_at wanted sign ≡ 1 → bit_at (slice_index words (first + sign)) bit ≡ 0
  pub some : (bit : ℕ) → bit_at set bit ≡ 1 → (sign : ℕ) × (sign < 32) × (bit_at wanted sign ≡ 1) × (bit_at (slice_index words (first + sign)) bit ≡ 1)

abbrev pub ShowsNone : List ℕ → ℕ → ℕ → Type 0
ShowsNone words wanted node = (sign : ℕ) → sign < 32 → bit_at wanted sign ≡ 1 → sign_shown words node sign ≡ 0

abbrev pub ShowsSome : List ℕ → ℕ → ℕ → Type 0
ShowsSome words wanted node = (sign : ℕ) × (sign < 32) × (bit_at wanted sign ≡ 1) × (sign_shown words node sign ≡ 1)

abbrev pub IsFirstShown : List ℕ → ℕ → ℕ → Option ℕ → Type 0
IsFirstShown words wanted from None = (k : ℕ) → from ≤ k → ShowsNone words wanted k
IsFirstShown words wanted from (Some n) = (from ≤ n) × ShowsSome words wanted n × ((k : ℕ) → from ≤ k → k < n → ShowsNone words wanted k)

-- whether no node shows one of the signs
abbrev pub AreAbsent : List ℕ → ℕ → Bool → Type 0
AreAbsent words wanted true = (k : ℕ) → ShowsNone words wanted k
AreAbsent words wanted false = (k : ℕ) × ShowsSome words wanted k
