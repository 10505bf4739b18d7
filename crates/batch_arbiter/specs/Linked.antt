-- surface: lists of claims whose entries are in one pool, each with the number of the next.
use Rattle.std.specs.Prelude.{ℕ, zero, suc, ◌≡◌, ◌≢◌, ◌+◌, ◌<◌, ◌≤◌, ◌^◌, List, [], ◌∷◌, length, slice_index_or, slice_set, map, sum_by, cond, nat_eq, Bool, true, false, ⊤}
use Rattle.std.specs.List.{All}
use Rattle.batch_arbiter.specs.Allocation.{Claim, is_claim, held_units, without_first}
use Rattle.batch_arbiter.specs.declared.entry.Entry.{Entry}
use Rattle.batch_arbiter.specs.declared.ends.Ends.{Ends}

-- the view of a caller: each list, and the number of claims that can still be taken without memory
pub record Lists : Type 0 where
  pub lists : List (List Claim)
  pub room : ℕ

abbrev pub list_at : Lists → ℕ → List Claim
list_at p k = slice_index_or p.lists k []

-- list k is another one, and there is room for so many
abbrev pub with_list : Lists → ℕ → List Claim → ℕ → Lists
with_list p k claims room = record { lists = slice_set p.lists k claims; room = room }

abbrev pub entry_claim : Entry → Claim
entry_claim e = record { batch = e.batch; node = e.node; units = e.units }

abbrev pub nowhere : Entry
nowhere = record { batch = 0; units = 0; next = 0; node = 0 }

abbrev pub at : List Entry → ℕ → Entry
at entries i = slice_index_or entries i nowhere

abbrev pub no_list : Ends
no_list = record { first = 0; len = 0; end = 0 }

abbrev pub ends_at : List Ends → ℕ → Ends
ends_at lists k = slice_index_or lists k no_list

-- the claims of n entries, one after the other
abbrev pub claims_from : List Entry → ℕ → ℕ → List Claim
claims_from entries zero first = []
claims_from entries (suc n) first = entry_claim (at entries first) ∷ claims_from entries n (at entries first).next

abbrev pub entry_claims : List Entry → Ends → List Claim
entry_claims entries l = claims_from entries l.len l.first

-- the part of an entry: it ends the free ones, is free, ends a list, or has a claim of a list
pub data EntryPart : Type 0 where
  bottom : EntryPart
  free : EntryPart
  end_of : ℕ → EntryPart
  claim_in : ℕ → EntryPart

-- an entry plays another part
abbrev pub with_part : (ℕ → EntryPart) → ℕ → EntryPart → ℕ → EntryPart
with_part parts i part k = cond (nat_eq k i) part (parts k)

-- n entries that play this part are linked one after the other, from the entry first on, and the last leads to end
abbrev pub LeadsThrough : EntryPart → (ℕ → EntryPart) → List Entry → ℕ → ℕ → ℕ → Type 0
LeadsThrough part parts entries zero first end = first ≡ end
LeadsThrough part parts entries (suc n) first end =
    (first < length entries) × (parts first ≡ part) × LeadsThrough part parts entries n (at entries first).next end

-- none of these n entries is the entry i
abbrev pub Avoids : ℕ → List Entry → ℕ → ℕ → Type 0
Avoids i entries zero first = ⊤
Avoids i entries (suc n) first = (first ≢ i) × Avoids i entries n (at entries first).next

-- list k is linked from its first entry to its end, an empty entry of its own
pub record IsList (parts : ℕ → EntryPart) (entries : List Entry) (k : ℕ) (l : Ends) : Type 0 where
  pub within : l.end < length entries
  pub ends : parts l.end ≡ end_of k
  pub linked : LeadsThrough (claim_in k) parts entries l.len l.first l.end

-- every list is linked, and so are the free entries
pub record IsLinkedBy (parts : ℕ → EntryPart) (entries : List Entry) (lists : List Ends) (unused room : ℕ) : Type 0 where
  pub each : (k : ℕ) → k < length lists → IsList parts entries k (ends_at lists k)
  pub spare : LeadsThrough free parts entries room unused 0
  pub bottom_at_0 : parts 0 ≡ bottom
  -- so that no length runs over: the first entry is in no list
  pub total : sum_by (λ l. l.len) lists + room < length entries
  pub numbered : length entries ≤ 2 ^ 32

pub record AreLinkedLists (entries : List Entry) (lists : List Ends) (unused room : ℕ) : Type 0 where
  pub parts : ℕ → EntryPart
  pub by_parts : IsLinkedBy parts entries lists unused room

-- the number of the entry m places behind the first
abbrev pub behind : List Entry → ℕ → ℕ → ℕ
behind entries zero first = first
behind entries (suc m) first = behind entries m (at entries first).next

-- the entries when that behind `before` has left its list, and leads to the first free one
abbrev pub unlinked_behind : List Entry → ℕ → ℕ → List Entry
unlinked_behind entries before unused =
    let next : ℕ = (at entries before).next in
    let past : List Entry = slice_set entries before (record (at entries before) { next = (at entries next).next }) in
    slice_set past next (record (at past next) { next = unused })

-- a list is linked, whatever part its entries play
pub record IsSomeList (entries : List Entry) (l : Ends) : Type 0 where
  pub parts : ℕ → EntryPart
  pub part : EntryPart
  pub linked : LeadsThrough part parts entries l.len l.first l.end

-- the entry m places behind the first is the act's
abbrev pub is_claim_behind : List Entry → Ends → ℕ → ℕ → ℕ → Bool
is_claim_behind entries l batch node m = is_claim batch node (entry_claim (at entries (behind entries m l.first)))

-- this entry is the one before the first of the act
pub record IsBefore (entries : List Entry) (l : Ends) (batch node before : ℕ) : Type 0 where
  pub place : ℕ
  pub is : before ≡ behind entries place l.first
  pub within : suc place < l.len
  pub others : (m : ℕ) → m < suc place → is_claim_behind entries l batch node m ≡ false
  pub here : is_claim_behind entries l batch node (suc place) ≡ true

-- no claim of the list is the act's
abbrev pub HasNone : ℕ → ℕ → List Claim → Type 0
HasNone batch node claims = All (λ c. is_claim batch node c ≡ false) claims

-- the act's first claim, for so many units, has left list k
pub record IsRemoved (old : Lists) (k batch node units : ℕ) (new : Lists) : Type 0 where
  pub sum : held_units (list_at old k) ≡ held_units (without_first (is_claim batch node) (list_at old k)) + units
  pub after : new ≡ with_list old k (without_first (is_claim batch node) (list_at old k)) (old.room + 1)

-- so many entries more are free, and each list is as it was
abbrev pub IsGrown : List Entry → ℕ → List Entry → ℕ → ℕ → Type 0
IsGrown old unused new unused' more =
    (lists : List Ends) (room : ℕ) → AreLinkedLists old lists unused room → AreLinkedLists new lists unused' (room + more) × (map (entry_claims new) lists ≡ map (entry_claims old) lists)
