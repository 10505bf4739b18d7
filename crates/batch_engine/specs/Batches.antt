-- private: the batches, and how they are kept.
use Rattle.std.specs.Prelude.{◌≡◌, ◌≢◌, ◌<◌, ◌++◌, ℕ, List, [], ◌∷◌, ⊤, length, map, filter_map, slice_set}
use Rattle.std.specs.List.{remove}
use Rattle.slab.specs.Slab.{Slab, ContainsKey, get, slab_len}
use Rattle.batch_model.specs.Lists.{Each}
use Rattle.batch_engine.specs.declared.batch.Batch.{Batch}
use Rattle.batch_engine.specs.declared.batches.Entry.{Entry}

-- the batches, and the numbers that they were added with, which rise
pub record BatchList : Type 0 where
  pub numbers : List ℕ
  pub batches : List Batch

abbrev pub no_batches : BatchList
no_batches = record { numbers = []; batches = [] }

abbrev pub with_batch : Batch → BatchList → BatchList
with_batch b r = record { numbers = r.numbers ++ b.number ∷ []; batches = r.batches ++ b ∷ [] }

-- the batches with another batch at the index
abbrev pub with_batch_at : ℕ → BatchList → Batch → BatchList
with_batch_at i r b = record r { batches = slice_set r.batches i b }

abbrev pub without_batch : ℕ → BatchList → BatchList
without_batch i r = record { numbers = remove r.numbers i; batches = remove r.batches i }

-- the number is above all others
abbrev pub IsNewNumber : ℕ → BatchList → Type 0
IsNewNumber n r = Each (λ m. m < n) r.numbers

abbrev pub own_number : Batch → ℕ
own_number b = b.number

-- each batch has the number that it was added with
abbrev pub HaveOwnNumbers : BatchList → Type 0
HaveOwnNumbers r = r.numbers ≡ map own_number r.batches

-- Entries

abbrev pub entry_number : Entry → ℕ
entry_number e = e.number

-- the batches under the entries' keys
abbrev pub batches_in : Slab Batch → List Entry → List Batch
batches_in slab entries = filter_map (λ (e : Entry). get slab e.key) entries

abbrev pub list_of : Slab Batch → List Entry → BatchList
list_of slab entries = record { numbers = map entry_number entries; batches = batches_in slab entries }

-- the number of an entry is less than a later one's, and its key is another
pub record ComesBefore (e later : Entry) : Type 0 where
  pub number : e.number < later.number
  pub key : e.key ≢ later.key

abbrev pub AreRising : List Entry → Type 0
AreRising [] = ⊤
AreRising (e ∷ es) = Each (ComesBefore e) es × AreRising es

-- each entry has a batch of its own under its key, and no batch is under another key
pub record IsFiled (slab : Slab Batch) (entries : List Entry) : Type 0 where
  pub occupied : Each (λ (e : Entry). ContainsKey slab e.key) entries
  pub rising : AreRising entries
  pub count : slab_len slab ≡ length entries
