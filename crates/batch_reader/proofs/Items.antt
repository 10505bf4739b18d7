-- The items of an array, one for one with the values that they say.
use Rattle.std.proofs.Common.{◌≡◌, ℕ, ◌+◌, ◌<◌, List, [], ◌∷◌, ◌++◌, map, length, take, get_or, Some, None, refl, zero, suc, arith}
use Rattle.std.proofs.lemmas.List.{take_more}
use Rattle.toml.specs.{Data.Data, Data.Members, Data.Items, Data.no_items, Data.item, Data.as_table, Data.get_item, View.view, View.items_view, declared.value.Value.Value}
use Rattle.batch_reader.specs.Entries.{AllItems, IsTableOf, HasTables, items_at}

-- one more item, and the value that it says
AllItems-push : {X : Type 0} (R : Data → X → Type 0) (vs : List Value) (xs : List X) (v : Value) (x : X)
    → AllItems R (items_view vs) xs → R (view v) x → AllItems R (items_view (vs ++ v ∷ [])) (xs ++ x ∷ [])
AllItems-push R [] [] v x h here = (here, tt)
AllItems-push R (w ∷ vs) (y ∷ ys) v x h here = (h.0, AllItems-push R vs ys v x h.1 here)
AllItems-push R vs xs v x h e = grind arith

-- one more turn of a loop over the items
pub AllItems-turn : {X : Type 0} (R : Data → X → Type 0) (vs : List Value) (xs : List X) (i : ℕ) (d : Value) (x : X)
    → i < length vs → AllItems R (items_view (take i vs)) xs → R (view (get_or vs i d)) x
    → AllItems R (items_view (take (i + 1) vs)) (xs ++ x ∷ [])
AllItems-turn R vs xs i d x below h here =
    rw (take_more vs i d below) (AllItems-push R (take i vs) xs (get_or vs i d) x h here)

-- an item that says nothing
pub AllItems_refused : {X : Type 0} (R : Data → X → Type 0) (vs : List Value) (i : ℕ) (d : Value)
    → i < length vs → ((x : X) → R (view (get_or vs i d)) x → ⊥) → (xs : List X) → AllItems R (items_view vs) xs → ⊥
AllItems_refused R [] i d below none xs h = omega arith
AllItems_refused R (v ∷ vs) i d below none [] h = h
AllItems_refused R (v ∷ vs) zero d below none (x ∷ xs) h = none x h.0
AllItems_refused R (v ∷ vs) (suc i) d below none (x ∷ xs) h = AllItems_refused R vs i d (omega arith) none xs h.1

-- the items before the one that a loop has come to
pub AllItems_before : {X : Type 0} (R : Data → X → Type 0) (vs : List Value) (xs : List X) (i : ℕ) → AllItems R (items_view (take i vs)) xs
    → (n : ℕ) (d : Data) → n < i → get_item n (items_view vs) ≡ Some d → (x : X) × R d x
AllItems_before R [] xs i h n d below found = absurd (cc found)
AllItems_before R (v ∷ vs) xs zero h n d below found = absurd (omega arith)
AllItems_before R (v ∷ vs) [] (suc i) h n d below found = absurd h
AllItems_before R (v ∷ vs) (x ∷ xs) (suc i) h zero d below found = let same : view v ≡ d = cc found in (x, rw (← same) h.0)
AllItems_before R (v ∷ vs) (x ∷ xs) (suc i) h (suc n) d below found = AllItems_before R vs xs i h.1 n d (omega arith) found

pub get_item-view : (vs : List Value) (i : ℕ) (d : Value) → i < length vs → get_item i (items_view vs) ≡ Some (view (get_or vs i d))
get_item-view (v ∷ vs) (suc i) d below = get_item-view vs i d (omega arith)
get_item-view vs i d below = grind arith

-- where an item says one thing at most, as far as f sees it, so do all items
pub AllItems_same : {X Y : Type 0} (R : Data → X → Type 0) (f : X → Y) → ((d : Data) (x y : X) → R d x → R d y → f x ≡ f y)
    → (items : Items) (xs ys : List X) → AllItems R items xs → AllItems R items ys → map f xs ≡ map f ys
AllItems_same R f one no_items [] [] h k = refl
AllItems_same R f one no_items [] (y ∷ ys) h k = absurd k
AllItems_same R f one no_items (x ∷ xs) ys h k = absurd h
AllItems_same R f one (item d ds) [] ys h k = absurd h
AllItems_same R f one (item d ds) (x ∷ xs) [] h k = absurd k
AllItems_same R f one (item d ds) (x ∷ xs) (y ∷ ys) h k =
    let first : f x ≡ f y = one d x y h.0 k.0 in
    let rest : map f xs ≡ map f ys = AllItems_same R f one ds xs ys h.1 k.1 in
    cc (first, rest)

-- where an item of the array says nothing, the tables stand for no values
pub HasTables_refused : {X : Type 0} (R : Members → X → Type 0) (key : List ℕ) (ms : Members) (vs : List Value) (i : ℕ) (d : Value)
    → items_at key ms ≡ Some (items_view vs) → i < length vs → ((x : X) → IsTableOf R (view (get_or vs i d)) x → ⊥)
    → (values : List X) → HasTables R key ms values → ⊥
HasTables_refused {X} R key ms vs i d found below none values h =
    let same : h.items ≡ items_view vs = cc (h.found, found) in
    AllItems_refused (IsTableOf R) vs i d below none values (rw same at h.tables)

-- an item that is no table stands for nothing
pub IsTableOf_none : {X : Type 0} (R : Members → X → Type 0) (d : Data) → None ≡ as_table d → (x : X) → IsTableOf R d x → ⊥
IsTableOf_none R d none x h = cc (none, h.is_table)

-- a table that stands for nothing
pub IsTableOf_refused : {X : Type 0} (R : Members → X → Type 0) (d : Data) (ms : Members) → Some ms ≡ as_table d
    → ((x : X) → R ms x → ⊥) → (x : X) → IsTableOf R d x → ⊥
IsTableOf_refused R d ms is_table none x h = grind arith

-- where a table stands for one value at most, as far as f sees it, so do the tables of an array
pub HasTables_same : {X Y : Type 0} (R : Members → X → Type 0) (f : X → Y) → ((ms : Members) (x y : X) → R ms x → R ms y → f x ≡ f y)
    → (key : List ℕ) (ms : Members) (xs ys : List X) → HasTables R key ms xs → HasTables R key ms ys → map f xs ≡ map f ys
HasTables_same R f one key ms xs ys h k = grind (arith, AllItems_same)
