-- Rows that are made one after another, and look-ups in them.
use Rattle.std.proofs.Common.{◌≡◌, ℕ, List, [], ◌∷◌, ◌++◌, ◌+◌, ◌<◌, ◌≤◌, zero, suc, length, drop, get_or, map, Option, Some, Vec, slice_get, sym, ap, subst, ◌∙◌, add-one, drop-cons, drop_of_length-le, append_assoc, append-nil}
use Rattle.std.{specs.Global.Global, specs.Prelude.option_map, specs.Prelude.unwrap_or, proofs.lemmas.List.map-append, proofs.lemmas.Option.slice_get-map}
use Rattle.batch_set.specs.{Linking.table_items, Looked.row_at}

-- so far the rows are those before, and then the results of the elements before number i
abbrev pub AreAdded : {A B : Type 0} → List B → (A → B) → List A → ℕ → List B → Type 0
AreAdded before f xs i ys = ys ++ map f (drop i xs) ≡ before ++ map f xs

abbrev pub AreMapped : {A B : Type 0} → (A → B) → List A → ℕ → List B → Type 0
AreMapped f xs i ys = AreAdded [] f xs i ys

pub AreAdded-more : {A B : Type 0} (before : List B) (f : A → B) (xs : List A) (i : ℕ) (ys zs : List B) → AreAdded before f xs i ys → (x : A) → i < length xs → x ≡ get_or xs i x → zs ≡ ys ++ f x ∷ []
    → AreAdded before f xs (i + 1) zs
AreAdded-more before f xs i ys zs h x within is pushed =
    let cut : drop i xs ≡ x ∷ drop (i + 1) xs = drop-cons xs i x within ∙ (ap (λ y. y ∷ drop (suc i) xs) (sym is) ∙ ap (λ n. x ∷ drop n xs) (sym (add-one i))) in
    ap (λ ws. ws ++ map f (drop (i + 1) xs)) pushed ∙ (append_assoc ys (f x ∷ []) (map f (drop (i + 1) xs)) ∙ (ap (λ ws. ys ++ map f ws) (sym cut) ∙ h))

pub AreAdded-all : {A B : Type 0} (before : List B) (f : A → B) (xs : List A) (i : ℕ) (ys : List B) → AreAdded before f xs i ys → length xs ≤ i → ys ≡ before ++ map f xs
AreAdded-all before f xs i ys h past = sym (append-nil ys) ∙ (ap (λ ws. ys ++ map f ws) (sym (drop_of_length-le xs past)) ∙ h)

-- one more row
pub row : {X : Type 0} (rows more : List (Vec X Global)) (own : Vec X Global) (items : List X) → more ≡ rows ++ own ∷ [] → own.items ≡ items → table_items more ≡ table_items rows ++ items ∷ []
row rows more own items pushed is =
    ap table_items pushed ∙ (map-append (λ r. r.items) rows (own ∷ []) ∙ ap (λ i. table_items rows ++ i ∷ []) is)

-- the row of an element
pub row-there : {A X : Type 0} (f : A → List X) (table : List (Vec X Global)) (xs : List A) → table_items table ≡ map f xs → (k : ℕ) (x : A) → slice_get xs k ≡ Some x → row_at table k ≡ f x
row-there {A} {X} f table xs h k x at =
    ap (λ (o : Option (List X)). unwrap_or o [])
    (sym (slice_get-map (λ (r : Vec X Global). r.items) table k) ∙ (ap (λ (rows : List (List X)). slice_get rows k) h ∙ (slice_get-map f xs k ∙ ap (option_map f) at)))

-- a row more, of which the same is so as of those before
pub pushed : {X : Type 0} (P : ℕ → X → Type 0) (xs : List X) (y : X) → ((k : ℕ) (x : X) → slice_get xs k ≡ Some x → P k x) → P (length xs) y
    → (k : ℕ) (x : X) → slice_get (xs ++ y ∷ []) k ≡ Some x → P k x
pushed P [] y h p zero x e = let same : y ≡ x = cc in subst (P 0) same p
pushed P [] y h p (suc k) x e = absurd cc
pushed P (z ∷ xs) y h p zero x e = h 0 x e
pushed P (z ∷ xs) y h p (suc k) x e = pushed (λ k. P (suc k)) xs y (λ k. h (suc k)) p k x e
