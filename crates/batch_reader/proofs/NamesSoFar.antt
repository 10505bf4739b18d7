-- Names that differ, one after another.
use Rattle.std.proofs.Common.{arith, ◌≡◌, ℕ, ◌+◌, ◌<◌, Bool, List, [], ◌∷◌, ◌++◌, length, take, drop, get_or, map, sym, ap, ◌∙◌, subst, append_assoc, take-append-drop}
use Rattle.std.{proofs.lemmas.Grind.flat_map-append, proofs.lemmas.List.take_more, proofs.lemmas.List.flat_map_more, proofs.lemmas.List.map-id, proofs.lemmas.List.Concat.flat_map_single, specs.List.IsDistinct, specs.List.flat_map}
pub use Rattle.batch_cell.proofs.DistinctNames.{IsDistinct-front, IsDistinct-twice}

-- the names so far, after one more element
pub names_turn : {X K : Type 0} (g : X → List K) (base keys new : List K) (xs : List X) (i : ℕ) (d : X) → i < length xs
    → keys ≡ base ++ flat_map g (take i xs) → new ≡ keys ++ g (get_or xs i d) → new ≡ base ++ flat_map g (take (i + 1) xs)
names_turn g base keys new xs i d below so_far added = grind (arith, flat_map_more g base (take i xs) (get_or xs i d), take_more xs i d below)

-- where the names so far and those of one more element don't differ, neither do all names
pub names_refused : {X K : Type 0} (eq : K → K → Bool) (g : X → List K) (base keys ks : List K) (xs : List X) (i : ℕ) (d : X) → i < length xs
    → keys ≡ base ++ flat_map g (take i xs) → ks ≡ g (get_or xs i d) → (IsDistinct eq (keys ++ ks) → ⊥) → IsDistinct eq (base ++ flat_map g xs) → ⊥
names_refused {X} {K} eq g base keys ks xs i d below so_far here twice h =
    let front : keys ++ ks ≡ base ++ flat_map g (take (i + 1) xs) = names_turn g base keys (keys ++ ks) xs i d below so_far (ap (λ ys. keys ++ ys) here) in
    let rest : List K = flat_map g (drop (i + 1) xs) in
    let whole : base ++ flat_map g xs ≡ (base ++ flat_map g (take (i + 1) xs)) ++ rest =
    ap (λ ys. base ++ flat_map g ys) (sym (take-append-drop (i + 1) xs)) ∙ ap (λ ys. base ++ ys) (flat_map-append g (take (i + 1) xs) (drop (i + 1) xs))
    ∙ sym (append_assoc base (flat_map g (take (i + 1) xs)) rest) in
    let P : List K → Type 0 = λ ys. IsDistinct eq ys in
    twice (subst P (sym front) (IsDistinct-front eq (base ++ flat_map g (take (i + 1) xs)) rest (subst P whole h)))

-- where each element has one name
pub name_refused : {X K : Type 0} (eq : K → K → Bool) (f : X → K) (base keys : List K) (k : K) (xs : List X) (i : ℕ) (d : X) → i < length xs
    → keys ≡ base ++ map f (take i xs) → k ≡ f (get_or xs i d) → (IsDistinct eq (keys ++ k ∷ []) → ⊥) → IsDistinct eq (base ++ map f xs) → ⊥
name_refused {X} {K} eq f base keys k xs i d below so_far here twice h = grind (arith, flat_map_single f (take i xs), flat_map_single f xs, names_refused)

-- where each element is a name
pub item_refused : {K : Type 0} (eq : K → K → Bool) (base keys : List K) (k : K) (xs : List K) (i : ℕ) (d : K) → i < length xs
    → keys ≡ base ++ take i xs → k ≡ get_or xs i d → (IsDistinct eq (keys ++ k ∷ []) → ⊥) → IsDistinct eq (base ++ xs) → ⊥
item_refused {K} eq base keys k xs i d below so_far here twice h =
    let P : List K → Type 0 = λ ys. IsDistinct eq (base ++ ys) in
    name_refused eq (λ y. y) base keys k xs i d below (so_far ∙ ap (λ ys. base ++ ys) (sym (map-id (take i xs)))) here twice (subst P (sym (map-id xs)) h)
