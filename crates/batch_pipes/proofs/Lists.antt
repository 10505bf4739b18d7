-- Relations of each element of lists, when one element is set or added.
use Rattle.std.proofs.Common.{◌≡◌, ◌≢◌, ◌<◌, ◌≤◌, ◌+◌, ◌⊎◌, ℕ, zero, suc, List, [], ◌∷◌, ◌++◌, drop, drop-drop, length, get_or, get_or-drop, set, refl, sym, ap, subst, arith, inl, inr, get_or-set_other, get_or-set_same, ◌∙◌}
use Rattle.std.proofs.lemmas.{Bool.cases_lt, List.get_or_default}

-- One is set

-- a relation of each two holds when two are set of which it holds
pub both_set : {A B : Type 0} (R : A → B → Type 0) (xs : List A) (ys : List B) (i : ℕ) (x : A) (y : B) → i < length xs → length xs ≡ length ys → R x y
    → ((k : ℕ) (a : A) (b : B) → k < length xs → R (get_or xs k a) (get_or ys k b))
    → (k : ℕ) (a : A) (b : B) → k < length xs → R (get_or (set xs i x) k a) (get_or (set ys i y) k b)
both_set R xs ys i x y within count here all k a b below = go (cases_lt k i)
  where
    apart_so : k ≢ i → R (get_or (set xs i x) k a) (get_or (set ys i y) k b)
    apart_so apart =
        subst (λ u. R u (get_or (set ys i y) k b)) (sym (get_or-set_other xs i k x a apart))
        (subst (λ v. R (get_or xs k a) v) (sym (get_or-set_other ys i k y b apart)) (all k a b below))

    at_so : k ≡ i → R (get_or (set xs i x) k a) (get_or (set ys i y) k b)
    at_so at =
        subst (λ u. R u (get_or (set ys i y) k b)) (sym (ap (λ n. get_or (set xs i x) n a) at ∙ get_or-set_same xs i x a within))
        (subst (λ v. R x v) (sym (ap (λ n. get_or (set ys i y) n b) at ∙ get_or-set_same ys i y b (omega (arith, within, count)))) here)

    either : (i < k) ⊎ (k ≤ i) → i ≤ k → R (get_or (set xs i x) k a) (get_or (set ys i y) k b)
    either (inl lt) le = apart_so (omega arith)
    either (inr ge) le = at_so (omega arith)

    go : (k < i) ⊎ (i ≤ k) → R (get_or (set xs i x) k a) (get_or (set ys i y) k b)
    go (inl lt) = apart_so (omega arith)
    go (inr le) = either (cases_lt i k) le

-- a relation of each two but those in one place holds of all when the first of these is set
pub first_set : {A B : Type 0} (R : A → B → Type 0) (xs : List A) (ys : List B) (i n : ℕ) (x : A) → i < length xs → ((b : B) → R x (get_or ys i b))
    → ((k : ℕ) (a : A) (b : B) → k < n → k ≢ i → R (get_or xs k a) (get_or ys k b))
    → (k : ℕ) (a : A) (b : B) → k < n → R (get_or (set xs i x) k a) (get_or ys k b)
first_set R xs ys i n x within here all k a b below = go (cases_lt k i)
  where
    apart_so : k ≢ i → R (get_or (set xs i x) k a) (get_or ys k b)
    apart_so apart = subst (λ u. R u (get_or ys k b)) (sym (get_or-set_other xs i k x a apart)) (all k a b below apart)

    at_so : k ≡ i → R (get_or (set xs i x) k a) (get_or ys k b)
    at_so at =
        subst (λ u. R u (get_or ys k b)) (sym (ap (λ m. get_or (set xs i x) m a) at ∙ get_or-set_same xs i x a within))
        (subst (λ m. R x (get_or ys m b)) (sym at) (here b))

    either : (i < k) ⊎ (k ≤ i) → i ≤ k → R (get_or (set xs i x) k a) (get_or ys k b)
    either (inl lt) le = apart_so (omega arith)
    either (inr ge) le = at_so (omega arith)

    go : (k < i) ⊎ (i ≤ k) → R (get_or (set xs i x) k a) (get_or ys k b)
    go (inl lt) = apart_so (omega arith)
    go (inr le) = either (cases_lt i k) le

-- an element set in place of another with the same value of f leaves each place's value of f as it was
pub same_set : {T V : Type 0} (f : T → V) (first now : List T) (i : ℕ) (old new : T) → i < length now → length now ≡ length first → old ≡ get_or now i old → f new ≡ f old
    → ((k : ℕ) (other : T) → k < length first → f (get_or now k other) ≡ f (get_or first k other))
    → (k : ℕ) (other : T) → k < length first → f (get_or (set now i new) k other) ≡ f (get_or first k other)
same_set {T} {V} f first now i old new within count is same all k other below = go (cases_lt k i)
  where
    apart_so : k ≢ i → f (get_or (set now i new) k other) ≡ f (get_or first k other)
    apart_so apart = ap f (get_or-set_other now i k new other apart) ∙ all k other below

    in_place : get_or now i old ≡ get_or now i other
    in_place = get_or_default now i old other within

    at_so : k ≡ i → f (get_or (set now i new) k other) ≡ f (get_or first k other)
    at_so at =
        ap f (ap (λ n. get_or (set now i new) n other) at ∙ get_or-set_same now i new other within) ∙ same ∙ ap f (is ∙ in_place) ∙ ap (λ n. f (get_or now n other)) (sym at)
        ∙ all k other below

    either : (i < k) ⊎ (k ≤ i) → i ≤ k → f (get_or (set now i new) k other) ≡ f (get_or first k other)
    either (inl lt) le = apart_so (omega arith)
    either (inr ge) le = at_so (omega arith)

    go : (k < i) ⊎ (i ≤ k) → f (get_or (set now i new) k other) ≡ f (get_or first k other)
    go (inl lt) = apart_so (omega arith)
    go (inr le) = either (cases_lt i k) le

-- One is added

pub length_more : {T : Type 0} (xs : List T) (y : T) → length (xs ++ y ∷ []) ≡ length xs + 1
length_more [] y = omega arith
length_more (x ∷ xs) y = omega (arith, length_more xs y)

-- a relation of each two and their place holds when two more follow them
pub both_more : {A B : Type 0} (R : ℕ → A → B → Type 0) (xs : List A) (ys : List B) (x : A) (y : B) → length xs ≡ length ys → R (length xs) x y
    → ((k : ℕ) (a : A) (b : B) → k < length xs → R k (get_or xs k a) (get_or ys k b))
    → (k : ℕ) (a : A) (b : B) → k < length xs + 1 → R k (get_or (xs ++ x ∷ []) k a) (get_or (ys ++ y ∷ []) k b)
both_more R [] [] x y count last all zero a b below = last
both_more R [] [] x y count last all (suc k) a b below = absurd (omega (arith, below))
both_more R [] (v ∷ ys) x y count last all k a b below = absurd (omega (arith, count))
both_more R (u ∷ xs) [] x y count last all k a b below = absurd (omega (arith, count))
both_more R (u ∷ xs) (v ∷ ys) x y count last all zero a b below = all 0 a b (omega arith)
both_more R (u ∷ xs) (v ∷ ys) x y count last all (suc k) a b below =
    both_more (λ j. R (suc j)) xs ys x y (omega (arith, count)) last (λ j p q lt. all (suc j) p q (omega (arith, lt))) k a b (omega (arith, below))

-- the element behind those before it
pub at_place : {T : Type 0} (before : List T) (x : T) (behind : List T) (other : T) → get_or (before ++ x ∷ behind) (length before) other ≡ x
at_place [] x behind other = refl
at_place (y ∷ before) x behind other = at_place before x behind other

-- the first of those that are left, and those behind it
pub first_left : {T : Type 0} (xs : List T) (i : ℕ) (x : T) (rest : List T) (other : T) → drop i xs ≡ x ∷ rest → (get_or xs i other ≡ x) × (drop (i + 1) xs ≡ rest)
first_left xs i x rest other left =
    let on : i ≡ i + 0 = omega arith in
    (ap (λ j. get_or xs j other) on ∙ sym (get_or-drop i xs 0 other) ∙ ap (λ l. get_or l 0 other) left, sym (drop-drop 1 i xs) ∙ ap (drop 1) left)

-- an element of a list that has one
pub one_of : {T : Type 0} (xs : List T) (k : ℕ) → k < length xs → T
one_of [] k within = absurd (omega (arith, within))
one_of (x ∷ xs) k within = x
