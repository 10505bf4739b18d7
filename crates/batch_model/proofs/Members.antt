-- Members of lists.
use Rattle.std.proofs.Common.{◌≡◌, ◌⊎◌, refl, subst, List, [], ◌∷◌, ◌++◌, Bool, true, false, cond, Some, None, inl, inr}
use Rattle.std.specs.{Prelude.Option, Prelude.filter, Prelude.find, Prelude.flat_map, List.filter_map, List.cons_option}
use Rattle.batch_model.specs.Lists.{Has, Each}

pub Has-left : {X : Type 0} (xs ys : List X) (x : X) → Has xs x → Has (xs ++ ys) x
Has-left [] ys x h = absurd h
Has-left (y ∷ xs) ys x (inl e) = inl e
Has-left (y ∷ xs) ys x (inr h) = inr (Has-left xs ys x h)

pub Has-right : {X : Type 0} (xs ys : List X) (x : X) → Has ys x → Has (xs ++ ys) x
Has-right [] ys x h = h
Has-right (y ∷ xs) ys x h = inr (Has-right xs ys x h)

pub Has-split : {X : Type 0} (xs ys : List X) (x : X) → Has (xs ++ ys) x → Has xs x ⊎ Has ys x
Has-split [] ys x h = inr h
Has-split (y ∷ xs) ys x (inl e) = inl (inl e)
Has-split (y ∷ xs) ys x (inr h) = elim (Has-split xs ys x h) [ inl k ↦ inl (inr k) | inr k ↦ inr k ]

pub Has-flat_map : {X Y : Type 0} (f : X → List Y) (xs : List X) (y : Y) → Has (flat_map f xs) y → (x : X) × Has xs x × Has (f x) y
Has-flat_map f [] y h = absurd h
Has-flat_map f (z ∷ xs) y h =
    elim (Has-split (f z) (flat_map f xs) y h) [ inl k ↦ (z, inl refl, k) | inr k ↦ (let m = Has-flat_map f xs y k in (m.0, inr m.1, m.2)) ]

pub Has-filter_map : {X Y : Type 0} (f : X → Option Y) (xs : List X) (y : Y) → Has (filter_map f xs) y → (x : X) × Has xs x × (f x ≡ Some y)
Has-filter_map f [] y h = absurd h
Has-filter_map {X = X} {Y = Y} f (z ∷ xs) y h = go (f z) refl h (λ k. Has-filter_map f xs y k)
  where
    go : (o : Option Y) → f z ≡ o → Has (cons_option o (filter_map f xs)) y → (Has (filter_map f xs) y → (x : X) × Has xs x × (f x ≡ Some y))
        → (x : X) × Has (z ∷ xs) x × (f x ≡ Some y)
    go None e k more = let m = more k in (m.0, inr m.1, m.2)
    go (Some w) e (inl q) more = (z, inl refl, subst (λ v. f z ≡ Some v) q e)
    go (Some w) e (inr k) more = let m = more k in (m.0, inr m.1, m.2)

pub find-Has : {X : Type 0} (p : X → Bool) (xs : List X) (x : X) → find p xs ≡ Some x → Has xs x
find-Has p [] x e = absurd cc
find-Has {X = X} p (y ∷ xs) x e = go (p y) e (find-Has p xs x)
  where
    go : (t : Bool) → cond t (Some y) (find p xs) ≡ Some x → (find p xs ≡ Some x → Has xs x) → Has (y ∷ xs) x
    go true f h = inl cc
    go false f h = inr (h f)

pub Each-Has : {X : Type 0} (P : X → Type 0) (xs : List X) (x : X) → Each P xs → Has xs x → P x
Each-Has P [] x e h = absurd h
Each-Has P (y ∷ xs) x e (inl q) = subst P q e.0
Each-Has P (y ∷ xs) x e (inr h) = Each-Has P xs x e.1 h

pub Each-map : {X : Type 0} (P Q : X → Type 0) → ((x : X) → P x → Q x) → (xs : List X) → Each P xs → Each Q xs
Each-map P Q f [] h = tt
Each-map P Q f (x ∷ xs) h = (f x h.0, Each-map P Q f xs h.1)

pub Each-append : {X : Type 0} (P : X → Type 0) (xs ys : List X) → Each P xs → Each P ys → Each P (xs ++ ys)
Each-append P [] ys h k = k
Each-append P (x ∷ xs) ys h k = (h.0, Each-append P xs ys h.1 k)

pub Each-filter : {X : Type 0} (P : X → Type 0) (p : X → Bool) (xs : List X) → Each P xs → Each P (filter p xs)
Each-filter P p [] h = tt
Each-filter {X = X} P p (x ∷ xs) h = go (p x) (Each-filter P p xs h.1)
  where
    go : (t : Bool) → Each P (filter p xs) → Each P (cond t (x ∷ filter p xs) (filter p xs))
    go true k = (h.0, k)
    go false k = k
