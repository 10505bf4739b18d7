-- The names of a cell's resources are among those that it declares.
use Rattle.std.proofs.Common.{◌≡◌, ℕ, Bool, true, false, List, [], ◌∷◌, ◌++◌, map, filter, nat_eq, refl, sym, ap, ◌∙◌, subst, cond}
use Rattle.std.{proofs.lemmas.Map.Made.IsDistinct-keys_filter, proofs.lemmas.List.Elements.filter-append, specs.Cmp.Lexicographic.pointwise, specs.List.IsDistinct, specs.Map.keys_of}
use Rattle.batch_cell.specs.{Equipment.is_free, Equipment.unit_names, Equipment.resource_names, Equipment.declared_names, Equipment.IsDeclaredOnce, declared.unit.Unit.Unit, declared.module.Module.Module, declared.shared.Shared.Shared}

-- names with a mark, and those that have it
keys-marked : {X : Type 0} (f : X → List ℕ) (p : X → Bool) (xs : List X) → keys_of (map (λ x. (f x, p x)) xs) ≡ map f xs
keys-marked f p [] = refl
keys-marked f p (x ∷ xs) = ap (λ ks. f x ∷ ks) (keys-marked f p xs)

keys-kept : {X : Type 0} (f : X → List ℕ) (p : X → Bool) (xs : List X) → keys_of (filter (λ e. e.1) (map (λ x. (f x, p x)) xs)) ≡ map f (filter p xs)
keys-kept f p [] = refl
keys-kept {X} f p (x ∷ xs) =
    let rest : keys_of (filter (λ e. e.1) (map (λ y. (f y, p y)) xs)) ≡ map f (filter p xs) = keys-kept f p xs in
    let es : List (List ℕ × Bool) = filter (λ e. e.1) (map (λ y. (f y, p y)) xs) in
    let P : Bool → Type 0 = λ b. keys_of (cond b ((f x, p x) ∷ es) es) ≡ map f (cond b (x ∷ filter p xs) (filter p xs)) in
    elim (p x) as P [ true ↦ ap (λ ks. f x ∷ ks) rest | false ↦ rest ]

keys-append : (es fs : List (List ℕ × Bool)) → keys_of (es ++ fs) ≡ keys_of es ++ keys_of fs
keys-append [] fs = refl
keys-append (e ∷ es) fs = ap (λ ks. e.0 ∷ ks) (keys-append es fs)

filter-all : {X : Type 0} (xs : List X) → filter (λ _. true) xs ≡ xs
filter-all [] = refl
filter-all (x ∷ xs) = ap (λ ys. x ∷ ys) (filter-all xs)

-- where all names differ, so do those of the resources
pub resources_once : (units : List Unit) (modules : List Module) (shared : List Shared) → IsDeclaredOnce units modules shared
    → IsDistinct (pointwise nat_eq) (resource_names units modules shared)
resources_once units modules shared h =
    let us : List (List ℕ × Bool) = map (λ u. (u.name, true)) units in
    let ms : List (List ℕ × Bool) = map (λ m. (m.name, is_free m)) modules in
    let ss : List (List ℕ × Bool) = map (λ s. (s.name, true)) shared in
    let mark : List ℕ × Bool → Bool = λ e. e.1 in
    let P : List (List ℕ) → Type 0 = λ ks. IsDistinct (pointwise nat_eq) ks in
    let all : keys_of ((us ++ ms) ++ ss) ≡ declared_names units modules shared =
    keys-append (us ++ ms) ss ∙ ap (λ ks. ks ++ keys_of ss) (keys-append us ms)
    ∙ ap (λ ks. (ks ++ keys_of ms) ++ keys_of ss) (keys-marked (λ u. u.name) (λ _. true) units)
    ∙ ap (λ ks. (unit_names units ++ ks) ++ keys_of ss) (keys-marked (λ m. m.name) is_free modules)
    ∙ ap (λ ks. (unit_names units ++ map (λ m. m.name) modules) ++ ks) (keys-marked (λ s. s.name) (λ _. true) shared) in
    let kept : keys_of (filter mark ((us ++ ms) ++ ss)) ≡ resource_names units modules shared =
    ap keys_of (filter-append mark (us ++ ms) ss) ∙ keys-append (filter mark (us ++ ms)) (filter mark ss)
    ∙ ap (λ es. keys_of es ++ keys_of (filter mark ss)) (filter-append mark us ms)
    ∙ ap (λ ks. ks ++ keys_of (filter mark ss)) (keys-append (filter mark us) (filter mark ms))
    ∙ ap (λ ks. (ks ++ keys_of (filter mark ms)) ++ keys_of (filter mark ss)) (keys-kept (λ u. u.name) (λ _. true) units ∙ ap (map (λ u. u.name)) (filter-all units))
    ∙ ap (λ ks. (unit_names units ++ ks) ++ keys_of (filter mark ss)) (keys-kept (λ m. m.name) is_free modules)
    ∙ ap (λ ks. (unit_names units ++ map (λ m. m.name) (filter is_free modules)) ++ ks) (keys-kept (λ s. s.name) (λ _. true) shared ∙ ap (map (λ s. s.name)) (filter-all shared)) in
    subst P kept (IsDistinct-keys_filter (pointwise nat_eq) mark ((us ++ ms) ++ ss) (subst P (sym all) h))
