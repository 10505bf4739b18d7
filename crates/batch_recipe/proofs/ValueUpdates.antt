-- Values that are set one after another.
use Rattle.std.specs.{Cmp.Lexicographic.bytes_decides, Prelude.slice_get}
use Rattle.std.proofs.Common.{◌≡◌, ◌+◌, refl, sym, ◌∙◌, ap, ℕ, zero, suc, List, [], ◌∷◌, Option, Some, true, false, arith, take, ◌++◌}
use Rattle.batch_recipe.specs.{Conditions.Name, Conditions.ValueList, Conditions.same_name, Values.with_value, Values.with_values}

more : (n : ℕ) → suc n ≡ n + 1
more n = omega arith

-- a value is set
abbrev pub named : Name → ℕ → (Name × ℕ) → (Name × ℕ)
named name n v = elim (same_name v.0 name) [ true ↦ (name, n) | false ↦ v ]

pub same-names : (a b : Name) → same_name a b ≡ true → a ≡ b
same-names a b e = (bytes_decides a b).0 e

set-last : (os : ValueList) (o : Name × ℕ) (vs : ValueList) → with_values (os ++ o ∷ []) vs ≡ with_value o.0 o.1 (with_values os vs)
set-last [] o vs = refl
set-last (x ∷ os) o vs = set-last os o (with_value x.0 x.1 vs)

take-more : {X : Type 0} (xs : List X) (n : ℕ) (x : X) → slice_get xs n ≡ Some x → take (suc n) xs ≡ take n xs ++ x ∷ []
take-more [] n x e = absurd cc
take-more (y ∷ xs) zero x e = let g : y ≡ x = cc in ap (λ z. z ∷ []) g
take-more (y ∷ xs) (suc n) x e = ap (λ z. y ∷ z) (take-more xs n x e)

pub outputs-next : (os vs ws : ValueList) (n : ℕ) (o : Name × ℕ) → ws ≡ with_values (take n os) vs → slice_get os n ≡ Some o → with_value o.0 o.1 ws ≡ with_values (take (n + 1) os) vs
outputs-next os vs ws n o e at = grind (arith, more n, set-last (take n os) o vs, take-more os n o at)

-- a position has one element
pub same-at : {X : Type 0} (xs : List X) (i : ℕ) (x y : X) → slice_get xs i ≡ Some x → slice_get xs i ≡ Some y → x ≡ y
same-at {X} xs i x y e f = let g : ◌≡◌ {A = Option X} (Some x) (Some y) = sym e ∙ f in cc

abbrev pub zero_of : Name → Name × ℕ
zero_of name = (name, 0)
