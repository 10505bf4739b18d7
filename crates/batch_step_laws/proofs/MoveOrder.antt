-- Places are in order, and the next move is the least that is possible.
use Rattle.std.proofs.Common.{◌≡◌, refl, sym, ap, ap₂, subst, ℕ, List, [], ◌∷◌, Bool, true, false, Some, None, arith, nat_eq, nat_lt, inl, inr}
use Rattle.std.specs.Prelude.{Option, ◌⊎◌}
use Rattle.batch_model.specs.{Lists.Has, Moves.Move, Moves.order_of, Moves.is_earlier, Moves.least}
use Rattle.batch_recipe.{specs.Tree.Place, specs.Tree.is_before, proofs.NodesBelow.not_before}
use Rattle.batch_step_laws.specs.Laws.{IsLeast, IsFirst}

not_before-head : (i j k : ℕ) (a b c : Bool) → elim (nat_eq i j) [ true ↦ a | false ↦ nat_lt i j ] ≡ false → elim (nat_eq j k) [ true ↦ b | false ↦ nat_lt j k ] ≡ false
    → (a ≡ false → b ≡ false → c ≡ false) → elim (nat_eq i k) [ true ↦ c | false ↦ nat_lt i k ] ≡ false
not_before-head i j k a b c e f g = grind arith

pub not_before-trans : (p q r : Place) → is_before p q ≡ false → is_before q r ≡ false → is_before p r ≡ false
not_before-trans [] [] r e f = f
not_before-trans (i ∷ p) (j ∷ q) (k ∷ r) e f =
    not_before-head i j k (is_before p q) (is_before q r) (is_before p r) e f (λ a b. not_before-trans p q r a b)
not_before-trans p q r e f = grind arith

before-head : (i j : ℕ) (a b : Bool) → elim (nat_eq i j) [ true ↦ a | false ↦ nat_lt i j ] ≡ true → (a ≡ true → b ≡ false) → elim (nat_eq j i) [ true ↦ b | false ↦ nat_lt j i ] ≡ false
before-head i j a b e g = grind arith

pub before-asym : (p q : Place) → is_before p q ≡ true → is_before q p ≡ false
before-asym (i ∷ p) (j ∷ q) e = before-head i j (is_before p q) (is_before q p) e (before-asym p q)
before-asym p q e = grind arith

equal-head : (i j : ℕ) (a b : Bool) → elim (nat_eq i j) [ true ↦ a | false ↦ nat_lt i j ] ≡ false → elim (nat_eq j i) [ true ↦ b | false ↦ nat_lt j i ] ≡ false → i ≡ j
equal-head i j a b e f = grind arith

below-head : (i j : ℕ) (a : Bool) → i ≡ j → elim (nat_eq i j) [ true ↦ a | false ↦ nat_lt i j ] ≡ false → a ≡ false
below-head i j a e f = grind arith

-- of two places neither of which comes before the other, both are one
pub before-connected : (p q : Place) → is_before p q ≡ false → is_before q p ≡ false → p ≡ q
before-connected (i ∷ p) (j ∷ q) e f =
    let same : i ≡ j = equal-head i j (is_before p q) (is_before q p) e f in
    ap₂ (λ x xs. x ∷ xs) same
    (before-connected p q (below-head i j (is_before p q) same e) (below-head j i (is_before q p) (sym same) f))
before-connected p q e f = grind arith

pub none_least : (ms : List Move) → least ms ≡ None → ms ≡ []
none_least [] e = refl
none_least (m ∷ ms) e = absurd (go (least ms) e)
  where
    pick : (b : Bool) (l : Move) → ◌≡◌ {A = Option Move} (elim b [ true ↦ Some l | false ↦ Some m ]) None → ⊥
    pick true l h = cc
    pick false l h = cc

    go : (o : Option Move) → ◌≡◌ {A = Option Move} (elim o [ None ↦ Some m | Some l ↦ elim (is_earlier l m) [ true ↦ Some l | false ↦ Some m ] ]) None → ⊥
    go None h = cc
    go (Some l) h = pick (is_earlier l m) l h

pub least-IsLeast : (ms : List Move) (x : Move) → least ms ≡ Some x → IsLeast ms x
least-IsLeast [] x e = absurd cc
least-IsLeast (m ∷ ms) x e = go (least ms) refl (λ y h. least-IsLeast ms y h) e
  where
    here : (l : Move) → m ≡ l → is_earlier l m ≡ false
    here l h = subst (λ y. is_earlier y m ≡ false) h (not_before (order_of m))

    alone : (l : Move) → ms ≡ [] → Has (m ∷ ms) l → is_earlier l m ≡ false
    alone l none h = elim h [ inl q ↦ here l q | inr q ↦ absurd (subst (λ zs. Has zs l) none q) ]

    at_first : (l y : Move) → is_earlier y m ≡ false → IsLeast ms y → Has (m ∷ ms) l → is_earlier l m ≡ false
    at_first l y b k h =
        elim h [ inl q ↦ here l q | inr q ↦ not_before-trans (order_of l) (order_of y) (order_of m) (k.1 l q) b ]

    at_rest : (l y : Move) → is_earlier y m ≡ true → IsLeast ms y → Has (m ∷ ms) l → is_earlier l y ≡ false
    at_rest l y b k h =
        elim h [
          | inl q ↦ subst (λ z. is_earlier z y ≡ false) q (before-asym (order_of y) (order_of m) b)
          | inr q ↦ k.1 l q
        ]

    pick : (y : Move) → IsLeast ms y → (b : Bool) → is_earlier y m ≡ b → ◌≡◌ {A = Option Move} (elim b [ true ↦ Some y | false ↦ Some m ]) (Some x) → IsLeast (m ∷ ms) x
    pick y k true b h =
        let same : y ≡ x = cc in
        subst (IsLeast (m ∷ ms)) same (inr k.0, λ l q. at_rest l y b k q)
    pick y k false b h =
        let same : m ≡ x = cc in
        subst (IsLeast (m ∷ ms)) same (inl refl, λ l q. at_first l y b k q)

    go : (o : Option Move) → least ms ≡ o → ((y : Move) → least ms ≡ Some y → IsLeast ms y) → ◌≡◌ {A = Option Move} (elim o [ None ↦ Some m | Some l ↦ elim (is_earlier l m) [ true ↦ Some l | false ↦ Some m ] ]) (Some x) → IsLeast (m ∷ ms) x
    go None n f h =
        let same : m ≡ x = cc in
        subst (IsLeast (m ∷ ms)) same (inl refl, λ l q. alone l (none_least ms n) q)
    go (Some y) n f h = pick y (f y n) (is_earlier y m) refl h

-- a move that is strictly before all others is the least
pub least-IsFirst : (ms : List Move) (m : Move) → IsFirst ms m → least ms ≡ Some m
least-IsFirst ms m (h, f) = go (least ms) refl
  where
    same : (x : Move) → IsLeast ms x → (x ≡ m) ⊎ (is_earlier m x ≡ true) → x ≡ m
    same x k (inl q) = q
    same x k (inr q) = let no : is_earlier m x ≡ false = k.1 m h in absurd cc

    go : (o : Option Move) → least ms ≡ o → o ≡ Some m
    go None e = absurd (subst (λ zs. Has zs m) (none_least ms e) h)
    go (Some x) e = let k : IsLeast ms x = least-IsLeast ms x e in ap Some (same x k (f x k.0))
