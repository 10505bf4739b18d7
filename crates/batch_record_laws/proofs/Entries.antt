-- Holders among entries, and a record's account of them.
use Rattle.std.proofs.Common.{◌≡◌, refl, sym, ◌∙◌, ap, ap₂, ℕ, ◌+◌, ◌≤◌, ◌<◌, arith, List, [], ◌∷◌, ◌++◌, Bool, true, false, cond, not, filter, inl, inr, ◌⊎◌, ⊎_elim, length, sum_by, bytes_eq, nat_eq}
use Rattle.std.proofs.lemmas.{List.Sums.sum_by-append, List.Sums.sum_by-cons, List.Sums.length-filter, List.Sums.count_by-le-length, Slice.Eq.bytes_eq-Decides, Grind.flat_map-append, Bool.and_parts, Bool.and_from, Bool.not_from_true}
use Rattle.batch_model.{specs.Lists.Has, specs.Plant.BatchAct, specs.Plant.Share, specs.Plant.units_in, specs.Plant.is_same_act, specs.Plant.without, proofs.Members.Has-split, proofs.Members.Has-left, proofs.Members.Has-right}
use Rattle.batch_recipe.specs.{Conditions.Name, declared.need.Need.Need}
pub use Rattle.batch_record_laws.specs.Once.{IsOnce}
use Rattle.batch_record_laws.proofs.PlantFacts.{holding, awaiting, performing, Entry, holder_of, holders_among, need, share}

pub nat_same : (m n : ℕ) → nat_eq m n ≡ true → m ≡ n
nat_same m n e = grind arith

pub nat_self : (n : ℕ) → nat_eq n n ≡ true
nat_self n = grind arith

pub nat_differs : (m n : ℕ) → (m ≡ n → ⊥) → nat_eq m n ≡ false
nat_differs m n d = grind (arith, nat_same)

pub name_self : (r : Name) → bytes_eq r r ≡ true
name_self r = (bytes_eq-Decides r r).1 refl

pub name_same : (q r : Name) → bytes_eq q r ≡ true → q ≡ r
name_same q r e = (bytes_eq-Decides q r).0 e

pub same_act : (a b : BatchAct) → is_same_act a b ≡ true → a ≡ b
same_act a b e =
    let h : (nat_eq a.0 b.0 ≡ true) × (bytes_eq a.1 b.1 ≡ true) = and_parts (nat_eq a.0 b.0) (bytes_eq a.1 b.1) e in
    ap₂ (λ x y. let z : BatchAct = (x, y) in z) (nat_same a.0 b.0 h.0) (name_same a.1 b.1 h.1)

pub act_self : (a : BatchAct) → is_same_act a a ≡ true
act_self a = and_from (nat_eq a.0 a.0) (bytes_eq a.1 a.1) (nat_self a.0) (name_self a.1)

-- Filtered lists

pub Has-filter : {X : Type 0} (p : X → Bool) (xs : List X) (x : X) → Has (filter p xs) x → Has xs x × (p x ≡ true)
Has-filter p [] x h = absurd h
Has-filter p (y ∷ xs) x h = grind (arith, Has-filter p xs x)

pub filter-Has : {X : Type 0} (p : X → Bool) (xs : List X) (x : X) → Has xs x → p x ≡ true → Has (filter p xs) x
filter-Has p [] x h e = absurd h
filter-Has p (y ∷ xs) x (inl q) e = grind arith
filter-Has p (y ∷ xs) x (inr h) e = grind (arith, filter-Has p xs x h e)

pub length-filter_le : {X : Type 0} (p : X → Bool) (xs : List X) → length (filter p xs) ≤ length xs
length-filter_le p xs = omega (arith, length-filter p xs, count_by-le-length p xs)

pub length-filter_lt : {X : Type 0} (p : X → Bool) (xs : List X) (x : X) → Has xs x → p x ≡ false → length (filter p xs) < length xs
length-filter_lt p [] x h e = absurd h
length-filter_lt p (y ∷ xs) x (inl q) e = grind (arith, length-filter_le p xs)
length-filter_lt p (y ∷ xs) x (inr k) e = grind (arith, length-filter_lt p xs x k e)

pub Has-without : (a : BatchAct) (xs : List Share) (x : Share) → Has (without a xs) x → Has xs x × (x.act ≡ a → ⊥)
Has-without a xs x h = grind (arith, act_self x.act, Has-filter, not_from_true)

pub differs : (x a : BatchAct) → (x ≡ a → ⊥) → not (is_same_act x a) ≡ true
differs x a d = grind (arith, same_act)

pub without-Has : (a : BatchAct) (xs : List Share) (x : Share) → Has xs x → (x.act ≡ a → ⊥) → Has (without a xs) x
without-Has a xs x h d = filter-Has (λ b. not (is_same_act b.act a)) xs x h (differs x.act a d)

-- Holders

pub Has-holders : (q : Name) (es : List Entry) (a : Share) → Has (holders_among q es) a → Has es (a.act, holding (need q a.units))
Has-holders q [] a h = absurd h
Has-holders q (e ∷ es) a h =
    ⊎_elim (λ k. inl (one e k)) (λ k. inr (Has-holders q es a k)) (Has-split (holder_of q e) (holders_among q es) a h)
  where
    pick : (c : BatchAct) (r : Need) (b : Bool) → bytes_eq q r.resource ≡ b → Has (elim b [ true ↦ share c r.units ∷ [] | false ↦ [] ]) a
        → ◌≡◌ {A = Entry} (c, holding r) (a.act, holding (need q a.units))
    pick c r true f (inl p) =
        ap (λ z. let e : Entry = (c, holding (need z r.units)) in e) (sym (name_same q r.resource f))
        ∙ ap (λ z. let e : Entry = (z.act, holding (need q z.units)) in e) p
    pick c r true f (inr p) = absurd p
    pick c r false f p = absurd p

    one : (z : Entry) → Has (holder_of q z) a → z ≡ (a.act, holding (need q a.units))
    one (c, holding r) k = pick c r (bytes_eq q r.resource) refl k
    one (c, awaiting r) k = absurd k
    one (c, performing x) k = absurd k

pub holders-Has : (q : Name) (es : List Entry) (a : Share) → Has es (a.act, holding (need q a.units)) → Has (holders_among q es) a
holders-Has q [] a h = absurd h
holders-Has q (e ∷ es) a (inl p) = grind (arith, name_self q, Has-left)
holders-Has q (e ∷ es) a (inr k) = Has-right (holder_of q e) (holders_among q es) a (holders-Has q es a k)

pub holders-append : (q : Name) (xs ys : List Entry) → holders_among q (xs ++ ys) ≡ holders_among q xs ++ holders_among q ys
holders-append q xs ys = flat_map-append (holder_of q) xs ys

-- Shares of which no act has two

pub once-snoc : (a : Share) (xs : List Share) → IsOnce xs → ((y : Share) → Has xs y → y.act ≡ a.act → ⊥) → IsOnce (xs ++ a ∷ [])
once-snoc a [] h d = (λ y k. absurd k, tt)
once-snoc a (x ∷ xs) h d = (
  λ y k e. ⊎_elim (λ m. h.0 y m e) (λ m. ⊎_elim (λ q. d x (inl refl) (sym e ∙ sym (ap (λ z. z.act) q))) (λ q. q) m) (Has-split xs (a ∷ []) y k),
  once-snoc a xs h.1 (λ y k. d y (inr k)),
)

pub once-filter : (p : Share → Bool) (xs : List Share) → IsOnce xs → IsOnce (filter p xs)
once-filter p [] h = tt
once-filter p (x ∷ xs) h = go (p x) (once-filter p xs h.1)
  where
    go : (t : Bool) → IsOnce (filter p xs) → IsOnce (cond t (x ∷ filter p xs) (filter p xs))
    go true m = (λ y k. h.0 y ((Has-filter p xs y k).0), m)
    go false m = m

-- Sums over shares, of their units or of anything else that is counted of a share

module _ (amount : Share → ℕ) where
  pub sums-append : (xs ys : List Share) → sum_by amount (xs ++ ys) ≡ sum_by amount xs + sum_by amount ys
  sums-append xs ys = sum_by-append amount xs ys

  pub sums-cons : (x : Share) (xs : List Share) → sum_by amount (x ∷ xs) ≡ amount x + sum_by amount xs
  sums-cons x xs = sum_by-cons amount x xs

  pub sums-one : (a : Share) → sum_by amount (a ∷ []) ≡ amount a
  sums-one a = let l : sum_by amount (a ∷ []) ≡ amount a + sum_by amount [] = sums-cons a [] in omega arith

  pub sums-frame : (f m b : List Share) → sum_by amount (f ++ (m ++ b)) ≡ sum_by amount f + (sum_by amount m + sum_by amount b)
  sums-frame f m b = sums-append f (m ++ b) ∙ ap (λ z. sum_by amount f + z) (sums-append m b)

  sums-kept : (p : Share → Bool) (xs : List Share) → ((x : Share) → Has xs x → p x ≡ true) → sum_by amount (filter p xs) ≡ sum_by amount xs
  sums-kept p [] h = refl
  sums-kept p (x ∷ xs) h = go (p x) (h x (inl refl)) (sums-kept p xs (λ y k. h y (inr k)))
    where
      go : (t : Bool) → t ≡ true → sum_by amount (filter p xs) ≡ sum_by amount xs → sum_by amount (cond t (x ∷ filter p xs) (filter p xs)) ≡ sum_by amount (x ∷ xs)
      go true e f =
          let l : sum_by amount (x ∷ filter p xs) ≡ amount x + sum_by amount (filter p xs) = sums-cons x (filter p xs) in
          let r : sum_by amount (x ∷ xs) ≡ amount x + sum_by amount xs = sums-cons x xs in
          omega arith
      go false e f = absurd cc

  -- taking away a share that is there once takes away its amount
  pub sums-without_once : (a : Share) (xs : List Share) → IsOnce xs → Has xs a → amount a + sum_by amount (without a.act xs) ≡ sum_by amount xs
  sums-without_once a [] h k = absurd k
  sums-without_once a (x ∷ xs) h (inl e) = grind (arith, act_self x.act, sums-cons x xs, sums-kept, differs)
  sums-without_once a (x ∷ xs) h (inr k) = go (not (is_same_act x.act a.act)) (differs x.act a.act (λ q. h.0 a k (sym q))) (sums-without_once a xs h.1 k)
    where
      go : (t : Bool) → t ≡ true → amount a + sum_by amount (filter (λ b. not (is_same_act b.act a.act)) xs) ≡ sum_by amount xs
          → amount a + sum_by amount (cond t (x ∷ filter (λ b. not (is_same_act b.act a.act)) xs) (filter (λ b. not (is_same_act b.act a.act)) xs)) ≡ sum_by amount (x ∷ xs)
      go true f m =
          let l : sum_by amount (x ∷ filter (λ b. not (is_same_act b.act a.act)) xs) ≡ amount x + sum_by amount (filter (λ b. not (is_same_act b.act a.act)) xs)
          = sums-cons x (filter (λ b. not (is_same_act b.act a.act)) xs) in
          let r : sum_by amount (x ∷ xs) ≡ amount x + sum_by amount xs = sums-cons x xs in
          omega arith
      go false f m = absurd cc

pub units-append : (xs ys : List Share) → units_in (xs ++ ys) ≡ units_in xs + units_in ys
units-append = sums-append (λ h. h.units)

pub units-cons : (x : Share) (xs : List Share) → units_in (x ∷ xs) ≡ x.units + units_in xs
units-cons = sums-cons (λ h. h.units)

pub units-one : (a : Share) → units_in (a ∷ []) ≡ a.units
units-one = sums-one (λ h. h.units)

pub units-frame : (f m b : List Share) → units_in (f ++ (m ++ b)) ≡ units_in f + (units_in m + units_in b)
units-frame = sums-frame (λ h. h.units)

pub length-sums : (xs : List Share) → length xs ≡ sum_by (λ h. 1) xs
length-sums [] = refl
length-sums (x ∷ xs) = let l : sum_by (λ (h : Share). 1) (x ∷ xs) ≡ 1 + sum_by (λ (h : Share). 1) xs = sums-cons (λ h. 1) x xs in omega (arith, length-sums xs)

-- told has the same members as now, each once, and they add up to the same, whatever is counted of a share
abbrev pub Agrees : List Share → List Share → Type 0
Agrees told now = ((amount : Share → ℕ) → sum_by amount told ≡ sum_by amount now) × ((a : Share) → Has told a → Has now a) × ((a : Share) → Has now a → Has told a) × IsOnce told

pub Has-frame : {X : Type 0} (f m b : List X) (x : X) → Has (f ++ (m ++ b)) x → Has f x ⊎ (Has m x ⊎ Has b x)
Has-frame f m b x h = ⊎_elim (λ k. inl k) (λ k. inr (Has-split m b x k)) (Has-split f (m ++ b) x h)

pub frame-front : {X : Type 0} (f m b : List X) (x : X) → Has f x → Has (f ++ (m ++ b)) x
frame-front f m b x h = Has-left f (m ++ b) x h

pub frame-middle : {X : Type 0} (f m b : List X) (x : X) → Has m x → Has (f ++ (m ++ b)) x
frame-middle f m b x h = Has-right f (m ++ b) x (Has-left m b x h)

pub frame-back : {X : Type 0} (f m b : List X) (x : X) → Has b x → Has (f ++ (m ++ b)) x
frame-back f m b x h = Has-right f (m ++ b) x (Has-right m b x h)

-- nobody of these is the act
abbrev pub NoneBy : BatchAct → List Share → Type 0
NoneBy a xs = (y : Share) → Has xs y → y.act ≡ a → ⊥

-- a grant adds a holder
pub agrees-more : (a : Share) (told f m b : List Share) → Agrees told (f ++ (m ++ b)) → NoneBy a.act f → NoneBy a.act m → NoneBy a.act b → Agrees (told ++ a ∷ []) (f ++ ((m ++ a ∷ []) ++ b))
agrees-more a told f m b h nf nm nb = (
  λ amount.
      (let e : sum_by amount (told ++ a ∷ []) ≡ sum_by amount told + sum_by amount (a ∷ []) = sums-append amount told (a ∷ []) in
      let was : sum_by amount (f ++ (m ++ b)) ≡ sum_by amount f + (sum_by amount m + sum_by amount b) = sums-frame amount f m b in
      let is : sum_by amount (f ++ ((m ++ a ∷ []) ++ b)) ≡ sum_by amount f + (sum_by amount (m ++ a ∷ []) + sum_by amount b) = sums-frame amount f (m ++ a ∷ []) b in
      let more : sum_by amount (m ++ a ∷ []) ≡ sum_by amount m + sum_by amount (a ∷ []) = sums-append amount m (a ∷ []) in
      let same : sum_by amount told ≡ sum_by amount (f ++ (m ++ b)) = h.0 amount in
      omega arith),
  λ x k. ⊎_elim
      (λ n. ⊎_elim (frame-front f (m ++ a ∷ []) b x) (λ o. ⊎_elim (λ p. frame-middle f (m ++ a ∷ []) b x (Has-left m (a ∷ []) x p)) (frame-back f (m ++ a ∷ []) b x) o) (Has-frame f m b x (h.1 x n)))
      (λ n. frame-middle f (m ++ a ∷ []) b x (Has-right m (a ∷ []) x n)) (Has-split told (a ∷ []) x k),
  λ x k. ⊎_elim (λ n. Has-left told (a ∷ []) x (h.2 x (frame-front f m b x n)))
      (λ n. ⊎_elim
      (λ o. ⊎_elim (λ p. Has-left told (a ∷ []) x (h.2 x (frame-middle f m b x p))) (λ p. Has-right told (a ∷ []) x p) (Has-split m (a ∷ []) x o))
      (λ o. Has-left told (a ∷ []) x (h.2 x (frame-back f m b x o))) n)
      (Has-frame f (m ++ a ∷ []) b x k),
  once-snoc a told h.3 (λ y k. ⊎_elim (nf y) (λ z. ⊎_elim (nm y) (nb y) z) (Has-frame f m b y (h.1 y k))),
)

-- a release takes the holder away
pub agrees-less : (a : Share) (told f m b : List Share) → Agrees told (f ++ ((m ++ a ∷ []) ++ b)) → NoneBy a.act f → NoneBy a.act m → NoneBy a.act b
    → Agrees (without a.act told) (f ++ (m ++ b))
agrees-less a told f m b h nf nm nb = (
  λ amount.
      (let is : sum_by amount (f ++ (m ++ b)) ≡ sum_by amount f + (sum_by amount m + sum_by amount b) = sums-frame amount f m b in
      let was : sum_by amount (f ++ ((m ++ a ∷ []) ++ b)) ≡ sum_by amount f + (sum_by amount (m ++ a ∷ []) + sum_by amount b) = sums-frame amount f (m ++ a ∷ []) b in
      let more : sum_by amount (m ++ a ∷ []) ≡ sum_by amount m + sum_by amount (a ∷ []) = sums-append amount m (a ∷ []) in
      let one : sum_by amount (a ∷ []) ≡ amount a = sums-one amount a in
      let same : sum_by amount told ≡ sum_by amount (f ++ ((m ++ a ∷ []) ++ b)) = h.0 amount in
      let less : amount a + sum_by amount (without a.act told) ≡ sum_by amount told
      = sums-without_once amount a told h.3 (h.2 a (frame-middle f (m ++ a ∷ []) b a (Has-right m (a ∷ []) a (inl refl)))) in
      omega arith),
  λ x k. let w = Has-without a.act told x k in
      ⊎_elim (frame-front f m b x)
      (λ o. ⊎_elim
      (λ p. ⊎_elim (frame-middle f m b x) (λ z. ⊎_elim (λ q. absurd (w.1 (ap (λ v. v.act) (sym q)))) (λ q. absurd q) z) (Has-split m (a ∷ []) x p))
      (frame-back f m b x) o)
      (Has-frame f (m ++ a ∷ []) b x (h.1 x w.0)),
  λ x k. ⊎_elim (λ n. without-Has a.act told x (h.2 x (frame-front f (m ++ a ∷ []) b x n)) (nf x n))
      (λ n. ⊎_elim
      (λ o. without-Has a.act told x (h.2 x (frame-middle f (m ++ a ∷ []) b x (Has-left m (a ∷ []) x o))) (nm x o))
      (λ o. without-Has a.act told x (h.2 x (frame-back f (m ++ a ∷ []) b x o)) (nb x o)) n)
      (Has-frame f m b x k),
  once-filter (λ z. not (is_same_act z.act a.act)) told h.3,
)
