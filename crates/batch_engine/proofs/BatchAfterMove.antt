-- A move of one batch, in the engine and in its plant.
use Rattle.std.proofs.Common.{◌≡◌, ◌<◌, refl, sym, ◌∙◌, ap, ap₂, subst, ℕ, zero, suc, List, [], ◌∷◌, Bool, true, false, not, cond, Option, Some, inl, inr, arith, map, filter, set, nat_eq}
use Rattle.std.specs.Prelude.{slice_get}
use Rattle.batch_recipe.specs.{Conditions.Name, Conditions.same_name, Tree.Place}
use Rattle.batch_model.specs.{Lists.Has, Plant.BatchAct, Plant.Share, Plant.is_same_act, Plant.without, Standing.AreNumbered}
use Rattle.batch_model.specs.Plant as Model
use Rattle.batch_step_laws.proofs.Batches.{only}
use Rattle.batch_record_laws.proofs.Entries.{IsOnce, differs, act_self, name_self, name_same, nat_self}
use Rattle.batch_verify.specs.ClearedSet.{ClearedSet}
use Rattle.batch_arbiter.specs.Allocation.{Claim, without_first}
use Rattle.batch_chart.specs.NodesOf.{place_at}
use Rattle.batch_engine.{specs.declared.batch.Batch.Batch, specs.View.tree_at, specs.View.model_batch, specs.View.share_of, specs.View.claimed_shares, specs.View.place_in, specs.View.names_of, specs.View.resource_number, specs.View.tree_of, proofs.BatchPlaces.made_by, proofs.BatchPlaces.chosen-true, proofs.BatchPlaces.chosen-false, proofs.BatchPlaces.later-number, proofs.BatchLookups.Has-get, proofs.BatchLookups.named}

pub fun_ext : {A B : Type 0} {f g : A → B} → ((x : A) → f x ≡ g x) → f ≡ g
fun_ext h = λ i x. h x i

map-same : {X Y : Type 0} (f g : X → Y) (xs : List X) → ((x : X) → f x ≡ g x) → map f xs ≡ map g xs
map-same f g [] h = refl
map-same f g (x ∷ xs) h = ap₂ (λ y ys. y ∷ ys) (h x) (map-same f g xs h)

pub test-other : (m n : ℕ) → m < n → nat_eq m n ≡ false
test-other m n l = grind arith

pub test-other' : (m n : ℕ) → n < m → nat_eq m n ≡ false
test-other' m n l = grind arith

module _ (c : ClearedSet) (next : ℕ) (b' : Batch) where
  -- places stay if one batch is changed and keeps its number, its recipe and its units
  pub place-same : (bs : List Batch) (i : ℕ) (b : Batch) → slice_get bs i ≡ Some b → b'.number ≡ b.number → made_by b' ≡ made_by b → (n j : ℕ)
      → place_in c (set bs i b') n j ≡ place_in c bs n j
  place-same [] i b e p q n j = absurd cc
  place-same (x ∷ bs) zero b e p q n j =
      let f : x ≡ b = cc in
      ap₂ (λ m (r : ℕ × List ℕ). let z : Place = elim (nat_eq m n) [ true ↦ place_at (tree_at c r.0 r.1) j | false ↦ place_in c bs n j ] in z)
      (p ∙ sym (ap (λ (z : Batch). z.number) f)) (q ∙ sym (ap made_by f))
  place-same (x ∷ bs) (suc i) b e p q n j =
      ap (λ r. let z : Place = elim (nat_eq x.number n) [ true ↦ place_at (tree_of c x) j | false ↦ r ] in z) (place-same bs i b e p q n j)

  pub acts-same : (bs : List Batch) (i : ℕ) (b : Batch) → slice_get bs i ≡ Some b → b'.number ≡ b.number → made_by b' ≡ made_by b → (xs : List Claim)
      → claimed_shares c (set bs i b') xs ≡ claimed_shares c bs xs
  acts-same bs i b e p q xs = map-same (share_of c (set bs i b')) (share_of c bs) xs (λ x. ap (λ (z : Place). let y : Share = record { act = (x.batch, z); units = x.units } in y) (place-same bs i b e p q x.batch x.node))

  others-same : (n : ℕ) (f : Model.Batch → Model.Batch) (bs : List Batch) → ((d : Batch) → Has bs d → n < d.number) → map (model_batch c) bs ≡ map (only n f) (map (model_batch c) bs)
  others-same n f [] h = refl
  others-same n f (x ∷ bs) h =
      ap₂ (λ y ys. y ∷ ys) (sym (chosen-false (nat_eq x.number n) (f (model_batch c x)) (model_batch c x) (test-other' x.number n (h x (inl refl)))))
      (others-same n f bs (λ d k. h d (inr k)))

  -- the batches of the plant after it
  pub batches-same : (bs : List Batch) (i : ℕ) (b : Batch) (f : Model.Batch → Model.Batch) → AreNumbered next (map (model_batch c) bs) → slice_get bs i ≡ Some b
      → model_batch c b' ≡ f (model_batch c b) → map (model_batch c) (set bs i b') ≡ map (only b.number f) (map (model_batch c) bs)
  batches-same [] i b f k e h = absurd cc
  batches-same (x ∷ bs) zero b f k e h =
      let g : x ≡ b = cc in
      ap₂ (λ y ys. y ∷ ys)
      (h ∙ ap (λ (z : Batch). f (model_batch c z)) (sym g)
      ∙ sym (chosen-true (nat_eq x.number b.number) (f (model_batch c x)) (model_batch c x) (subst (λ (z : Batch). nat_eq x.number z.number ≡ true) g (nat_self x.number))))
      (others-same b.number f bs (λ d m. subst (λ (z : Batch). z.number < d.number) g (later-number c next x bs d k m)))
  batches-same (x ∷ bs) (suc i) b f k e h =
      let above : x.number < b.number = later-number c next x bs b k (Has-get bs i b e) in
      ap₂ (λ y ys. y ∷ ys) (sym (chosen-false (nat_eq x.number b.number) (f (model_batch c x)) (model_batch c x) (test-other x.number b.number above)))
      (batches-same bs i b f k.2 e h)

-- Names and numbers of resources

pub same-number : (c : ClearedSet) (x y : Name) (q r : ℕ) → resource_number c x ≡ Some q → resource_number c y ≡ Some r → q ≡ r → x ≡ y
same-number c x y q r e f g =
    let h : ◌≡◌ {A = Option Name} (Some x) (Some y) = sym (named c x q e) ∙ ap (slice_get (names_of c)) g ∙ named c y r f in cc

pub same-named : (c : ClearedSet) (x y : Name) (q r : ℕ) → resource_number c x ≡ Some q → resource_number c y ≡ Some r → x ≡ y → q ≡ r
same-named c x y q r e f g = let h : ◌≡◌ {A = Option ℕ} (Some q) (Some r) = sym e ∙ ap (resource_number c) g ∙ f in cc

pub name-yes : (x y : Name) → x ≡ y → same_name x y ≡ true
name-yes x y e = subst (λ z. same_name x z ≡ true) e (name_self x)

pub name-no : (x y : Name) → (x ≡ y → ⊥) → same_name x y ≡ false
name-no x y d = go (same_name x y) refl
  where
    go : (b : Bool) → same_name x y ≡ b → b ≡ false
    go true e = absurd (d (name_same x y e))
    go false e = refl

-- Lists of shares

filter-all : (a : BatchAct) (xs : List Share) → ((y : Share) → Has xs y → y.act ≡ a → ⊥) → filter (λ b. not (is_same_act b.act a)) xs ≡ xs
filter-all a [] h = refl
filter-all a (x ∷ xs) h = go (not (is_same_act x.act a)) (differs x.act a (h x (inl refl))) (filter-all a xs (λ y k. h y (inr k)))
  where
    go : (t : Bool) → t ≡ true → filter (λ b. not (is_same_act b.act a)) xs ≡ xs → cond t (x ∷ filter (λ b. not (is_same_act b.act a)) xs) (filter (λ b. not (is_same_act b.act a)) xs) ≡ x ∷ xs
    go true e f = ap (λ ys. x ∷ ys) f
    go false e f = absurd cc

-- the first of shares of acts that differ is gone
pub without-head : (x : Share) (xs : List Share) → ((y : Share) → Has xs y → y.act ≡ x.act → ⊥) → without x.act (x ∷ xs) ≡ xs
without-head x xs h = go (is_same_act x.act x.act) (act_self x.act)
  where
    go : (t : Bool) → t ≡ true → cond (not t) (x ∷ filter (λ b. not (is_same_act b.act x.act)) xs) (filter (λ b. not (is_same_act b.act x.act)) xs) ≡ xs
    go true e = filter-all x.act xs h
    go false e = absurd cc

-- of shares of acts that differ, the one that a claim is for is gone
pub without-claim : (share : Claim → Share) (p : Claim → Bool) (a : BatchAct) (xs : List Claim) → IsOnce (map share xs) → ((x : Claim) → p x ≡ is_same_act (share x).act a)
    → map share (without_first p xs) ≡ without a (map share xs)
without-claim share p a [] h k = refl
without-claim share p a (x ∷ xs) h k = go (p x) refl (without-claim share p a xs h.1 k)
  where
    later : (ys zs : List Share) (t : Bool) → t ≡ true → ys ≡ zs → cond t (share x ∷ ys) ys ≡ share x ∷ zs
    later ys zs true e f = ap (λ w. share x ∷ w) f
    later ys zs false e f = absurd cc

    gone : (zs : List Share) (t : Bool) → t ≡ false → cond t (share x ∷ zs) zs ≡ zs
    gone zs true e = absurd cc
    gone zs false e = refl

    negate : (t s : Bool) → t ≡ s → (u : Bool) → t ≡ u → not s ≡ not u
    negate t s e u f = ap not (sym e ∙ f)

    go : (t : Bool) → p x ≡ t → map share (without_first p xs) ≡ without a (map share xs) → map share (cond t xs (x ∷ without_first p xs)) ≡ without a (share x ∷ map share xs)
    go true e f =
        let same : (share x).act ≡ a = Rattle.batch_record_laws.proofs.Entries.same_act (share x).act a (sym (k x) ∙ e) in
        sym (gone (filter (λ b. not (is_same_act b.act a)) (map share xs)) (not (is_same_act (share x).act a)) (negate (p x) (is_same_act (share x).act a) (k x) true e) ∙ filter-all a (map share xs) (λ y m d. h.0 y m (d ∙ sym same)))
    go false e f = sym (later (filter (λ b. not (is_same_act b.act a)) (map share xs)) (map share (without_first p xs)) (not (is_same_act (share x).act a)) (negate (p x) (is_same_act (share x).act a) (k x) false e) (sym f))
