-- A change of the act at one place adds no work to a rest if it adds none to the act, and takes work from the rest if it takes some from the act.
use Rattle.std.proofs.Common.{◌≡◌, refl, sym, ◌∙◌, ap, subst, Bool, true, false, List, [], ◌∷◌, ◌++◌, arith, inl, inr, ◌<◌, ◌≤◌, ◌+◌}
use Rattle.std.{specs.Prelude.◌⊎◌, proofs.lemmas.Slice.Eq.bytes_eq-Decides}
use Rattle.batch_matrix.specs.declared.state.State.{State}
use Rattle.batch_model.{specs.Lists.Has, specs.Rest.same_place, specs.Rest.Rest, specs.Rest.ready, specs.Rest.asking, specs.Rest.open_act, specs.Rest.live, specs.Rest.freeing, specs.Rest.in_seq, specs.Rest.in_par, specs.Rest.in_loop, specs.Rest.done, specs.Rest.Rests, specs.Rest.no_rests, specs.Rest.rest, specs.Rest.acts, specs.Rest.acts_of_each, specs.Rest.changed_at, specs.Rest.changed_in_each, specs.Rest.place_of, specs.Runs.toil_left, specs.Runs.toil_left_in_each, proofs.Members.Has-left, proofs.Members.Has-right}
use Rattle.batch_recipe.specs.Tree.{Place, Step}

pub to_same_place : (q p : Place) → same_place q p ≡ true → q ≡ p
to_same_place q p e = (bytes_eq-Decides q p).0 e

pub same_test : (q p : Place) → q ≡ p → same_place q p ≡ true
same_test q p e = (bytes_eq-Decides q p).1 e

module _ (x : State) (p : Place) (f : Rest → Rest) where
  -- f adds no work to the act a, if a is at the place
  abbrev Eases : Rest → Type 0
  Eases a = place_of a ≡ p → toil_left x (f a) ≤ toil_left x a

  eased : (a b : Rest) (t : Bool) → (t ≡ true → toil_left x (f a) ≤ toil_left x a) → toil_left x b ≤ toil_left x a
      → toil_left x (elim t [ true ↦ f a | false ↦ b ]) ≤ toil_left x a
  eased a b t h k = grind arith

  mutual
    -- a change that adds no work at its place adds none to the whole
    pub changed_at-toil : (r : Rest) → ((a : Rest) → Has (acts r) a → Eases a) → toil_left x (changed_at p f r) ≤ toil_left x r
    changed_at-toil (ready s w k) h = eased (ready s w k) (ready s w k) (same_place s.place p) (λ e. h (ready s w k) (inl refl) (to_same_place s.place p e)) (omega arith)
    changed_at-toil (asking s w k) h = eased (asking s w k) (asking s w k) (same_place s.place p) (λ e. h (asking s w k) (inl refl) (to_same_place s.place p e)) (omega arith)
    changed_at-toil (open_act s r) h =
        eased (open_act s r) (open_act s (changed_at p f r)) (same_place s.place p) (λ e. h (open_act s r) (inl refl) (to_same_place s.place p e))
        (omega (arith, changed_at-toil r (λ a m. h a (inr m))))
    changed_at-toil (live s y t) h = eased (live s y t) (live s y t) (same_place s.place p) (λ e. h (live s y t) (inl refl) (to_same_place s.place p e)) (omega arith)
    changed_at-toil (freeing s k) h = eased (freeing s k) (freeing s k) (same_place s.place p) (λ e. h (freeing s k) (inl refl) (to_same_place s.place p e)) (omega arith)
    changed_at-toil (in_seq r cs) h = omega (arith, changed_at-toil r h)
    changed_at-toil (in_par rs) h = changed_in_each-toil rs h
    changed_at-toil (in_loop n c body r) h = omega (arith, changed_at-toil r h)
    changed_at-toil done h = omega arith

    pub changed_in_each-toil : (rs : Rests) → ((a : Rest) → Has (acts_of_each rs) a → Eases a) → toil_left_in_each x (changed_in_each p f rs) ≤ toil_left_in_each x rs
    changed_in_each-toil no_rests h = omega arith
    changed_in_each-toil (rest r rs) h =
        omega (
          arith,
          changed_at-toil r (λ a m. h a (Has-left (acts r) (acts_of_each rs) a m)),
          changed_in_each-toil rs (λ a m. h a (Has-right (acts r) (acts_of_each rs) a m)),
        )

  -- f takes work from the act a, if a is at the place
  abbrev Lowers : Rest → Type 0
  Lowers a = place_of a ≡ p → toil_left x (f a) < toil_left x a

  to-Eases : (a : Rest) → Lowers a → Eases a
  to-Eases a h e = let l : toil_left x (f a) < toil_left x a = h e in omega arith

  -- the act at the place itself
  lowered : (a b : Rest) (q : Place) → q ≡ p → toil_left x (f a) < toil_left x a → toil_left x (elim (same_place q p) [ true ↦ f a | false ↦ b ]) < toil_left x a
  lowered a b q e h = subst (λ t. toil_left x (elim t [ true ↦ f a | false ↦ b ]) < toil_left x a) (sym (same_test q p e)) h

  -- an act above the place, or the act at it
  lowered_below : (a b : Rest) (t : Bool) → (t ≡ true → toil_left x (f a) < toil_left x a) → toil_left x b < toil_left x a
      → toil_left x (elim t [ true ↦ f a | false ↦ b ]) < toil_left x a
  lowered_below a b t h k = grind arith

  -- some act of the list stands at the place
  abbrev pub HasAt : List Rest → Type 0
  HasAt more = (a : Rest) × Has more a × (place_of a ≡ p)

  HasAt-one : (a b : Rest) → Has (a ∷ []) b → a ≡ b
  HasAt-one a b h = grind arith

  at_one : (a : Rest) → HasAt (a ∷ []) → place_of a ≡ p
  at_one a h = ap place_of (HasAt-one a h.0 h.1) ∙ h.2

  HasAt-append : (xs ys : List Rest) → HasAt (xs ++ ys) → HasAt xs ⊎ HasAt ys
  HasAt-append [] ys h = inr h
  HasAt-append (z ∷ xs) ys (a, inl e, q) = inl (a, inl e, q)
  HasAt-append (z ∷ xs) ys (a, inr m, q) = elim (HasAt-append xs ys (a, m, q)) [ inl k ↦ inl (k.0, inr k.1, k.2) | inr k ↦ inr k ]

  HasAt-cons : (z : Rest) (ys : List Rest) → HasAt (z ∷ ys) → (place_of z ≡ p) ⊎ HasAt ys
  HasAt-cons z ys h = grind arith

  open_lower : (s : Step) (r : Rest) → ((a : Rest) → Has (acts (open_act s r)) a → Lowers a)
      → (HasAt (acts r) → toil_left x (changed_at p f r) < toil_left x r) → (s.place ≡ p) ⊎ HasAt (acts r)
      → toil_left x (changed_at p f (open_act s r)) < toil_left x (open_act s r)
  open_lower s r h below (inl e) = lowered (open_act s r) (open_act s (changed_at p f r)) s.place e (h (open_act s r) (inl refl) e)
  open_lower s r h below (inr m) =
      lowered_below (open_act s r) (open_act s (changed_at p f r)) (same_place s.place p) (λ e. h (open_act s r) (inl refl) (to_same_place s.place p e))
      (omega (arith, below m))

  either_lower : (r : Rest) (rs : Rests) → ((a : Rest) → Has (acts r ++ acts_of_each rs) a → Lowers a)
      → (HasAt (acts r) → toil_left x (changed_at p f r) < toil_left x r)
      → (HasAt (acts_of_each rs) → toil_left_in_each x (changed_in_each p f rs) < toil_left_in_each x rs)
      → HasAt (acts r) ⊎ HasAt (acts_of_each rs)
      → toil_left x (changed_at p f r) + toil_left_in_each x (changed_in_each p f rs) < toil_left x r + toil_left_in_each x rs
  either_lower r rs h first others (inl m) =
      omega (arith, first m, changed_in_each-toil rs (λ a q. to-Eases a (h a (Has-right (acts r) (acts_of_each rs) a q))))
  either_lower r rs h first others (inr m) =
      omega (arith, others m, changed_at-toil r (λ a q. to-Eases a (h a (Has-left (acts r) (acts_of_each rs) a q))))

  mutual
    -- a change that takes work from each act at its place takes some from the whole, if an act is there
    pub changed_at-lower : (r : Rest) → ((a : Rest) → Has (acts r) a → Lowers a) → HasAt (acts r) → toil_left x (changed_at p f r) < toil_left x r
    changed_at-lower (ready s w k) h m = let e : s.place ≡ p = at_one (ready s w k) m in lowered (ready s w k) (ready s w k) s.place e (h (ready s w k) (inl refl) e)
    changed_at-lower (asking s w k) h m = let e : s.place ≡ p = at_one (asking s w k) m in lowered (asking s w k) (asking s w k) s.place e (h (asking s w k) (inl refl) e)
    changed_at-lower (live s y t) h m = let e : s.place ≡ p = at_one (live s y t) m in lowered (live s y t) (live s y t) s.place e (h (live s y t) (inl refl) e)
    changed_at-lower (freeing s k) h m = let e : s.place ≡ p = at_one (freeing s k) m in lowered (freeing s k) (freeing s k) s.place e (h (freeing s k) (inl refl) e)
    changed_at-lower (open_act s r) h m = open_lower s r h (λ k. changed_at-lower r (λ a q. h a (inr q)) k) (HasAt-cons (open_act s r) (acts r) m)
    changed_at-lower (in_seq r cs) h m = omega (arith, changed_at-lower r h m)
    changed_at-lower (in_par rs) h m = changed_in_each-lower rs h m
    changed_at-lower (in_loop n c body r) h m = omega (arith, changed_at-lower r h m)
    changed_at-lower done h m = absurd m.1

    pub changed_in_each-lower : (rs : Rests) → ((a : Rest) → Has (acts_of_each rs) a → Lowers a) → HasAt (acts_of_each rs) → toil_left_in_each x (changed_in_each p f rs) < toil_left_in_each x rs
    changed_in_each-lower no_rests h m = absurd m.1
    changed_in_each-lower (rest r rs) h m =
        either_lower r rs h
        (λ k. changed_at-lower r (λ a q. h a (Has-left (acts r) (acts_of_each rs) a q)) k)
        (λ k. changed_in_each-lower rs (λ a q. h a (Has-right (acts r) (acts_of_each rs) a q)) k)
        (HasAt-append (acts r) (acts_of_each rs) m)
