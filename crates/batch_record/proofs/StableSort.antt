-- The result of a stable sort: the order, and the items at each key.
use Rattle.std.proofs.Common.{◌≡◌, ◌+◌, ◌<◌, Bool, true, false, not, ◌&&◌, List, [], ◌∷◌, map, filter, length, get_or, refl, sym, ap, ◌∙◌, arith}
use Rattle.std.{proofs.lemmas.Cmp.then_total, proofs.lemmas.List.get_or-map, proofs.lemmas.List.length-map, specs.Cmp.IsTotalOrder, specs.Cmp.nat_cmp_total, specs.Cmp.on_total, specs.Cmp.tied_then, specs.Cmp.unsigned_ties, specs.Cmp.Lexicographic.nat_list_cmp_total, specs.Cmp.Lexicographic.slice_cmp, specs.Cmp.Lexicographic.texts_ties, specs.List.Sorted.IsSorted, specs.List.Sorted.IsSortedBy, specs.List.Sorted.IsStableBy, specs.List.Sorted.ties, specs.Ordering.is_lt, specs.Ordering.is_eq, specs.Ordering.nat_cmp, specs.Ordering.ordering_reverse, specs.declared.cmp.Ordering.Ordering, specs.declared.cmp.Ordering.TheVariants.Less, specs.declared.cmp.Ordering.TheVariants.Equal, specs.declared.cmp.Ordering.TheVariants.Greater}
use Rattle.batch_matrix.specs.declared.state.State.TheVariants.{Idle}
use Rattle.batch_recipe.specs.Conditions.{Name, same_name}
use Rattle.batch_model.specs.{Plant.BatchAct, Plant.is_same_act, Rest.same_place}
use Rattle.batch_record.{proofs.LivePhases.filtered, specs.Kept.kept_claim, specs.Kept.kept_share, specs.Kept.shares_of_resource, specs.Kept.kept_live, specs.Kept.lives_of, specs.Listing.NamedClaim, specs.Listing.act_cmp, specs.Listing.holder_cmp, specs.Listing.waiter_cmp, specs.Listing.live_cmp, specs.Listing.name_cmp, specs.Listing.of_act, specs.Listing.on_unit, specs.Telling.Live, specs.declared.live.LivePhase.LivePhase, specs.declared.standing.Kept.Kept}

-- neither is less if they are equal
tied : (a b : Ordering) → a ≡ ordering_reverse b → (not (is_lt a) && not (is_lt b)) ≡ is_eq a
tied a Less e = rw e refl
tied a Equal e = rw e refl
tied a Greater e = rw e refl

module _ {X : Type 0} (p q : X → Bool) (h : (x : X) → p x ≡ q x) where
  same_more : (x : X) (xs : List X) (b : Bool) → q x ≡ b → filter p xs ≡ filter q xs → filter p (x ∷ xs) ≡ filter q (x ∷ xs)
  same_more x xs true e k = rw (h x ∙ e, e) (ap (λ ys. x ∷ ys) k)
  same_more x xs false e k = rw (h x ∙ e, e) k

  pub filter-same : (xs : List X) → filter p xs ≡ filter q xs
  filter-same [] = refl
  filter-same (x ∷ xs) = same_more x xs (q x) refl (filter-same xs)

module _ {X Y : Type 0} (f : X → Y) (R : Y → Y → Ordering) where
  abbrev pub is_before : X → X → Bool
  is_before x y = is_lt (R (f x) (f y))

  -- the view of a list that is in the order of its view
  pub sorted-seen : (back : Y → X) → (ys : List X) → IsSortedBy is_before ys → IsSorted R (map f ys)
  sorted-seen back ys h k d low high =
      let long : k + 1 < length ys = omega (arith, high, length-map ys f) in
      let first = get_or-map f ys k (back d) d (omega arith) in
      let second = get_or-map f ys (k + 1) (back d) d long in
      ap (λ y. is_lt (R y (get_or (map f ys) k d))) second ∙ ap (λ y. is_lt (R (f (get_or ys (k + 1) (back d))) y)) first ∙ h k (back d) low long

  module _ (o : IsTotalOrder R) where
    -- those that tie with x, before and after
    pub found-again : (xs ys : List X) → IsStableBy is_before xs ys → (x : X) (p : X → Bool) → ((y : X) → p y ≡ is_eq (R (f x) (f y)))
        → filter p ys ≡ filter p xs
    found-again xs ys h x p e =
        let same : (y : X) → p y ≡ ties is_before x y = λ y. e y ∙ sym (tied (R (f x) (f y)) (R (f y) (f x)) (o.antisymm (f x) (f y))) in
        filter-same p (ties is_before x) same ys ∙ h x ∙ sym (filter-same p (ties is_before x) same xs)

-- Filters, one after the other

module _ {X : Type 0} (p q : X → Bool) where
  both_more : (x : X) (xs : List X) (b c : Bool) → p x ≡ b → q x ≡ c → filter q (filter p xs) ≡ filter (λ y. p y && q y) xs
      → filter q (filter p (x ∷ xs)) ≡ filter (λ y. p y && q y) (x ∷ xs)
  both_more x xs true true e f h = rw (e, f) (ap (λ ys. x ∷ ys) h)
  both_more x xs true false e f h = rw (e, f) h
  both_more x xs false c e f h = rw e h

  pub both-filter : (xs : List X) → filter q (filter p xs) ≡ filter (λ y. p y && q y) xs
  both-filter [] = refl
  both-filter (x ∷ xs) = both_more x xs (p x) (q x) refl refl (both-filter xs)

-- Orders of rows

act_total : IsTotalOrder act_cmp
act_total = then_total (on_total (λ (act : BatchAct). act.0) nat_cmp_total) (on_total (λ (act : BatchAct). act.1) nat_list_cmp_total)

pub holder_total : IsTotalOrder holder_cmp
holder_total = then_total (on_total (λ (claim : NamedClaim). claim.0) nat_list_cmp_total) (on_total (λ (claim : NamedClaim). claim.1.act) act_total)

pub waiter_total : IsTotalOrder waiter_cmp
waiter_total = on_total (λ (claim : NamedClaim). claim.0) nat_list_cmp_total

pub live_total : IsTotalOrder live_cmp
live_total = then_total (on_total (λ (live : Live). live.unit) nat_list_cmp_total) (on_total (λ (live : Live). live.name) nat_list_cmp_total)

same-act : (act other : BatchAct) → is_same_act act other ≡ is_eq (act_cmp act other)
same-act act other =
    ap (λ b. b && same_place act.1 other.1) (unsigned_ties act.0 other.0)
    ∙ ap (λ b. is_eq (nat_cmp act.0 other.0) && b) (texts_ties act.1 other.1)
    ∙ tied_then (nat_cmp act.0 other.0) (slice_cmp nat_cmp act.1 other.1)

-- The shares at a resource, and of an act, before and after

pub at-resource : (xs ys : List Kept) → IsStableBy (is_before kept_claim waiter_cmp) xs ys → (resource : Name) → shares_of_resource resource ys ≡ shares_of_resource resource xs
at-resource xs ys h resource =
    ap (map kept_share) (found-again kept_claim waiter_cmp waiter_total xs ys h (record { resource = resource; batch = 0; place = []; units = 0 }) (λ k. same_name resource k.resource) (λ k. texts_ties resource k.resource))

of-act : (resource : Name) (act : BatchAct) (xs : List Kept)
    → of_act act (shares_of_resource resource xs) ≡ map kept_share (filter (λ k. same_name resource k.resource && is_same_act act (k.batch, k.place)) xs)
of-act resource act xs =
    sym (filtered kept_share (λ k. is_same_act act (k.batch, k.place)) (λ share. is_same_act act share.act) (λ k. refl) (filter (λ k. same_name resource k.resource) xs))
    ∙ ap (map kept_share) (both-filter (λ k. same_name resource k.resource) (λ k. is_same_act act (k.batch, k.place)) xs)

pub at-act : (xs ys : List Kept) → IsStableBy (is_before kept_claim holder_cmp) xs ys → (resource : Name) (act : BatchAct)
    → of_act act (shares_of_resource resource ys) ≡ of_act act (shares_of_resource resource xs)
at-act xs ys h resource act =
    of-act resource act ys
    ∙ ap (map kept_share) (found-again kept_claim holder_cmp holder_total xs ys h (record { resource = resource; batch = act.0; place = act.1; units = 0 })
    (λ k. same_name resource k.resource && is_same_act act (k.batch, k.place))
    (λ k. ap (λ b. b && is_same_act act (k.batch, k.place)) (texts_ties resource k.resource)
    ∙ ap (λ b. is_eq (name_cmp resource k.resource) && b) (same-act act (k.batch, k.place))
    ∙ tied_then (name_cmp resource k.resource) (act_cmp act (k.batch, k.place))))
    ∙ sym (of-act resource act xs)

pub on-unit : (xs ys : List LivePhase) → IsStableBy (is_before kept_live live_cmp) xs ys → (unit name : Name) → on_unit unit name (lives_of ys) ≡ on_unit unit name (lives_of xs)
on-unit xs ys h unit name =
    sym (filtered kept_live (λ live. same_name unit live.unit && same_name name live.phase) (λ live. same_name unit live.unit && same_name name live.name) (λ live. refl) ys)
    ∙ ap lives_of (found-again kept_live live_cmp live_total xs ys h (record { batch = 0; place = []; unit = unit; phase = name; state = Idle })
    (λ live. same_name unit live.unit && same_name name live.phase)
    (λ live. ap (λ b. b && same_name name live.phase) (texts_ties unit live.unit)
    ∙ ap (λ b. is_eq (name_cmp unit live.unit) && b) (texts_ties name live.phase)
    ∙ tied_then (name_cmp unit live.unit) (name_cmp name live.phase)))
    ∙ filtered kept_live (λ live. same_name unit live.unit && same_name name live.phase) (λ live. same_name unit live.unit && same_name name live.name) (λ live. refl) xs

-- A sort that compares so

pub kept-back : NamedClaim → Kept
kept-back claim = record { resource = claim.0; batch = claim.1.act.0; place = claim.1.act.1; units = claim.1.units }

pub live-back : Live → LivePhase
live-back live = record { batch = live.act.0; place = live.act.1; unit = live.unit; phase = live.name; state = live.state }
