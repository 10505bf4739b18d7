-- Shares that join and leave, at each resource.
use Rattle.std.proofs.Common.{◌≡◌, ℕ, Bool, true, false, not, nat_eq, ◌&&◌, List, [], ◌∷◌, ◌++◌, filter, refl, sym, ap, subst, ◌∙◌}
use Rattle.std.specs.Cmp.Lexicographic.{bytes_decides}
use Rattle.batch_recipe.specs.{Conditions.Name, Conditions.same_name, declared.need.Need.Need}
use Rattle.batch_model.specs.{Plant.BatchAct, Plant.is_same_act, Plant.with_share, Plant.without_share, Records.shares_without_batch}
use Rattle.batch_model.specs.Plant as Model
use Rattle.batch_record.specs.{Kept.kept_share, Kept.shares_of_resource, Kept.is_other, declared.standing.Kept.Kept}

module _ (r : Name) where
  join_more : (x : Kept) (xs : List Kept) (k : Kept) (b c : Bool) → same_name r x.resource ≡ c
      → shares_of_resource r (xs ++ k ∷ []) ≡ elim b [ true ↦ shares_of_resource r xs ++ kept_share k ∷ [] | false ↦ shares_of_resource r xs ]
      → shares_of_resource r (x ∷ (xs ++ k ∷ [])) ≡ elim b [ true ↦ shares_of_resource r (x ∷ xs) ++ kept_share k ∷ [] | false ↦ shares_of_resource r (x ∷ xs) ]
  join_more x xs k true true e h = rw e (ap (λ ss. kept_share x ∷ ss) h)
  join_more x xs k true false e h = rw e h
  join_more x xs k false true e h = rw e (ap (λ ss. kept_share x ∷ ss) h)
  join_more x xs k false false e h = rw e h

  -- one joins behind the others
  join_by : (xs : List Kept) (k : Kept) (b : Bool) → same_name r k.resource ≡ b
      → shares_of_resource r (xs ++ k ∷ []) ≡ elim b [ true ↦ shares_of_resource r xs ++ kept_share k ∷ [] | false ↦ shares_of_resource r xs ]
  join_by [] k true e = rw e refl
  join_by [] k false e = rw e refl
  join_by (x ∷ xs) k b e = join_more x xs k b (same_name r x.resource) refl (join_by xs k b e)

  pub joined : (xs : List Kept) (k : Kept) (need : Need) → need.resource ≡ k.resource → need.units ≡ k.units
      → shares_of_resource r (xs ++ k ∷ []) ≡ with_share r (k.batch, k.place) need (shares_of_resource r xs)
  joined xs k need e u =
      join_by xs k (same_name r k.resource) refl
      ∙ ap (λ name. elim (same_name r name) [ true ↦ shares_of_resource r xs ++ kept_share k ∷ [] | false ↦ shares_of_resource r xs ]) (sym e)
      ∙ ap (λ units. elim (same_name r need.resource) [ true ↦ shares_of_resource r xs ++ record { act = (k.batch, k.place); units = units } ∷ [] | false ↦ shares_of_resource r xs ]) (sym u)

  -- those of a batch leave
  batch_more : (n : ℕ) (x : Kept) (xs : List Kept) (b c : Bool) → same_name r x.resource ≡ b → nat_eq x.batch n ≡ c
      → shares_of_resource r (filter (λ k. not (nat_eq k.batch n)) xs) ≡ shares_without_batch n (shares_of_resource r xs)
      → shares_of_resource r (filter (λ k. not (nat_eq k.batch n)) (x ∷ xs)) ≡ shares_without_batch n (shares_of_resource r (x ∷ xs))
  batch_more n x xs true true e f h = rw (e, f) h
  batch_more n x xs true false e f h = rw (e, f, e) (ap (λ ss. kept_share x ∷ ss) h)
  batch_more n x xs false true e f h = rw (e, f) h
  batch_more n x xs false false e f h = rw (e, f, e) h

  pub batch_left : (n : ℕ) (xs : List Kept) → shares_of_resource r (filter (λ k. not (nat_eq k.batch n)) xs) ≡ shares_without_batch n (shares_of_resource r xs)
  batch_left n [] = refl
  batch_left n (x ∷ xs) = batch_more n x xs (same_name r x.resource) (nat_eq x.batch n) refl refl (batch_left n xs)

  -- the act's share of this resource leaves
  here_more : (act : BatchAct) (x : Kept) (xs : List Kept) (b c : Bool) → same_name r x.resource ≡ b → is_same_act (x.batch, x.place) act ≡ c
      → shares_of_resource r (filter (is_other r act) xs) ≡ Model.without act (shares_of_resource r xs)
      → shares_of_resource r (filter (is_other r act) (x ∷ xs)) ≡ Model.without act (shares_of_resource r (x ∷ xs))
  here_more act x xs true true e f h = rw (e, f) h
  here_more act x xs true false e f h = rw (e, f, e) (ap (λ ss. kept_share x ∷ ss) h)
  here_more act x xs false true e f h = rw (e, e) h
  here_more act x xs false false e f h = rw (e, e) h

  here : (act : BatchAct) (xs : List Kept) → shares_of_resource r (filter (is_other r act) xs) ≡ Model.without act (shares_of_resource r xs)
  here act [] = refl
  here act (x ∷ xs) = here_more act x xs (same_name r x.resource) (is_same_act (x.batch, x.place) act) refl refl (here act xs)

  -- the share of another resource leaves
  not_both : (other name : Name) → same_name r other ≡ false → same_name r name ≡ true → same_name other name ≡ false
  not_both other name e f = by_test (same_name other name) refl
    where
      by_test : (b : Bool) → same_name other name ≡ b → b ≡ false
      by_test false g = refl
      by_test true g =
          let one : r ≡ name = (bytes_decides r name).0 f in
          let two : other ≡ name = (bytes_decides other name).0 g in
          sym ((bytes_decides r other).1 (one ∙ sym two)) ∙ e

  there_more : (other : Name) → same_name r other ≡ false → (act : BatchAct) (x : Kept) (xs : List Kept) (b c : Bool) → same_name r x.resource ≡ b → is_other other act x ≡ c
      → shares_of_resource r (filter (is_other other act) xs) ≡ shares_of_resource r xs
      → shares_of_resource r (filter (is_other other act) (x ∷ xs)) ≡ shares_of_resource r (x ∷ xs)
  there_more other d act x xs true true e f h = rw (f, e) (ap (λ ss. kept_share x ∷ ss) h)
  there_more other d act x xs true false e f h =
      let bad : true ≡ false = sym (ap (λ b. not (b && is_same_act (x.batch, x.place) act)) (not_both other x.resource d e)) ∙ f in absurd cc
  there_more other d act x xs false true e f h = rw (f, e) h
  there_more other d act x xs false false e f h = rw (f, e) h

  there : (other : Name) → same_name r other ≡ false → (act : BatchAct) (xs : List Kept) → shares_of_resource r (filter (is_other other act) xs) ≡ shares_of_resource r xs
  there other d act [] = refl
  there other d act (x ∷ xs) = there_more other d act x xs (same_name r x.resource) (is_other other act x) refl refl (there other d act xs)

  left_by : (act : BatchAct) (need : Need) (xs : List Kept) (b : Bool) → same_name r need.resource ≡ b
      → shares_of_resource r (filter (is_other need.resource act) xs) ≡ elim b [ true ↦ Model.without act (shares_of_resource r xs) | false ↦ shares_of_resource r xs ]
  left_by act need xs true e =
      let same : r ≡ need.resource = (bytes_decides r need.resource).0 e in
      subst (λ (name : Name). shares_of_resource r (filter (is_other name act) xs) ≡ Model.without act (shares_of_resource r xs)) same (here act xs)
  left_by act need xs false e = there need.resource e act xs

  pub left : (act : BatchAct) (need : Need) (xs : List Kept) → shares_of_resource r (filter (is_other need.resource act) xs) ≡ without_share r act need (shares_of_resource r xs)
  left act need xs = left_by act need xs (same_name r need.resource) refl

-- the share of a claim that was read leaves
pub left-read : (old new : List Kept) (name : Name) (act : BatchAct) (need : Need) → name ≡ need.resource → new ≡ filter (is_other name act) old
    → (r : Name) → shares_of_resource r new ≡ without_share r act need (shares_of_resource r old)
left-read old new name act need is e r =
    ap (shares_of_resource r) (e ∙ ap (λ n. filter (is_other n act) old) is) ∙ left r act need old

-- and joins at another place
pub passed-read : (old new : List Kept) (k : Kept) (left_at from to : List ℕ) (need : Need) → need.resource ≡ k.resource → need.units ≡ k.units → left_at ≡ from → k.place ≡ to
    → new ≡ filter (is_other k.resource (k.batch, left_at)) old ++ k ∷ []
    → (r : Name) → shares_of_resource r new ≡ with_share r (k.batch, to) need (without_share r (k.batch, from) need (shares_of_resource r old))
passed-read old new k left_at from to need e u f t is r =
    let left : List Kept = filter (is_other k.resource (k.batch, left_at)) old in
    ap (shares_of_resource r) is ∙ joined r left k need e u ∙ ap (with_share r (k.batch, k.place) need) (left-read old left k.resource (k.batch, left_at) need (sym e) refl r)
    ∙ (λ i. with_share r (k.batch, t i) need (without_share r (k.batch, f i) need (shares_of_resource r old)))

pub batch_left-read : (old new : List Kept) (n : ℕ) → new ≡ filter (λ k. not (nat_eq k.batch n)) old → (r : Name) → shares_of_resource r new ≡ shares_without_batch n (shares_of_resource r old)
batch_left-read old new n e r = ap (shares_of_resource r) e ∙ batch_left r n old
