-- Of candidates the one that has the greatest rank, or the least one.
use Rattle.std.proofs.Common.{◌≡◌, ◌⊎◌, ℕ, suc, ◌≤◌, Bool, true, false, if◌then◌else◌, ltb, IsTrue, List, [], ◌∷◌, ◌++◌, slice_get, Some, refl, sym, ap, ◌∙◌, subst, arith, inl, inr}
use Rattle.std.{specs.Cmp.Lexicographic.bytes_decides, proofs.lemmas.Bool.ltb-true, proofs.lemmas.Bool.ltb-false, proofs.lemmas.Bool.or_cases, proofs.lemmas.Bool.or_left, proofs.lemmas.Bool.or_right}
use Rattle.batch_recipe.specs.{Conditions.Name, Conditions.same_name, WellFormed.is_among, declared.role.Role.Role}
use Rattle.batch_model.specs.{Lists.Has, Cleared.Ranking}
use Rattle.batch_verify.specs.Trials.{better, extreme, extreme_from, is_better}

pub index_of : (rs : List Role) (role : Role) → Has rs role → (k : ℕ) × (slice_get rs k ≡ Some role)
index_of [] role m = absurd m
index_of (r ∷ rs) role (inl e) = (0, ap Some e)
index_of (r ∷ rs) role (inr m) = let more = index_of rs role m in (suc more.0, more.1)

-- the other name has no greater rank, or no lesser one
abbrev pub IsAsGood : Ranking → Bool → Name → Name → Type 0
IsAsGood rank true one other = rank other ≤ rank one
IsAsGood rank false one other = rank one ≤ rank other

module _ (rank : Ranking) where
  good_itself : (b : Bool) (one : Name) → IsAsGood rank b one one
  good_itself true one = omega arith
  good_itself false one = omega arith

  good_then : (b : Bool) (x y z : Name) → IsAsGood rank b x y → IsAsGood rank b y z → IsAsGood rank b x z
  good_then true x y z h g = omega (arith, h, g)
  good_then false x y z h g = omega (arith, h, g)

  better_good : (b : Bool) (one other : Name) → IsAsGood rank b (better rank b (Some one) other) one × IsAsGood rank b (better rank b (Some one) other) other
  better_good true one other = go (ltb (rank one) (rank other)) refl
    where
      go : (t : Bool) → ltb (rank one) (rank other) ≡ t → IsAsGood rank true (if t then other else one) one × IsAsGood rank true (if t then other else one) other
      go true lt = (omega (arith, ltb-true (rank one) (rank other) lt), omega arith)
      go false le = (omega arith, omega (arith, ltb-false (rank one) (rank other) le))
  better_good false one other = go (ltb (rank other) (rank one)) refl
    where
      go : (t : Bool) → ltb (rank other) (rank one) ≡ t → IsAsGood rank false (if t then other else one) one × IsAsGood rank false (if t then other else one) other
      go true lt = (omega (arith, ltb-true (rank other) (rank one) lt), omega arith)
      go false le = (omega arith, omega (arith, ltb-false (rank other) (rank one) le))

  better_one : (b : Bool) (one other : Name) → (better rank b (Some one) other ≡ one) ⊎ (better rank b (Some one) other ≡ other)
  better_one b one other = go (is_better rank b one other)
    where
      go : (t : Bool) → ((if t then other else one) ≡ one) ⊎ ((if t then other else one) ≡ other)
      go true = inr refl
      go false = inl refl

  found_among : (b : Bool) (best : Name) (names : List Name) → (extreme_from rank b best names ≡ best) ⊎ IsTrue (is_among names (extreme_from rank b best names))
  found_among b best [] = inl refl
  found_among b best (x ∷ xs) = go (found_among b next xs) (better_one b best x)
    where
      next : Name
      next = better rank b (Some best) x

      end : Name
      end = extreme_from rank b next xs

      go : (end ≡ next) ⊎ IsTrue (is_among xs end) → (next ≡ best) ⊎ (next ≡ x) → (end ≡ best) ⊎ IsTrue (is_among (x ∷ xs) end)
      go (inr later) old = inr (or_right (same_name end x) (is_among xs end) later)
      go (inl own) (inl old) = inl (own ∙ old)
      go (inl own) (inr new) = inr (or_left (same_name end x) (is_among xs end) ((bytes_decides end x).1 (own ∙ new)))

  good_first : (b : Bool) (best : Name) (names : List Name) → IsAsGood rank b (extreme_from rank b best names) best
  good_first b best [] = good_itself b best
  good_first b best (x ∷ xs) =
      good_then b (extreme_from rank b (better rank b (Some best) x) xs) (better rank b (Some best) x) best (good_first b (better rank b (Some best) x) xs) (better_good b best x).0

  good_each : (b : Bool) (best : Name) (names : List Name) (unit : Name) → is_among names unit ≡ true → IsAsGood rank b (extreme_from rank b best names) unit
  good_each b best [] unit h = let bad : false ≡ true = h in absurd cc
  good_each b best (x ∷ xs) unit h = elim (or_cases (same_name unit x) (is_among xs unit) h) [
    | inl same ↦
        subst (λ (n : Name). IsAsGood rank b (extreme_from rank b (better rank b (Some best) x) xs) n) (sym ((bytes_decides unit x).0 same))
        (good_then b (extreme_from rank b (better rank b (Some best) x) xs) (better rank b (Some best) x) x (good_first b (better rank b (Some best) x) xs) (better_good b best x).1)
    | inr later ↦ good_each b (better rank b (Some best) x) xs unit later
  ]

  -- it is one of them
  pub extreme_is : (b : Bool) (first : Name) (more : List Name) → is_among (first ∷ more) (extreme_from rank b first more) ≡ true
  extreme_is b first more = go (found_among b first more)
    where
      end : Name
      end = extreme_from rank b first more

      go : (end ≡ first) ⊎ IsTrue (is_among more end) → is_among (first ∷ more) end ≡ true
      go (inl own) = or_left (same_name end first) (is_among more end) ((bytes_decides end first).1 own)
      go (inr later) = or_right (same_name end first) (is_among more end) later

  -- and as good as each
  pub extreme_best : (b : Bool) (first : Name) (more : List Name) (unit : Name) → is_among (first ∷ more) unit ≡ true → IsAsGood rank b (extreme_from rank b first more) unit
  extreme_best b first more unit h = elim (or_cases (same_name unit first) (is_among more unit) h) [
    | inl same ↦ subst (λ (n : Name). IsAsGood rank b (extreme_from rank b first more) n) (sym ((bytes_decides unit first).0 same)) (good_first b first more)
    | inr later ↦ good_each b first more unit later
  ]

-- Candidates one after another

module _ {X : Type 0} (rank : X → ℕ) (b : Bool) where
  last_more : (best : X) (more : List X) (one : X) → extreme_from rank b best (more ++ one ∷ []) ≡ better rank b (Some (extreme_from rank b best more)) one
  last_more best [] one = refl
  last_more best (x ∷ xs) one = last_more (better rank b (Some best) x) xs one

  pub one_more : (all : List X) (one : X) → extreme rank b (all ++ one ∷ []) ≡ Some (better rank b (extreme rank b all) one)
  one_more [] one = refl
  one_more (x ∷ xs) one = ap Some (last_more x xs one)
