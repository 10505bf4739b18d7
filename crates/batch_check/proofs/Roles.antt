-- Numbers of roles, and the units that they stand for.
use Rattle.std.proofs.Common.{◌≡◌, ℕ, ◌-◌, ◌<◌, ◌≤◌, ◌⊎◌, inl, inr, List, [], ◌∷◌, map, length, get_or, slice_get, zero, suc, IsTrue, Option, Some, None, option_and_then, refl, sym, ap, ◌∙◌, subst, lt-ltb, le-ltb}
use Rattle.std.{specs.List.Contains, proofs.lemmas.Bool.cases_lt, proofs.lemmas.List.get_or_past, proofs.lemmas.Option.none-some, proofs.lemmas.Option.same_Some, proofs.lemmas.Option.slice_get-get_or}
use Rattle.batch_check.{specs.declared.edge.Edge.Edge, specs.Collecting.AreTakenIn, specs.Edges.Follows, specs.Edges.Joins, specs.Edges.has_pair, specs.Joining.AreBelow, specs.Pairs.ArePaired, specs.Takings.resource_for, proofs.EdgesFromNeeds.Contains-at, proofs.RanksAlongPaths.edge_of}

-- Resources that numbers stand for

pub resource_for-below : (count : ℕ) (units : List (Option ℕ)) (n : ℕ) → n < count → resource_for count units n ≡ Some n
resource_for-below count units n below = rw (lt-ltb n count below, resource_for) refl

pub resource_for-past : (count : ℕ) (units : List (Option ℕ)) (n : ℕ) → count ≤ n → resource_for count units n ≡ get_or units (n - count) None
resource_for-past count units n past = rw (le-ltb n count past, resource_for) refl

pub resource_for-within : (count : ℕ) (units : List (Option ℕ)) (n k : ℕ) → AreBelow count units → resource_for count units n ≡ Some k → k < count
resource_for-within count units n k below is = go (cases_lt n count)
  where
    found : (i : ℕ) → get_or units i None ≡ Some k → (i < length units) ⊎ (length units ≤ i) → Contains units (Some k)
    found i here (inl within) = Contains-at units i (Some k) (slice_get-get_or units i None within ∙ ap (λ (o : Option ℕ). Some o) here)
    found i here (inr past) = absurd (none-some k (sym (get_or_past units i None past) ∙ here))

    go : (n < count) ⊎ (count ≤ n) → k < count
    go (inl own) = let same : n ≡ k = same_Some n k (sym (resource_for-below count units n own) ∙ is) in subst (λ m. m < count) same own
    go (inr past) = below k (found (n - count) (sym (resource_for-past count units n past) ∙ is) (cases_lt (n - count) (length units)))

-- Edges

-- the number that stands for a resource at a place
taken_at : (f : ℕ → Option ℕ) (needs : List (Option ℕ)) (place k : ℕ) → slice_get (map (option_and_then f) needs) place ≡ Some (Some k)
    → (n : ℕ) × (slice_get needs place ≡ Some (Some n)) × (f n ≡ Some k)
taken_at f [] place k h = absurd (none-some (Some k) h)
taken_at f (None ∷ needs) zero k h = absurd (none-some k (same_Some None (Some k) h))
taken_at f (Some n ∷ needs) zero k h = (n, refl, same_Some (f n) (Some k) h)
taken_at f (need ∷ needs) (suc place) k h = taken_at f needs place k h

module _ (count : ℕ) (units : List (Option ℕ)) (edges final : List Edge) (taken : AreTakenIn count units edges final) where
  abbrev stands_for : Option ℕ → Option ℕ
  stands_for need = option_and_then (resource_for count units) need

  pair_taken : (i j earlier later : ℕ) → IsTrue (has_pair edges i j) → resource_for count units i ≡ Some earlier → resource_for count units j ≡ Some later
      → IsTrue (has_pair final earlier later)
  pair_taken i j earlier later h p q =
      let e = edge_of edges i j h in
      taken e.edge earlier later e.stands (ap (resource_for count units) e.from ∙ p) (ap (resource_for count units) e.into ∙ q)

  Joins-taken : (last need : Option ℕ) → Joins edges last need → Joins final (stands_for last) (stands_for need)
  Joins-taken None need h = tt
  Joins-taken (Some i) None h = before_none (resource_for count units i)
    where
      before_none : (o : Option ℕ) → Joins final o None
      before_none None = tt
      before_none (Some k) = tt
  Joins-taken (Some i) (Some j) h = go (resource_for count units i) (resource_for count units j) refl refl
    where
      go : (a b : Option ℕ) → resource_for count units i ≡ a → resource_for count units j ≡ b → Joins final a b
      go None b p q = tt
      go (Some a) None p q = tt
      go (Some a) (Some b) p q = pair_taken i j a b h p q

  pub Follows-taken : (last : Option ℕ) (needs : List (Option ℕ)) → Follows edges last needs → Follows final (stands_for last) (map stands_for needs)
  Follows-taken last [] h = tt
  Follows-taken last (need ∷ needs) h = (Joins-taken last need h.0, Follows-taken need needs h.1)

  pub ArePaired-taken : (needs : List (Option ℕ)) → ArePaired edges needs → ArePaired final (map stands_for needs)
  ArePaired-taken needs paired before place i j ordered at_before at_place =
      let one = taken_at (resource_for count units) needs before i at_before in
      let other = taken_at (resource_for count units) needs place j at_place in
      pair_taken one.0 other.0 i j (paired before place one.0 other.0 ordered one.1 other.1) one.2 other.2
