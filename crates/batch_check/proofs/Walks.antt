-- A walk back along the causes.
use Rattle.std.proofs.Common.{◌≡◌, ◌≢◌, ℕ, suc, zero, ◌+◌, ◌<◌, ◌≤◌, inl, inr, List, [], ◌∷◌, map, length, take, get_or, true, eqb, Option, Some, None, All, AllPairs, Contains, refl, sym, ap, ◌∙◌, subst, arith, length-take, get_or-take, add-one, ne_eqb}
use Rattle.std.{specs.List.AllByRecursion, specs.List.list_any, specs.List.IsDistinct, proofs.lemmas.Bool.false≢true, proofs.lemmas.Bool.or_cases, proofs.lemmas.Bool.eqb-true, proofs.lemmas.List.get_or-map, proofs.lemmas.List.length-map, proofs.lemmas.List.Elements.All-cons, proofs.lemmas.List.Elements.All-take, proofs.lemmas.List.Elements.All-map, proofs.lemmas.List.Elements.All-weaker, proofs.lemmas.List.Elements.All-contains, proofs.lemmas.List.Elements.recursion_from_All, proofs.lemmas.List.Kept.AllPairs-cons, proofs.lemmas.Map.Keys.IsDistinct-from_apart, proofs.lemmas.Map.Steps.length-le_from_distinct_below}
use Rattle.batch_check.{specs.declared.edge.Edge.Edge, specs.LeastRanking.HasEndsBelow, specs.LeastRanking.IsEdgeCircle, specs.LeastRanking.LeadsAlong, specs.Raising.IsProgress, specs.Raising.IsCaused, specs.Raising.Overruns, proofs.Raises.no_edge}

below_any : (n : ℕ) (xs : List ℕ) → AllByRecursion (λ x. x < n) xs → (q : ℕ) → list_any (eqb q) xs ≡ true → q < n
below_any n [] h q e = absurd (false≢true e)
below_any n (x ∷ xs) h q e = elim (or_cases (eqb q x) (list_any (eqb q) xs) e) [
  | inl here ↦ subst (λ k. k < n) (sym (eqb-true q x here)) h.0
  | inr there ↦ below_any n xs h.1 q there
]

-- edges into different resources have different laters
pub laters_distinct : (walk : List Edge) → AllPairs (λ e f. e.later ≢ f.later) walk → IsDistinct eqb (map (λ (e : Edge). e.later) walk)
laters_distinct walk apart =
    let f : Edge → ℕ = λ e. e.later in
    IsDistinct-from_apart eqb (map f walk) (λ i j x ij j_in.
    let j_below : j < length walk = subst (λ m. j < m) (length-map walk f) j_in in
    let at_i : get_or (map f walk) i x ≡ (get_or walk i no_edge).later = get_or-map f walk i no_edge x (omega arith) in
    let at_j : get_or (map f walk) j x ≡ (get_or walk j no_edge).later = get_or-map f walk j no_edge x j_below in
    ne_eqb _ _ (λ same. apart i j no_edge ij j_below (sym at_i ∙ (same ∙ at_j))))

-- edges into different resources are no more than the resources
pub length-le_from_apart : (n : ℕ) (walk : List Edge) → AllPairs (λ e f. e.later ≢ f.later) walk → All (λ e. e.later < n) walk → length walk ≤ n
length-le_from_apart n walk apart within =
    let f : Edge → ℕ = λ e. e.later in
    let below : AllByRecursion (λ (x : ℕ). x < n) (map f walk) = recursion_from_All (λ x. x < n) (map f walk) (All-map (λ x. x < n) f walk within) in
    subst (λ m. m ≤ n) (length-map walk f) (length-le_from_distinct_below (map f walk) n (laters_distinct walk apart) (below_any n (map f walk) below))

-- the front of a walk ends where its last edge leads
pub Leads-take : (first last i : ℕ) (walk : List Edge) → i < length walk → LeadsAlong first walk last → LeadsAlong first (take (suc i) walk) (get_or walk i no_edge).later
Leads-take first last i [] h w = absurd (omega arith)
Leads-take first last zero (e ∷ es) h w = (w.0, refl)
Leads-take first last (suc i) (e ∷ es) h w = (w.0, Leads-take e.later last i es (omega arith) w.1)

AllPairs-take : (n : ℕ) (walk : List Edge) → AllPairs (λ e f. e.later ≢ f.later) walk → AllPairs (λ e f. e.later ≢ f.later) (take n walk)
AllPairs-take n walk h = grind (arith, length-take n walk, get_or-take)

-- the invariant of the walk
pub record Walks (edges : List Edge) (ranks : List ℕ) (walk : List Edge) (at : ℕ) : Type 0 where
  pub last : ℕ
  pub leads : LeadsAlong at walk last
  pub apart : AllPairs (λ e f. e.later ≢ f.later) walk
  pub standing : All (Contains edges) walk
  pub high : length ranks + 1 ≤ get_or ranks at 0 + length walk
  pub within : at < length ranks

module _ (edges : List Edge) (ranks : List ℕ) (causes : List (Option Edge))
    (in_range : HasEndsBelow (length ranks) edges)
    (progress : IsProgress edges ranks causes) where
  laters : (walk : List Edge) → All (Contains edges) walk → All (λ e. e.later < length ranks) walk
  laters walk h = All-weaker (Contains edges) (λ e. e.later < length ranks) (λ e stands. (All-contains (λ f. (f.earlier < length ranks) × (f.later < length ranks)) edges e in_range stands).1) walk h

  pub Walks-first : (e : Edge) → Overruns edges ranks e → Walks edges ranks (e ∷ []) e.earlier
  Walks-first e h = record {
    last = e.later;
    leads = (refl, refl);
    apart = λ i j d ij j_in. absurd (omega arith);
    standing = All-cons (Contains edges) e [] h.standing (λ k d in'. absurd (omega arith));
    high = omega (arith, h.top);
    within = (All-contains (λ f. (f.earlier < length ranks) × (f.later < length ranks)) edges e in_range h.standing).0;
  }

  -- there is room for one more edge where none leads to the start
  pub Walks-room : (walk : List Edge) (at : ℕ) → Walks edges ranks walk at → All (λ e. e.later ≢ at) walk → length walk + 1 ≤ length ranks
  Walks-room walk at h absent =
      let e : Edge = record { recipe = 0; node = 0; earlier = 0; later = at } in
      let apart : AllPairs (λ (e f : Edge). e.later ≢ f.later) (e ∷ walk) =
      AllPairs-cons (λ (e f : Edge). e.later ≢ f.later) e walk (λ k d in' same. absent k d in' (sym same)) h.apart in
      let below : All (λ (e : Edge). e.later < length ranks) (e ∷ walk) =
      All-cons (λ (e : Edge). e.later < length ranks) e walk h.within (laters walk h.standing) in
      omega (arith, length-le_from_apart (length ranks) (e ∷ walk) apart below)

  -- where no edge of the walk leads to its start, that has a cause, and the walk goes on through it
  pub Walks-caused : (walk : List Edge) (at : ℕ) → Walks edges ranks walk at → All (λ e. e.later ≢ at) walk → IsCaused edges ranks causes at
  Walks-caused walk at h absent = progress.caused at h.within (omega (arith, Walks-room walk at h absent))

  pub Walks-more : (walk : List Edge) (at : ℕ) (cause : Edge) → Walks edges ranks walk at → All (λ e. e.later ≢ at) walk → get_or causes at None ≡ Some cause → Walks edges ranks (cause ∷ walk) cause.earlier
  Walks-more walk at cause h absent is =
      let caused = Walks-caused walk at h absent in
      let same : caused.edge ≡ cause = let e : Some caused.edge ≡ Some cause = sym caused.stored ∙ is in cc in
      let stands : Contains edges cause = subst (λ (e : Edge). Contains edges e) same caused.standing in
      let into : cause.later ≡ at = sym (ap (λ (e : Edge). e.later) same) ∙ caused.into in
      record {
        last = h.last;
        leads = (refl, subst (λ n. LeadsAlong n walk h.last) (sym into) h.leads);
        apart = AllPairs-cons (λ e f. e.later ≢ f.later) cause walk (λ k d in' eq. absent k d in' (sym eq ∙ into)) h.apart;
        standing = All-cons (Contains edges) cause walk stands h.standing;
        high = omega (arith, h.high, caused.one_above, ap (λ (e : Edge). get_or ranks e.earlier 0) same);
        within = (All-contains (λ f. (f.earlier < length ranks) × (f.later < length ranks)) edges cause in_range stands).0;
      }

  pub IsCircle-take : (walk : List Edge) (at i : ℕ) → Walks edges ranks walk at → i < length walk → (get_or walk i no_edge).later ≡ at → IsEdgeCircle edges (take (i + 1) walk)
  IsCircle-take walk at i h in' is = record {
    start = at;
    nonempty = omega (arith, length-take (i + 1) walk);
    closed = rw add-one (subst (λ n. LeadsAlong at (take (suc i) walk) n) is (Leads-take at h.last i walk in' h.leads));
    apart = AllPairs-take (i + 1) walk h.apart;
    standing = All-take (Contains edges) (i + 1) walk h.standing;
  }
