-- Circles with the fewest edges.
use Rattle.std.proofs.Common.{◌≡◌, ◌≢◌, ℕ, ◌+◌, ◌<◌, ◌≤◌, ◌⊎◌, inl, inr, List, [], ◌∷◌, length, get_or, IsTrue, Option, Some, None, All, AllPairs, Contains, refl, sym, ap, ◌∙◌, subst, arith}
use Rattle.std.proofs.lemmas.{Bool.cases_lt, List.Elements.All-cons, List.Elements.All-contains, List.Kept.AllPairs-cons}
use Rattle.batch_check.{specs.declared.edge.Edge.Edge, specs.Edges.has_pair, specs.LeastRanking.IsEdgeCircle, specs.LeastRanking.HasEndsBelow, specs.LeastRanking.LeadsAlong, specs.Spreading.AreJoined, specs.Spreading.HasFewest, specs.Spreading.HasReached, specs.Spreading.IsReached, specs.Spreading.IsSpread, specs.Spreading.NoneBelow, proofs.RanksAlongPaths.edge_of}

-- Walks along joined resources

module _ (edges : List Edge) (start level : ℕ) (levels : List ℕ) (causes : List (Option Edge)) (h : IsSpread edges start level levels causes) where
  -- an edge from a level below this one leads on
  onward_pair : (i j : ℕ) → IsTrue (has_pair edges i j) → 0 < get_or levels i 0 → get_or levels i 0 < level
      → (j ≢ start) × (0 < get_or levels j 0) × (get_or levels j 0 ≤ get_or levels i 0 + 1)
  onward_pair i j pair high low =
      let e = edge_of edges i j pair in
      let from : get_or levels e.edge.earlier 0 ≡ get_or levels i 0 = ap (λ n. get_or levels n 0) e.from in
      let into : get_or levels e.edge.later 0 ≡ get_or levels j 0 = ap (λ n. get_or levels n 0) e.into in
      let on = h.onward e.edge e.stands (omega (arith, from)) (omega (arith, from)) in
      ((λ same. on.elsewhere (e.into ∙ same)), omega (arith, on.reached, into), omega (arith, on.near, from, into))

  -- a walk that goes on
  further : (walk : List Edge) (at last : ℕ) → LeadsAlong at walk last → at ≢ start → (0 < length walk → last ≢ start) → last ≢ start
  further [] at last leads apart f = λ back. apart (leads ∙ back)
  further (e ∷ es) at last leads apart f = f (omega arith)

  -- a walk of few edges doesn't come back to the start
  not_back : (walk : List Edge) (first last : ℕ) → LeadsAlong first walk last → AreJoined edges walk → 0 < length walk
      → 0 < get_or levels first 0 → get_or levels first 0 + length walk ≤ level → last ≢ start
  not_back [] first last leads joined some high low = absurd (omega arith)
  not_back (e ∷ es) first last leads joined some high low =
      let pair : IsTrue (has_pair edges first e.later) = subst (λ n. IsTrue (has_pair edges n e.later)) leads.0 joined.0 in
      let on = onward_pair first e.later pair high (omega arith) in
      further es e.later last leads.1 on.0 (λ longer. not_back es e.later last leads.1 joined.1 longer on.1 (omega (arith, on.2)))

  pub NoneBelow-spread : NoneBelow edges start level
  NoneBelow-spread walk leads some joined = elim (cases_lt (length walk) level) [
    | inl few ↦ absurd (not_back walk start start leads joined some (omega (arith, h.has.root)) (omega (arith, h.has.root)) refl)
    | inr many ↦ many
  ]

  -- where no level is the last one, no walk comes back
  never_back : ((k : ℕ) → get_or levels k 0 < level) → (walk : List Edge) (first last : ℕ) → LeadsAlong first walk last → AreJoined edges walk → 0 < length walk → 0 < get_or levels first 0 → last ≢ start
  never_back all [] first last leads joined some high = absurd (omega arith)
  never_back all (e ∷ es) first last leads joined some high =
      let pair : IsTrue (has_pair edges first e.later) = subst (λ n. IsTrue (has_pair edges n e.later)) leads.0 joined.0 in
      let on = onward_pair first e.later pair high (all first) in
      further es e.later last leads.1 on.0 (λ longer. never_back all es e.later last leads.1 joined.1 longer on.1)

  pub NoneBelow-still : (most : ℕ) → ((k : ℕ) → get_or levels k 0 < level) → NoneBelow edges start most
  NoneBelow-still most all walk leads some joined = absurd (never_back all walk start start leads joined some (omega (arith, h.has.root)) refl)

pub NoneBelow-less : (edges : List Edge) (start most less : ℕ) → less ≤ most → NoneBelow edges start most → NoneBelow edges start less
NoneBelow-less edges start most less low h walk leads some joined = omega (arith, h walk leads some joined)

-- The walk back

pub record WalksBack (edges : List Edge) (start level : ℕ) (levels : List ℕ) (walk : List Edge) (at : ℕ) : Type 0 where
  pub leads : LeadsAlong at walk start
  pub some : 0 < length walk
  pub apart : AllPairs (λ e f. e.later ≢ f.later) walk
  pub standing : All (Contains edges) walk
  pub above : All (λ e. (e.later ≡ start) ⊎ (get_or levels at 0 < get_or levels e.later 0)) walk
  pub reached : 0 < get_or levels at 0
  pub within : at < length levels
  pub sized : length walk + get_or levels at 0 ≡ level + 1

module _ (edges : List Edge) (start level : ℕ) (levels : List ℕ) (causes : List (Option Edge)) (in_range : HasEndsBelow (length levels) edges) (has : HasReached edges start levels causes) where
  module _ (walk : List Edge) (at : ℕ) (h : WalksBack edges start level levels walk at) where
    pub WalksBack-caused : at ≢ start → IsReached edges levels causes at
    WalksBack-caused apart = has.reached at apart h.reached

    pub WalksBack-more : (cause : Edge) → at ≢ start → get_or causes at None ≡ Some cause → WalksBack edges start level levels (cause ∷ walk) cause.earlier
    WalksBack-more cause differ is =
        let caused = WalksBack-caused differ in
        let same : caused.edge ≡ cause = let e : Some caused.edge ≡ Some cause = sym caused.stored ∙ is in cc in
        let stands : Contains edges cause = subst (λ (e : Edge). Contains edges e) same caused.standing in
        let into : cause.later ≡ at = sym (ap (λ (e : Edge). e.later) same) ∙ caused.into in
        let from : get_or levels caused.edge.earlier 0 ≡ get_or levels cause.earlier 0 = ap (λ (e : Edge). get_or levels e.earlier 0) same in
        let one : get_or levels at 0 ≡ get_or levels cause.earlier 0 + 1 = caused.one_above ∙ ap (λ n. n + 1) from in
        let later : get_or levels cause.later 0 ≡ get_or levels at 0 = ap (λ n. get_or levels n 0) into in
        record {
          leads = (refl, subst (λ n. LeadsAlong n walk start) (sym into) h.leads);
          some = omega arith;
          apart = AllPairs-cons (λ (e f : Edge). e.later ≢ f.later) cause walk
              (λ k d in' eq. elim (h.above k d in') [
                | inl back ↦ differ (sym into ∙ (eq ∙ back))
                | inr higher ↦ let same_level : get_or levels cause.later 0 ≡ get_or levels (get_or walk k d).later 0 = ap (λ n. get_or levels n 0) eq in absurd (omega arith)
              ]) h.apart;
          standing = All-cons (Contains edges) cause walk stands h.standing;
          above = All-cons (λ (e : Edge). (e.later ≡ start) ⊎ (get_or levels cause.earlier 0 < get_or levels e.later 0)) cause walk
              (inr (let up : get_or levels cause.earlier 0 < get_or levels cause.later 0 = omega arith in up))
              (λ k d in'. elim (h.above k d in') [
                | inl back ↦ inl back
                | inr higher ↦ inr (let up : get_or levels cause.earlier 0 < get_or levels (get_or walk k d).later 0 = omega arith in up)
              ]);
          reached = omega (arith, caused.from, from);
          within = (All-contains (λ f. (f.earlier < length levels) × (f.later < length levels)) edges cause in_range stands).0;
          sized = omega (arith, h.sized, one);
        }

-- All starts

pub record KeepsFewest (edges circle : List Edge) (start : ℕ) : Type 0 where
  pub is_circle : IsEdgeCircle edges circle
  pub none : (first : ℕ) → first < start → NoneBelow edges first (length circle)

module _ (edges circle : List Edge) (start : ℕ) (h : KeepsFewest edges circle start) where
  -- a circle starts at a resource that an edge comes from
  pub HasFewest-all : (count : ℕ) → HasEndsBelow count edges → count ≤ start → HasFewest edges circle
  HasFewest-all count within all other closed joined = h.none closed.start (starts other closed.nonempty closed.closed joined) other closed.closed closed.nonempty joined
    where
      starts : (walk : List Edge) → 0 < length walk → LeadsAlong closed.start walk closed.start → AreJoined edges walk → closed.start < start
      starts [] some leads joined = absurd (omega arith)
      starts (e ∷ es) some leads joined =
          let found = edge_of edges e.earlier e.later joined.0 in
          let inside : found.edge.earlier < count = (All-contains (λ (f : Edge). (f.earlier < count) × (f.later < count)) edges found.edge within found.stands).0 in
          omega (arith, found.from, leads.0)
