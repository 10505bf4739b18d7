-- Rounds that reach further resources.
use Rattle.std.proofs.Common.{◌≡◌, ◌≢◌, ℕ, ◌+◌, ◌<◌, ◌≤◌, inl, inr, List, length, set, get_or, Option, Some, None, Bool, true, false, Contains, sym, ap, ◌∙◌, subst, arith, below_more, length-set, get_or-set_same, get_or-set_other}
use Rattle.std.proofs.lemmas.{Bool.cases_eq, Bool.cases_lt, Bool.false≢true, List.get_or_default, List.Elements.All-get_or, List.Elements.Contains-get_or}
use Rattle.batch_check.{specs.declared.edge.Edge.Edge, specs.LeastRanking.HasEndsBelow, specs.Spreading.HasReached, specs.Spreading.IsSpread, specs.Spreading.LeadsOn, proofs.Raises.no_edge}

-- the invariant of the loop over the edges
pub record KeepsSpreading (edges : List Edge) (start level : ℕ) (first levels : List ℕ) (causes : List (Option Edge)) (further : Bool) (index : ℕ) : Type 0 where
  pub same_length : length levels ≡ length first
  pub has : HasReached edges start levels causes
  pub top : (resource : ℕ) → get_or levels resource 0 ≤ level + 1
  pub still : further ≡ false → (resource : ℕ) → get_or levels resource 0 ≤ level
  pub onward : (edge : Edge) → Contains edges edge → 0 < get_or levels edge.earlier 0 → get_or levels edge.earlier 0 < level → LeadsOn start levels edge
  pub here : (j : ℕ) → j < index → get_or levels (get_or edges j no_edge).earlier 0 ≡ level → LeadsOn start levels (get_or edges j no_edge)

-- a resource that had no level gets the next one, by an edge from this level
module _ (edges : List Edge) (start level : ℕ) (levels : List ℕ) (causes : List (Option Edge)) (e : Edge)
    (standing : Contains edges e)
    (within : e.later < length levels)
    (from : get_or levels e.earlier 0 ≡ level)
    (positive : 0 < level)
    (elsewhere : e.later ≢ start)
    (fresh : get_or levels e.later 0 ≡ 0) where
  abbrev after : List ℕ
  after = set levels e.later (level + 1)

  at_later : get_or after e.later 0 ≡ level + 1
  at_later = get_or-set_same levels e.later (level + 1) 0 within

  other : (k : ℕ) → k ≢ e.later → get_or after k 0 ≡ get_or levels k 0
  other k ne = get_or-set_other levels e.later k (level + 1) 0 ne

  -- a resource that had a level keeps it
  kept : (k : ℕ) → 0 < get_or levels k 0 → get_or after k 0 ≡ get_or levels k 0
  kept k high = other k (λ same. let zero : get_or levels k 0 ≡ 0 = ap (λ n. get_or levels n 0) same ∙ fresh in absurd (omega (arith, zero)))

  LeadsOn-kept : (edge : Edge) → 0 < get_or levels edge.earlier 0 → LeadsOn start levels edge → LeadsOn start after edge
  LeadsOn-kept edge high h =
      let up = kept edge.earlier high in
      let down = kept edge.later h.reached in
      record { elsewhere = h.elsewhere; reached = omega (arith, h.reached, down); near = omega (arith, h.near, up, down) }

  -- a level that isn't the next one was there before
  was : (k : ℕ) → get_or after k 0 ≢ level + 1 → get_or after k 0 ≡ get_or levels k 0
  was k ne = elim (cases_eq k e.later) [
    | inl same ↦ absurd (ne (ap (λ n. get_or after n 0) same ∙ at_later))
    | inr differ ↦ other k differ
  ]

  HasReached-more : HasReached edges start levels causes → length causes ≡ length levels → HasReached edges start after (set causes e.later (Some e))
  HasReached-more h sized = record {
    lengths = length-set causes e.later (Some e) ∙ (sized ∙ sym (length-set levels e.later (level + 1)));
    root = kept start (omega (arith, h.root)) ∙ h.root;
    reached = λ k apart high. elim (cases_eq k e.later) [
      | inl same ↦
          let earlier : get_or after e.earlier 0 ≡ level = kept e.earlier (omega (arith, from, positive)) ∙ from in
          record {
            edge = e;
            stored = ap (λ n. get_or (set causes e.later (Some e)) n None) same ∙ get_or-set_same causes e.later (Some e) None (omega (arith, within, sized));
            standing = standing;
            into = sym same;
            from = omega (arith, earlier, positive);
            one_above = ap (λ n. get_or after n 0) same ∙ (at_later ∙ ap (λ n. n + 1) (sym earlier));
          }
      | inr differ ↦
          let old = h.reached k apart (subst (λ n. 0 < n) (other k differ) high) in
          let up = kept old.edge.earlier old.from in
          record {
            edge = old.edge;
            stored = get_or-set_other causes e.later k (Some e) None differ ∙ old.stored;
            standing = old.standing;
            into = old.into;
            from = omega (arith, old.from, up);
            one_above = omega (arith, old.one_above, up, other k differ);
          }
    ];
  }

  top-more : (most : ℕ) → level + 1 ≤ most → ((k : ℕ) → get_or levels k 0 ≤ most) → (k : ℕ) → get_or after k 0 ≤ most
  top-more most high top k = elim (cases_eq k e.later) [
    | inl same ↦ let here : get_or after k 0 ≡ level + 1 = ap (λ n. get_or after n 0) same ∙ at_later in omega arith
    | inr differ ↦ omega (arith, top k, other k differ)
  ]

module _ (edges : List Edge) (start level : ℕ) (first levels : List ℕ) (causes : List (Option Edge)) (further : Bool) (index : ℕ)
    (within : HasEndsBelow (length first) edges)
    (positive : 0 < level)
    (before : KeepsSpreading edges start level first levels causes further index)
    (in_edges : index < length edges) where
  abbrev item : Edge
  item = get_or edges index no_edge

  ends : (item.earlier < length levels) × (item.later < length levels)
  ends =
      let e = All-get_or (λ (e : Edge). (e.earlier < length first) × (e.later < length first)) edges index no_edge in_edges within in
      (omega (arith, e.0, before.same_length), omega (arith, e.1, before.same_length))

  pub KeepsSpreading-other : get_or levels item.earlier 0 ≢ level → KeepsSpreading edges start level first levels causes further (index + 1)
  KeepsSpreading-other differ = record {
    same_length = before.same_length;
    has = before.has;
    top = before.top;
    still = before.still;
    onward = before.onward;
    here = below_more (λ j. get_or levels (get_or edges j no_edge).earlier 0 ≡ level → LeadsOn start levels (get_or edges j no_edge)) index before.here (λ same. absurd (differ same));
  }

  pub KeepsSpreading-known : get_or levels item.earlier 0 ≡ level → item.later ≢ start → get_or levels item.later 0 ≢ 0 → KeepsSpreading edges start level first levels causes further (index + 1)
  KeepsSpreading-known from elsewhere known = record {
    same_length = before.same_length;
    has = before.has;
    top = before.top;
    still = before.still;
    onward = before.onward;
    here = below_more (λ j. get_or levels (get_or edges j no_edge).earlier 0 ≡ level → LeadsOn start levels (get_or edges j no_edge)) index before.here
        (λ same. record { elsewhere = elsewhere; reached = omega arith; near = omega (arith, from, before.top item.later) });
  }

  pub KeepsSpreading-reach : get_or levels item.earlier 0 ≡ level → item.later ≢ start → get_or levels item.later 0 ≡ 0
      → KeepsSpreading edges start level first (set levels item.later (level + 1)) (set causes item.later (Some item)) true (index + 1)
  KeepsSpreading-reach from elsewhere fresh =
      let stands : Contains edges item = Contains-get_or edges index no_edge in_edges in
      let was_so = was edges start level levels causes item stands ends.1 from positive elsewhere fresh in
      let leads_on = LeadsOn-kept edges start level levels causes item stands ends.1 from positive elsewhere fresh in
      let at = at_later edges start level levels causes item stands ends.1 from positive elsewhere fresh in
      let keeps = kept edges start level levels causes item stands ends.1 from positive elsewhere fresh in
      record {
        same_length = length-set levels item.later (level + 1) ∙ before.same_length;
        has = HasReached-more edges start level levels causes item stands ends.1 from positive elsewhere fresh before.has before.has.lengths;
        top = top-more edges start level levels causes item stands ends.1 from positive elsewhere fresh (level + 1) (omega arith) before.top;
        still = λ none. absurd (false≢true (sym none));
        onward = λ edge stands high low.
            let old : get_or (set levels item.later (level + 1)) edge.earlier 0 ≡ get_or levels edge.earlier 0 = was_so edge.earlier (λ same. absurd (omega (arith, same, low))) in
            leads_on edge (omega (arith, old, high)) (before.onward edge stands (omega (arith, old, high)) (omega (arith, old, low)));
        here = below_more (λ j. get_or (set levels item.later (level + 1)) (get_or edges j no_edge).earlier 0 ≡ level → LeadsOn start (set levels item.later (level + 1)) (get_or edges j no_edge)) index
            (λ j below same.
            let old : get_or (set levels item.later (level + 1)) (get_or edges j no_edge).earlier 0 ≡ get_or levels (get_or edges j no_edge).earlier 0 =
            was_so (get_or edges j no_edge).earlier (λ next. absurd (omega (arith, same, next))) in
            let level_was : get_or levels (get_or edges j no_edge).earlier 0 ≡ level = sym old ∙ same in
            leads_on (get_or edges j no_edge) (omega (arith, level_was, positive)) (before.here j below level_was))
            (λ same. record { elsewhere = elsewhere; reached = omega (arith, at); near = omega (arith, at, same) });
      }

-- after a round over all edges
module _ (edges : List Edge) (start level : ℕ) (first levels : List ℕ) (causes : List (Option Edge)) (further : Bool) (index : ℕ)
    (h : KeepsSpreading edges start level first levels causes further index)
    (past : length edges ≤ index) where
  pub IsSpread-next : IsSpread edges start (level + 1) levels causes
  IsSpread-next = record {
    has = h.has;
    top = h.top;
    onward = λ edge stands high low. elim (cases_lt (get_or levels edge.earlier 0) level) [
      | inl below ↦ h.onward edge stands high below
      | inr above ↦
          let is : get_or edges stands.0 no_edge ≡ edge = get_or_default edges stands.0 no_edge edge stands.1 ∙ stands.2 in
          let in' : stands.0 < index = omega (arith, stands.1, past) in
          let level_is : get_or levels (get_or edges stands.0 no_edge).earlier 0 ≡ level =
          ap (λ (e : Edge). get_or levels e.earlier 0) is ∙ (let e : get_or levels edge.earlier 0 ≡ level = omega arith in e) in
          subst (λ (e : Edge). LeadsOn start levels e) is (h.here stands.0 in' level_is)
    ];
  }

pub level_positive : (edges : List Edge) (start level : ℕ) (levels : List ℕ) (causes : List (Option Edge)) → IsSpread edges start level levels causes → 0 < level
level_positive edges start level levels causes h = omega (arith, h.top start, h.has.root)
