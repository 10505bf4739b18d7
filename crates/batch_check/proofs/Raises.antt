-- The invariant of one raise of a rank.
use Rattle.std.proofs.Common.{◌≡◌, ℕ, ◌+◌, ◌<◌, ◌≤◌, ⊎_elim, inl, inr, List, length, set, get_or, Option, Some, None, Bool, true, false, All, Contains, sym, ap, ◌∙◌, subst, arith, below_more, length-set, get_or-set_same, get_or-set_other}
use Rattle.std.proofs.lemmas.{Bool.cases_eq, Bool.false≢true, List.Elements.All-contains, List.Elements.All-get_or, List.Elements.Contains-get_or}
use Rattle.batch_check.specs.{declared.edge.Edge.Edge, LeastRanking.HasEndsBelow, LeastRanking.IsRanking, Raising.IsProgress, Raising.IsCaused, Raising.RisesOr}

-- no rank falls in a raise
raised_at : (ranks : List ℕ) (i v k : ℕ) → i < length ranks → get_or ranks i 0 ≤ v → get_or ranks k 0 ≤ get_or (set ranks i v) k 0
raised_at ranks i v k within above = grind (arith, cases_eq k i, get_or-set_same ranks i v 0 within, get_or-set_other)

pub RisesOr-raise : (k v i : ℕ) (ranks : List ℕ) (e : Edge) → i < length ranks → get_or ranks i 0 ≤ v → k ≤ v → RisesOr k ranks e → RisesOr k (set ranks i v) e
RisesOr-raise k v i ranks e within above enough h = elim (cases_eq e.earlier i) [
  | inl same ↦ inr (rw same (rw (get_or-set_same ranks i v 0 within) enough))
  | inr ne ↦ ⊎_elim
      (λ (up : get_or ranks e.earlier 0 < get_or ranks e.later 0). inl (rw (get_or-set_other ranks i e.earlier v 0 ne) (omega (arith, raised_at ranks i v e.later within above))))
      (λ (high : k ≤ get_or ranks e.earlier 0). inr (rw (get_or-set_other ranks i e.earlier v 0 ne) high))
      h
]

-- a raise of the later of a standing edge just above its earlier
module _ (edges : List Edge) (ranks : List ℕ) (causes : List (Option Edge)) (e : Edge)
    (standing : Contains edges e)
    (from : e.earlier < length ranks)
    (within : e.later < length ranks)
    (flat : get_or ranks e.later 0 ≤ get_or ranks e.earlier 0)
    (low : get_or ranks e.earlier 0 < length ranks)
    (before : IsProgress edges ranks causes) where
  abbrev after : List ℕ
  after = set ranks e.later (get_or ranks e.earlier 0 + 1)

  raised : (k : ℕ) → get_or ranks k 0 ≤ get_or after k 0
  raised k = raised_at ranks e.later (get_or ranks e.earlier 0 + 1) k within (omega arith)

  at_later : get_or after e.later 0 ≡ get_or ranks e.earlier 0 + 1
  at_later = get_or-set_same ranks e.later (get_or ranks e.earlier 0 + 1) 0 within

  elsewhere : (k : ℕ) → (k ≡ e.later → ⊥) → get_or after k 0 ≡ get_or ranks k 0
  elsewhere k ne = get_or-set_other ranks e.later k (get_or ranks e.earlier 0 + 1) 0 ne

  same_length : length after ≡ length ranks
  same_length = length-set ranks e.later (get_or ranks e.earlier 0 + 1)

  bounded_after : (k : ℕ) → k < length ranks → get_or after k 0 ≤ length ranks
  bounded_after k in' = elim (cases_eq k e.later) [
    | inl same ↦ rw same (omega (arith, at_later))
    | inr ne ↦ omega (arith, elsewhere k ne, before.bounded k in')
  ]

  least_after : (other : ℕ → ℕ) → IsRanking (length ranks) edges other → (k : ℕ) → k < length ranks → get_or after k 0 ≤ other k
  least_after other h k in' =
      let up : other e.earlier < other e.later = All-contains (λ f. other f.earlier < other f.later) edges e h.rising standing in
      let below : get_or ranks e.earlier 0 ≤ other e.earlier = before.least other h e.earlier from in
      elim (cases_eq k e.later) [
        | inl same ↦ rw same (omega (arith, at_later))
        | inr ne ↦ omega (arith, elsewhere k ne, before.least other h k in')
      ]

  caused_after : (k : ℕ) → k < length ranks → 1 < get_or after k 0 → IsCaused edges after (set causes e.later (Some e)) k
  caused_after k in' high = elim (cases_eq k e.later) [
    | inl same ↦ record {
      edge = e;
      stored = rw same (get_or-set_same causes e.later (Some e) None (rw before.lengths within));
      standing = standing;
      into = sym same;
      one_above = rw same (omega (arith, at_later, raised e.earlier));
    }
    | inr ne ↦
        let old = before.caused k in' (subst (λ n. 1 < n) (elsewhere k ne) high) in
        record {
          edge = old.edge;
          stored = get_or-set_other causes e.later k (Some e) None ne ∙ old.stored;
          standing = old.standing;
          into = old.into;
          one_above = omega (arith, elsewhere k ne, raised old.edge.earlier, old.one_above);
        }
  ]

  pub IsProgress-raise : IsProgress edges after (set causes e.later (Some e))
  IsProgress-raise = record {
    lengths = length-set causes e.later (Some e) ∙ (before.lengths ∙ sym same_length);
    positive = λ k in'. omega (arith, raised k, before.positive k (subst (λ n. k < n) same_length in'));
    bounded = λ k in'. subst (λ n. get_or after k 0 ≤ n) (sym same_length) (bounded_after k (subst (λ n. k < n) same_length in'));
    least = λ other h k in'. least_after other (subst (λ n. IsRanking n edges other) same_length h) k (subst (λ n. k < n) same_length in');
    caused = λ k in'. caused_after k (subst (λ n. k < n) same_length in');
  }

abbrev pub no_edge : Edge
no_edge = record { recipe = 0; node = 0; earlier = 0; later = 0 }

-- the invariant of the loop over the edges
pub record KeepsRaising (edges : List Edge) (first ranks : List ℕ) (causes : List (Option Edge)) (some_raised : Bool) (index : ℕ) : Type 0 where
  pub same_length : length ranks ≡ length first
  pub progress : IsProgress edges ranks causes
  pub kept : (k : ℕ) → All (RisesOr k first) edges → All (RisesOr k ranks) edges
  pub raised : (k : ℕ) → All (RisesOr k first) edges → (j : ℕ) → j < index → RisesOr (k + 1) ranks (get_or edges j no_edge)
  pub still : some_raised ≡ false → (j : ℕ) → j < index → get_or ranks (get_or edges j no_edge).earlier 0 < get_or ranks (get_or edges j no_edge).later 0

module _ (edges : List Edge) (first ranks : List ℕ) (causes : List (Option Edge)) (some_raised : Bool) (index : ℕ)
    (within : HasEndsBelow (length first) edges)
    (before : KeepsRaising edges first ranks causes some_raised index)
    (in_edges : index < length edges) where
  abbrev item : Edge
  item = get_or edges index no_edge

  ends : (item.earlier < length ranks) × (item.later < length ranks)
  ends = rw before.same_length (All-get_or (λ e. (e.earlier < length first) × (e.later < length first)) edges index no_edge in_edges within)

  pub KeepsRaising-skip : get_or ranks item.earlier 0 < get_or ranks item.later 0 → KeepsRaising edges first ranks causes some_raised (index + 1)
  KeepsRaising-skip up = record {
    same_length = before.same_length;
    progress = before.progress;
    kept = before.kept;
    raised = λ k h. below_more (λ j. RisesOr (k + 1) ranks (get_or edges j no_edge)) index (before.raised k h) (inl up);
    still = λ none. below_more (λ j. get_or ranks (get_or edges j no_edge).earlier 0 < get_or ranks (get_or edges j no_edge).later 0) index (before.still none) up;
  }

  at_item : (k : ℕ) → k ≤ get_or ranks item.earlier 0 → get_or ranks item.later 0 ≤ get_or ranks item.earlier 0 → RisesOr (k + 1) (set ranks item.later (get_or ranks item.earlier 0 + 1)) item
  at_item k high flat =
      let same = get_or-set_same ranks item.later (get_or ranks item.earlier 0 + 1) 0 ends.1 in
      elim (cases_eq item.earlier item.later) [
        | inl loop ↦ inr (omega (arith, same, ap (λ n. get_or (set ranks item.later (get_or ranks item.earlier 0 + 1)) n 0) loop))
        | inr ne ↦ inl (rw (get_or-set_other ranks item.later item.earlier (get_or ranks item.earlier 0 + 1) 0 ne) (rw same (omega arith)))
      ]

  pub KeepsRaising-raise :
      get_or ranks item.later 0 ≤ get_or ranks item.earlier 0 → get_or ranks item.earlier 0 < length ranks
      → KeepsRaising edges first (set ranks item.later (get_or ranks item.earlier 0 + 1)) (set causes item.later (Some item)) true (index + 1)
  KeepsRaising-raise flat low =
      let up : (k : ℕ) (e : Edge) → k ≤ get_or ranks item.earlier 0 + 1 → RisesOr k ranks e → RisesOr k (set ranks item.later (get_or ranks item.earlier 0 + 1)) e =
      λ k e high. RisesOr-raise k (get_or ranks item.earlier 0 + 1) item.later ranks e ends.1 (omega arith) high in
      let reached : (k : ℕ) → All (RisesOr k first) edges → k ≤ get_or ranks item.earlier 0 =
      λ k h. ⊎_elim (λ (bad : get_or ranks item.earlier 0 < get_or ranks item.later 0). omega arith) (λ (high : k ≤ get_or ranks item.earlier 0). high) (before.kept k h index no_edge in_edges) in
      record {
        same_length = length-set ranks item.later (get_or ranks item.earlier 0 + 1) ∙ before.same_length;
        progress = IsProgress-raise edges ranks causes item (Contains-get_or edges index no_edge in_edges) ends.0 ends.1 flat low before.progress;
        kept = λ k h j d in'. up k (get_or edges j d) (omega (arith, reached k h)) (before.kept k h j d in');
        raised = λ k h. below_more (λ j. RisesOr (k + 1) (set ranks item.later (get_or ranks item.earlier 0 + 1)) (get_or edges j no_edge)) index
            (λ j below. up (k + 1) (get_or edges j no_edge) (omega (arith, reached k h)) (before.raised k h j below))
            (at_item k (reached k h) flat);
        still = λ none. absurd (false≢true (sym none));
      }
