-- The rounds of raises, and the rankings that a circle rules out.
use Rattle.std.proofs.Common.{◌≡◌, ℕ, ◌+◌, ◌<◌, ◌≤◌, ⊎_elim, List, [], ◌∷◌, length, get_or, Option, All, Contains, take, drop, ◌++◌, ap, ◌∙◌, sym, subst, arith}
use Rattle.std.{specs.List.AllByRecursion, proofs.lemmas.List.Elements.All-contains, proofs.lemmas.List.Elements.All-weaker, proofs.lemmas.List.Elements.recursion_from_All, proofs.Math.Seq.take-append_seam}
use Rattle.batch_check.specs.{declared.edge.Edge.Edge, LeastRanking.HasEndsBelow, LeastRanking.IsRanking, LeastRanking.IsLeastRanking, LeastRanking.IsEdgeCircle, LeastRanking.LeadsAlong, Raising.IsProgress, Raising.RisesOr}

-- the invariant of each round
pub record Rounds (count : ℕ) (edges : List Edge) (ranks : List ℕ) (causes : List (Option Edge)) (round : ℕ) : Type 0 where
  pub sized : length ranks ≡ count
  pub progress : IsProgress edges ranks causes
  pub rising : All (RisesOr round ranks) edges

pub Rounds-more : (count : ℕ) (edges : List Edge) (ranks next : List ℕ) (causes marked : List (Option Edge)) (round : ℕ)
    → Rounds count edges ranks causes round → length next ≡ length ranks → IsProgress edges next marked
    → ((k : ℕ) → All (RisesOr k ranks) edges → All (RisesOr (k + 1) next) edges) → Rounds count edges next marked (round + 1)
Rounds-more count edges ranks next causes marked round h same progress raised =
    record { sized = same ∙ h.sized; progress = progress; rising = raised round h.rising }

-- the elements of a Vec once all of it was written through a slice
pub written : {X : Type 0} (n : ℕ) (xs ys : List X) → length xs ≡ n → take n (xs ++ drop (length xs) ys) ≡ xs
written n xs ys e = rw (sym e) (take-append_seam xs (drop (length xs) ys))

-- ranks that rise along all edges are least
pub IsLeastRanking-still : (count : ℕ) (edges : List Edge) (ranks : List ℕ) (causes : List (Option Edge)) → length ranks ≡ count → IsProgress edges ranks causes
    → All (λ e. get_or ranks e.earlier 0 < get_or ranks e.later 0) edges → IsLeastRanking count edges ranks
IsLeastRanking-still count edges ranks causes sized progress rising = record {
  complete = sized;
  ranking = record {
    positive = λ r in'. progress.positive r (omega (arith, sized));
    rising = rising;
  };
  least = λ other ranking r in'. progress.least other (subst (λ n. IsRanking n edges other) (sym sized) ranking) r (omega (arith, sized));
  bounded = λ r in'. omega (arith, sized, progress.bounded r (omega (arith, sized)));
  tight = λ r in' high.
      let caused = progress.caused r (omega (arith, sized)) high in
      let up : get_or ranks caused.edge.earlier 0 < get_or ranks caused.edge.later 0 = All-contains (λ (e : Edge). get_or ranks e.earlier 0 < get_or ranks e.later 0) edges caused.edge rising caused.standing in
      record {
        edge = caused.edge;
        standing = caused.standing;
        into = caused.into;
        just_above = omega (arith, caused.one_above, up, ap (λ n. get_or ranks n 0) caused.into);
      };
}

-- after as many rounds as there are resources, all edges rise
pub IsLeastRanking-all : (count : ℕ) (edges : List Edge) (ranks : List ℕ) (causes : List (Option Edge)) → HasEndsBelow count edges → Rounds count edges ranks causes (count + 1) → IsLeastRanking count edges ranks
IsLeastRanking-all count edges ranks causes within h =
    IsLeastRanking-still count edges ranks causes h.sized h.progress
    (λ k d in'. ⊎_elim (λ (up : get_or ranks (get_or edges k d).earlier 0 < get_or ranks (get_or edges k d).later 0). up)
    (λ (high : count + 1 ≤ get_or ranks (get_or edges k d).earlier 0). absurd (omega (arith, h.sized, h.progress.bounded (get_or edges k d).earlier (omega (arith, h.sized, (within k d in').0)))))
    (h.rising k d in'))

Leads-rising : (rank : ℕ → ℕ) (first last : ℕ) (walk : List Edge) → AllByRecursion (λ e. rank e.earlier < rank e.later) walk → LeadsAlong first walk last → rank first + length walk ≤ rank last
Leads-rising rank first last [] h w = omega (arith, ap rank w)
Leads-rising rank first last (e ∷ es) h w = omega (arith, ap rank w.0, h.0, Leads-rising rank e.later last es h.1 w.1)

pub circle_rules_out : (count : ℕ) (edges circle : List Edge) (rank : ℕ → ℕ) → IsEdgeCircle edges circle → IsRanking count edges rank → ⊥
circle_rules_out count edges circle rank c r =
    let rising : All (λ (e : Edge). rank e.earlier < rank e.later) circle =
    All-weaker (Contains edges) (λ (e : Edge). rank e.earlier < rank e.later) (λ e stands. All-contains (λ (f : Edge). rank f.earlier < rank f.later) edges e r.rising stands) circle c.standing in
    absurd (omega (arith, Leads-rising rank c.start c.start circle (recursion_from_All (λ (e : Edge). rank e.earlier < rank e.later) circle rising) c.closed, c.nonempty))
