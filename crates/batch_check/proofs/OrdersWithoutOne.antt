-- The edges without those of one order, and ranks that rise along the others.
use Rattle.std.proofs.Common.{◌≡◌, ℕ, ◌<◌, List, [], ◌∷◌, ◌++◌, Bool, true, false, inl, inr, All, Contains, get_or, zero, suc, sym, subst, ◌∙◌, arith}
use Rattle.std.proofs.lemmas.{Bool.false≢true, List.Elements.All-append, List.Elements.All-contains, List.Elements.All-weaker, List.Elements.All-get_or, List.Elements.Contains-append_left, List.Elements.Contains-append_right, List.Elements.Contains-append_cases, List.Elements.Contains-get_or}
use Rattle.batch_cell.specs.declared.cell.Cell.{Cell}
use Rattle.batch_recipe.specs.declared.recipe.Recipe.{Recipe}
use Rattle.batch_check.{specs.declared.edge.Edge.Edge, specs.declared.edge_set.EdgeSet.EdgeSet, specs.Collecting.HasAllPairs, specs.LeastRanking.HasEndsBelow, specs.LeastRanking.IsEdgeCircle, specs.LeastRanking.IsLeastRanking, specs.Mending.AreOtherEdges, specs.Mending.RiseAlongOthers, specs.Mending.RiseWithout, specs.Mending.TellRises, specs.Mending.TellsRise, specs.Mending.TellsRiseAlong, specs.Mending.is_same_order, proofs.RaiseRounds.circle_rules_out, proofs.RanksAlongPaths.edge_of}

-- The loop

All-single : {X : Type 0} (P : X → Type 0) (x : X) → P x → All P (x ∷ [])
All-single P x h zero d within = h
All-single P x h (suc k) d within = absurd (omega (arith, within))

module _ (edges : List Edge) (edge e : Edge) (others : List Edge) (h : AreOtherEdges edges edge others) where
  pub others_same : is_same_order edge e ≡ true → AreOtherEdges (edges ++ e ∷ []) edge others
  others_same same = record {
    among = All-weaker (Contains edges) (Contains (edges ++ e ∷ [])) (λ x stands. Contains-append_left edges (e ∷ []) x stands) others h.among;
    differ = h.differ;
    whole = λ other stands new. elim (Contains-append_cases edges (e ∷ []) other stands) [
      | inl before ↦ h.whole other before new
      | inr last ↦ let is : is_same_order edge other ≡ true = All-contains (λ x. is_same_order edge x ≡ true) (e ∷ []) other (All-single (λ x. is_same_order edge x ≡ true) e same) last in absurd (false≢true (sym new ∙ is))
    ];
  }

  pub others_new : is_same_order edge e ≡ false → AreOtherEdges (edges ++ e ∷ []) edge (others ++ e ∷ [])
  others_new new = record {
    among =
        All-append (Contains (edges ++ e ∷ [])) others (e ∷ [])
        (All-weaker (Contains edges) (Contains (edges ++ e ∷ [])) (λ x stands. Contains-append_left edges (e ∷ []) x stands) others h.among)
        (All-single (Contains (edges ++ e ∷ [])) e (Contains-append_right edges (e ∷ []) e (Contains-get_or (e ∷ []) 0 e (omega arith))));
    differ = All-append (λ other. is_same_order edge other ≡ false) others (e ∷ []) h.differ (All-single (λ other. is_same_order edge other ≡ false) e new);
    whole = λ other stands differs. elim (Contains-append_cases edges (e ∷ []) other stands) [
      | inl before ↦ Contains-append_left others (e ∷ []) other (h.whole other before differs)
      | inr last ↦ Contains-append_right others (e ∷ []) other last
    ];
  }

-- Ranks along these others

module _ (edges : List Edge) (edge : Edge) (others : List Edge) (are : AreOtherEdges edges edge others) where
  pub others_within : (count : ℕ) → HasEndsBelow count edges → HasEndsBelow count others
  others_within count within =
      let P : Edge → Type 0 = λ e. (e.earlier < count) × (e.later < count) in
      All-weaker (Contains edges) P (λ e stands. All-contains P edges e within stands) others are.among

  pub ranks_rise : (count : ℕ) (ranks : List ℕ) → IsLeastRanking count others ranks → RiseAlongOthers edges edge (λ k. get_or ranks k 0)
  ranks_rise count ranks least other stands differs =
      All-contains (λ (f : Edge). get_or ranks f.earlier 0 < get_or ranks f.later 0) others other least.ranking.rising (are.whole other stands differs)

  pub circle_stays_in : (circle : List Edge) (rank : ℕ → ℕ) → IsEdgeCircle others circle → RiseAlongOthers edges edge rank → ⊥
  circle_stays_in circle rank c rise =
      circle_rules_out 0 others circle rank c
      (record {
        positive = λ resource below. absurd (omega (arith, below));
        rising = λ k d within.
            rise (get_or others k d) (All-get_or (Contains edges) others k d within are.among) (All-get_or (λ (other : Edge). is_same_order edge other ≡ false) others k d within are.differ);
      })

-- The answers

module _ (cell : Cell) (recipes : List Recipe) where
  module _ (old set : EdgeSet) (pairs : HasAllPairs cell recipes old set) (edge : Edge) where
    rise_standing : (rank : ℕ → ℕ) → RiseAlongOthers set.edges.items edge rank → RiseWithout cell recipes edge rank
    rise_standing rank rise other stands differs =
        let e = edge_of set.edges.items other.earlier other.later (pairs.whole other stands) in
        let new : is_same_order edge e.edge ≡ false = rw (e.from, e.into) differs in
        let rises : rank e.edge.earlier < rank e.edge.later = rise e.edge e.stands new in
        subst (λ n. rank n < rank other.later) e.from (subst (λ n. rank e.edge.earlier < rank n) e.into rises)

    pub told_standing : (rises : Bool) → TellsRiseAlong set.edges.items edge rises → TellsRise cell recipes edge rises
    told_standing true told = (told.0, rise_standing told.0 told.1)
    told_standing false told = λ rank rise. told rank (λ other stands differs. rise other (pairs.standing other stands) differs)

  -- one more of them
  pub TellRises-more : (edges : List Edge) (rise : List Bool) (edge : Edge) (rises : Bool) → TellRises cell recipes edges rise → TellsRise cell recipes edge rises
      → TellRises cell recipes (edges ++ edge ∷ []) (rise ++ rises ∷ [])
  TellRises-more [] [] edge rises h told = (told, tt)
  TellRises-more [] (b ∷ bs) edge rises h told = absurd h
  TellRises-more (e ∷ es) [] edge rises h told = absurd h
  TellRises-more (e ∷ es) (b ∷ bs) edge rises h told = (h.0, TellRises-more es bs edge rises h.1 told)
