-- Edges between resources and roles, one more of which is taken as it is in a binding.
use Rattle.std.proofs.Common.{◌≡◌, ◌⊎◌, ℕ, ◌<◌, inl, inr, List, [], ◌∷◌, ◌++◌, set, length, get_or, Vec, Option, Some, None, Bool, false, refl, sym, ap, ◌∙◌, subst, arith}
use Rattle.std.{specs.Global.Global, specs.List.Contains, proofs.lemmas.Bool.cases_eq, proofs.lemmas.List.get_or-set_same, proofs.lemmas.List.get_or-set_other, proofs.lemmas.List.length-set, proofs.lemmas.Option.slice_get-get_or, proofs.lemmas.List.Elements.Contains-append_cases, proofs.lemmas.List.Elements.Contains-append_left, proofs.lemmas.List.Elements.Contains-append_right}
use Rattle.batch_check.{specs.declared.edge.Edge.Edge, specs.declared.edge_set.EdgeSet.EdgeSet, specs.Collecting.AreTakenIn, specs.Collecting.AreThose, specs.Collecting.HasRaised, specs.Collecting.HasTakenBy, specs.Collecting.IsTakenAs, specs.Collecting.raised, specs.Joining.AreBelow, specs.Joining.HasJoined, specs.Takings.resource_for, proofs.EdgesFromNeeds.Contains-at, proofs.EdgesFromNeeds.Contains-none, proofs.EdgesFromNeeds.Contains-one, proofs.EdgesFromNeeds.Grows-same, proofs.EdgesFromNeeds.Grows-twice}

-- Edges

pub HasTakenBy-none : (units : List (Option ℕ)) (set : EdgeSet) → HasTakenBy units [] set set
HasTakenBy-none units set = record { grown = Grows-same set; taken = λ edge i j among earlier_is later_is. absurd (Contains-none edge among); only = λ edge stands. inl stands }

pub HasTakenBy-more : (units : List (Option ℕ)) (edges : List Edge) (e : Edge) (old set new : EdgeSet) → HasTakenBy units edges old set
    → HasJoined e.recipe e.node (resource_for set.count units e.earlier ∷ []) (resource_for set.count units e.later) set new → HasTakenBy units (edges ++ e ∷ []) old new
HasTakenBy-more units edges e old set new h joined =
    let counted : (n : ℕ) → resource_for set.count units n ≡ resource_for old.count units n = λ n. ap (λ count. resource_for count units n) h.grown.same_count in
    record {
      grown = Grows-twice old set new h.grown joined.grown;
      taken = λ edge i j among earlier_is later_is. elim (Contains-append_cases edges (e ∷ []) edge among) [
        | inl before ↦ joined.grown.kept i j (h.taken edge i j before earlier_is later_is)
        | inr last ↦
            let same : e ≡ edge = Contains-one e edge last in
            let from : resource_for set.count units e.earlier ≡ Some i = counted e.earlier ∙ (ap (λ (x : Edge). resource_for old.count units x.earlier) same ∙ earlier_is) in
            let into : resource_for set.count units e.later ≡ Some j = counted e.later ∙ (ap (λ (x : Edge). resource_for old.count units x.later) same ∙ later_is) in
            joined.joined i j (Contains-at (resource_for set.count units e.earlier ∷ []) 0 (Some i) (ap (λ (o : Option ℕ). Some o) from)) into
      ];
      only = λ edge stands. elim (joined.only edge stands) [
        | inl known ↦ elim (h.only edge known) [
          | inl before ↦ inl before
          | inr taken ↦ inr (taken.0, Contains-append_left edges (e ∷ []) taken.0 taken.1, taken.2)
        ]
        | inr leads ↦ inr (
          e,
          Contains-append_right edges (e ∷ []) e (Contains-at (e ∷ []) 0 e refl),
          record {
            recipe_is = leads.recipe_is;
            node_is = leads.node_is;
            earlier_is = sym (counted e.earlier) ∙ Contains-one (resource_for set.count units e.earlier) (Some edge.earlier) leads.earlier_is;
            later_is = sym (counted e.later) ∙ leads.later_is;
          },
        )
      ];
    }

pub AreThose-none : (passes : Edge → Bool) → AreThose passes [] []
AreThose-none passes = record { among = λ edge stands. stands; rest = λ edge stands. inl stands }

module _ (passes : Edge → Bool) (edges : List Edge) (e : Edge) (those : List Edge) (h : AreThose passes edges those) where
  pub AreThose-left : passes e ≡ false → AreThose passes (edges ++ e ∷ []) those
  AreThose-left fails = record {
    among = λ edge stands. Contains-append_left edges (e ∷ []) edge (h.among edge stands);
    rest = λ edge stands. elim (Contains-append_cases edges (e ∷ []) edge stands) [
      | inl before ↦ h.rest edge before
      | inr last ↦ inr (subst (λ (x : Edge). passes x ≡ false) (Contains-one e edge last) fails)
    ];
  }

  pub AreThose-more : AreThose passes (edges ++ e ∷ []) (those ++ e ∷ [])
  AreThose-more = record {
    among = λ edge stands. elim (Contains-append_cases those (e ∷ []) edge stands) [
      | inl before ↦ Contains-append_left edges (e ∷ []) edge (h.among edge before)
      | inr last ↦ Contains-append_right edges (e ∷ []) edge last
    ];
    rest = λ edge stands. elim (Contains-append_cases edges (e ∷ []) edge stands) [
      | inl before ↦ elim (h.rest edge before) [
        | inl here ↦ inl (Contains-append_left those (e ∷ []) edge here)
        | inr fails ↦ inr fails
      ]
      | inr last ↦ inl (Contains-append_right those (e ∷ []) edge last)
    ];
  }

-- Edges that are taken for each two of some units

-- the units of two lists are resources, where those of both are
pub raised_below : (count place : ℕ) (own others : List (Option ℕ)) → place < length own → AreBelow count own → AreBelow count others → AreBelow count (raised place own others)
raised_below count place own others within own_below below k among = go (cases_eq among.0 place)
  where
    in_others : among.0 < length others
    in_others = omega (arith, among.1, length-set others place (get_or own place None))

    go : (among.0 ≡ place) ⊎ (among.0 ≡ place → ⊥) → k < count
    go (inl same) =
        let is : get_or own place None ≡ Some k =
        sym (ap (λ n. get_or (raised place own others) n (Some k)) same ∙ get_or-set_same others place (get_or own place None) (Some k) (subst (λ n. n < length others) same in_others)) ∙ among.2 in
        own_below k (Contains-at own place (Some k) (slice_get-get_or own place None within ∙ ap (λ (o : Option ℕ). Some o) is))
    go (inr differ) = below k (among.0, in_others, sym (get_or-set_other others place among.0 (get_or own place None) (Some k) differ) ∙ among.2)

module _ (place : ℕ) (edges : List Edge) where
  pub HasRaised-none : (others : List (Vec (Option ℕ) Global)) (set : EdgeSet) → HasRaised place [] others edges set set
  HasRaised-none others set = record { grown = Grows-same set; taken = λ own other among _. absurd (Contains-none own among); only = λ edge stands. inl stands }

  pub HasRaised-start : (owns : List (Vec (Option ℕ) Global)) (set : EdgeSet) → HasRaised place owns [] edges set set
  HasRaised-start owns set = record { grown = Grows-same set; taken = λ own other _ among. absurd (Contains-none other among); only = λ edge stands. inl stands }

  pub HasRaised-more : (own : Vec (Option ℕ) Global) (others : List (Vec (Option ℕ) Global)) (other : Vec (Option ℕ) Global) (old set new : EdgeSet)
      → HasRaised place (own ∷ []) others edges old set → HasTakenBy (raised place own.items other.items) edges set new → HasRaised place (own ∷ []) (others ++ other ∷ []) edges old new
  HasRaised-more own others other old set new h g = record {
    grown = Grows-twice old set new h.grown g.grown;
    taken = λ o p own_in other_in edge i j stands earlier_is later_is. elim (Contains-append_cases others (other ∷ []) p other_in) [
      | inl before ↦ g.grown.kept i j (h.taken o p own_in before edge i j stands earlier_is later_is)
      | inr last ↦ now o p (Contains-one own o own_in) (Contains-one other p last) edge i j stands earlier_is later_is
    ];
    only = λ edge stands. elim (g.only edge stands) [
      | inl known ↦ elim (h.only edge known) [
        | inl before ↦ inl before
        | inr r ↦ inr (record {
          own = r.own;
          other = r.other;
          among_owns = r.among_owns;
          among_others = Contains-append_left others (other ∷ []) r.other r.among_others;
          from = r.from;
          stands = r.stands;
          is = r.is;
        })
      ]
      | inr taken ↦ inr (record {
        own = own;
        other = other;
        among_owns = Contains-at (own ∷ []) 0 own refl;
        among_others = Contains-append_right others (other ∷ []) other (Contains-at (other ∷ []) 0 other refl);
        from = taken.0;
        stands = taken.1;
        is = subst (λ count. IsTakenAs count (raised place own.items other.items) taken.0 edge) h.grown.same_count taken.2;
      })
    ];
  }
    where
      now : (o p : Vec (Option ℕ) Global) → own ≡ o → other ≡ p → AreTakenIn old.count (raised place o.items p.items) edges new.edges.items
      now o p own_is other_is =
          subst (λ (x : Vec (Option ℕ) Global). AreTakenIn old.count (raised place x.items p.items) edges new.edges.items) own_is
          (subst (λ (x : Vec (Option ℕ) Global). AreTakenIn old.count (raised place own.items x.items) edges new.edges.items) other_is
          (subst (λ count. AreTakenIn count (raised place own.items other.items) edges new.edges.items) h.grown.same_count g.taken))

  pub HasRaised-then : (owns : List (Vec (Option ℕ) Global)) (own : Vec (Option ℕ) Global) (others : List (Vec (Option ℕ) Global)) (old set new : EdgeSet)
      → HasRaised place owns others edges old set → HasRaised place (own ∷ []) others edges set new → HasRaised place (owns ++ own ∷ []) others edges old new
  HasRaised-then owns own others old set new h g = record {
    grown = Grows-twice old set new h.grown g.grown;
    taken = λ o p own_in other_in edge i j stands earlier_is later_is. elim (Contains-append_cases owns (own ∷ []) o own_in) [
      | inl before ↦ g.grown.kept i j (h.taken o p before other_in edge i j stands earlier_is later_is)
      | inr last ↦ now o p last other_in edge i j stands earlier_is later_is
    ];
    only = λ edge stands. elim (g.only edge stands) [
      | inl known ↦ elim (h.only edge known) [
        | inl before ↦ inl before
        | inr r ↦ inr (record {
          own = r.own;
          other = r.other;
          among_owns = Contains-append_left owns (own ∷ []) r.own r.among_owns;
          among_others = r.among_others;
          from = r.from;
          stands = r.stands;
          is = r.is;
        })
      ]
      | inr r ↦ inr (record {
        own = r.own;
        other = r.other;
        among_owns = Contains-append_right owns (own ∷ []) r.own r.among_owns;
        among_others = r.among_others;
        from = r.from;
        stands = r.stands;
        is = subst (λ count. IsTakenAs count (raised place r.own.items r.other.items) r.from edge) h.grown.same_count r.is;
      })
    ];
  }
    where
      now : (o p : Vec (Option ℕ) Global) → Contains (own ∷ []) o → Contains others p → AreTakenIn old.count (raised place o.items p.items) edges new.edges.items
      now o p own_in other_in = subst (λ count. AreTakenIn count (raised place o.items p.items) edges new.edges.items) h.grown.same_count (g.taken o p own_in other_in)
