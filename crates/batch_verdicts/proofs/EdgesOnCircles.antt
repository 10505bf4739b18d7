-- Where edges lead, and which of them lie on circles.
use Rattle.std.proofs.Common.{◌≡◌, ℕ, ◌<◌, List, [], ◌∷◌, ◌++◌, Bool, true, false, inl, inr, All, Contains, set, length, zero, suc, arith, refl, sym, subst, ◌∙◌, get_or-set_other}
use Rattle.std.proofs.lemmas.{Bool.cases_eq, List.Elements.All-append}
use Rattle.batch_check.specs.{LeastRanking.LeadsAlong, declared.edge.Edge.Edge}
use Rattle.batch_verdicts.specs.{Drawing.IsOnCircle, Reached.AreReached, Reached.IsReached}

All-single : {X : Type 0} (P : X → Type 0) (x : X) → P x → All P (x ∷ [])
All-single P x h zero d within = h
All-single P x h (suc k) d within = absurd (omega (arith, within))

pub All-pushed : {X : Type 0} (P : X → Type 0) (xs : List X) (x : X) → All P xs → P x → All P (xs ++ x ∷ [])
All-pushed P xs x all h = All-append P xs (x ∷ []) all (All-single P x h)

leads_more : (first : ℕ) (walk : List Edge) (e : Edge) → LeadsAlong first walk e.earlier → LeadsAlong first (walk ++ e ∷ []) e.later
leads_more first [] e h = (sym h, refl)
leads_more first (x ∷ xs) e h = (h.0, leads_more x.later xs e h.1)

module _ (edges : List Edge) (start : ℕ) where
  pub reached_more : (e : Edge) → Contains edges e → IsReached edges start e.earlier → IsReached edges start e.later
  reached_more e stands h = record {
    walk = h.walk ++ e ∷ [];
    leads = leads_more start h.walk e h.leads;
    standing = All-pushed (Contains edges) h.walk e h.standing stands;
  }

  pub reached_marked : (marks : List Bool) (resource : ℕ) → resource < length marks → AreReached edges start marks → IsReached edges start resource
      → AreReached edges start (set marks resource true)
  reached_marked marks resource within before here k marked = elim (cases_eq k resource) [
    | inl same ↦ subst (IsReached edges start) (sym same) here
    | inr differ ↦ before k (sym (get_or-set_other marks resource k true false differ) ∙ marked)
  ]

  pub on_circle : (e : Edge) → Contains edges e → e.later ≡ start → IsReached edges start e.earlier → IsOnCircle edges e
  on_circle e stands same h = record {
    standing = stands;
    walk = h.walk;
    back = subst (λ n. LeadsAlong n h.walk e.earlier) (sym same) h.leads;
    along = h.standing;
  }
