-- The spans on which phase steps passed.
use Rattle.std.proofs.Common.{◌≡◌, ◌≢◌, ◌⊎◌, ◌<◌, ◌≤◌, ℕ, List, length, Option, Some, None, get_or, replicate, set, sym, ap, ◌∙◌, subst, arith, inl, inr}
use Rattle.std.proofs.lemmas.{Bool.cases_eq, Bool.cases_lt, List.get_or-replicate, List.get_or-set_other, List.get_or-set_same, List.get_or_past, List.length-replicate, List.length-set}
use Rattle.batch_cell.specs.declared.cell.Cell as equipment
use Rattle.batch_recipe.specs.{Outlines.act_of_kind, declared.act.Act.Act, declared.acts.Acts.Acts, declared.acts.LabelTable.TheVariants.Phases, declared.entry.Kind.Kind, declared.role.Role.Role}
use Rattle.batch_recipe.specs.declared.entry.Kind.TheVariants as kind
use Rattle.batch_set.specs.{Looked.needs_by, declared.linked.LinkedNeed.LinkedNeed, declared.linked.LinkedRecipe.LinkedRecipe, declared.linked.Source.Source}
use Rattle.batch_verify.specs.{PassedSteps.Allows, PassedSteps.AreNoted, PassedSteps.HasPassed, PassedSteps.IsKnownBelow, PassedSteps.with_passed, Spans.ComesBelow, Spans.IsAtMost, Spans.IsPassed, declared.passed.Passed.Passed, declared.span.Span.Span}

module _ (P : Kind → Passed → Type 0) where
  -- at first none are noted
  pub AreNoted-none : (n : ℕ) → AreNoted P (replicate n None)
  AreNoted-none n (kind.Act Phases number) p known = by (cases_lt number n)
    where
      passed : List (Option Passed)
      passed = replicate n None

      by : (number < n) ⊎ (n ≤ number) → P (kind.Act Phases number) p
      by (inl within) = let bad : None ≡ Some p = sym (get_or-replicate n number None None within) ∙ known in absurd cc
      by (inr past) = let bad : None ≡ Some p = sym (get_or_past passed number None (omega (arith, past, length-replicate {A = Option Passed} n None))) ∙ known in absurd cc
  AreNoted-none n _ p known = let bad : None ≡ Some p = known in absurd cc

  -- those of an act of which it is so are noted
  pub AreNoted-with : (passed : List (Option Passed)) (k : Kind) (p : Passed) → AreNoted P passed → P k p → AreNoted P (with_passed passed k p)
  AreNoted-with passed (kind.Act Phases place) p h is = at
    where
      here : (q : Passed) → get_or (set passed place (Some p)) place None ≡ Some q → (place < length passed) ⊎ (length passed ≤ place) → P (kind.Act Phases place) q
      here q known (inl within) =
          let both : Some p ≡ Some q = sym (get_or-set_same passed place (Some p) None within) ∙ known in
          let same : p ≡ q = cc in
          subst (P (kind.Act Phases place)) same is
      here q known (inr past) =
          let bad : None ≡ Some q = sym (get_or_past (set passed place (Some p)) place None (omega (arith, past, length-set passed place (Some p)))) ∙ known in absurd cc

      at : AreNoted P (set passed place (Some p))
      at (kind.Act Phases number) q known = by (cases_eq number place)
        where
          by : (number ≡ place) ⊎ (number ≢ place) → P (kind.Act Phases number) q
          by (inl same) = subst (λ m. P (kind.Act Phases m) q) (sym same) (here q (ap (λ m. get_or (set passed place (Some p)) m None) (sym same) ∙ known) (cases_lt place (length passed)))
          by (inr other) = h (kind.Act Phases number) q (sym (get_or-set_other passed place number (Some p) None other) ∙ known)
      at _ q known = let bad : None ≡ Some q = known in absurd cc
  AreNoted-with passed _ p h is = h

at_most : (a b c : Option ℕ) → IsAtMost a b → IsAtMost b c → IsAtMost a c
at_most None b c f g = tt
at_most (Some a) (Some b) (Some c) f g = omega (arith, f, g)
at_most (Some a) (Some b) None f g = g
at_most (Some a) None c f g = absurd f

-- an act that passed on spans passes from a span that these allow
pub IsPassed-allowed : (c : equipment.Cell) (ranks : Option (List ℕ)) (roles : List Role) (lowest highest : List (Option ℕ)) (links : List LinkedNeed) (a : Act) (p : Passed) (above : Span)
    → Allows p above → IsPassed c ranks roles lowest highest links a p.above p.within → IsPassed c ranks roles lowest highest links a above p.within
IsPassed-allowed c ranks roles lowest highest links a p above allows h = record {
  comes = subst (λ (unit : Option Source). ComesBelow c ranks roles lowest highest a.unit links unit p.within.unit) allows.unit h.comes;
  asked = λ takers between before most. h.asked takers between before (at_most before above.last p.above.last most allows.last);
  offered = h.offered;
}

-- the act passes from the span that is known, and goes on as it did
pub IsPassed-known : (c : equipment.Cell) (ranks : Option (List ℕ)) (roles : List Role) (acts : Acts) (linked : LinkedRecipe) (lowest highest : List (Option ℕ)) (passed : List (Option Passed)) (k : Kind) (above within : Span)
    → AreNoted (HasPassed c ranks roles acts linked lowest highest) passed → IsKnownBelow passed k above within → (a : Act) → act_of_kind acts k ≡ Some a
    → IsPassed c ranks roles lowest highest (needs_by linked k) a above within
IsPassed-known c ranks roles acts linked lowest highest passed k above within noted known a is =
    subst (IsPassed c ranks roles lowest highest (needs_by linked k) a above) (sym known.is)
    (IsPassed-allowed c ranks roles lowest highest (needs_by linked k) a known.spans above known.allows (noted k known.spans known.noted a is))
