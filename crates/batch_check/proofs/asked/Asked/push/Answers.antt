use Rattle.std.proofs.Common.{◌≡◌, ℕ, Bool, true, false, if◌then◌else◌, List, [], ◌∷◌, ◌++◌, IsTrue, Option, Some, inl, inr, sym, ◌∙◌, subst}
use Rattle.std.{specs.List.Contains, proofs.lemmas.List.Elements.Contains-append_cases}
use Rattle.batch_check.{specs.Pairs.has_bit, specs.declared.asked.Asked.Asked, proofs.EdgesFromNeeds.Contains-one}
use Rattle.batch_check.proofs.asked.Asked.push.Goals as goal
use Rattle.batch_check.proofs.asked.Asked.push.Goals.{in-Some, in_default}

-- one more number is noted, where it could be added
noted_more : (added : Bool) (needs : List (Option ℕ)) (need : Option ℕ) (numbers : List ℕ) → ((k : ℕ) → Contains needs (Some k) → IsTrue (has_bit numbers k))
    → ((k : ℕ) → need ≡ Some k → IsTrue (has_bit numbers k)) → (k : ℕ) → Contains (if added then needs ++ need ∷ [] else needs) (Some k) → IsTrue (has_bit numbers k)
noted_more true needs need numbers noted own k among = elim (Contains-append_cases needs (need ∷ []) (Some k) among) [
  | inl before ↦ noted k before
  | inr here ↦ own k (Contains-one need (Some k) here)
]
noted_more false needs need numbers noted own k among = noted k among

pub invariant_of-self : goal.invariant_of-self
invariant_of-self c =
    let s = c.match-need.self in
    let own : (k : ℕ) → c.match-need.need ≡ Some k → IsTrue (has_bit s.numbers k) = λ k is. elim c.match-need.branch [
      | in-Some w ↦
          let same : w.in-Some.number ≡ k = let e : Some w.in-Some.number ≡ Some k = sym w.need-is ∙ is in cc in
          subst (λ (a : Asked). IsTrue (has_bit a.numbers k)) (sym w.self-is) (subst (λ n. IsTrue (has_bit w.set_bit.new.self.numbers n)) (w.from.ensures ∙ same) w.set_bit.ensures.noted)
      | in_default w ↦ absurd (w.in_default.not-Some k (sym w.need-is ∙ is))
    ] in
    record { sized = s.sized; noted = λ k among. noted_more _ s.needs.items c.match-need.need s.numbers s.noted own k (subst (λ (ns : List (Option ℕ)). Contains ns (Some k)) c.push.ensures.items among) }
