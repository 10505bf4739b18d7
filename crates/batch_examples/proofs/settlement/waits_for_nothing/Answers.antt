use Rattle.std.proofs.Common.{◌≡◌, ◌<◌, ◌≤◌, refl, ap, inl, inr, arith, ℕ, [], ◌∷◌, Bool, true, false}
use Rattle.batch_matrix.specs.declared.state.State.TheVariants.{Running}
use Rattle.batch_recipe.specs.{Conditions.same_name, Needs.one_unit}
use Rattle.batch_model.specs.{Lists.Has, Plant.acts_in, Records.Link, Records.Waiting}
use Rattle.batch_examples.{specs.RowDocuments.hdr, specs.RowDocuments.r1, specs.RowDocuments.steam, specs.RowParts.p0, specs.RowParts.p00, specs.RowsOfSafety.waiting, specs.RowsOfSettlement.batch, specs.RowsOfSettlement.nothing_is_live, specs.RowsOfSettlement.waits, proofs.WorkRows.first_alone, proofs.WorkRows.nothing_works}
use Rattle.batch_examples.proofs.settlement.waits_for_nothing.Goals as goal

pub returns-clause-free : goal.returns-clause-free
returns-clause-free c = λ h. let less : 1 < 1 = (h.held hdr (record { act = (2, p0); units = 1 }) [] refl).0 in absurd (omega (arith, less))

pub returns-clause-enough_is_free : goal.returns-clause-enough_is_free
returns-clause-enough_is_free c = λ h. let less : 2 < 2 = (h.held steam (record { act = (2, p0); units = 1 }) [] refl).0 in absurd (omega (arith, less))

pub returns-clause-nobody_holds : goal.returns-clause-nobody_holds
returns-clause-nobody_holds c = λ h. (h.held steam (record { act = (2, p0); units = 3 }) [] refl).1.1

-- each act that waits is a step of batch 2
waits_in_two : (b : Bool) (v : Waiting) → Has (acts_in (elim b [ true ↦ record { act = (2, p0); units = 1 } ∷ [] | false ↦ [] ])) v.act → v.act.0 ≡ 1 → ⊥
waits_in_two true v (inl e) one = absurd (let two : ◌≡◌ {A = ℕ} 2 v.act.0 = ap (λ z. z.0) e in omega (arith, two, one))
waits_in_two true v (inr none) one = none
waits_in_two false v none one = none

pub returns-clause-last_holder : goal.returns-clause-last_holder
returns-clause-last_holder c = λ h.
    let work = h.ends [] (record { waiting = waiting 2 p0 hdr; holder = (1, p0) }) (inl refl, inl refl) (λ v w under. waits_in_two (same_name v.resource hdr) v w under.0) in
    first_alone nothing_is_live (batch 2 Running (waits p0 (one_unit hdr))) work.0 p0 refl nothing_works work.1 work.2 work.3

-- from batch 1 to batch 2, and from there to batch 1
abbrev from_1 : Link
from_1 = record { waiting = waiting 1 p00 r1; holder = (2, p0) }

abbrev from_2 : Link
from_2 = record { waiting = waiting 2 p00 hdr; holder = (1, p0) }

pub returns-clause-chain : goal.returns-clause-chain
returns-clause-chain c = λ h.
    let short : 5 ≤ 4 = h.short (from_1 ∷ from_2 ∷ from_1 ∷ from_2 ∷ from_1 ∷ [])
    ((inl refl, inl refl), (refl, (0 ∷ [], refl)), ((inl refl, inl refl), (refl, (0 ∷ [], refl)), ((inl refl, inl refl), (refl, (0 ∷ [], refl)), ((inl refl, inl refl), (refl, (0 ∷ [], refl)), (inl refl, inl refl))))) in
    absurd (omega (arith, short))
