use Rattle.std.proofs.Common.{◌≡◌, ◌∙◌, refl, sym, ap, inl, inr, [], ◌∷◌, ◌++◌}
use Rattle.batch_matrix.specs.declared.state.State.TheVariants.{Running, Held}
use Rattle.batch_recipe.specs.{Needs.one_unit, Tree.Place, Tree.Step}
use Rattle.batch_model.specs.Rest.{done}
use Rattle.batch_examples.{specs.RowDocuments.add, specs.RowDocuments.hdr, specs.RowDocuments.r1, specs.RowParts.on, specs.RowParts.p0, specs.RowParts.p00, specs.RowParts.p000, specs.RowParts.p001, specs.RowsOfSettlement.batch, specs.RowsOfSettlement.holds, specs.RowsOfSettlement.nothing_is_live, specs.RowsOfSettlement.phase_at, specs.RowsOfSettlement.phase_beside, specs.RowsOfSettlement.waits, proofs.WorkRows.Works, proofs.WorkRows.first_alone, proofs.WorkRows.nothing_works}
use Rattle.batch_examples.proofs.settlement.holders_at_work.Goals as goal

pub returns-clause-phase : goal.returns-clause-phase
returns-clause-phase c = (
  batch 1 Running (holds p0 (one_unit hdr) (phase_at p00)),
  inl refl,
  refl,
  inr (record { place = p00; needs = []; reserves = [] }, on r1 add, Running, inr (inl refl), (0 ∷ [], refl)),
)

pub returns-clause-batch : goal.returns-clause-batch
returns-clause-batch c = (batch 1 Held (holds p0 (one_unit hdr) done), inl refl, refl, inl refl)

-- no place below 0.0.0 is 0.0.1
apart : (p : Step) → ◌≡◌ {A = Place} p001 p.place → (below : Place) → p000 ++ below ≡ p.place → ⊥
apart p is below h = let same : p000 ++ below ≡ p001 = h ∙ sym is in absurd cc

beside : Works p000 phase_beside → ⊥
beside (inl halting) = absurd cc
beside (inr phase) =
    elim phase.3 [
      | inl e ↦ absurd cc
      | inr (inl e) ↦ apart phase.0 (let same : ◌≡◌ {A = Step} (record { place = p001; needs = []; reserves = [] }) phase.0 = cc in ap (λ (z : Step). z.place) same) phase.4.0 phase.4.1
      | inr (inr none) ↦ absurd none
    ]

pub returns-clause-nothing : goal.returns-clause-nothing
returns-clause-nothing c = λ w. first_alone nothing_is_live (batch 2 Running (waits p0 (one_unit hdr))) w.0 p0 refl nothing_works w.1 w.2 w.3

pub returns-clause-another_batch : goal.returns-clause-another_batch
returns-clause-another_batch c = λ w. first_alone nothing_is_live (batch 2 Held (waits p0 (one_unit hdr))) w.0 p0 refl nothing_works w.1 w.2 w.3

pub returns-clause-beside : goal.returns-clause-beside
returns-clause-beside c = λ w. first_alone phase_beside (batch 2 Running (waits p0 (one_unit hdr))) w.0 p000 refl beside w.1 w.2 w.3
