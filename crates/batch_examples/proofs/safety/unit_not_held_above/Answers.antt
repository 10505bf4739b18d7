use Rattle.std.proofs.Common.{◌≡◌, ℕ, refl, sym, ap, subst, inl, inr, arith, [], ◌∷◌, ◌++◌}
use Rattle.batch_recipe.specs.Tree.{Place}
use Rattle.batch_matrix.specs.declared.{report.Report.Report, state.State.TheVariants.Holding}
use Rattle.batch_model.specs.{Events.reported, Runs.reply}
use Rattle.batch_examples.specs.{RowDocuments.add, RowDocuments.r1, RowDocuments.r2, RowParts.p0, RowParts.p00, RowParts.p000, RowParts.p0010, RowParts.grants, RowParts.on, RowParts.releases, RowParts.starts}
use Rattle.batch_examples.proofs.safety.unit_not_held_above.Goals as goal

-- no place below 0.0.0 is 0.0.1.0
beside : (p below : Place) → p000 ≡ p → p ++ below ≡ p0010 → ⊥
beside p below is h = let stands : p000 ++ below ≡ p0010 = subst (λ (q : Place). q ++ below ≡ p0010) (sym is) h in absurd cc

pub returns-clause-own_step : goal.returns-clause-own_step
returns-clause-own_step c = λ safe.
    let held = (safe (grants 1 p00 r1 ∷ starts 1 p00 r1 add ∷ []) [] refl).units (record { act = (1, p00); phase = on r1 add }) (inl refl) in
    elim held.1 [ inl is ↦ held.3 (sym (ap (λ z. z.1) is)) | inr none ↦ absurd none ]

pub returns-clause-beside : goal.returns-clause-beside
returns-clause-beside c = λ safe.
    let held = (safe (grants 1 p000 r1 ∷ starts 1 p0010 r1 add ∷ []) [] refl).units (record { act = (1, p0010); phase = on r1 add }) (inl refl) in
    elim held.1 [ inl is ↦ beside held.0 held.2.0 (ap (λ z. z.1) is) held.2.1 | inr none ↦ absurd none ]

pub returns-clause-another_batch : goal.returns-clause-another_batch
returns-clause-another_batch c = λ safe.
    let held = (safe (grants 2 p0 r1 ∷ starts 1 p00 r1 add ∷ []) [] refl).units (record { act = (1, p00); phase = on r1 add }) (inl refl) in
    elim held.1 [ inl is ↦ absurd (let same : ◌≡◌ {A = ℕ} 2 1 = ap (λ z. z.0) is in omega (arith, same)) | inr none ↦ absurd none ]

pub returns-clause-another_unit : goal.returns-clause-another_unit
returns-clause-another_unit c = λ safe.
    let held = (safe (grants 1 p0 r2 ∷ starts 1 p00 r1 add ∷ []) [] refl).units (record { act = (1, p00); phase = on r1 add }) (inl refl) in
    held.1

pub returns-clause-given_back : goal.returns-clause-given_back
returns-clause-given_back c = λ safe.
    let held = (safe (grants 1 p0 r1 ∷ starts 1 p00 r1 add ∷ reply (reported r1 add Report.Held 1 p00 Holding) ∷ releases 1 p0 r1 ∷ []) [] refl).units
    (record { act = (1, p00); phase = on r1 add }) (inl refl) in
    held.1
