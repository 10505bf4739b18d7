use Rattle.std.proofs.Common.{refl, inl, [], ◌∷◌}
use Rattle.batch_examples.specs.{RowDocuments.hdr, RowDocuments.r1, RowParts.p0, RowParts.p00, RowParts.asks, RowParts.grants, RowsOfSafety.opposed_record, RowsOfSafety.waiting}
use Rattle.batch_examples.proofs.safety.waiting_in_a_circle.Goals as goal

pub returns-clause-alone : goal.returns-clause-alone
returns-clause-alone c = λ safe.
    (safe (grants 1 p0 hdr ∷ asks 1 p00 hdr ∷ []) [] refl).circles (waiting 1 p00 hdr ∷ []) ((inl refl, tt), inl (p0, inl refl, (0 ∷ [], refl)))

pub returns-clause-two : goal.returns-clause-two
returns-clause-two c = λ safe.
    (safe (grants 1 p0 hdr ∷ grants 2 p0 r1 ∷ asks 1 p00 r1 ∷ asks 2 p00 hdr ∷ []) [] refl).circles (waiting 1 p00 r1 ∷ waiting 2 p00 hdr ∷ [])
    ((inl refl, (inl refl, tt)), (inl (p0, inl refl, (0 ∷ [], refl)), inl (p0, inl refl, (0 ∷ [], refl))))

pub returns-clause-unsafe_run : goal.returns-clause-unsafe_run
returns-clause-unsafe_run c = λ safe.
    (safe opposed_record [] refl).circles (waiting 3 p00 hdr ∷ waiting 2 p00 r1 ∷ [])
    ((inl refl, (inl refl, tt)), (inl (p0, inl refl, (0 ∷ [], refl)), inl (p00, inl refl, ([], refl))))
