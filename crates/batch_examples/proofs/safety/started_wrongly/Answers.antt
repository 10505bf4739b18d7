use Rattle.std.proofs.Common.{◌≡◌, Bool, true, false, refl, [], ◌∷◌, codes}
use Rattle.batch_examples.specs.{RowDocuments.add, RowDocuments.r1, RowParts.p0, RowParts.p00, RowParts.p000, RowParts.p001, RowParts.grants, RowParts.on, RowParts.starts}
use Rattle.batch_examples.proofs.safety.started_wrongly.Goals as goal

pub returns-clause-twice : goal.returns-clause-twice
returns-clause-twice c = λ safe.
    ((safe (grants 1 p0 r1 ∷ starts 1 p000 r1 add ∷ starts 1 p001 r1 add ∷ []) [] refl).starts
    (grants 1 p0 r1 ∷ starts 1 p000 r1 add ∷ []) 1 p001 (on r1 add) [] refl).1.0 (refl, refl)

pub returns-clause-not_offered : goal.returns-clause-not_offered
returns-clause-not_offered c = λ safe.
    let offered : ◌≡◌ {A = Bool} false true = ((safe (grants 1 p0 r1 ∷ starts 1 p00 r1 (codes "MIX") ∷ []) [] refl).starts (grants 1 p0 r1 ∷ []) 1 p00 (on r1 (codes "MIX")) [] refl).0 in
    absurd cc
