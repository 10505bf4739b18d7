use Rattle.std.proofs.Common.{◌≤◌, refl, arith, [], ◌∷◌}
use Rattle.batch_model.specs.{Moves.grant, Runs.move}
use Rattle.batch_examples.specs.{RowDocuments.hdr, RowDocuments.steam, RowParts.p0, RowParts.grants, RowParts.releases, RowsOfSafety.all_steam}
use Rattle.batch_examples.proofs.safety.held_past_capacity.Goals as goal

pub returns-clause-holders : goal.returns-clause-holders
returns-clause-holders c = λ safe.
    let held : 2 ≤ 1 = (safe (grants 1 p0 hdr ∷ grants 2 p0 hdr ∷ []) [] refl).capacity hdr in absurd (omega (arith, held))

pub returns-clause-units : goal.returns-clause-units
returns-clause-units c = λ safe.
    let held : 3 ≤ 2 = (safe (grants 1 p0 steam ∷ move (grant 2 p0 all_steam) ∷ []) [] refl).capacity steam in absurd (omega (arith, held))

pub returns-clause-before_end : goal.returns-clause-before_end
returns-clause-before_end c = λ safe.
    let held : 2 ≤ 1 = (safe (grants 1 p0 hdr ∷ grants 2 p0 hdr ∷ []) (releases 1 p0 hdr ∷ releases 2 p0 hdr ∷ []) refl).capacity hdr in
    absurd (omega (arith, held))
