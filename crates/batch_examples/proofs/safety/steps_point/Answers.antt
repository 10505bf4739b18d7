use Rattle.std.proofs.Common.{refl, inl, [], ◌∷◌}
use Rattle.batch_examples.specs.RowParts.{p0}
use Rattle.batch_examples.proofs.safety.steps_point.Goals as goal

pub returns-clause-below : goal.returns-clause-below
returns-clause-below c = inl (p0, inl refl, (0 ∷ [], refl))
