use Rattle.std.proofs.Common.{refl, inl}
use Rattle.batch_examples.specs.RowParts.{p001}
use Rattle.batch_examples.proofs.transfers.unit_is_kept.Goals as goal

pub returns-clause-run : goal.returns-clause-run
returns-clause-run c =
    (record { passed = tt; reserved = tt }, record { passed = (inl refl, tt); reserved = ((p001, inl refl), tt) })
