use Rattle.batch_chart.{specs.Needs.needs_of_kind, specs.Noting.stage_signs, specs.declared.stage.Stage.TheVariants.Ready, proofs.StartAndWithdrawal.none-started, proofs.StartAndWithdrawal.starts, proofs.StartAndWithdrawal.starts-none, proofs.StartAndWithdrawal.starts-neatly, proofs.StartAndWithdrawal.empty-length, proofs.StartAndWithdrawal.some-length}
use Rattle.std.proofs.Common.{◌∙◌, ap}
use Rattle.batch_chart.proofs.starting.start.Goals as goal

pub returns-then-is_empty : goal.returns-then-is_empty
returns-then-is_empty c =
    let none = empty-length _ c.if-is_empty.true c.is_empty.ensures in
    record { started = none-started _ _ none; shown = rw c.clear.ensures (starts-none _ _ _ none c.requires.signs) }

pub returns : goal.returns
returns c =
    let some = some-length _ c.if-is_empty.false c.is_empty.ensures in
    let long = c.finish_all.auto.stages ∙ c.requires.fits in
    record {
      started = starts _ _ _ 0 some long c.requires.signs c.finish_all.ensures;
      shown = rw (c.set.ensures, c.clear.ensures) (starts-neatly _ _ _ _ some long c.requires.signs c.finish_all.ensures (c.of_stage.ensures ∙ ap (λ k. stage_signs k (Ready 0)) (c.needs.ensures ∙ ap needs_of_kind c.kind_of.ensures)));
    }
