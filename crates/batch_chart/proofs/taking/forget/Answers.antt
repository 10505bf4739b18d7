use Rattle.std.{specs.Prelude.not, proofs.lemmas.Fn.filter_same}
use Rattle.batch_chart.specs.{Early.is_ready, Stages.stage_at, declared.passed.Passed.Passed}
use Rattle.std.proofs.Common.{rules}
use Rattle.batch_chart.proofs.taking.forget.Goals as goal

pub returns-clause-items : goal.returns-clause-items
returns-clause-items c = filter_same _ (λ (p : Passed). not (is_ready (stage_at c.args.stages.now p.to))) _ (λ x b q called. (search rules, search rules)) _ _ c.retain.ensures.filtered
