use Rattle.std.proofs.Common.{◌∙◌, refl}
use Rattle.std.proofs.lemmas.List.{with_items_is}
use Rattle.batch_chart.proofs.RunningCharts.{stopped-runs}
use Rattle.batch_chart.proofs.running.Running.withdraw_asks.Goals as goal

pub returns : goal.returns
returns c =
    let is = with_items_is c.args.self.now.stages c.withdraw.new.stages (c.withdraw.auto.stages ∙ c.deref_mut.ensures.len) in
    λ t old. stopped-runs c.args.self.now _ _ is (rw c.deref_mut.ensures.value at c.withdraw.ensures.withdrawn) (rw c.deref_mut.ensures.value at c.withdraw.ensures.shown) t refl refl old
