use Rattle.std.proofs.Common.{◌∙◌, ap, refl}
use Rattle.std.proofs.lemmas.List.{with_items_is}
use Rattle.batch_chart.{specs.Meaning.meaning, proofs.RunningCharts.runs-in-order, proofs.RunningCharts.went-on, proofs.ChartProgress.granted-runs}
use Rattle.batch_chart.proofs.running.Running.grant.Goals as goal

pub grant_at-requires : goal.grant_at-requires
grant_at-requires c = rw (c.deref.ensures.value, c.deref_mut.ensures.value) (record { order = runs-in-order c.args.chart.now c.args.self.now c.requires.running; asking = c.requires.waits })

pub returns : goal.returns
returns c = λ t laid old.
    (let changed = rw (c.deref.ensures.value, c.deref_mut.ensures.value) at c.grant_at.ensures.changed in
    let h = changed.means t laid old.alive in
    let up = rw (c.deref.ensures.value, c.deref_mut.ensures.value) at c.grant_at.ensures.kept in
    let is = with_items_is c.args.self.now.stages c.grant_at.new.stages (c.grant_at.auto.stages ∙ c.deref_mut.ensures.len) in
    (went-on c.args.chart.now c.args.self.now _ _ is up t laid old h.0 refl refl, ap (meaning t 0) is ∙ h.1, granted-runs c.args.chart.now t laid c.args.self.now _ _ is refl c.args.node changed old))
