use Rattle.std.proofs.Common.{◌∙◌, refl}
use Rattle.std.proofs.lemmas.List.{with_items_is}
use Rattle.batch_chart.proofs.{RunningCharts.runs-in-order, RunningCharts.is-held, RunningCharts.held-nodes, ChartAfterMove.held-kept, ChartAfterMove.passes-within, ChartProgress.moved-running, ChartProgress.moved-runs}
use Rattle.batch_chart.proofs.running.Running.make_move.Goals as goal

pub move_on-requires : goal.move_on-requires
move_on-requires c =
    let held = held-kept _ _ _ _ c.args.wanted (is-held c.args.chart.now c.args.self.now c.requires.running) (passes-within _ _ _ _ c.requires.possible refl) in
    rw (c.deref.ensures.value, c.deref_mut.ensures.value, c.hold.ensures.items)
    (record { order = runs-in-order c.args.chart.now c.args.self.now c.requires.running; allowed = c.requires.possible; nodes = held-nodes _ _ held.within })

pub returns : goal.returns
returns c = λ t laid old.
    (let h = rw (c.deref.ensures.value, c.deref_mut.ensures.value, c.hold.ensures.items) at c.move_on.ensures in
    let is = with_items_is c.args.self.now.stages c.move_on.new.stages (c.move_on.auto.stages ∙ c.deref_mut.ensures.len) in
    let left = rw (c.deref-2.ensures.value, is, c.hold.ensures.items) at c.forget.ensures.items in
    let capacity = c.forget.ensures.capacity ∙ c.hold.ensures.capacity in (
      moved-running c.args.chart.now t laid c.args.self.now _ _ is c.args.values.now c.args.wanted h c.requires.possible left capacity refl old,
      moved-runs c.args.chart.now t laid c.args.self.now _ _ is c.args.values.now c.args.wanted h c.requires.possible left capacity refl old,
    ))
