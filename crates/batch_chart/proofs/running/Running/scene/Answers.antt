use Rattle.batch_chart.proofs.RunningCharts.{runs-in-order}
use Rattle.batch_chart.proofs.running.Running.scene.Goals as goal

pub returns-clause-scene : goal.returns-clause-scene
returns-clause-scene c = rw (c.deref.ensures.value, c.deref-2.ensures.value) (runs-in-order c.args.chart.now c.args.self.now c.requires)
