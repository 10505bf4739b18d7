use Rattle.std.proofs.Common.{◌-◌, length}
use Rattle.batch_chart.proofs.most.+most_among.Given as goal

abbrev pub decreases-most_among : goal.decreases-most_among
decreases-most_among l = length l.nodes.now - l.n
