use Rattle.std.proofs.Common.{◌≡◌, ◌≤◌, ◌++◌, length}
use Rattle.std.specs.VecDeque.{deque_len}
use Rattle.rtrb.specs.Ring.{sent, SameProducer}
use Rattle.batch_serve.proofs.desk_queue.put_waiting.Given as goal

-- the lines in the ring and the rest behind them are the lines from before
abbrev pub invariant-loop-ring : goal.invariant-loop-ring
invariant-loop-ring g l =
    SameProducer l.initial.ring l.ring
    × (sent l.ring ++ l.lines.items ≡ sent l.initial.ring ++ l.initial.lines.items)
    × (length l.lines.items ≤ length l.initial.lines.items)

abbrev pub decreases-loop-ring : goal.decreases-loop-ring
decreases-loop-ring g l = deque_len l.lines
