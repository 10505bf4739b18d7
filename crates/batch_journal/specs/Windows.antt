-- surface: the bytes of a window, and the room behind them.
use Rattle.std.specs.Prelude.{ℕ, ◌-◌, List, slice_range}
use Rattle.batch_journal.specs.declared.window.Window.{Window}

abbrev pub items : Window → List ℕ
items w = slice_range w.bytes w.start w.end

abbrev pub room : Window → ℕ
room w = 131072 - w.end
