-- surface: where a line ends.
use Rattle.std.specs.Prelude.{ℕ, Bool, ◌==◌}

abbrev pub is_feed : ℕ → Bool
is_feed b = b == 10
