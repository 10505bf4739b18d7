-- trusted: the bytes, beside letters and digits, that may stand in names and places.
use Rattle.std.specs.Prelude.{ℕ}

abbrev pub dash : ℕ
dash = 45

abbrev pub dot : ℕ
dot = 46

abbrev pub underscore : ℕ
underscore = 95
