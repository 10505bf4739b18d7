-- private: the outcome of one read of an input.
use Rattle.std.specs.Prelude.{ℕ, List, [], Option}
use Rattle.std.specs.Io.KnownBytes.{Consumes, IsAtEnd, Keeps}
use Rattle.batch_serve.specs.Replays.{IsWholeLines}
use Rattle.batch_serve.specs.declared.reading.Got.{Got}
use Rattle.batch_serve.specs.declared.reading.Got.TheVariants.{Lines, Nothing, End, Fault}

abbrev pub HasGot : Got → Option (List ℕ) → Option (List ℕ) → Type 0
HasGot (Lines text) old new = Consumes old new text × IsWholeLines text
HasGot Nothing old new = Keeps old new
HasGot End old new = Consumes old new [] × IsAtEnd new
HasGot Fault old new = (text : List ℕ) × Consumes old new text
