-- surface: the messages of the reader of a desk, in order.
use Rattle.std.specs.Prelude.{◌≡◌, ℕ, List, [], ◌∷◌, Option, Some, None, option_map, string_bytes, ⊤}
use Rattle.batch_wire.specs.Transcript.{lines_of}
use Rattle.batch_serve.specs.CleanLines.{clean_lines}
use Rattle.batch_serve.specs.Rounds.{AreMessagesOf}
use Rattle.batch_serve.specs.declared.rounds.ReaderMessage.{ReaderMessage}
use Rattle.batch_serve.specs.declared.rounds.ReaderMessage.TheVariants.{Path}

-- the bytes of the stream of this path, where they are known; if there is no path, there are none
abbrev pub given_by : (List ℕ → Option (List ℕ)) → Option (List ℕ) → Option (List ℕ)
given_by given None = Some []
given_by given (Some path) = given path

-- the lines of an input, as a journal has them
abbrev pub cleaned : Option (List ℕ) → Option (List ℕ)
cleaned input = option_map (λ (bytes : List ℕ). clean_lines (lines_of bytes)) input

-- the lines of an input come behind its path, in order, and the end behind all of them
abbrev pub IsOrdered : (List ℕ → Option (List ℕ)) → List ReaderMessage → Type 0
IsOrdered given (Path path ∷ messages) = AreMessagesOf (cleaned (given_by given (option_map string_bytes path))) messages
IsOrdered given _ = ⊤

-- these came behind the path
abbrev pub CameBehind : Option (List ℕ) → List ReaderMessage → List ReaderMessage → Type 0
CameBehind path (Path from ∷ messages) these = (option_map string_bytes from ≡ path) × (messages ≡ these)
CameBehind path _ these = ⊥

-- the bytes of the input, if they are known
abbrev pub IsGiven : (given input : Option (List ℕ)) → Type 0
IsGiven given input = (bytes : List ℕ) → given ≡ Some bytes → input ≡ Some bytes
