-- private: the inputs of desks, as the thread of the machine sees them.
use Rattle.std.specs.Prelude.{◌≡◌, ℕ, ◌<◌, false, List, [], length, get_or, Option, option_map, string_bytes}
use Rattle.std.specs.List.{list_any}
use Rattle.rtrb.specs.Ring.{received}
use Rattle.batch_reader.specs.declared.desk.Desk as plans
use Rattle.batch_serve.specs.Rounds.{AreMessagesOf, is_end}
use Rattle.batch_serve.specs.declared.rounds.Reader.{Reader}
use Rattle.batch_serve.specs.declared.rounds.ReaderMessage.{ReaderMessage}
use Rattle.batch_pipes.specs.InputOrder.{CameBehind, cleaned, given_by}

-- nothing came but the path
pub record IsNewReader {O : Type 0} (path : Option (List ℕ)) (reader : Reader O) : Type 0 where
  pub came : CameBehind path (received reader.ring) []
  pub ended : reader.has_ended ≡ false

-- messages of the input of this path came behind it, and the reader knows of the end
pub record IsInputOf {O : Type 0} (given : List ℕ → Option (List ℕ)) (path : Option (List ℕ)) (reader : Reader O) : Type 0 where
  pub messages : List ReaderMessage
  pub came : CameBehind path (received reader.ring) messages
  pub of : AreMessagesOf (cleaned (given_by given path)) messages
  pub ends : reader.has_ended ≡ list_any is_end messages

-- so it is of each desk
pub record AreInputsOf {O : Type 0} (given : List ℕ → Option (List ℕ)) (listed : List plans.Desk) (readers : List (Reader O)) : Type 0 where
  pub count : length readers ≡ length listed
  pub each : (k : ℕ) (plan : plans.Desk) (reader : Reader O) → k < length listed
      → IsInputOf given (option_map string_bytes (get_or listed k plan).input) (get_or readers k reader)

-- it stays so, whatever the desks are
abbrev pub InputsGoOn : {O : Type 0} → (List ℕ → Option (List ℕ)) → (old new : List (Reader O)) → Type 0
InputsGoOn given old new = (listed : List plans.Desk) → AreInputsOf given listed old → AreInputsOf given listed new
