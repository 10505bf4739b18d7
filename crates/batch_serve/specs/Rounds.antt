-- surface: the messages out of the rings of readers, and the lines into the rings of writers.
use Rattle.std.specs.Prelude.{◌≡◌, ℕ, ◌+◌, ◌<◌, ◌≤◌, Bool, true, false, ◌||◌, List, [], ◌∷◌, ◌++◌, length, get_or, flat_map, Option, Some, IfSome, option_to_list, if◌then◌else◌, ⊤}
use Rattle.std.specs.List.{list_any}
use Rattle.rtrb.specs.Ring.{SameConsumer, SameProducer, received, sent}
use Rattle.batch_serve.specs.Replays.{IsWholeLines}
use Rattle.batch_serve.specs.Runs.{AreOfDesks, Run, own_text}
use Rattle.batch_serve.specs.Waits.{IsAccount}
use Rattle.batch_serve.specs.declared.desk.ServedDesk.{ServedDesk}
use Rattle.batch_serve.specs.declared.desk_server.DeskServer.{DeskServer}
use Rattle.batch_serve.specs.declared.rounds.Reader.{Reader}
use Rattle.batch_serve.specs.declared.rounds.Writer.{Writer}
use Rattle.batch_serve.specs.declared.rounds.ReaderMessage.{ReaderMessage}
use Rattle.batch_serve.specs.declared.rounds.ReaderMessage.TheVariants.{Lines, End}

-- Messages

abbrev pub text_of_one : ReaderMessage → List ℕ
text_of_one (Lines text) = text
text_of_one _ = []

-- the text of all lines that were handed over
abbrev pub text_sent : List ReaderMessage → List ℕ
text_sent messages = flat_map text_of_one messages

abbrev pub is_end : ReaderMessage → Bool
is_end End = true
is_end _ = false

-- the text of each message is whole lines
abbrev pub HaveWholeLines : List ReaderMessage → Type 0
HaveWholeLines [] = ⊤
HaveWholeLines (message ∷ messages) = IsWholeLines (text_of_one message) × HaveWholeLines messages

-- whole lines, a prefix of the text of an input; all of it if the end is among them
pub record AreMessagesOf (input : Option (List ℕ)) (messages : List ReaderMessage) : Type 0 where
  pub whole : HaveWholeLines messages
  pub begun : (text : List ℕ) → input ≡ Some text → (rest : List ℕ) × (text ≡ text_sent messages ++ rest) × (list_any is_end messages ≡ true → rest ≡ [])

-- Readers

-- at most one message came out of the desk's ring, which allows it. The desk's own lines grew by the text of the message, unless the desk
-- is cut. The reader knows of the end, and has the end of the same ring
pub record IsGathered {O : Type 0} (allows : List ReaderMessage → ReaderMessage → Type 0) (desk : ℕ) (is_cut : Bool) (before after : Reader O) (old new : List Run) : Type 0 where
  pub ring : SameConsumer before.ring after.ring
  pub message : Option ReaderMessage
  pub came : received after.ring ≡ received before.ring ++ option_to_list message
  pub allowed : IfSome message (allows (received before.ring))
  pub own : own_text desk new ≡ own_text desk old ++ (if is_cut then [] else text_sent (option_to_list message))
  pub ends : after.has_ended ≡ (before.has_ended || list_any is_end (option_to_list message))

-- so it is of each desk
pub record AreGathered {O : Type 0} (allows : List ReaderMessage → ReaderMessage → Type 0) (desks : List ServedDesk) (old new : List (Reader O)) (before after : List Run) : Type 0 where
  pub count : length new ≡ length old
  pub of_desks : AreOfDesks (length desks) before → AreOfDesks (length desks) after
  pub each : (desk : ℕ) (reader : Reader O) (other : ServedDesk) → desk < length old
      → IsGathered allows desk (get_or desks desk other).waiting.is_cut (get_or old desk reader) (get_or new desk reader) before after

-- the text is that of a prefix of the messages that came, and of all of them, unless the desk is cut
pub record IsTextOfMessages (came : List ReaderMessage) (is_cut : Bool) (text : List ℕ) : Type 0 where
  pub taken : List ReaderMessage
  pub dropped : List ReaderMessage
  pub came_is : came ≡ taken ++ dropped
  pub text_is : text ≡ text_sent taken
  pub all : is_cut ≡ false → dropped ≡ []

-- if that is so of the lines of a desk that were served, with those of the group, it stays so when more come
abbrev pub LinesGoOn : (O : Type 0) → (List ReaderMessage → ReaderMessage → Type 0) → Type 0
LinesGoOn O allows =
    (desk : ℕ) (is_cut : Bool) (runs group after : List Run) (old new : Reader O) → IsTextOfMessages (received old.ring) is_cut (own_text desk (runs ++ group))
    → IsGathered allows desk is_cut old new group after → IsTextOfMessages (received new.ring) is_cut (own_text desk (runs ++ after))

-- Writers

-- the writers have the ends of the same rings
abbrev pub AreSameWriters : List Writer → List Writer → Type 0
AreSameWriters old new = (desk : ℕ) (writer : Writer) → desk < length old → SameProducer (get_or old desk writer).ring (get_or new desk writer).ring

-- in any account of the desk, the lines that went into its ring are a prefix of its queue
pub record IsHandedOn (old new : ServedDesk) (before after : Writer) : Type 0 where
  pub ring : SameProducer before.ring after.ring
  pub unit : new.unit ≡ old.unit
  pub cut : new.waiting.is_cut ≡ false → old.waiting.is_cut ≡ false
  pub account : (all : List (List ℕ)) → IsAccount all (sent before.ring) old.waiting → IsAccount all (sent after.ring) new.waiting

-- so it is of each desk
pub record AreHandedOn (old new : List ServedDesk) (before after : List Writer) : Type 0 where
  pub count : length new ≡ length old
  pub writers : length after ≡ length before
  pub each : (desk : ℕ) (other : ServedDesk) (writer : Writer) → desk < length before
      → IsHandedOn (get_or old desk other) (get_or new desk other) (get_or before desk writer) (get_or after desk writer)

-- no more lines are queued for the desk than may be: it is cut if more would be, behind those in its ring, and for nothing else
pub record IsCutIfLate (old new : ServedDesk) (before after : Writer) : Type 0 where
  pub lag : new.waiting.lag ≡ old.waiting.lag
  pub few : length new.waiting.lines ≤ new.waiting.lag
  pub late : new.waiting.is_cut ≡ true → old.waiting.is_cut ≡ false → old.waiting.lag + length (sent after.ring) < length old.waiting.lines + length (sent before.ring)

-- so it is of each desk
abbrev pub AreCutIfLate : (old new : List ServedDesk) (before after : List Writer) → Type 0
AreCutIfLate old new before after =
    (desk : ℕ) (other : ServedDesk) (writer : Writer) → desk < length before
    → IsCutIfLate (get_or old desk other) (get_or new desk other) (get_or before desk writer) (get_or after desk writer)

-- queued lines went on to the writers of the desks, and the server is else as it was
pub record IsHandedOver (old new : DeskServer) (before after : List Writer) : Type 0 where
  pub engine : new.engine ≡ old.engine
  pub names : new.names.items ≡ old.names.items
  pub group : new.group.items ≡ old.group.items
  pub last : new.last ≡ old.last
  pub handed : AreHandedOn old.desks.items new.desks.items before after
