-- private: the parts of desks and readers that looking after desks leaves as they were.
use Rattle.std.specs.Prelude.{◌≡◌, ℕ, ◌<◌, true, false, List, [], length, get_or}
use Rattle.rtrb.specs.Ring.{received}
use Rattle.batch_serve.specs.Waits.{IsAccount}
use Rattle.batch_serve.specs.declared.desk.ServedDesk.{ServedDesk}
use Rattle.batch_serve.specs.declared.rounds.Reader.{Reader}
use Rattle.batch_pipes.specs.declared.ports.Ports.{Ports}

-- the desk is as it was, or cut now
pub record IsDeskKept (old new : ServedDesk) : Type 0 where
  pub unit : new.unit ≡ old.unit
  pub cut : new.waiting.is_cut ≡ false → old.waiting.is_cut ≡ false
  pub waits : new.waiting.is_cut ≡ false → new.waiting.lines ≡ old.waiting.lines
  pub account : (all told : List (List ℕ)) → IsAccount all told old.waiting → IsAccount all told new.waiting

-- the desks are the same, whatever lines were queued for them or sent
pub record AreSameDesks (old new : List ServedDesk) : Type 0 where
  pub count : length new ≡ length old
  pub units : (k : ℕ) (desk : ServedDesk) → k < length old → (get_or new k desk).unit ≡ (get_or old k desk).unit

-- nothing was taken from the reader
pub record IsReaderKept {O : Type 0} (old new : Reader O) : Type 0 where
  pub ring : received new.ring ≡ received old.ring
  pub ended : new.has_ended ≡ old.has_ended

-- so it is of each
pub record AreReadersKept {O : Type 0} (old new : List (Reader O)) : Type 0 where
  pub count : length new ≡ length old
  pub each : (k : ℕ) (reader : Reader O) → k < length old → IsReaderKept (get_or old k reader) (get_or new k reader)

-- unless the desk is cut, the end of its lines came, and none are queued for it
abbrev pub IsDone : {O : Type 0} → ServedDesk → Reader O → Type 0
IsDone desk reader = desk.waiting.is_cut ≡ false → (reader.has_ended ≡ true) × (desk.waiting.lines ≡ [])

abbrev pub AreDone : {O : Type 0} → List ServedDesk → List (Reader O) → Type 0
AreDone {O} desks readers = (k : ℕ) (desk : ServedDesk) (reader : Reader O) → k < length desks → IsDone (get_or desks k desk) (get_or readers k reader)

-- each desk has its rings and its threads
pub record ArePortsOf {P : Type 0} (desks : List ServedDesk) (ports : Ports P) : Type 0 where
  pub readers : length ports.readers.items ≡ length desks
  pub writers : length ports.writers.items ≡ length desks
  pub threads : length ports.threads.items ≡ length desks
