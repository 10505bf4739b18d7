-- trusted: the text that was written when a writer failed, of the lines that were read by then.
use Rattle.std.specs.Prelude.{ℕ, List, take, Option}
use Rattle.std.specs.Io.KnownBytes.{Consumes}
use Rattle.batch_model.specs.Plant.{Setup, Plant}
use Rattle.batch_wire.specs.Transcript.{lines_of}
use Rattle.batch_wire.specs.WrittenTranscript.{BeginsTranscript}

-- a prefix of the text of a transcript of the first lines read was written; the reader had the bytes `unread`, and has the bytes
-- `left`
pub record BeginsLinesRead (c : Setup) (old : Plant) (unread left before after : Option (List ℕ)) : Type 0 where
  pub read : List ℕ
  pub consumes : Consumes unread left read
  pub count : ℕ
  pub begins : BeginsTranscript c old (take count (lines_of read)) before after
