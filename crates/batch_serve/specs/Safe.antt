-- trusted: transcripts from the opening of a cleared set: their outs are a safe record.
use Rattle.std.specs.Prelude.{ℕ, ◌≡◌, List, ◌++◌, Option}
use Rattle.std.specs.Io.KnownBytes.{Appends, Consumes}
use Rattle.batch_model.specs.Cleared.{CanBeCleared}
use Rattle.batch_model.specs.Events.{Event}
use Rattle.batch_model.specs.Lists.{Each}
use Rattle.batch_model.specs.Plant.{Setup, Plant, opening}
use Rattle.batch_model.specs.Records.{IsSafe}
use Rattle.batch_model.specs.Runs.{Out, Leads}
use Rattle.batch_model.specs.Transfers.{KeepsUnits}
use Rattle.batch_safety.specs.Settlement.{WaitsForSomething}
use Rattle.batch_verify.specs.ClearedSet.{ClearedSet}
use Rattle.batch_engine.specs.View.{setup}
use Rattle.batch_wire.specs.Transcript.{whole_lines, Exchange, Transcript}
use Rattle.batch_wire.specs.Written.{AppendsBeginning}
use Rattle.batch_serve.specs.Settled.{IsSettled}

-- the lines may lead from the opening to this exchange and this plant: its outs are the machine's record of its events, and that
-- record is safe
pub record IsSafeTranscript (c : Setup) (lines : List (List ℕ)) (said : Exchange) (new : Plant) : Type 0 where
  pub transcript : Transcript c opening lines said new
  pub leads : Leads c opening said.events said.outs new
  pub safe : IsSafe c said.outs
  -- after each of its lines, each batch of the plant that it has led to keeps the units that are told to be kept for it
  pub kept : (front rest : List Out) (events : List Event) (plant : Plant) → said.outs ≡ front ++ rest → Leads c opening events front plant
      → Each (KeepsUnits front) plant.batches
  -- no move is left to be made
  pub settled : IsSettled c new

-- every transcript from the opening of the cleared set is a safe one
abbrev pub TranscriptsAreSafe : ClearedSet → Type 0
TranscriptsAreSafe set =
    (lines : List (List ℕ)) (said : Exchange) (new : Plant) → Transcript (setup set) opening lines said new → IsSafeTranscript (setup set) lines said new

-- after a transcript from the opening of the cleared set, whoever waits waits for something
abbrev pub TranscriptsLeaveNobodyInVain : ClearedSet → Type 0
TranscriptsLeaveNobodyInVain set =
    (lines : List (List ℕ)) (said : Exchange) (new : Plant) → Transcript (setup set) opening lines said new
    → WaitsForSomething (setup set) new

-- the answers to some lines, told, and those to more lines are together the text of a safe transcript of all these lines
pub record GoesOnSafely (c : Setup) (lines more : List (List ℕ)) (told answers : List ℕ) : Type 0 where
  pub said : Exchange
  pub new : Plant
  pub transcript : IsSafeTranscript c (lines ++ more) said new
  pub text : said.text ≡ told ++ answers

-- over a set that can be cleared a transcript that begins where one from the opening ends goes on safely
abbrev pub TranscriptsGoOnSafely : Type 0
TranscriptsGoOnSafely =
    (set : ClearedSet) (mid new : Plant) (lines more : List (List ℕ)) (said told : Exchange) → CanBeCleared (setup set)
    → Transcript (setup set) opening lines said mid → Transcript (setup set) mid more told new → GoesOnSafely (setup set) lines more said.text told.text

-- the text of a safe transcript of the lines was written
pub record WritesSafely (c : Setup) (lines : List (List ℕ)) (before after : Option (List ℕ)) : Type 0 where
  pub said : Exchange
  pub new : Plant
  pub transcript : IsSafeTranscript c lines said new
  pub appends : Appends before after said.text

-- a prefix of that text was written
pub record BeginsSafely (c : Setup) (lines : List (List ℕ)) (before after : Option (List ℕ)) : Type 0 where
  pub said : Exchange
  pub new : Plant
  pub transcript : IsSafeTranscript c lines said new
  pub begins : AppendsBeginning before after said.text

-- the text of a safe transcript of the whole lines read was written; the reader had the bytes `unread`, and has the bytes `left`
pub record WritesWholeSafely (c : Setup) (unread left before after : Option (List ℕ)) : Type 0 where
  pub read : List ℕ
  pub consumes : Consumes unread left read
  pub writes : WritesSafely c (whole_lines read) before after
