-- private: how far an audit has come, and which refusals for want of memory a record may have.
use Rattle.std.specs.Prelude.{◌≡◌, ◌⊎◌, ℕ, List, ◌++◌, Option, Some, None, Result, Ok, codes, take, ⊤}
use Rattle.batch_model.specs.Events.{Event, refused, no_memory}
use Rattle.batch_model.specs.Plant.{Setup, Plant, opening}
use Rattle.batch_model.specs.Runs.{Reacts}
use Rattle.batch_verify.specs.ClearedSet.{ClearedSet}
use Rattle.batch_engine.specs.View.{setup}
use Rattle.batch_wire.specs.Transcript.{Exchange, Transcript}
use Rattle.batch_wire.specs.declared.fault.WireFault.{WireFault}
use Rattle.batch_serve.specs.Replays.{BeginsText}
use Rattle.batch_serve.specs.Safe.{TranscriptsAreSafe}
use Rattle.batch_keep.specs.Audits.{Finds, told_text}
use Rattle.batch_keep.specs.Comparing.{IsNextLine, TakesLines}
use Rattle.batch_keep.specs.declared.finding.Finding.{Finding}
use Rattle.batch_keep.specs.declared.wants.Want.{Want}
use Rattle.batch_keep.specs.declared.wants.Want.TheVariants.{Batch, Line}

-- Refusals for want of memory

-- the line of a record that says so
abbrev pub want_line : Want → List ℕ
want_line Line = codes "refused W6"
want_line Batch = codes "refused E11"

-- memory may be wanted for that when the event comes
abbrev pub MightWant : Setup → Plant → Event → Want → Type 0
MightWant c plant event Line = ⊤
MightWant c plant event Batch = Reacts c plant event (refused no_memory) plant

-- the machine may refuse the event of a line with this line, for want of memory, and then the plant stays as it is
abbrev pub IsFree : Setup → Plant → Result (Option Event) WireFault → List ℕ → Type 0
IsFree c plant (Ok (Some event)) line =
    (line ≡ codes "refused W6") ⊎ ((line ≡ codes "refused E11") × Reacts c plant event (refused no_memory) plant)
IsFree c plant _ line = ⊥

-- the next line of the record is no refusal that the machine may give
abbrev pub IsNotFree : Setup → Plant → Result (Option Event) WireFault → List ℕ → Option ℕ → Type 0
IsNotFree c plant says rest None = IsNextLine rest None
IsNotFree c plant says rest (Some at) = IsNextLine rest (Some at) × (IsFree c plant says (take at rest) → ⊥)

-- the next line is one that ends there, or it is none
abbrev pub IsPassedOver : Setup → Plant → Result (Option Event) WireFault → List ℕ → Option ℕ → Type 0
IsPassedOver c plant says rest (Some at) = IsNextLine rest (Some at) × IsFree c plant says (take at rest)
IsPassedOver c plant says rest None = (next : Option ℕ) × IsNotFree c plant says rest next

-- Progress

-- a transcript of all lines that begins with the text reaches the plant, from which it answers the lines that are left
pub record GoesOn (c : Setup) (plant : Plant) (left : List (List ℕ)) (text whole : List ℕ) (last : Plant) : Type 0 where
  pub others : Exchange
  pub transcript : Transcript c plant left others last
  pub tells : whole ≡ text ++ others.text

pub record Reaches (c : Setup) (all left : List (List ℕ)) (plant : Plant) (text : List ℕ) : Type 0 where
  -- the text, followed by any transcript of the lines that are left, is that of a transcript of all lines
  pub onward : (others : Exchange) (last : Plant) → Transcript c plant left others last
      → (whole : Exchange) × Transcript c opening all whole last × (whole.text ≡ text ++ others.text)
  -- and nothing else follows it in a transcript of all lines
  pub only : (whole : Exchange) (last : Plant) → Transcript c opening all whole last → BeginsText text whole.text → GoesOn c plant left text whole.text last

-- the lines that were taken of the record are answers that the machine may give on the way to the plant
pub record IsAudited (set : ClearedSet) (all left : List (List ℕ)) (plant : Plant) (text : List ℕ) (count : ℕ) (rest : List ℕ) : Type 0 where
  pub lines : List (List ℕ)
  pub takes : TakesLines 0 text lines count rest
  pub reaches : Reaches (setup set) all left plant (told_text lines)
  pub safe : TranscriptsAreSafe set

-- the outcome of the answer to a line: the audit has come so much further, or the finding on the record
abbrev pub IsAnswered : ClearedSet → List (List ℕ) → List (List ℕ) → Plant → List ℕ → ℕ → List ℕ → Option Finding → Type 0
IsAnswered set all left plant text count rest None = IsAudited set all left plant text count rest
IsAnswered set all left plant text count rest (Some finding) = Finds set all text finding
