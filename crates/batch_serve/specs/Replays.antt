-- trusted: transcripts in which there was memory for each event: that they agree, that want of memory shows in the text, and that
-- a replay writes the written text again.
use Rattle.std.specs.Prelude.{◌≡◌, ◌⊎◌, ℕ, List, [], ◌∷◌, ◌++◌, Option, Some, None, Result, Ok, Err, codes}
use Rattle.batch_model.specs.Events.{Event}
use Rattle.batch_model.specs.Plant.{Setup, Plant}
use Rattle.batch_model.specs.Runs.{Out}
use Rattle.batch_record_laws.specs.Replays.{Takes}
use Rattle.batch_wire.specs.EventLine.{event_of_line}
use Rattle.batch_wire.specs.Transcript.{Exchange, silence, refusal, handled, followed_by, Transcript}
use Rattle.batch_wire.specs.declared.fault.WireFault.{WireFault}

-- the words of a line lead to this exchange, if there is memory
abbrev pub AnswersWell : Setup → Plant → Result (Option Event) WireFault → Exchange → Plant → Type 0
AnswersWell c old (Ok None) said new = (said ≡ silence) × (new ≡ old)
AnswersWell c old (Err fault) said new = (said ≡ refusal fault) × (new ≡ old)
AnswersWell c old (Ok (Some event)) said new = (outs : List Out) × Takes c old event outs new × (said ≡ handled event outs)

-- these lines lead from old to this exchange, with memory for each, and the machine goes on to new
abbrev pub WellServed : Setup → Plant → List (List ℕ) → Exchange → Plant → Type 0
WellServed c old [] said new = (said ≡ silence) × (new ≡ old)
WellServed c old (line ∷ lines) said new =
    (first others : Exchange) × (mid : Plant) × AnswersWell c old (event_of_line line) first mid × WellServed c mid lines others new
    × (said ≡ followed_by first others)

-- the same lines lead to the same exchange and the same plant
abbrev pub ServingAgrees : Type 0
ServingAgrees =
    (c : Setup) (old one other : Plant) (lines : List (List ℕ)) (said told : Exchange)
    → WellServed c old lines said one → WellServed c old lines told other → (said ≡ told) × (one ≡ other)

-- the text contains these bytes
pub record ContainsBytes (needle text : List ℕ) : Type 0 where
  pub front : List ℕ
  pub rest : List ℕ
  pub splits : text ≡ front ++ (needle ++ rest)

-- neither an event nor a line was refused for want of memory, as the text shows
pub record ShowsNoWant (text : List ℕ) : Type 0 where
  pub no_event : ContainsBytes (codes "refused E11\n") text → ⊥
  pub no_line : ContainsBytes (codes "refused W6\n") text → ⊥

-- a transcript whose text shows no want of memory had memory for each of its lines
abbrev pub NoWantIsWell : Type 0
NoWantIsWell =
    (c : Setup) (old new : Plant) (lines : List (List ℕ)) (said : Exchange) → Transcript c old lines said new → ShowsNoWant said.text → WellServed c old lines said new

-- one text is a prefix of the other
pub record BeginsText (front text : List ℕ) : Type 0 where
  pub rest : List ℕ
  pub splits : text ≡ front ++ rest

-- Lines were served in one life and others in the next, and a prefix of the text of the others was written. The text of a replay of
-- all of them, and of any lines after them, begins with the same text. Memory was wanted in none of the three.
abbrev pub ToldIsRecovered : Type 0
ToldIsRecovered =
    (c : Setup) (old mid new last : Plant) (before lines more : List (List ℕ)) (said then_said whole : Exchange) (told rest : List ℕ)
    → Transcript c old before said mid → ShowsNoWant said.text
    → Transcript c mid lines then_said new → ShowsNoWant then_said.text → then_said.text ≡ told ++ rest
    → Transcript c old (before ++ (lines ++ more)) whole last → ShowsNoWant whole.text
    → BeginsText (said.text ++ told) whole.text

-- whole lines: the text is empty or ends with a line feed
abbrev pub IsWholeLines : List ℕ → Type 0
IsWholeLines text = (text ≡ []) ⊎ ((front : List ℕ) × (text ≡ front ++ 10 ∷ []))

-- The same, but the written prefix of the other lines' text is whole lines that show no want of memory: it may have been wanted
-- after them.
abbrev pub WantIsNotTold : Type 0
WantIsNotTold =
    (c : Setup) (old mid new last : Plant) (before lines more : List (List ℕ)) (said then_said whole : Exchange) (told rest : List ℕ)
    → Transcript c old before said mid → ShowsNoWant said.text
    → Transcript c mid lines then_said new → then_said.text ≡ told ++ rest → IsWholeLines told → ShowsNoWant told
    → Transcript c old (before ++ (lines ++ more)) whole last → ShowsNoWant whole.text
    → BeginsText (said.text ++ told) whole.text

-- the text of a transcript is whole lines
abbrev pub TranscriptsAreWhole : Type 0
TranscriptsAreWhole = (c : Setup) (old new : Plant) (lines : List (List ℕ)) (said : Exchange) → Transcript c old lines said new → IsWholeLines said.text
