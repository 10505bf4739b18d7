-- A remark before an answer, and as much of the answer as was written behind it.
use Rattle.std.proofs.Common.{◌≡◌, ℕ, List, [], Option, Some, Result, Ok, Err, refl, inl}
use Rattle.std.{proofs.KnownBytes.Appends-trans, specs.Io.KnownBytes.Keeps}
use Rattle.batch_model.specs.Events as Model
use Rattle.batch_model.specs.Plant.{Setup, Plant}
use Rattle.batch_wire.specs.{Reading.ReadsAs, Transcript.Exchange, Transcript.refusal, Transcript.Answers, Written.AppendsBeginning, declared.fault.WireFault.WireFault, declared.fault.WireFault.TheVariants.Memory, declared.fault.WriteFault.WriteFault}
use Rattle.batch_serve.{specs.Answering.WritesAnswer, proofs.WrittenAnswers.refused, proofs.TextsWithComments.kept_nil}

-- the answer is written behind a remark
pub kept_answer : (c : Setup) (old new : Plant) (said : Result (Option Model.Event) WireFault) (r : Result (Unit {0}) WriteFault) (x y z : Option (List ℕ))
    → Keeps x y → WritesAnswer c old said r new y z → WritesAnswer c old said r new x z
kept_answer c old new said (Ok u) x y z keeps (exchange, answers, p) = (exchange, answers, Appends-trans x y z [] exchange.text (kept_nil x y keeps) p)
kept_answer c old new said (Err f) x y z keeps (exchange, last, answers, p) = (
  exchange,
  last,
  answers,
  record { written = p.written; rest = p.rest; splits = p.splits; appends = Appends-trans x y z [] p.written (kept_nil x y keeps) p.appends },
)

nothing_begun : (x y : Option (List ℕ)) (text : List ℕ) → Keeps x y → AppendsBeginning x y text
nothing_begun x y text keeps = record { written = []; rest = text; splits = refl; appends = kept_nil x y keeps }

-- the remark failed: nothing of an answer was written
pub event_unanswered : (c : Setup) (old : Plant) (said : Result (Option Model.Event) WireFault) (event : Model.Event) (x y : Option (List ℕ)) → said ≡ Ok (Some event) → Keeps x y
    → (exchange : Exchange) × (last : Plant) × Answers c old said exchange last × AppendsBeginning x y exchange.text
event_unanswered c old said event x y is keeps = (refusal Memory, old, rw is (inl (refl, refl)), nothing_begun x y (refusal Memory).text keeps)

pub line_unanswered : (c : Setup) (old : Plant) (said : Result (Option Model.Event) WireFault) (fault : WireFault) (x y : Option (List ℕ)) → ReadsAs (Err fault) said → Keeps x y
    → (exchange : Exchange) × (last : Plant) × Answers c old said exchange last × AppendsBeginning x y exchange.text
line_unanswered c old said fault x y reads keeps = (refusal fault, old, refused c old said fault reads, nothing_begun x y (refusal fault).text keeps)
