-- trusted: the answer to a line, and to an event, as far as it was written: all of it at Ok, and after a write fault a prefix.
use Rattle.std.specs.Prelude.{◌≡◌, ◌++◌, ℕ, List, map, flat_map, Option, Result, Ok, Err}
use Rattle.std.specs.Io.KnownBytes.{Appends}
use Rattle.batch_model.specs.Events as Model
use Rattle.batch_model.specs.Moves.{Move}
use Rattle.batch_model.specs.Plant.{Setup, Plant}
use Rattle.batch_model.specs.Runs.{Out, move}
use Rattle.batch_wire.specs.RecordText.{out_text}
use Rattle.batch_wire.specs.Transcript.{Exchange, Settles, Handles, Answers}
use Rattle.batch_wire.specs.Written.{AppendsBeginning}
use Rattle.batch_wire.specs.declared.fault.WireFault.{WireFault}
use Rattle.batch_wire.specs.declared.fault.WriteFault.{WriteFault}

abbrev pub outs_text : List Out → List ℕ
outs_text outs = flat_map out_text outs

abbrev pub moves_text : List Move → List ℕ
moves_text moves = outs_text (map move moves)

-- moves are made until there is none; a text waits, and theirs is put behind it or written with it
abbrev pub AddsMoves : Setup → Plant → Result (Unit {0}) WriteFault → Plant → Option (List ℕ) → Option (List ℕ) → List ℕ → List ℕ → Type 0
AddsMoves c old (Ok done) new before after waited waits =
    (moves : List Move) × Settles c old moves new × (written : List ℕ) × Appends before after written × (waited ++ moves_text moves ≡ written ++ waits)
AddsMoves c old (Err fault) new before after waited waits =
    (moves : List Move) × (last : Plant) × Settles c old moves last × AppendsBeginning before after (waited ++ moves_text moves)

-- the event is handled, and its outs are written
abbrev pub WritesHandled : Setup → Plant → Model.Event → Result (Unit {0}) WriteFault → Plant → Option (List ℕ) → Option (List ℕ) → Type 0
WritesHandled c old event (Ok done) new before after = (outs : List Out) × Handles c old event outs new × Appends before after (outs_text outs)
WritesHandled c old event (Err fault) new before after =
    (outs : List Out) × (last : Plant) × Handles c old event outs last × AppendsBeginning before after (outs_text outs)

-- a line of this meaning is answered
abbrev pub WritesAnswer : Setup → Plant → Result (Option Model.Event) WireFault → Result (Unit {0}) WriteFault → Plant → Option (List ℕ) → Option (List ℕ) → Type 0
WritesAnswer c old said (Ok done) new before after = (exchange : Exchange) × Answers c old said exchange new × Appends before after exchange.text
WritesAnswer c old said (Err fault) new before after =
    (exchange : Exchange) × (last : Plant) × Answers c old said exchange last × AppendsBeginning before after exchange.text
