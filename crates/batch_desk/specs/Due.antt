-- surface: the outs of the record that are due to a port.
use Rattle.std.specs.Prelude.{ℕ, Bool, true, false, cond, eqb, List, [], ◌∷◌, Option, Some, None, take}
use Rattle.batch_engine.specs.declared.event.Event.{Event}
use Rattle.batch_engine.specs.declared.line.Line.{Line}
use Rattle.batch_engine.specs.declared.line.Line.TheVariants.{Send, Start}
use Rattle.batch_engine.specs.declared.out.Out.{Out}
use Rattle.batch_engine.specs.declared.out.Out.TheVariants.{Reply, Move}
use Rattle.batch_desk.specs.declared.scope.Scope.{Scope}
use Rattle.batch_desk.specs.declared.scope.Scope.TheVariants.{All, Unit as OfUnit}

-- whether the move is sent to a port of this scope: every move is, or the starts and sends of one unit are
abbrev pub sees : Scope → Line → Bool
sees All line = true
sees (OfUnit mine) (Send batch recipe node unit phase command) = eqb mine unit
sees (OfUnit mine) (Start batch recipe node unit phase values) = eqb mine unit
sees (OfUnit mine) _ = false

-- the replies to the port's own events and the moves in its scope, in order: the n-th reply of a record answers the n-th event
abbrev pub due : Scope → ℕ → List (ℕ × Event) → List Out → List Out
due scope port history [] = []
due scope port history (Move line ∷ outs) = cond (sees scope line) (Move line ∷ due scope port history outs) (due scope port history outs)
due scope port [] (Reply reply ∷ outs) = due scope port [] outs
due scope port (entry ∷ history) (Reply reply ∷ outs) = cond (eqb entry.0 port) (Reply reply ∷ due scope port history outs) (due scope port history outs)

-- the events of one port, in order
abbrev pub events_of : ℕ → List (ℕ × Event) → List Event
events_of port [] = []
events_of port (entry ∷ history) = cond (eqb entry.0 port) (entry.1 ∷ events_of port history) (events_of port history)

-- the record, as far as it went when the port was closed
abbrev pub up_to : Option ℕ → List Out → List Out
up_to None outs = outs
up_to (Some length) outs = take length outs
