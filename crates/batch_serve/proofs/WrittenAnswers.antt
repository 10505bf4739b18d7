-- An answer to a line, and as much of it as was written.
use Rattle.std.proofs.Common.{◌≡◌, ℕ, List, [], ◌∷◌, ◌++◌, Option, Some, None, Result, Ok, Err, map, refl, sym, ap, ◌∙◌, inl, inr, append-nil, append_assoc}
use Rattle.std.{proofs.lemmas.Bool.false≢true, specs.Io.KnownBytes.Appends, proofs.KnownBytes.Appends-nil, proofs.KnownBytes.Appends-trans}
use Rattle.batch_model.specs.Events as Model
use Rattle.batch_model.specs.{Moves.Move, Plant.Setup, Plant.Plant, Runs.Out, Runs.reply, Runs.move, Runs.Reacts}
use Rattle.batch_wire.{specs.Reading.ReadsAs, specs.RecordText.out_text, specs.Transcript.Exchange, specs.Transcript.silence, specs.Transcript.refusal, specs.Transcript.handled, specs.Transcript.Settles, specs.Transcript.Handles, specs.Transcript.Answers, specs.Written.AppendsBeginning, specs.Written.Writes, specs.declared.fault.WireFault.WireFault, specs.declared.fault.WireFault.TheVariants.UnknownWord, specs.declared.fault.WireFault.TheVariants.MissingArgument, specs.declared.fault.WireFault.TheVariants.ExtraArgument, specs.declared.fault.WireFault.TheVariants.BadArgument, specs.declared.fault.WireFault.TheVariants.TooLong, specs.declared.fault.WireFault.TheVariants.Memory, specs.declared.fault.WriteFault.WriteFault, proofs.WrittenTexts.longer_text, proofs.WrittenTexts.then_beginning, proofs.WrittenTexts.then_last}
use Rattle.batch_serve.{specs.Answering.outs_text, specs.Answering.moves_text, specs.Answering.WritesAnswer, specs.Answering.WritesHandled, specs.Answering.AddsMoves, proofs.Settlement.CanSettle}

pub refused : (c : Setup) (old : Plant) (said : Result (Option Model.Event) WireFault) (fault : WireFault) → ReadsAs (Err fault) said → Answers c old said (refusal fault) old
refused c old said UnknownWord e = rw e (refl, refl)
refused c old said MissingArgument e = rw e (refl, refl)
refused c old said ExtraArgument e = rw e (refl, refl)
refused c old said BadArgument e = rw e (refl, refl)
refused c old said TooLong e = rw e (refl, refl)
refused c old (Ok (Some event)) Memory e = inl (refl, refl)
refused c old (Ok None) Memory e = absurd (false≢true e)
refused c old (Err fault) Memory e = absurd e

-- the refusal of the line was written
pub refused_written : (c : Setup) (old : Plant) (said : Result (Option Model.Event) WireFault) (fault : WireFault) (r : Result (Unit {0}) WriteFault) (x y : Option (List ℕ))
    → ReadsAs (Err fault) said → Writes x y r (refusal fault).text → WritesAnswer c old said r old x y
refused_written c old said fault (Ok u) x y e w = (refusal fault, refused c old said fault e, w)
refused_written c old said fault (Err f) x y e w = (refusal fault, old, refused c old said fault e, w)

-- a line that gives nothing is answered by nothing
pub quiet : (c : Setup) (old : Plant) (said : Result (Option Model.Event) WireFault) (x : Option (List ℕ)) → said ≡ Ok None
    → (exchange : Exchange) × Answers c old said exchange old × Appends x x exchange.text
quiet c old said x e = (silence, rw e (refl, refl), Appends-nil x)

pub event_written : (c : Setup) (old new : Plant) (said : Result (Option Model.Event) WireFault) (event : Model.Event) (r : Result (Unit {0}) WriteFault) (x y : Option (List ℕ))
    → said ≡ Ok (Some event) → WritesHandled c old event r new x y → WritesAnswer c old said r new x y
event_written c old new said event (Ok u) x y e (outs, h, p) = (handled event outs, rw e (inr (outs, h, refl)), p)
event_written c old new said event (Err f) x y e (outs, last, h, p) = (handled event outs, last, rw e (inr (outs, h, refl)), p)

handles : (c : Setup) (old mid new : Plant) (event : Model.Event) (answer : Model.Reply) (moves : List Move)
    → Reacts c old event answer mid → Settles c mid moves new → Handles c old event (reply answer ∷ map move moves) new
handles c old mid new event answer moves r s = record { answer = answer; mid = mid; moves = moves; reacts = r; settles = s; tells = refl }

-- a fault came at the reply
pub reply_part : (c : Setup) (old mid : Plant) (event : Model.Event) (answer : Model.Reply) (x y : Option (List ℕ)) → CanSettle c mid
    → Reacts c old event answer mid → AppendsBeginning x y (out_text (reply answer))
    → (outs : List Out) × (last : Plant) × Handles c old event outs last × AppendsBeginning x y (outs_text outs)
reply_part c old mid event answer x y later r p =
    (reply answer ∷ map move later.moves, later.new, handles c old mid later.new event answer later.moves r later.settles, longer_text x y _ _ p)

-- the reply was added, and a fault came at a move
pub moves_part : (c : Setup) (old mid new : Plant) (event : Model.Event) (answer : Model.Reply) (f : WriteFault) (x y z : Option (List ℕ)) (written waits rest : List ℕ)
    → Reacts c old event answer mid → Appends x y written → out_text (reply answer) ≡ written ++ waits → AddsMoves c mid (Err f) new y z waits rest
    → WritesHandled c old event (Err f) new x z
moves_part c old mid new event answer f x y z written waits rest h p e (moves, last, s, w) =
    let text : out_text (reply answer) ++ moves_text moves ≡ written ++ ((waits ++ moves_text moves) ++ []) =
    ap (λ t. t ++ moves_text moves) e ∙ append_assoc written waits (moves_text moves) ∙ ap (λ t. written ++ t) (sym (append-nil (waits ++ moves_text moves))) in (
      reply answer ∷ map move moves,
      last,
      handles c old mid last event answer moves h s,
      rw text (then_beginning x y z written (waits ++ moves_text moves) [] p w),
    )

-- the reply and the moves were added, and what waited of them was written
pub moves_written : (c : Setup) (old mid new : Plant) (event : Model.Event) (answer : Model.Reply) (r : Result (Unit {0}) WriteFault) (x y z w : Option (List ℕ))
    (written more waits rest : List ℕ) (moves : List Move) → Reacts c old event answer mid → Appends x y written → out_text (reply answer) ≡ written ++ waits
    → Settles c mid moves new → Appends y z more → waits ++ moves_text moves ≡ more ++ rest → Writes z w r rest → WritesHandled c old event r new x w
moves_written c old mid new event answer r x y z w written more waits rest moves h p e s q f last =
    go r (then_last x z w r (written ++ more) rest (Appends-trans x y z written more p q) last)
  where
    text : outs_text (reply answer ∷ map move moves) ≡ (written ++ more) ++ rest
    text = ap (λ t. t ++ moves_text moves) e ∙ append_assoc written waits (moves_text moves) ∙ ap (λ t. written ++ t) f ∙ sym (append_assoc written more rest)

    go : (r : Result (Unit {0}) WriteFault) → Writes x w r ((written ++ more) ++ rest) → WritesHandled c old event r new x w
    go (Ok u) h2 = (reply answer ∷ map move moves, handles c old mid new event answer moves h s, rw text h2)
    go (Err g) h2 = (reply answer ∷ map move moves, new, handles c old mid new event answer moves h s, rw text h2)
