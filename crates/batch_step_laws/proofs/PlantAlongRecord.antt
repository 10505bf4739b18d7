-- Every plant to which a record leads stands.
use Rattle.std.proofs.Common.{arith, sym, subst, List, [], ◌∷◌, inl, inr}
use Rattle.batch_model.specs.{Plant.Setup, Plant.Plant, Plant.opening, Moves.after_move, Events.Event, Events.Reply, Runs.Out, Runs.reply, Runs.move, Runs.Reacts, Runs.Leads, Standing.HasPlacedTrees, Standing.IsStanding}
use Rattle.batch_step_laws.proofs.{WorkAfterMove.next-possible, PlantAfterMove.possible-stands, PlantAfterEvent.react-stands}

pub opening-stands : (c : Setup) → IsStanding c opening
opening-stands c = record { batches = tt; numbers = tt }

pub reacts-stands : (c : Setup) → HasPlacedTrees c → (s t : Plant) (e : Event) (r : Reply) → IsStanding c s → Reacts c s e r t → IsStanding c t
reacts-stands c placed s t e r k (inl h) = subst (λ a. IsStanding c a.1) h (react-stands c placed s k e)
reacts-stands c placed s t e r k (inr h) = subst (IsStanding c) (sym h.2) k

pub leads-stands : (c : Setup) → HasPlacedTrees c → (s t : Plant) (es : List Event) (outs : List Out) → IsStanding c s → Leads c s es outs t → IsStanding c t
leads-stands c placed s t [] [] k h = subst (IsStanding c) h k
leads-stands c placed s t es (move m ∷ outs) k h =
    leads-stands c placed (after_move s m) t es outs (possible-stands c s m placed k (next-possible c s m h.0)) h.1
leads-stands c placed s t (e ∷ es) (reply r ∷ outs) k h = leads-stands c placed h.0 t es outs (reacts-stands c placed s h.0 e r k h.1) h.2
leads-stands c placed s t es outs k h = grind arith

pub led-stands : (c : Setup) → HasPlacedTrees c → (es : List Event) (outs : List Out) (s : Plant) → Leads c opening es outs s → IsStanding c s
led-stands c placed es outs s h = leads-stands c placed opening s es outs (opening-stands c) h
