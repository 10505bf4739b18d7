-- The invariant holds along a whole record.
use Rattle.std.proofs.Common.{arith, Some, ◌≡◌, refl, sym, subst, subst₂, zero-le, List, [], ◌∷◌, ◌++◌, append-nil, append_assoc}
use Rattle.batch_model.specs.{Plant.Setup, Plant.Plant, Plant.opening, Moves.Move, Moves.next, Moves.after_move, Events.Event, Standing.HasPlacedTrees, Standing.IsStanding, Runs.Out, Runs.move, Runs.reply, Runs.Leads, Cleared.Ranking}
use Rattle.batch_step_laws.proofs.{WorkAfterMove.next-possible, PlantAfterMove.possible-stands, PlantAlongRecord.reacts-stands}
use Rattle.batch_record_laws.proofs.{ClearanceDownTrees.AreClearedDown, Invariant.IsKept, InvariantAfterMove.move-step, Reports.reply-step}

pub kept-at_first : (d : Setup) (rank : Ranking) → IsKept d rank [] opening
kept-at_first d rank =
    record {
      sound = λ b h. absurd h;
      held = λ q. (λ amount. refl, λ a h. h, λ a h. h, tt);
      within = λ q. zero-le;
      lines = λ q. refl;
      once = λ q. tt;
      asked = λ q a h. absurd h;
      active = λ x h. absurd h;
      listed = λ q a h. absurd h;
      shown = λ a x h. absurd h;
      states = λ b h. absurd h;
    }

pub placed-trees : (d : Setup) (rank : Ranking) → AreClearedDown d rank → HasPlacedTrees d
placed-trees d rank cleared r k = (cleared.recipes r k).placed

pub moved-stands : (d : Setup) (rank : Ranking) → AreClearedDown d rank → (s : Plant) (m : Move) → IsStanding d s → next d s ≡ Some m → IsStanding d (after_move s m)
moved-stands d rank cleared s m sd e = possible-stands d s m (placed-trees d rank cleared) sd (next-possible d s m e)

-- the invariant is kept along the whole record
pub kept-along : (d : Setup) (rank : Ranking) → AreClearedDown d rank → (told : List Out) (s : Plant) → IsStanding d s → IsKept d rank told s → (es : List Event) (outs : List Out) (t : Plant) → Leads d s es outs t
    → IsKept d rank (told ++ outs) t
kept-along d rank cleared told s sd k [] [] t l = subst₂ (λ y z. IsKept d rank y z) (sym (append-nil told)) l k
kept-along d rank cleared told s sd k es (move m ∷ outs) t l =
    subst (λ z. IsKept d rank z t) (append_assoc told (move m ∷ []) outs)
    (let td = moved-stands d rank cleared s m sd l.0 in kept-along d rank cleared (told ++ move m ∷ []) (after_move s m) td (move-step d rank told s sd k m l.0 td).0 es outs t l.1)
kept-along d rank cleared told s sd k (v ∷ es) (reply r ∷ outs) t l =
    subst (λ z. IsKept d rank z t) (append_assoc told (reply r ∷ []) outs)
    (kept-along d rank cleared (told ++ reply r ∷ []) l.0 (reacts-stands d (placed-trees d rank cleared) s l.0 v r sd l.1) (reply-step d rank cleared told s sd k v r l.0 l.1) es outs t l.2)
kept-along d rank cleared told s sd k es outs t l = grind arith
