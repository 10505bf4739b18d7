-- Along a whole record, each unit that is told to be kept is kept.
use Rattle.std.proofs.Common.{arith, refl, sym, subst, subst₂, List, [], ◌∷◌, ◌++◌, append-nil, append_assoc, ⊎_elim}
use Rattle.batch_recipe.specs.Tree.{Place}
use Rattle.batch_model.{specs.Cleared.Ranking, specs.Events.Event, specs.Lists.Has, specs.Lists.Each, specs.Plant.Setup, specs.Plant.Batch, specs.Plant.Plant, specs.Plant.acts_in, specs.Plant.opening, specs.Records.holders_told, specs.Runs.Out, specs.Runs.move, specs.Runs.reply, specs.Runs.Leads, specs.Standing.IsStanding, specs.Transfers.Kept, specs.Transfers.passed_told, specs.Transfers.reserved_told, specs.Transfers.KeepsUnits, proofs.Members.Each-map, specs.Moves.after_move}
use Rattle.batch_step_laws.proofs.PlantAlongRecord.{opening-stands, reacts-stands}
use Rattle.batch_record_laws.proofs.{InvariantAlongRecord.kept-at_first, InvariantAlongRecord.moved-stands, InvariantAlongRecord.placed-trees, ClearanceDownTrees.AreClearedDown, Invariant.IsKept, Members.Has-Each, InvariantAfterMove.move-step, Reports.reply-step}
use Rattle.batch_safety.proofs.{UnitsAfterReply.reply-keeps_all, UnitsAfterMove.IsHeldFor, UnitsAfterMove.IsStillKept, UnitsAfterMove.KeepsIn, UnitsAfterMove.KeepsAll, UnitsAfterMove.move-keeps_all}

keeps-at_first : KeepsAll [] opening
keeps-at_first = record { each = λ b h. absurd h; fresh = λ n le. (refl, λ c. refl) }

module _ (d : Setup) (rank : Ranking) (cleared : AreClearedDown d rank) where
  keeps-along : (told : List Out) (s : Plant) → IsStanding d s → IsKept d rank told s → KeepsAll told s → (es : List Event) (outs : List Out) (t : Plant) → Leads d s es outs t → KeepsAll (told ++ outs) t
  keeps-along told s sd k all [] [] t l = subst₂ KeepsAll (sym (append-nil told)) l all
  keeps-along told s sd k all es (move m ∷ outs) t l =
      let td = moved-stands d rank cleared s m sd l.0 in
      subst (λ z. KeepsAll z t) (append_assoc told (move m ∷ []) outs)
      (keeps-along (told ++ move m ∷ []) (after_move s m) td (move-step d rank told s sd k m l.0 td).0 (move-keeps_all d rank told s sd k all m l.0) es outs t l.1)
  keeps-along told s sd k all (v ∷ es) (reply r ∷ outs) t l =
      subst (λ z. KeepsAll z t) (append_assoc told (reply r ∷ []) outs)
      (keeps-along (told ++ reply r ∷ []) l.0 (reacts-stands d (placed-trees d rank cleared) s l.0 v r sd l.1) (reply-step d rank cleared told s sd k v r l.0 l.1)
      (reply-keeps_all d rank told s sd k all v r l.0 l.1) es outs t l.2)
  keeps-along told s sd k all es outs t l = absurd (grind arith)

  keeps-units : (outs : List Out) (b : Batch) → KeepsIn outs b → KeepsUnits outs b
  keeps-units outs b h = record {
    passed =
        Each-map (IsHeldFor outs b.number b.recipe.procedure b.rest) (λ (kept : Kept). Has (acts_in (holders_told outs kept.unit)) (b.number, kept.place)) (λ kept w. w.held)
        (passed_told b.number outs) h.passed;
    reserved =
        Each-map (IsStillKept outs b.number b.recipe.procedure b.rest) (λ (kept : Kept). (place : Place) × Has (acts_in (holders_told outs kept.unit)) (b.number, place))
        (λ kept. ⊎_elim (λ w. (kept.place, w.held)) (λ w. (w.step.place, w.held))) (reserved_told b.number b.recipe.procedure outs) h.reserved;
  }

  pub units-kept : (es : List Event) (outs : List Out) (t : Plant) → Leads d opening es outs t → Each (KeepsUnits outs) t.batches
  units-kept es outs t l =
      let all = keeps-along [] opening (opening-stands d) (kept-at_first d rank) keeps-at_first es outs t l in
      Has-Each (KeepsUnits outs) t.batches (λ b h. keeps-units outs b (all.each b h))
