-- Every record is safe after each of its lines.
use Rattle.std.proofs.Common.{arith, ◌≡◌, sym, ◌∙◌, ap, subst, ℕ, List, [], ◌∷◌, ◌++◌, append-nil, append_assoc}
use Rattle.batch_recipe.specs.{Conditions.ValueList, Tree.Phase, Tree.Place}
use Rattle.batch_model.specs.{Plant.Setup, Plant.Plant, Plant.opening, Moves.start, Moves.after_move, Events.Event, Events.Reply, Standing.IsStanding, Runs.Out, Runs.move, Runs.reply, Runs.Leads, Records.StartsIdle, Records.IsSafeNow, Records.IsSafe, Cleared.Ranking}
use Rattle.batch_step_laws.proofs.PlantAlongRecord.{opening-stands, reacts-stands}
use Rattle.batch_record_laws.proofs.{ClearanceDownTrees.AreClearedDown, Invariant.IsKept, PhaseStarts.starts-nothing, InvariantAfterMove.move-step, Reports.reply-step, InvariantAlongRecord.kept-at_first, InvariantAlongRecord.moved-stands, InvariantAlongRecord.placed-trees}
use Rattle.batch_safety.proofs.Safety.{safe-now}

no_line : (before : List Out) (o : Out) → ◌≡◌ {A = List Out} [] (before ++ o ∷ []) → ⊥
no_line [] o e = cc
no_line (p ∷ before) o e = cc

starts-at_first : (d : Setup) → StartsIdle d []
starts-at_first d before n p x vs e = absurd (no_line before (move (start n p x vs)) e)

-- a record leads from a plant so far to a plant, and so does each front of it
same_first : (o p : Out) (xs ys : List Out) → o ∷ xs ≡ p ∷ ys → (o ≡ p) × (xs ≡ ys)
same_first o p xs ys e = (cc, cc)

reply_no_start : (r : Reply) (n : ℕ) (p : Place) (x : Phase) (vs : ValueList) → reply r ≡ move (start n p x vs) → ⊥
reply_no_start r n p x vs e = cc

no_front : (o : Out) (xs : List Out) → ◌≡◌ {A = List Out} (o ∷ xs) [] → ⊥
no_front o xs e = cc

module _ (d : Setup) (rank : Ranking) (cleared : AreClearedDown d rank) where
  safe-along : (told : List Out) (s : Plant) → IsStanding d s → IsKept d rank told s → StartsIdle d told → (es : List Event) (outs : List Out) (t : Plant) → Leads d s es outs t
      → (front more : List Out) → front ++ more ≡ outs → IsSafeNow d (told ++ front)
  safe-along told s sd k st es outs t l [] more e = subst (IsSafeNow d) (sym (append-nil told)) (safe-now d rank told s sd k st)
  safe-along told s sd k st [] [] t l (o ∷ front) more e = absurd (no_front o (front ++ more) e)
  safe-along told s sd k st es (move m ∷ outs) t l (o ∷ front) more e =
      let q = same_first o (move m) (front ++ more) outs e in
      let td = moved-stands d rank cleared s m sd l.0 in
      let step = move-step d rank told s sd k m l.0 td in
      subst (IsSafeNow d) (append_assoc told (move m ∷ []) front ∙ ap (λ z. told ++ z ∷ front) (sym q.0))
      (safe-along (told ++ move m ∷ []) (after_move s m) td step.0 step.1 es outs t l.1 front more q.1)
  safe-along told s sd k st (v ∷ es) (reply r ∷ outs) t l (o ∷ front) more e =
      let q = same_first o (reply r) (front ++ more) outs e in
      subst (IsSafeNow d) (append_assoc told (reply r ∷ []) front ∙ ap (λ z. told ++ z ∷ front) (sym q.0))
      (safe-along (told ++ reply r ∷ []) l.0 (reacts-stands d (placed-trees d rank cleared) s l.0 v r sd l.1) (reply-step d rank cleared told s sd k v r l.0 l.1)
      (starts-nothing d told (reply r) (λ n p x vs f. reply_no_start r n p x vs f)) es outs t l.2 front more q.1)
  safe-along told s sd k st es outs t l front more e = grind arith

pub safe : (d : Setup) (rank : Ranking) → AreClearedDown d rank → (es : List Event) (outs : List Out) (t : Plant) → Leads d opening es outs t → IsSafe d outs
safe d rank cleared es outs t l front more e = safe-along d rank cleared [] opening (opening-stands d) (kept-at_first d rank) (starts-at_first d) es outs t l front more e
