-- A settling ends, and so the record of a run leads to a plant at rest.
use Rattle.std.proofs.Common.{◌≡◌, refl, sym, subst, ℕ, zero, suc, ◌≤◌, arith, List, [], ◌∷◌, ◌++◌, Some, None, inl}
use Rattle.std.specs.Prelude.{Option, map}
use Rattle.batch_model.specs.{Plant.Setup, Plant.Plant, Plant.opening, Moves.Move, Moves.next, Moves.after_move, Events.Event, Events.react, Runs.Out, Runs.move, Runs.Leads, Runs.work_left, Runs.settling, Runs.run_from, Runs.run, Standing.HasPlacedTrees, Standing.IsStanding}
use Rattle.batch_step_laws.{specs.Laws.LeadsToRest, proofs.WorkAfterMove.possible-falls, proofs.WorkAfterMove.next-possible, proofs.PlantAfterMove.possible-stands, proofs.PlantAfterEvent.react-stands, proofs.PlantAlongRecord.opening-stands, proofs.PlantAlongRecord.leads-stands}

-- no move is possible after as many moves as the work left
pub settling-ends : (c : Setup) → HasPlacedTrees c → (n : ℕ) (s : Plant) → IsStanding c s → work_left s ≤ n → next c (settling n c s).1 ≡ None
settling-ends c placed zero s k l = go (next c s) refl
  where
    go : (o : Option Move) → next c s ≡ o → o ≡ None
    go None e = refl
    go (Some m) e = absurd (omega (arith, l, possible-falls c s m placed k (next-possible c s m e)))
settling-ends c placed (suc n) s k l = go (next c s) refl (λ t h i. settling-ends c placed n t h i)
  where
    go : (o : Option Move) → next c s ≡ o → ((t : Plant) → IsStanding c t → work_left t ≤ n → next c (settling n c t).1 ≡ None)
        → next c (let r : List Move × Plant = elim o [ None ↦ ([], s) | Some m ↦ (m ∷ (settling n c (after_move s m)).0, (settling n c (after_move s m)).1) ] in r.1) ≡ None
    go None e more = e
    go (Some m) e more =
        let h = next-possible c s m e in
        more (after_move s m) (possible-stands c s m placed k h) (omega (arith, l, possible-falls c s m placed k h))

-- its moves are those that the plant makes
pub settling-leads : (c : Setup) (n : ℕ) (s : Plant) → Leads c s [] (map move (settling n c s).0) (settling n c s).1
settling-leads c zero s = refl
settling-leads c (suc n) s = go (next c s) refl (λ t. settling-leads c n t)
  where
    go : (o : Option Move) → next c s ≡ o → ((t : Plant) → Leads c t [] (map move (settling n c t).0) (settling n c t).1)
        → (let r : List Move × Plant = elim o [ None ↦ ([], s) | Some m ↦ (m ∷ (settling n c (after_move s m)).0, (settling n c (after_move s m)).1) ] in
        Leads c s [] (map move r.0) r.1)
    go None e more = refl
    go (Some m) e more = (e, more (after_move s m))

-- a plant that stands comes to rest
pub settling-rests : (c : Setup) → HasPlacedTrees c → (s : Plant) → IsStanding c s → (ms : List Move) × LeadsToRest c s [] (map move ms)
settling-rests c placed s k =
    let n : ℕ = work_left s in
    ((settling n c s).0, ((settling n c s).1, settling-leads c n s, settling-ends c placed n s k (omega arith)))

pub leads-along : (c : Setup) (s t u : Plant) (ms : List Move) (es : List Event) (outs : List Out)
    → Leads c s [] (map move ms) t → Leads c t es outs u → Leads c s es (map move ms ++ outs) u
leads-along c s t u [] es outs h k = subst (λ z. Leads c z es outs u) (sym h) k
leads-along c s t u (m ∷ ms) es outs h k = (h.0, leads-along c (after_move s m) t u ms es outs h.1 k)

pub run_from-leads : (c : Setup) → HasPlacedTrees c → (s : Plant) (es : List Event) → IsStanding c s → next c s ≡ None → LeadsToRest c s es (run_from c s es)
run_from-leads c placed s [] k e = (s, refl, e)
run_from-leads c placed s (d ∷ es) k e =
    let a = react c s d in
    let stands : IsStanding c a.1 = react-stands c placed s k d in
    let n : ℕ = work_left a.1 in
    let moves = settling-leads c n a.1 in
    let there : IsStanding c (settling n c a.1).1 = leads-stands c placed a.1 (settling n c a.1).1 [] (map move (settling n c a.1).0) stands moves in
    let more = run_from-leads c placed (settling n c a.1).1 es there (settling-ends c placed n a.1 stands (omega arith)) in (
      more.0,
      (a.1, inl refl, leads-along c a.1 (settling n c a.1).1 more.0 (settling n c a.1).0 es (run_from c (settling n c a.1).1 es) moves more.1),
      more.2,
    )

pub run-leads : (c : Setup) → HasPlacedTrees c → (es : List Event) → LeadsToRest c opening es (run c es)
run-leads c placed es = run_from-leads c placed opening es (opening-stands c) refl
