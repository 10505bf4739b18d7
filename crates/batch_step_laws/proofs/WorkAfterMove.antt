-- Each possible move lowers the work left.
use Rattle.std.proofs.Common.{◌≡◌, ◌⊎◌, refl, sym, ◌∙◌, ap, subst, true, List, [], ◌∷◌, Some, None, arith, inl, inr, ◌<◌, ◌+◌, false}
use Rattle.std.specs.{Prelude.Option, Prelude.◌++◌, Prelude.map, Prelude.option_to_list, Prelude.sum_by, List.filter_map}
use Rattle.batch_model.{specs.Lists.Has, specs.Rest.Rest, specs.Rest.acts, specs.Rest.advance, specs.Rest.changed_at, specs.Rest.place_of, specs.Plant.Setup, specs.Plant.Batch, specs.Plant.Plant, specs.Plant.moment_of, specs.Plant.with_rest, specs.Plant.in_act, specs.Moves.Move, specs.Moves.batch_of, specs.Moves.place_of_move, specs.Moves.act_move, specs.Moves.act_after, specs.Moves.state_move, specs.Moves.batch_moves, specs.Moves.possible, specs.Moves.passing, specs.Moves.batch_after, specs.Moves.after_move, specs.Moves.next, specs.Runs.goes_on, specs.Runs.toil_left, specs.Runs.state_moves_left, specs.Runs.batch_work_left, specs.Runs.work_left, specs.Standing.HasPlacedTrees, specs.Standing.IsStandingBatch, specs.Standing.IsStanding, specs.Placed.Rises, proofs.Members.Each-Has, proofs.Members.Has-flat_map, proofs.Members.Has-filter_map}
use Rattle.batch_recipe.{specs.Tree.Place, specs.Tree.is_before, proofs.NodesBelow.not_before}
use Rattle.batch_step_laws.proofs.{MoveOrder.least-IsLeast, ActOrder.acts-rise, WorkAfterAdvance.advance-toil, WorkAfterChange.changed_at-lower, ActMoves.IsMoveOf, ActMoves.act_move-is, StateMoves.IsStateMove, StateMoves.state_move-is, Batches.only, Batches.sum-falls}

not_itself : (p q : Place) → p ≡ q → is_before p q ≡ true → ⊥
not_itself p q e h = grind (arith, not_before p)

-- at each place stands one act at most
pub one_act : (xs : List Rest) (a b : Rest) → Rises xs → Has xs a → Has xs b → place_of a ≡ place_of b → a ≡ b
one_act [] a b r h k e = absurd h
one_act (x ∷ xs) a b r (inl h) (inl k) e = sym h ∙ k
one_act (x ∷ xs) a b r (inl h) (inr k) e =
    absurd (not_itself (place_of x) (place_of b) (ap place_of h ∙ e) (Each-Has (λ y. is_before (place_of x) (place_of y) ≡ true) xs b r.0 k))
one_act (x ∷ xs) a b r (inr h) (inl k) e =
    absurd (not_itself (place_of x) (place_of a) (ap place_of k ∙ sym e) (Each-Has (λ y. is_before (place_of x) (place_of y) ≡ true) xs a r.0 h))
one_act (x ∷ xs) a b r (inr h) (inr k) e = one_act xs a b r.1 h k e

-- a batch's move changes its state, or is the move of one of its acts
pub Has-batch_moves : (c : Setup) (s : Plant) (b : Batch) (m : Move) → Has (batch_moves c s b) m
    → (state_move b ≡ Some m) ⊎ ((a : Rest) × Has (acts b.rest) a × (act_move c s b a ≡ Some m))
Has-batch_moves c s b m h = go (state_move b) refl h
  where
    go : (o : Option Move) → state_move b ≡ o
        → Has (option_to_list o ++ filter_map (act_move c s b) (acts b.rest)) m
        → (state_move b ≡ Some m) ⊎ ((a : Rest) × Has (acts b.rest) a × (act_move c s b a ≡ Some m))
    go None e k = inr (Has-filter_map (act_move c s b) (acts b.rest) m k)
    go (Some l) e (inl q) = inl (e ∙ ap Some q)
    go (Some l) e (inr k) = inr (Has-filter_map (act_move c s b) (acts b.rest) m k)

-- the acts of a standing batch rise
pub batch-rises : (c : Setup) (b : Batch) → HasPlacedTrees c → IsStandingBatch c b → Rises (acts b.rest)
batch-rises c b placed k =
    acts-rise (0 ∷ []) b.recipe.procedure b.rest (placed b.recipe k.known) k.stands

-- a unit that is passed on changes neither the batch's state nor its rest
pub same-rest : (m : Move) (b : Batch) → (passing m b).rest ≡ b.rest
same-rest m b = grind arith

pub same-state : (m : Move) (b : Batch) → (passing m b).state ≡ b.state
same-state m b = grind arith

same-work : (m : Move) (b : Batch) (r : Rest) → batch_work_left (with_rest r (passing m b)) ≡ state_moves_left b.state + toil_left b.state r
same-work m b r = ap (λ x. state_moves_left x + toil_left x r) (same-state m b)

-- the move of an act lowers the work left of its batch
in_act-falls : (b : Batch) (a : Rest) (m : Move) → (goes_on b.state ≡ false → b.in_advance ≡ []) → Rises (acts b.rest) → Has (acts b.rest) a → IsMoveOf b a m
    → batch_work_left (in_act (place_of_move m) (act_after (moment_of b) m) (passing m b)) < batch_work_left b
in_act-falls b a m none rises h t =
    let f : Rest → Rest = act_after (moment_of b) m in
    let calm : goes_on b.state ≡ false → (moment_of (passing m b)).early ≡ [] =
    λ e. ap (λ d. (moment_of d).early) (t.passes e) ∙ ap (map (λ held. held.place)) (none e) in
    omega (
      arith,
      same-work m b (advance (moment_of (passing m b)) (changed_at (place_of_move m) f (passing m b).rest)),
      advance-toil b.state (moment_of (passing m b)) calm (changed_at (place_of_move m) f (passing m b).rest),
      ap (λ r. toil_left b.state (changed_at (place_of_move m) f r)) (same-rest m b),
      changed_at-lower b.state (place_of_move m) f b.rest
          (λ d k p. subst (λ z. toil_left b.state (f z) < toil_left b.state z) (one_act (acts b.rest) a d rises h k (sym t.place ∙ sym p)) t.lowers)
          (a, h, sym t.place),
    )

-- a batch's move goes by its number
pub batch_moves-number : (c : Setup) (s : Plant) (b : Batch) (m : Move) → Has (batch_moves c s b) m → batch_of m ≡ b.number
batch_moves-number c s b m h =
    elim (Has-batch_moves c s b m h) [
      | inl e ↦ (let t : IsStateMove b.number b.state b.rest m = state_move-is b m e in ap batch_of t.1)
      | inr e ↦ (let t : IsMoveOf b e.0 m = act_move-is b c s e.0 m e.2 in t.number)
    ]

-- and lowers the work left of the batch
batch_moves-fall : (c : Setup) (s : Plant) (b : Batch) (m : Move) → HasPlacedTrees c → IsStandingBatch c b → Has (batch_moves c s b) m
    → batch_work_left (batch_after m b) < batch_work_left b
batch_moves-fall c s b m placed k h =
    elim (Has-batch_moves c s b m h) [
      | inl e ↦
          let t : IsStateMove b.number b.state b.rest m = state_move-is b m e in
          subst (λ z. batch_work_left (batch_after z b) < batch_work_left b) (sym t.1) t.2
      | inr e ↦
          let t : IsMoveOf b e.0 m = act_move-is b c s e.0 m e.2 in
          subst (λ z. batch_work_left z < batch_work_left b) (sym t.changes) (in_act-falls b e.0 m k.given_up (batch-rises c b placed k) e.1 t)
    ]

-- each possible move lowers the work left
pub possible-falls : (c : Setup) (s : Plant) (m : Move) → HasPlacedTrees c → IsStanding c s → Has (possible c s) m → work_left (after_move s m) < work_left s
possible-falls c s m placed k h =
    let d = Has-flat_map (batch_moves c s) s.batches m h in
    let lower = batch_moves-fall c s d.0 m placed (Each-Has (IsStandingBatch c) s.batches d.0 k.batches d.1) d.2 in
    subst (λ n. sum_by batch_work_left (map (only n (batch_after m)) s.batches) < work_left s) (sym (batch_moves-number c s d.0 m d.2))
    (sum-falls batch_work_left (batch_after m) s.next_number s.batches d.0 k.numbers d.1 lower)

-- the next move is a possible one
pub next-possible : (c : Setup) (s : Plant) (m : Move) → next c s ≡ Some m → Has (possible c s) m
next-possible c s m e = (least-IsLeast (possible c s) m e).0
