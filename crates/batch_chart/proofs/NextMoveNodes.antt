-- The nodes of the next move are nodes of the tree, and its need is one of an act of the rest.
use Rattle.std.proofs.Common.{◌≡◌, ◌⊎◌, inl, inr, ◌<◌, ℕ, suc, ◌+◌, List, length, Some, None, arith, refl, sym, ◌∙◌, subst, ap, ap₂}
use Rattle.std.{specs.Prelude.Option, specs.Prelude.IfSome, specs.Prelude.take, specs.Prelude.◌++◌, specs.Prelude.option_to_list, specs.List.filter_map, proofs.Math.Seq.take-length}
use Rattle.batch_matrix.specs.declared.state.State.{State}
use Rattle.batch_recipe.specs.{Nodes.node_count, Tree.Step, Tree.Task, Tree.runs, Tree.follows, Tree.Tree, Tree.act, declared.entry.Entry.Entry, declared.recipe.Recipe.Recipe}
use Rattle.batch_model.{specs.Lists.Has, specs.Plant.Batch, specs.Plant.held_by, specs.Rest.Rest, specs.Rest.ready, specs.Rest.freeing, specs.Rest.acts, specs.Rest.place_of, specs.Standing.IsRestOf, specs.Moves.freed, specs.Moves.kind_of, specs.Moves.place_of_move, specs.Moves.state_move, proofs.Members.Has-filter_map}
use Rattle.batch_model.specs.Moves as machine
use Rattle.batch_step_laws.proofs.{StateMoves.state_move-is, MoveOrder.least-IsLeast}
use Rattle.batch_chart.{specs.declared.node.Kind.Kind, specs.declared.stage.Stage.Stage, specs.declared.chart_move.Move.Move, specs.Stages.stage_at, specs.Meaning.meaning, specs.Meaning.meaning_below, specs.Meaning.act_as, specs.Outlined.kind_at, specs.NodesOf.place_at, specs.OwnMoves.own_move, specs.OwnMoves.own_moves, specs.OwnMoves.own_next, specs.Seen.machine_move, specs.Running.IsLaid, specs.Running.IsAlive, specs.Running.CanRelease, specs.Running.Allows, specs.Nexts.IsNext, specs.Passing.IsTreeOf, specs.Charts.StandsFor, proofs.ChartChange.Fits, proofs.ChartChange.number-at-place, proofs.ActAfterMove.fits-count, proofs.ActAfterMove.suc-of, proofs.NextMoves.IsKnown, proofs.NextMoves.known, proofs.NextMoves.some_batch, proofs.LeastOwnMove.own-is, proofs.ActsAtNodes.of-tree}
use Rattle.batch_chart.specs.declared.node.Kind.TheVariants as kind
use Rattle.batch_chart.specs.declared.stage.Stage.TheVariants as stage
use Rattle.batch_chart.specs.declared.chart_move.Move.TheVariants as move

-- the needs that an act holds whose need i can be given back
held-is : (κ : Kind) (y : Stage) (i : ℕ) (s : Step) (w : Task) (r : Rest) → Fits κ s w → CanRelease κ y i → (u : Step) (v : Task) → IsRestOf (act u v) (act_as s w r y)
    → (i < length s.needs) × (held_by (act_as s w r y) ≡ take (i + 1) s.needs)
held-is κ (stage.Ready h) i s w r f can u v q = (omega (arith, q.2, can.1), ap (λ z. take z s.needs) can.1)
held-is κ (stage.Freeing h) i s w r f can u v q =
    let d : freed s h ≡ freeing s (suc i) = ap (freed s) (suc-of h i can.1) in
    let k : IsRestOf (act u v) (freeing s (suc i)) = subst (IsRestOf (act u v)) d q in
    (omega (arith, k.2), ap held_by d ∙ ap (λ z. take z s.needs) (sym (suc-of (i + 1) i refl)))
held-is κ stage.Open i s w r f can u v q = go w (subst (λ z. Fits z s w) can f)
  where
    go : (w : Task) → Fits (kind.Act (i + 1)) s w → (i < length s.needs) × (held_by (act_as s w r stage.Open) ≡ take (i + 1) s.needs)
    go (runs p) f = absurd f
    go (follows name c) f = (omega (arith, f), sym (take-length s.needs) ∙ ap (λ z. take z s.needs) f)
held-is κ x i s w r f can u v q = absurd can

-- a batch's own move is that of its state or of an act
has-own : (b : Batch) (m : machine.Move) → Has (own_moves b) m → (state_move b ≡ Some m) ⊎ ((a : Rest) × Has (acts b.rest) a × (own_move b a ≡ Some m))
has-own b m h = go (state_move b) refl h
  where
    go : (o : Option machine.Move) → state_move b ≡ o → Has (option_to_list o ++ filter_map (own_move b) (acts b.rest)) m
        → (state_move b ≡ Some m) ⊎ ((a : Rest) × Has (acts b.rest) a × (own_move b a ≡ Some m))
    go None e h = inr (Has-filter_map (own_move b) (acts b.rest) m h)
    go (Some q) e (inl s) = inl (e ∙ ap Some s)
    go (Some q) e (inr h) = inr (Has-filter_map (own_move b) (acts b.rest) m h)

module _ (ns : List Entry) (doc : Recipe) (xs : List Stage) (t : Tree) (laid : IsLaid ns doc t) (alive : IsAlive t xs) where
  known-at : (k : ℕ) (a : Rest) → k < length ns → Has (acts (meaning t 0 xs)) a → place_of a ≡ place_at t k → IsKnown ns doc xs t (k, a)
  known-at k a lt h e = known ns doc xs t laid (k, a) (number-at-place ns doc t laid xs k a lt h e)

  below : (k : ℕ) → k < length ns → k < node_count t
  below k lt = omega (arith, laid.count)

  of-act : (b : Batch) (m : Move) → Allows ns xs m → (a : Rest) → Has (acts (meaning t 0 xs)) a → place_of_move (machine_move t b m) ≡ place_of a → StandsFor t (meaning t 0 xs) m
  of-act b (move.Ask k i) c a h e =
      let g = known-at k a c.0 h (sym e) in
      let is : a ≡ ready g.step g.task i = g.is ∙ ap (act_as g.step g.task (meaning_below g.task (k + 1) xs)) c.2 in (
        below k c.0,
        subst (λ (s : Step). i < length s.needs) (sym g.own_step) (fits-count (kind_at ns k) i g.step g.task c.1 g.fits),
        subst (Has (acts (meaning t 0 xs))) (is ∙ ap₂ (λ s w. ready s w i) (sym g.own_step) (sym g.own_task)) h,
      )
  of-act b (move.Release k i) c a h e =
      let g = known-at k a c.0 h (sym e) in
      let o = of-tree t (meaning t 0 xs) a laid.placed alive.stands h in
      let q = held-is (kind_at ns k) (stage_at xs k) i g.step g.task (meaning_below g.task (k + 1) xs) g.fits c.1 o.step o.task (subst (IsRestOf (act o.step o.task)) g.is o.rest) in (
        below k c.0,
        subst (λ (s : Step). i < length s.needs) (sym g.own_step) q.0,
        (a, h, sym e, ap held_by g.is ∙ q.1 ∙ ap (λ (s : Step). take (i + 1) s.needs) (sym g.own_step)),
      )
  of-act b (move.Pass k to i) c a h e =
      let g = known-at k a c.0 h (sym e) in
      let o = of-tree t (meaning t 0 xs) a laid.placed alive.stands h in
      let is : a ≡ act_as g.step g.task (meaning_below g.task (k + 1) xs) (stage.Freeing (i + 1)) = g.is ∙ ap (act_as g.step g.task (meaning_below g.task (k + 1) xs)) c.3 in
      let q = held-is (kind_at ns k) (stage.Freeing (i + 1)) i g.step g.task (meaning_below g.task (k + 1) xs) g.fits (c.2, refl) o.step o.task (subst (IsRestOf (act o.step o.task)) is o.rest) in (
        below k c.0,
        below to c.1,
        subst (λ (s : Step). i < length s.needs) (sym g.own_step) q.0,
        (a, h, sym e, ap held_by is ∙ q.1 ∙ ap (λ (s : Step). take (i + 1) s.needs) (sym g.own_step)),
      )
  of-act b (move.State x) c a h e = tt
  of-act b (move.Send k x) c a h e = below k c.3
  of-act b (move.Begin k) c a h e = below k c.2
  of-act b (move.Start k) c a h e = below k c.3
  of-act b (move.End k) c a h e = below k c.1

  of-state : (b : Batch) (m : Move) → kind_of (machine_move t b m) ≡ 2 → StandsFor t (meaning t 0 xs) m
  of-state x1 x2 x3 = grind arith

  pub about : (b : Batch) → b.rest ≡ meaning t 0 xs → (m : Move) → Allows ns xs m → own_next b ≡ Some (machine_move t b m) → StandsFor t (meaning t 0 xs) m
  about b r m c e = elim (has-own b (machine_move t b m) (least-IsLeast (own_moves b) (machine_move t b m) e).0) [
    | inl s ↦ of-state b m (ap kind_of (state_move-is b (machine_move t b m) s).1)
    | inr d ↦ of-act b m c d.0 (subst (λ z. Has (acts z) d.0) r d.1) (own-is b d.0 (machine_move t b m) d.2).place
  ]

pub next-about : (ns : List Entry) (doc : Recipe) (xs : List Stage) (x : State) (result : Option Move) → IsNext ns doc xs x result
    → IfSome result (λ m. (t : Tree) → IsLaid ns doc t → IsTreeOf doc t → IsAlive t xs → StandsFor t (meaning t 0 xs) m)
next-about ns doc xs x None h = tt
next-about ns doc xs x (Some m) h = λ t laid of alive.
    about ns doc xs t laid alive (some_batch t x (meaning t 0 xs)) refl m h.allowed (sym (h.means t (some_batch t x (meaning t 0 xs)) laid alive refl refl (record { bound = of.0; tree = of.1; follows = refl })))
