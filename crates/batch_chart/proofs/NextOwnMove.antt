-- The first of the first moves of each kind is the batch's next own move.
use Rattle.std.proofs.Common.{◌≡◌, ℕ, List, [], ◌∷◌, true, false, Some, None, refl, sym, ◌∙◌, subst, ap}
use Rattle.std.specs.{Prelude.Option, Prelude.find, Prelude.option_map, List.filter_map, Option.is_some}
use Rattle.batch_matrix.specs.declared.state.State.{State}
use Rattle.batch_recipe.specs.{Tree.Tree, declared.entry.Entry.Entry, declared.recipe.Recipe.Recipe}
use Rattle.batch_model.specs.{Placed.Rises, Plant.Batch, Rest.acts, Moves.state_move}
use Rattle.batch_step_laws.proofs.ActOrder.{acts-rise}
use Rattle.batch_chart.{specs.declared.stage.Stage.Stage, specs.declared.chart_move.Move.Move, specs.Meaning.meaning, specs.OwnMoves.own_move, specs.OwnMoves.is_kind, specs.Seen.machine_move, specs.Running.IsLaid, specs.Running.IsAlive, specs.Passing.IsBatchOf, specs.Nexts.IsNextOf, specs.Nexts.IsNextState, specs.Nexts.IsNext, proofs.LeastOwnMove.least-send, proofs.LeastOwnMove.least-state, proofs.LeastOwnMove.least-later, proofs.LeastOwnMove.none-of, proofs.LeastOwnMove.low-3, proofs.LeastOwnMove.low-4, proofs.LeastOwnMove.low-5, proofs.LeastOwnMove.least-none}

none-is : {X : Type 0} (o : Option X) → false ≡ is_some o → o ≡ None
none-is None e = refl
none-is (Some a) e = absurd (cc)

module _ (ns : List Entry) (doc : Recipe) (xs : List Stage) (x : State) where
  rises : (t : Tree) (b : Batch) → IsLaid ns doc t → IsAlive t xs → b.rest ≡ meaning t 0 xs → Rises (acts b.rest)
  rises t b laid alive r = subst (λ z. Rises (acts z)) (sym r) (acts-rise (0 ∷ []) t (meaning t 0 xs) laid.placed alive.stands)

  -- the move that is found of a kind
  got : (n : ℕ) (o : Option Move) → IsNextOf ns doc xs x n o → (t : Tree) (b : Batch) → IsLaid ns doc t → IsAlive t xs → b.state ≡ x → b.rest ≡ meaning t 0 xs → IsBatchOf doc t b
      → find (is_kind n) (filter_map (own_move b) (acts b.rest)) ≡ option_map (machine_move t b) o
  got n o h t b laid alive e r of = sym (h.means t b laid alive e r of)

  no_more : (n : ℕ) (o : Option Move) → false ≡ is_some o → IsNextOf ns doc xs x n o → (t : Tree) (b : Batch) → IsLaid ns doc t → IsAlive t xs → b.state ≡ x → b.rest ≡ meaning t 0 xs → IsBatchOf doc t b
      → find (is_kind n) (filter_map (own_move b) (acts b.rest)) ≡ None
  no_more n o f h t b laid alive e r of = got n o h t b laid alive e r of ∙ ap (option_map (machine_move t b)) (none-is o f)

  no_state : (o : Option Move) → false ≡ is_some o → IsNextState ns doc xs x o → (t : Tree) (b : Batch) → IsLaid ns doc t → IsAlive t xs → b.state ≡ x → b.rest ≡ meaning t 0 xs → state_move b ≡ None
  no_state o f h t b laid alive e r = sym (h.means t b laid alive e r) ∙ ap (option_map (machine_move t b)) (none-is o f)

  pub chosen-send : (o : Option Move) → true ≡ is_some o → IsNextOf ns doc xs x 1 o → IsNext ns doc xs x o
  chosen-send None f h = absurd (cc)
  chosen-send (Some m) f h =
      record {
        means = λ t b laid alive e r of. sym (least-send b (rises t b laid alive r) (machine_move t b m) (got 1 (Some m) h t b laid alive e r of));
        allowed = h.allowed;
      }

  pub chosen-state : (o1 o : Option Move) → false ≡ is_some o1 → IsNextOf ns doc xs x 1 o1 → true ≡ is_some o → IsNextState ns doc xs x o → IsNext ns doc xs x o
  chosen-state o1 None f1 h1 f h = absurd (cc)
  chosen-state o1 (Some m) f1 h1 f h =
      record {
        means = λ t b laid alive e r of.
            (let up = rises t b laid alive r in
            sym (least-state b up (machine_move t b m) (none-of b up 1 (no_more 1 o1 f1 h1 t b laid alive e r of)) (sym (h.means t b laid alive e r))));
        allowed = h.allowed;
      }

  pub chosen-release : (o1 o2 o : Option Move) → false ≡ is_some o1 → IsNextOf ns doc xs x 1 o1 → false ≡ is_some o2 → IsNextState ns doc xs x o2 → true ≡ is_some o → IsNextOf ns doc xs x 3 o → IsNext ns doc xs x o
  chosen-release o1 o2 None f1 h1 f2 h2 f h = absurd (cc)
  chosen-release o1 o2 (Some m) f1 h1 f2 h2 f h =
      record {
        means = λ t b laid alive e r of.
            (let up = rises t b laid alive r in
            let k1 = none-of b up 1 (no_more 1 o1 f1 h1 t b laid alive e r of) in
            sym (least-later b up 3 (machine_move t b m) (no_state o2 f2 h2 t b laid alive e r) (got 3 (Some m) h t b laid alive e r of) (low-3 b up k1)));
        allowed = h.allowed;
      }

  pub chosen-entry : (o1 o2 o3 o : Option Move) → false ≡ is_some o1 → IsNextOf ns doc xs x 1 o1 → false ≡ is_some o2 → IsNextState ns doc xs x o2 → false ≡ is_some o3 → IsNextOf ns doc xs x 3 o3
      → true ≡ is_some o → IsNextOf ns doc xs x 4 o → IsNext ns doc xs x o
  chosen-entry o1 o2 o3 None f1 h1 f2 h2 f3 h3 f h = absurd (cc)
  chosen-entry o1 o2 o3 (Some m) f1 h1 f2 h2 f3 h3 f h =
      record {
        means = λ t b laid alive e r of.
            (let up = rises t b laid alive r in
            let k1 = none-of b up 1 (no_more 1 o1 f1 h1 t b laid alive e r of) in
            let k3 = none-of b up 3 (no_more 3 o3 f3 h3 t b laid alive e r of) in
            sym (least-later b up 4 (machine_move t b m) (no_state o2 f2 h2 t b laid alive e r) (got 4 (Some m) h t b laid alive e r of) (low-4 b up k1 k3)));
        allowed = h.allowed;
      }

  pub chosen-ask : (o1 o2 o3 o4 o : Option Move) → false ≡ is_some o1 → IsNextOf ns doc xs x 1 o1 → false ≡ is_some o2 → IsNextState ns doc xs x o2 → false ≡ is_some o3 → IsNextOf ns doc xs x 3 o3
      → false ≡ is_some o4 → IsNextOf ns doc xs x 4 o4 → IsNextOf ns doc xs x 5 o → IsNext ns doc xs x o
  chosen-ask o1 o2 o3 o4 None f1 h1 f2 h2 f3 h3 f4 h4 h =
      record {
        means = λ t b laid alive e r of.
            (let up = rises t b laid alive r in
            let k1 = none-of b up 1 (no_more 1 o1 f1 h1 t b laid alive e r of) in
            let k3 = none-of b up 3 (no_more 3 o3 f3 h3 t b laid alive e r of) in
            let k4 = none-of b up 4 (no_more 4 o4 f4 h4 t b laid alive e r of) in
            let k5 = none-of b up 5 (got 5 None h t b laid alive e r of) in
            sym (least-none b up (no_state o2 f2 h2 t b laid alive e r) k1 k3 k4 k5));
        allowed = tt;
      }
  chosen-ask o1 o2 o3 o4 (Some m) f1 h1 f2 h2 f3 h3 f4 h4 h =
      record {
        means = λ t b laid alive e r of.
            (let up = rises t b laid alive r in
            let k1 = none-of b up 1 (no_more 1 o1 f1 h1 t b laid alive e r of) in
            let k3 = none-of b up 3 (no_more 3 o3 f3 h3 t b laid alive e r of) in
            let k4 = none-of b up 4 (no_more 4 o4 f4 h4 t b laid alive e r of) in
            sym (least-later b up 5 (machine_move t b m) (no_state o2 f2 h2 t b laid alive e r) (got 5 (Some m) h t b laid alive e r of) (low-5 b up k1 k3 k4)));
        allowed = h.allowed;
      }
