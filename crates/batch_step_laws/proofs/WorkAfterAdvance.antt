-- The work left doesn't grow when a rest advances.
use Rattle.std.proofs.Common.{◌≡◌, refl, ap, [], ℕ, suc, pred, Bool, true, false, arith, ◌≤◌, ◌+◌, ◌-◌, ◌*◌, length}
use Rattle.batch_matrix.specs.declared.state.State.{State}
use Rattle.batch_recipe.specs.{Conditions.holds, declared.condition.Condition.Condition, Tree.Tree, Tree.act, Tree.skip, Tree.seq, Tree.par, Tree.sel, Tree.loop, Tree.Trees, Tree.no_trees, Tree.tree, Tree.Choices, Tree.otherwise, Tree.choice}
use Rattle.batch_model.specs.{Rest.Rest, Rest.Moment, Rest.held_early, Rest.open_act, Rest.in_seq, Rest.in_par, Rest.in_loop, Rest.done, Rest.Rests, Rest.no_rests, Rest.rest, Rest.is_done, Rest.joined, Rest.turning, Rest.reach, Rest.reach_first, Rest.reach_each, Rest.reach_chosen, Rest.turned, Rest.advance, Rest.advance_each, Runs.toil, Runs.toil_of_work, Runs.toil_of_each, Runs.toil_of_choices, Runs.goes_on, Runs.ahead, Runs.toil_left, Runs.toil_left_in_each}
use Rattle.batch_step_laws.proofs.NodesOfRests.{early-within}

-- The moves that lie ahead

pub ahead-sum : (x : State) (m n : ℕ) → ahead x (m + n) ≡ ahead x m + ahead x n
ahead-sum x m n = grind arith

pub ahead-le : (x : State) (m n : ℕ) → m ≤ n → ahead x m ≤ ahead x n
ahead-le x m n h = grind arith

pub going : (x : State) (n : ℕ) → goes_on x ≡ true → ahead x n ≡ n
going x n h = grind arith

pub going_no_further : (x : State) (n : ℕ) → goes_on x ≡ false → ahead x n ≡ 0
going_no_further x n h = grind arith

turn-ahead : (x : State) (n t : ℕ) → ahead x t + ahead x (n * t) ≤ ahead x (suc n * t)
turn-ahead x n t = omega (arith, ahead-sum x t (n * t), ahead-le x (t + n * t) (suc n * t) (omega arith))

-- Reaching

joined-toil : (x : State) (rs : Rests) → toil_left x (joined rs) ≤ toil_left_in_each x rs
joined-toil x rs = grind arith

turning-toil : (x : State) (n : ℕ) (c : Condition) (body : Tree) (r : Rest) → toil_left x (turning n c body r) ≤ toil_left x r + ahead x (n * toil body)
turning-toil x n c body r = grind arith

in_order-toil : (x : State) (r after : Rest) (cs : Trees) → toil_left x after ≤ ahead x (toil_of_each cs)
    → toil_left x (elim (is_done r) [ true ↦ after | false ↦ in_seq r cs ]) ≤ toil_left x r + ahead x (toil_of_each cs)
in_order-toil x r after cs h = grind arith

either-toil : (x : State) (b : Bool) (q r : Rest) (m n : ℕ) → toil_left x q ≤ m → toil_left x r ≤ n → toil_left x (elim b [ true ↦ q | false ↦ r ]) ≤ m + n
either-toil x b q r m n h k = grind arith

-- an act that is just reached takes no more moves if it holds its unit, as it may if the batch goes on
early-toil : (x : State) (n k t : ℕ) → (goes_on x ≡ false → k ≡ 0) → k ≤ n → k + ahead x (3 * (n - k) + t) ≤ ahead x (3 * n + t)
early-toil x n k t none within = go (goes_on x) refl
  where
    go : (b : Bool) → goes_on x ≡ b → k + ahead x (3 * (n - k) + t) ≤ ahead x (3 * n + t)
    go true e = omega (arith, within, going x (3 * (n - k) + t) e, going x (3 * n + t) e)
    go false e = omega (arith, none e, ahead-le x (3 * (n - k) + t) (3 * n + t) (omega arith))

-- a batch that goes no further holds nothing in advance
module _ (x : State) (mo : Moment) (calm : goes_on x ≡ false → mo.early ≡ []) where
  mutual
    -- the rest of a chart that has just been reached has no more moves left than the chart
    pub reach-toil : (c : Tree) → toil_left x (reach mo c) ≤ ahead x (toil c)
    reach-toil (act s w) =
        early-toil x (length s.needs) (held_early mo.early s) (toil_of_work w) (λ e. ap (λ early. held_early early s) (calm e)) (early-within mo.early s)
    reach-toil skip = omega arith
    reach-toil (seq cs) = reach_first-toil cs
    reach-toil (par cs) = omega (arith, joined-toil x (reach_each mo cs), reach_each-toil cs)
    reach-toil (sel ch) = reach_chosen-toil ch
    reach-toil (loop n c body) =
        omega (arith, turning-toil x (pred n) c body (reach mo body), reach-toil body, ahead-sum x (toil body) (pred n * toil body))

    pub reach_first-toil : (cs : Trees) → toil_left x (reach_first mo cs) ≤ ahead x (toil_of_each cs)
    reach_first-toil no_trees = omega arith
    reach_first-toil (tree c cs) =
        omega (
          arith,
          in_order-toil x (reach mo c) (reach_first mo cs) cs (reach_first-toil cs),
          reach-toil c,
          ahead-sum x (toil c) (toil_of_each cs),
        )

    pub reach_each-toil : (cs : Trees) → toil_left_in_each x (reach_each mo cs) ≤ ahead x (toil_of_each cs)
    reach_each-toil no_trees = omega arith
    reach_each-toil (tree c cs) = omega (arith, reach-toil c, reach_each-toil cs, ahead-sum x (toil c) (toil_of_each cs))

    pub reach_chosen-toil : (ch : Choices) → toil_left x (reach_chosen mo ch) ≤ ahead x (toil_of_choices ch)
    reach_chosen-toil (otherwise c) = reach-toil c
    reach_chosen-toil (choice p c ch) =
        omega (
          arith,
          either-toil x (holds mo.values p) (reach mo c) (reach_chosen mo ch) (ahead x (toil c)) (ahead x (toil_of_choices ch)) (reach-toil c) (reach_chosen-toil ch),
          ahead-sum x (toil c) (toil_of_choices ch),
        )

  -- Advancing

  again-toil : (n : ℕ) (c : Condition) (body : Tree) (b : Bool)
      → toil_left x (elim b [ true ↦ done | false ↦ turning n c body (reach mo body) ]) ≤ ahead x (suc n * toil body)
  again-toil n c body b = grind (arith, turning-toil, reach-toil, turn-ahead)

  turned-toil : (n : ℕ) (c : Condition) (body : Tree) (r : Rest) → toil_left x (turned mo n c body r) ≤ toil_left x r + ahead x (n * toil body)
  turned-toil n c body r = grind (arith, turning-toil, again-toil)

  mutual
    pub advance-toil : (r : Rest) → toil_left x (advance mo r) ≤ toil_left x r
    advance-toil (open_act s r) = omega (arith, advance-toil r)
    advance-toil (in_seq r cs) = omega (arith, in_order-toil x (advance mo r) (reach_first mo cs) cs (reach_first-toil cs), advance-toil r)
    advance-toil (in_par rs) = omega (arith, joined-toil x (advance_each mo rs), advance_each-toil rs)
    advance-toil (in_loop n c body r) = omega (arith, turned-toil n c body (advance mo r), advance-toil r)
    advance-toil r = grind arith

    pub advance_each-toil : (rs : Rests) → toil_left_in_each x (advance_each mo rs) ≤ toil_left_in_each x rs
    advance_each-toil no_rests = omega arith
    advance_each-toil (rest r rs) = omega (arith, advance-toil r, advance_each-toil rs)
