-- Whatever a rest reaches stands at its node of the expanded tree.
use Rattle.std.proofs.Common.{◌≡◌, refl, sym, subst, ℕ, zero, suc, pred, Bool, true, false, arith, inl, inr, ◌≤◌, List, [], ◌∷◌, length}
use Rattle.batch_recipe.specs.{Conditions.holds, declared.condition.Condition.Condition, declared.need.Need.Need, Tree.Place, Tree.Step, Tree.Tree, Tree.act, Tree.skip, Tree.seq, Tree.par, Tree.sel, Tree.loop, Tree.Task, Tree.runs, Tree.follows, Tree.Trees, Tree.no_trees, Tree.tree, Tree.Choices, Tree.otherwise, Tree.choice}
use Rattle.std.specs.{Prelude.take, List.list_any}
use Rattle.batch_model.specs.{Rest.same_place, Rest.Rest, Rest.Moment, Rest.held_early, Rest.ready, Rest.asking, Rest.open_act, Rest.live, Rest.freeing, Rest.in_seq, Rest.in_par, Rest.in_loop, Rest.done, Rest.Rests, Rest.no_rests, Rest.rest, Rest.is_done, Rest.all_done, Rest.joined, Rest.turning, Rest.reach, Rest.reach_first, Rest.reach_each, Rest.reach_chosen, Rest.continued, Rest.turned, Rest.advance, Rest.advance_each, Standing.IsRestOf, Standing.IsRestBelow, Standing.IsBranch, Standing.AreBranches, Standing.IsChosen}

mutual
  -- nothing may remain of any chart
  pub done-IsRestOf : (c : Tree) → IsRestOf c done
  done-IsRestOf (act s w) = tt
  done-IsRestOf skip = tt
  done-IsRestOf (seq cs) = tt
  done-IsRestOf (par cs) = tt
  done-IsRestOf (sel ch) = done-IsChosen ch
  done-IsRestOf (loop n c body) = tt

  pub done-IsChosen : (ch : Choices) → IsChosen ch done
  done-IsChosen (otherwise c) = done-IsRestOf c
  done-IsChosen (choice p c ch) = inl (done-IsRestOf c)

joined-IsRestOf : (cs : Trees) (rs : Rests) → AreBranches cs rs → IsRestOf (par cs) (joined rs)
joined-IsRestOf cs rs h = go (all_done rs)
  where
    go : (b : Bool) → IsRestOf (par cs) (elim b [ true ↦ done | false ↦ in_par rs ])
    go true = tt
    go false = h

turning-IsRestOf : (n m : ℕ) (c : Condition) (body : Tree) (r : Rest) → m ≤ n → IsRestOf body r → IsRestOf (loop n c body) (turning m c body r)
turning-IsRestOf n m c body r lt h = go (is_done r)
  where
    go : (b : Bool) → IsRestOf (loop n c body) (elim b [ true ↦ done | false ↦ in_loop m c body r ])
    go true = tt
    go false = (lt, refl, refl, h)

-- a rest of the later branches is one of all
later : (c : Tree) (cs : Trees) (r : Rest) → IsRestOf (seq cs) r → IsRestOf (seq (tree c cs)) r
later c cs done h = tt
later c cs (in_seq r ds) h = inr h
later c cs r h = absurd (grind arith)

first-IsRestOf : (c : Tree) (cs : Trees) (r after : Rest) → IsRestOf c r → IsRestOf (seq cs) after
    → IsRestOf (seq (tree c cs)) (elim (is_done r) [ true ↦ after | false ↦ in_seq r cs ])
first-IsRestOf c cs r after h k = go (is_done r)
  where
    go : (b : Bool) → IsRestOf (seq (tree c cs)) (elim b [ true ↦ after | false ↦ in_seq r cs ])
    go true = later c cs after k
    go false = inl (h, refl)

either-IsChosen : (p : Condition) (c : Tree) (ch : Choices) (b : Bool) (q r : Rest) → IsRestOf c q → IsChosen ch r → IsChosen (choice p c ch) (elim b [ true ↦ q | false ↦ r ])
either-IsChosen p c ch true q r h k = inl h
either-IsChosen p c ch false q r h k = inr k

-- an act that is just reached holds no more than its needs
pub early-within : (early : List Place) (s : Step) → held_early early s ≤ length s.needs
early-within early s = go (list_any (same_place s.place) early) s.needs
  where
    go : (b : Bool) (needs : List Need) → elim b [ true ↦ length (take 1 needs) | false ↦ 0 ] ≤ length needs
    go true [] = omega arith
    go true (own ∷ needs) = omega arith
    go false needs = omega arith

pred-within : (n : ℕ) → pred n ≤ n
pred-within n = omega arith

mutual
  pub reach-IsRestOf : (mo : Moment) (c : Tree) → IsRestOf c (reach mo c)
  reach-IsRestOf mo (act s w) = (refl, refl, early-within mo.early s)
  reach-IsRestOf mo skip = tt
  reach-IsRestOf mo (seq cs) = reach_first-IsRestOf mo cs
  reach-IsRestOf mo (par cs) = joined-IsRestOf cs (reach_each mo cs) (reach_each-AreBranches mo cs)
  reach-IsRestOf mo (sel ch) = reach_chosen-IsChosen mo ch
  reach-IsRestOf mo (loop n c body) = turning-IsRestOf n (pred n) c body (reach mo body) (pred-within n) (reach-IsRestOf mo body)

  pub reach_first-IsRestOf : (mo : Moment) (cs : Trees) → IsRestOf (seq cs) (reach_first mo cs)
  reach_first-IsRestOf mo no_trees = tt
  reach_first-IsRestOf mo (tree c cs) = first-IsRestOf c cs (reach mo c) (reach_first mo cs) (reach-IsRestOf mo c) (reach_first-IsRestOf mo cs)

  pub reach_each-AreBranches : (mo : Moment) (cs : Trees) → AreBranches cs (reach_each mo cs)
  reach_each-AreBranches mo no_trees = tt
  reach_each-AreBranches mo (tree c cs) = (reach-IsRestOf mo c, reach_each-AreBranches mo cs)

  pub reach_chosen-IsChosen : (mo : Moment) (ch : Choices) → IsChosen ch (reach_chosen mo ch)
  reach_chosen-IsChosen mo (otherwise c) = reach-IsRestOf mo c
  reach_chosen-IsChosen mo (choice p c ch) =
      either-IsChosen p c ch (holds mo.values p) (reach mo c) (reach_chosen mo ch) (reach-IsRestOf mo c) (reach_chosen-IsChosen mo ch)

again-IsRestOf : (mo : Moment) (n m : ℕ) (c : Condition) (body : Tree) → suc m ≤ n → (b : Bool)
    → IsRestOf (loop n c body) (elim b [ true ↦ done | false ↦ turning m c body (reach mo body) ])
again-IsRestOf mo n m c body lt true = tt
again-IsRestOf mo n m c body lt false = turning-IsRestOf n m c body (reach mo body) (omega arith) (reach-IsRestOf mo body)

turned-IsRestOf : (mo : Moment) (n m : ℕ) (c : Condition) (body : Tree) (r : Rest) → m ≤ n → IsRestOf body r → IsRestOf (loop n c body) (turned mo m c body r)
turned-IsRestOf mo n zero c body r lt h = turning-IsRestOf n 0 c body r lt h
turned-IsRestOf mo n (suc m) c body r lt h = go (is_done r)
  where
    go : (b : Bool)
        → IsRestOf (loop n c body) (elim b [ false ↦ in_loop (suc m) c body r | true ↦ elim (holds mo.values c) [ true ↦ done | false ↦ turning m c body (reach mo body) ] ])
    go false = (lt, refl, refl, h)
    go true = again-IsRestOf mo n m c body lt (holds mo.values c)

-- a branch that has gone on remains one of the branches, or gives way to the next
continued-here : (mo : Moment) (c : Tree) (cs : Trees) (r : Rest) (ds : Trees) → IsRestOf c r → ds ≡ cs
    → IsRestOf (seq (tree c cs)) (continued mo r ds)
continued-here mo c cs r ds h e = go (is_done r)
  where
    after : IsRestOf (seq cs) (reach_first mo ds)
    after = subst (λ x. IsRestOf (seq cs) (reach_first mo x)) (sym e) (reach_first-IsRestOf mo cs)

    go : (b : Bool) → IsRestOf (seq (tree c cs)) (elim b [ true ↦ reach_first mo ds | false ↦ in_seq r ds ])
    go true = later c cs (reach_first mo ds) after
    go false = inl (h, e)

subst₂-loop : (mo : Moment) (n m : ℕ) (c d : Condition) (body b : Tree) (r : Rest) → d ≡ c → b ≡ body
    → IsRestOf (loop n c body) (turned mo m c body r) → IsRestOf (loop n c body) (turned mo m d b r)
subst₂-loop mo n m c d body b r e f h =
    subst (λ x. IsRestOf (loop n c body) (turned mo m x b r)) (sym e) (subst (λ x. IsRestOf (loop n c body) (turned mo m c x r)) (sym f) h)

mutual
  -- a rest of a chart is still one when it has advanced
  pub advance-IsRestOf : (mo : Moment) (c : Tree) (r : Rest) → IsRestOf c r → IsRestOf c (advance mo r)
  advance-IsRestOf mo (act s w) (ready u v k) h = h
  advance-IsRestOf mo (act s w) (asking u v k) h = h
  advance-IsRestOf mo (act s w) (open_act u r) h = (h.0, advance-IsRestBelow mo w r h.1)
  advance-IsRestOf mo (act s w) (live u p x) h = h
  advance-IsRestOf mo (act s w) (freeing u k) h = h
  advance-IsRestOf mo (seq cs) (in_seq r ds) h = advance-IsBranch mo cs r ds h
  advance-IsRestOf mo (par cs) (in_par rs) h = joined-IsRestOf cs (advance_each mo rs) (advance-AreBranches mo cs rs h)
  advance-IsRestOf mo (sel ch) r h = advance-IsChosen mo ch r h
  advance-IsRestOf mo (loop n c body) (in_loop m d b r) h =
      subst₂-loop mo n m c d body b (advance mo r) h.1 h.2 (turned-IsRestOf mo n m c body (advance mo r) h.0 (advance-IsRestOf mo body r h.3))
  advance-IsRestOf mo c done h = done-IsRestOf c
  advance-IsRestOf mo _ _ h = absurd h

  pub advance-IsRestBelow : (mo : Moment) (w : Task) (r : Rest) → IsRestBelow w r → IsRestBelow w (advance mo r)
  advance-IsRestBelow mo (runs p) r h = absurd h
  advance-IsRestBelow mo (follows name c) r h = advance-IsRestOf mo c r h

  pub advance-IsBranch : (mo : Moment) (cs : Trees) (r : Rest) (ds : Trees) → IsBranch cs r ds → IsRestOf (seq cs) (continued mo (advance mo r) ds)
  advance-IsBranch mo no_trees r ds h = absurd h
  advance-IsBranch mo (tree c cs) r ds (inl h) = continued-here mo c cs (advance mo r) ds (advance-IsRestOf mo c r h.0) h.1
  advance-IsBranch mo (tree c cs) r ds (inr h) = later c cs (continued mo (advance mo r) ds) (advance-IsBranch mo cs r ds h)

  pub advance-AreBranches : (mo : Moment) (cs : Trees) (rs : Rests) → AreBranches cs rs → AreBranches cs (advance_each mo rs)
  advance-AreBranches mo no_trees no_rests h = tt
  advance-AreBranches mo (tree c cs) (rest r rs) h = (advance-IsRestOf mo c r h.0, advance-AreBranches mo cs rs h.1)
  advance-AreBranches mo cs rs h = absurd (grind arith)

  pub advance-IsChosen : (mo : Moment) (ch : Choices) (r : Rest) → IsChosen ch r → IsChosen ch (advance mo r)
  advance-IsChosen mo (otherwise c) r h = advance-IsRestOf mo c r h
  advance-IsChosen mo (choice p c ch) r (inl h) = inl (advance-IsRestOf mo c r h)
  advance-IsChosen mo (choice p c ch) r (inr h) = inr (advance-IsChosen mo ch r h)
