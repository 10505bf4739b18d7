-- After `reach`, `advance` and the withdrawal of asks nothing is left to be reached.
use Rattle.std.proofs.Common.{arith, ◌≡◌, refl, ◌∙◌, ap₂, ◌&&◌, ℕ, zero, suc, pred, Bool, true, false}
use Rattle.batch_recipe.specs.{Conditions.holds, declared.condition.Condition.Condition, Tree.Tree, Tree.act, Tree.skip, Tree.seq, Tree.par, Tree.sel, Tree.loop, Tree.Trees, Tree.no_trees, Tree.tree, Tree.Choices, Tree.otherwise, Tree.choice}
use Rattle.batch_model.specs.{Rest.Rest, Rest.Moment, Rest.ready, Rest.asking, Rest.open_act, Rest.live, Rest.freeing, Rest.in_seq, Rest.in_par, Rest.in_loop, Rest.done, Rest.Rests, Rest.no_rests, Rest.rest, Rest.is_done, Rest.all_done, Rest.joined, Rest.turning, Rest.reach, Rest.reach_first, Rest.reach_each, Rest.reach_chosen, Rest.turned, Rest.advance, Rest.advance_each, Rest.withdrawn, Rest.withdrawn_each, Settled.IsAdvanced, Settled.AreAdvanced}

joined-advanced : (rs : Rests) → AreAdvanced rs → IsAdvanced (joined rs)
joined-advanced rs h = go (all_done rs) refl
  where
    go : (b : Bool) → all_done rs ≡ b → IsAdvanced (elim b [ true ↦ done | false ↦ in_par rs ])
    go true e = tt
    go false e = (e, h)

turning-advanced : (n : ℕ) (c : Condition) (body : Tree) (r : Rest) → IsAdvanced r → IsAdvanced (turning n c body r)
turning-advanced n c body r h = go (is_done r) refl
  where
    go : (b : Bool) → is_done r ≡ b → IsAdvanced (elim b [ true ↦ done | false ↦ in_loop n c body r ])
    go true e = tt
    go false e = (e, h)

in_order-advanced : (r after : Rest) (cs : Trees) → IsAdvanced r → IsAdvanced after → IsAdvanced (elim (is_done r) [ true ↦ after | false ↦ in_seq r cs ])
in_order-advanced r after cs h k = go (is_done r) refl
  where
    go : (b : Bool) → is_done r ≡ b → IsAdvanced (elim b [ true ↦ after | false ↦ in_seq r cs ])
    go true e = k
    go false e = (e, h)

either-advanced : (b : Bool) (q r : Rest) → IsAdvanced q → IsAdvanced r → IsAdvanced (elim b [ true ↦ q | false ↦ r ])
either-advanced true q r h k = h
either-advanced false q r h k = k

mutual
  pub reach-advanced : (mo : Moment) (c : Tree) → IsAdvanced (reach mo c)
  reach-advanced mo (act s w) = tt
  reach-advanced mo skip = tt
  reach-advanced mo (seq cs) = reach_first-advanced mo cs
  reach-advanced mo (par cs) = joined-advanced (reach_each mo cs) (reach_each-advanced mo cs)
  reach-advanced mo (sel ch) = reach_chosen-advanced mo ch
  reach-advanced mo (loop n c body) = turning-advanced (pred n) c body (reach mo body) (reach-advanced mo body)

  pub reach_first-advanced : (mo : Moment) (cs : Trees) → IsAdvanced (reach_first mo cs)
  reach_first-advanced mo no_trees = tt
  reach_first-advanced mo (tree c cs) = in_order-advanced (reach mo c) (reach_first mo cs) cs (reach-advanced mo c) (reach_first-advanced mo cs)

  pub reach_each-advanced : (mo : Moment) (cs : Trees) → AreAdvanced (reach_each mo cs)
  reach_each-advanced mo no_trees = tt
  reach_each-advanced mo (tree c cs) = (reach-advanced mo c, reach_each-advanced mo cs)

  pub reach_chosen-advanced : (mo : Moment) (ch : Choices) → IsAdvanced (reach_chosen mo ch)
  reach_chosen-advanced mo (otherwise c) = reach-advanced mo c
  reach_chosen-advanced mo (choice p c ch) = either-advanced (holds mo.values p) (reach mo c) (reach_chosen mo ch) (reach-advanced mo c) (reach_chosen-advanced mo ch)

turned-advanced : (mo : Moment) (n : ℕ) (c : Condition) (body : Tree) (r : Rest) → IsAdvanced r → IsAdvanced (turned mo n c body r)
turned-advanced mo zero c body r h = turning-advanced 0 c body r h
turned-advanced mo (suc n) c body r h = go (is_done r) refl
  where
    go : (b : Bool) → is_done r ≡ b
        → IsAdvanced (elim b [ false ↦ in_loop (suc n) c body r | true ↦ elim (holds mo.values c) [ true ↦ done | false ↦ turning n c body (reach mo body) ] ])
    go false e = (e, h)
    go true e = either-advanced (holds mo.values c) done (turning n c body (reach mo body)) tt (turning-advanced n c body (reach mo body) (reach-advanced mo body))

mutual
  -- nothing is left to be reached once a rest has advanced
  pub advance-advanced : (mo : Moment) (r : Rest) → IsAdvanced (advance mo r)
  advance-advanced mo (ready s w k) = tt
  advance-advanced mo (asking s w k) = tt
  advance-advanced mo (open_act s r) = advance-advanced mo r
  advance-advanced mo (live s p x) = tt
  advance-advanced mo (freeing s k) = tt
  advance-advanced mo (in_seq r cs) = in_order-advanced (advance mo r) (reach_first mo cs) cs (advance-advanced mo r) (reach_first-advanced mo cs)
  advance-advanced mo (in_par rs) = joined-advanced (advance_each mo rs) (advance_each-advanced mo rs)
  advance-advanced mo (in_loop n c body r) = turned-advanced mo n c body (advance mo r) (advance-advanced mo r)
  advance-advanced mo done = tt

  pub advance_each-advanced : (mo : Moment) (rs : Rests) → AreAdvanced (advance_each mo rs)
  advance_each-advanced mo no_rests = tt
  advance_each-advanced mo (rest r rs) = (advance-advanced mo r, advance_each-advanced mo rs)

-- Withdrawn asks

pub withdrawn-done : (r : Rest) → is_done (withdrawn r) ≡ is_done r
withdrawn-done r = grind arith

withdrawn_each-all_done : (rs : Rests) → all_done (withdrawn_each rs) ≡ all_done rs
withdrawn_each-all_done no_rests = refl
withdrawn_each-all_done (rest r rs) = ap₂ (λ a b. a && b) (withdrawn-done r) (withdrawn_each-all_done rs)

mutual
  -- nor is anything left to be reached once its asks are withdrawn
  pub withdrawn-advanced : (r : Rest) → IsAdvanced r → IsAdvanced (withdrawn r)
  withdrawn-advanced (ready s w k) h = tt
  withdrawn-advanced (asking s w k) h = tt
  withdrawn-advanced (open_act s r) h = withdrawn-advanced r h
  withdrawn-advanced (live s p x) h = tt
  withdrawn-advanced (freeing s k) h = tt
  withdrawn-advanced (in_seq r cs) h = (withdrawn-done r ∙ h.0, withdrawn-advanced r h.1)
  withdrawn-advanced (in_par rs) h = (withdrawn_each-all_done rs ∙ h.0, withdrawn_each-advanced rs h.1)
  withdrawn-advanced (in_loop n c body r) h = (withdrawn-done r ∙ h.0, withdrawn-advanced r h.1)
  withdrawn-advanced done h = tt

  pub withdrawn_each-advanced : (rs : Rests) → AreAdvanced rs → AreAdvanced (withdrawn_each rs)
  withdrawn_each-advanced no_rests h = tt
  withdrawn_each-advanced (rest r rs) h = (withdrawn-advanced r h.0, withdrawn_each-advanced rs h.1)
