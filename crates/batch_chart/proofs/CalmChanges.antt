-- A change by which nothing is finished leaves nothing to go on with.
use Rattle.std.proofs.Common.{◌≡◌, inl, inr, ℕ, zero, suc, List, Bool, true, false, ◌&&◌, refl, ◌∙◌, ap, ap₂}
use Rattle.batch_recipe.specs.{Conditions.holds, declared.condition.Condition.Condition, Tree.Place, Tree.Tree}
use Rattle.batch_model.{specs.Lists.Has, specs.Rest.same_place, specs.Rest.Rest, specs.Rest.Moment, specs.Rest.ready, specs.Rest.asking, specs.Rest.open_act, specs.Rest.live, specs.Rest.freeing, specs.Rest.in_seq, specs.Rest.in_par, specs.Rest.in_loop, specs.Rest.done, specs.Rest.Rests, specs.Rest.no_rests, specs.Rest.rest, specs.Rest.acts, specs.Rest.acts_of_each, specs.Rest.changed_at, specs.Rest.changed_in_each, specs.Rest.is_done, specs.Rest.all_done, specs.Rest.joined, specs.Rest.continued, specs.Rest.turned, specs.Rest.turning, specs.Rest.reach, specs.Rest.reach_first, specs.Rest.advance, specs.Rest.advance_each, specs.Rest.place_of, specs.Settled.IsAdvanced, specs.Settled.AreAdvanced, proofs.Members.Has-left, proofs.Members.Has-right}
use Rattle.batch_step_laws.proofs.WorkAfterChange.{to_same_place}
use Rattle.batch_chart.proofs.KnownTests.{chosen-false}

pub turned-still : (mo : Moment) (k : ℕ) (p : Condition) (body : Tree) (b : Rest) → is_done b ≡ false → turned mo k p body b ≡ in_loop k p body b
turned-still mo zero p body b e = chosen-false (is_done b) done (in_loop 0 p body b) e
turned-still mo (suc k) p body b e = chosen-false (is_done b) (elim (holds mo.values p) as (λ _. Rest) [ true ↦ done | false ↦ turning k p body (reach mo body) ]) (in_loop (suc k) p body b) e

mutual
  -- an advanced rest doesn't advance any further
  pub advanced-still : (mo : Moment) (r : Rest) → IsAdvanced r → advance mo r ≡ r
  advanced-still mo (open_act s r) h = ap (open_act s) (advanced-still mo r h)
  advanced-still mo (in_seq r ts) h =
      ap (λ z. continued mo z ts) (advanced-still mo r h.1) ∙ chosen-false (is_done r) (reach_first mo ts) (in_seq r ts) h.0
  advanced-still mo (in_par rs) h = ap joined (each-still mo rs h.1) ∙ chosen-false (all_done rs) done (in_par rs) h.0
  advanced-still mo (in_loop n c body r) h = ap (λ z. turned mo n c body z) (advanced-still mo r h.1) ∙ turned-still mo n c body r h.0
  advanced-still mo x h = refl

  each-still : (mo : Moment) (rs : Rests) → AreAdvanced rs → advance_each mo rs ≡ rs
  each-still mo no_rests h = refl
  each-still mo (rest r rs) h = ap₂ rest (advanced-still mo r h.0) (each-still mo rs h.1)

module _ (p : Place) (f : Rest → Rest) where
  -- the acts of the list that stand at the place go on as acts
  abbrev pub KeepsCalm : List Rest → Type 0
  KeepsCalm as' = (a : Rest) → Has as' a → place_of a ≡ p → (is_done (f a) ≡ false) × IsAdvanced (f a)

  here-done : (q : Place) (a b : Rest) → (q ≡ p → is_done (f a) ≡ false) → is_done b ≡ false → is_done (elim (same_place q p) as (λ _. Rest) [ true ↦ f a | false ↦ b ]) ≡ false
  here-done q a b k h = go (same_place q p) refl
    where
      go : (t : Bool) → same_place q p ≡ t → is_done (elim t as (λ _. Rest) [ true ↦ f a | false ↦ b ]) ≡ false
      go true e = k (to_same_place q p e)
      go false e = h

  here-advanced : (q : Place) (a b : Rest) → (q ≡ p → IsAdvanced (f a)) → IsAdvanced b → IsAdvanced (elim (same_place q p) as (λ _. Rest) [ true ↦ f a | false ↦ b ])
  here-advanced q a b k h = go (same_place q p) refl
    where
      go : (t : Bool) → same_place q p ≡ t → IsAdvanced (elim t as (λ _. Rest) [ true ↦ f a | false ↦ b ])
      go true e = k (to_same_place q p e)
      go false e = h

  -- a rest that is done stays so, and one that isn't doesn't become it
  mutual
    changed-done : (r : Rest) → KeepsCalm (acts r) → is_done (changed_at p f r) ≡ is_done r
    changed-done (ready s w k) h = here-done s.place (ready s w k) (ready s w k) (λ e. (h (ready s w k) (inl refl) e).0) refl
    changed-done (asking s w k) h = here-done s.place (asking s w k) (asking s w k) (λ e. (h (asking s w k) (inl refl) e).0) refl
    changed-done (open_act s r) h = here-done s.place (open_act s r) (open_act s (changed_at p f r)) (λ e. (h (open_act s r) (inl refl) e).0) refl
    changed-done (live s x t) h = here-done s.place (live s x t) (live s x t) (λ e. (h (live s x t) (inl refl) e).0) refl
    changed-done (freeing s k) h = here-done s.place (freeing s k) (freeing s k) (λ e. (h (freeing s k) (inl refl) e).0) refl
    changed-done x h = refl

    changed-all : (rs : Rests) → KeepsCalm (acts_of_each rs) → all_done (changed_in_each p f rs) ≡ all_done rs
    changed-all no_rests h = refl
    changed-all (rest r rs) h =
        ap₂ (λ a b. a && b) (changed-done r (λ a i. h a (Has-left (acts r) (acts_of_each rs) a i)))
        (changed-all rs (λ a i. h a (Has-right (acts r) (acts_of_each rs) a i)))

  mutual
    pub changed-advanced : (r : Rest) → KeepsCalm (acts r) → IsAdvanced r → IsAdvanced (changed_at p f r)
    changed-advanced (ready s w k) h a = here-advanced s.place (ready s w k) (ready s w k) (λ e. (h (ready s w k) (inl refl) e).1) tt
    changed-advanced (asking s w k) h a = here-advanced s.place (asking s w k) (asking s w k) (λ e. (h (asking s w k) (inl refl) e).1) tt
    changed-advanced (open_act s r) h a =
        here-advanced s.place (open_act s r) (open_act s (changed_at p f r)) (λ e. (h (open_act s r) (inl refl) e).1) (changed-advanced r (λ b i. h b (inr i)) a)
    changed-advanced (live s x t) h a = here-advanced s.place (live s x t) (live s x t) (λ e. (h (live s x t) (inl refl) e).1) tt
    changed-advanced (freeing s k) h a = here-advanced s.place (freeing s k) (freeing s k) (λ e. (h (freeing s k) (inl refl) e).1) tt
    changed-advanced (in_seq r cs) h a = (changed-done r h ∙ a.0, changed-advanced r h a.1)
    changed-advanced (in_par rs) h a = (changed-all rs h ∙ a.0, each-advanced rs h a.1)
    changed-advanced (in_loop n c body r) h a = (changed-done r h ∙ a.0, changed-advanced r h a.1)
    changed-advanced done h a = tt

    each-advanced : (rs : Rests) → KeepsCalm (acts_of_each rs) → AreAdvanced rs → AreAdvanced (changed_in_each p f rs)
    each-advanced no_rests h a = tt
    each-advanced (rest r rs) h a = (
      changed-advanced r (λ b i. h b (Has-left (acts r) (acts_of_each rs) b i)) a.0,
      each-advanced rs (λ b i. h b (Has-right (acts r) (acts_of_each rs) b i)) a.1,
    )
