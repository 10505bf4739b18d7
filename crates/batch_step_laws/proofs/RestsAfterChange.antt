-- A change of an act that can remain at its node leaves a rest that can remain of its chart.
use Rattle.std.proofs.Common.{◌≡◌, refl, sym, subst, List, zero, suc, pred, ℕ, Bool, true, false, arith, inl, inr, length, ◌≤◌}
use Rattle.batch_matrix.specs.declared.{state.State.State, command.Command.Command, report.ReportOutcome.ReportOutcome, report.ReportOutcome.TheVariants.Ended, report.ReportOutcome.TheVariants.Now, report.ReportOutcome.TheVariants.Same}
use Rattle.batch_recipe.specs.Tree.{Place, Step, Task, runs, follows, Tree, act, seq, par, sel, loop, Trees, no_trees, tree, Choices, otherwise, choice}
use Rattle.batch_model.{specs.Lists.Has, specs.Rest.same_place, specs.Rest.Rest, specs.Rest.Moment, specs.Rest.ready, specs.Rest.asking, specs.Rest.open_act, specs.Rest.live, specs.Rest.freeing, specs.Rest.in_seq, specs.Rest.in_par, specs.Rest.in_loop, specs.Rest.done, specs.Rest.Rests, specs.Rest.no_rests, specs.Rest.rest, specs.Rest.acts, specs.Rest.acts_of_each, specs.Rest.reach, specs.Rest.changed_at, specs.Rest.changed_in_each, specs.Rest.withdrawn, specs.Rest.withdrawn_each, specs.Rest.place_of, specs.Moves.freed, specs.Moves.sent, specs.Moves.released, specs.Moves.begun, specs.Moves.ended, specs.Events.phase_after, specs.Standing.IsRestOf, specs.Standing.IsRestBelow, specs.Standing.IsBranch, specs.Standing.AreBranches, specs.Standing.IsChosen, proofs.Members.Has-left, proofs.Members.Has-right}
use Rattle.batch_step_laws.proofs.{WorkAfterChange.to_same_place, NodesOfRests.reach-IsRestOf}

-- wherever the act a can remain, b can
abbrev pub RemainsAs : Rest → Rest → Type 0
RemainsAs a b = (s : Step) (w : Task) → IsRestOf (act s w) a → IsRestOf (act s w) b

-- The effect of moves and reports on an act

pub freed-remains : (t : Step) (k : ℕ) (s : Step) (w : Task) → t ≡ s → k ≤ length t.needs → IsRestOf (act s w) (freed t k)
freed-remains t zero s w e h = tt
freed-remains t (suc k) s w e h = (e, omega arith, h)

pub sent-remains : (c : Command) (a : Rest) → RemainsAs a (sent c a)
sent-remains c (live t p x) s w h = h
sent-remains c (ready t v k) s w h = h
sent-remains c (asking t v k) s w h = h
sent-remains c (open_act t r) s w h = h
sent-remains c (freeing t k) s w h = h
sent-remains c done s w h = tt
sent-remains c a s w h = absurd (grind arith)

pub released-remains : (a : Rest) → RemainsAs a (released a)
released-remains (ready t v k) s w h = (h.0, h.1, omega (arith, h.2))
released-remains (open_act t r) s w h = freed-remains t (pred (length t.needs)) s w h.0 (omega arith)
released-remains (freeing t k) s w h = freed-remains t (pred k) s w h.0 (omega (arith, h.2))
released-remains (live t p x) s w h = h
released-remains (asking t v k) s w h = h
released-remains done s w h = tt
released-remains a s w h = absurd (grind arith)

pub ended-remains : (a : Rest) → RemainsAs a (ended a)
ended-remains (open_act t r) s w h = freed-remains t (length t.needs) s w h.0 (omega arith)
ended-remains (live t p x) s w h = freed-remains t (length t.needs) s w h.0 (omega arith)
ended-remains (ready t v k) s w h = h
ended-remains (asking t v k) s w h = h
ended-remains (freeing t k) s w h = h
ended-remains done s w h = tt
ended-remains a s w h = absurd (grind arith)

pub now-remains : (y : State) (a : Rest) → RemainsAs a (phase_after (Now y) a)
now-remains y (live t p x) s w h = h
now-remains y (ready t v k) s w h = h
now-remains y (asking t v k) s w h = h
now-remains y (open_act t r) s w h = h
now-remains y (freeing t k) s w h = h
now-remains y done s w h = tt
now-remains y a s w h = absurd (grind arith)

pub phase_after-remains : (e : ReportOutcome) (a : Rest) → RemainsAs a (phase_after e a)
phase_after-remains Ended a = ended-remains a
phase_after-remains (Now y) a = now-remains y a
phase_after-remains Same a = λ s w h. h

pub begun-remains : (mo : Moment) (t : Step) (v : Task) (k : ℕ) → RemainsAs (ready t v k) (begun mo (ready t v k))
begun-remains mo t (runs p) k s w h = (h.0, sym h.1)
begun-remains mo t (follows name c) k s w h = (h.0, subst (λ z. IsRestBelow z (reach mo c)) h.1 (reach-IsRestOf mo c))

-- A change at a place

module _ (p : Place) (f : Rest → Rest) where
  -- the change leaves each act of the list at the place a possible rest of its node
  abbrev pub KeepsActs : List Rest → Type 0
  KeepsActs as' = (a : Rest) → Has as' a → place_of a ≡ p → RemainsAs a (f a)

  here : (q : Place) (s : Step) (w : Task) (a b : Rest) → (q ≡ p → RemainsAs a (f a)) → IsRestOf (act s w) a → IsRestOf (act s w) b
      → IsRestOf (act s w) (elim (same_place q p) [ true ↦ f a | false ↦ b ])
  here q s w a b k h g = go (same_place q p) refl
    where
      go : (t : Bool) → same_place q p ≡ t → IsRestOf (act s w) (elim t [ true ↦ f a | false ↦ b ])
      go true e = k (to_same_place q p e) s w h
      go false e = g

  mutual
    pub changed_at-IsRestOf : (c : Tree) (r : Rest) → KeepsActs (acts r) → IsRestOf c r → IsRestOf c (changed_at p f r)
    changed_at-IsRestOf (act s w) (ready t v k) keep h = here t.place s w (ready t v k) (ready t v k) (keep (ready t v k) (inl refl)) h h
    changed_at-IsRestOf (act s w) (asking t v k) keep h = here t.place s w (asking t v k) (asking t v k) (keep (asking t v k) (inl refl)) h h
    changed_at-IsRestOf (act s w) (open_act t r) keep h =
        here t.place s w (open_act t r) (open_act t (changed_at p f r)) (keep (open_act t r) (inl refl)) h
        (h.0, changed_at-IsRestBelow w r (λ a i. keep a (inr i)) h.1)
    changed_at-IsRestOf (act s w) (live t x y) keep h = here t.place s w (live t x y) (live t x y) (keep (live t x y) (inl refl)) h h
    changed_at-IsRestOf (act s w) (freeing t k) keep h = here t.place s w (freeing t k) (freeing t k) (keep (freeing t k) (inl refl)) h h
    changed_at-IsRestOf (seq cs) (in_seq r ds) keep h = changed_at-IsBranch cs r ds keep h
    changed_at-IsRestOf (par cs) (in_par rs) keep h = changed_in_each-AreBranches cs rs keep h
    changed_at-IsRestOf (sel ch) r keep h = changed_at-IsChosen ch r keep h
    changed_at-IsRestOf (loop n c body) (in_loop m d b r) keep h = (h.0, h.1, h.2, changed_at-IsRestOf body r keep h.3)
    changed_at-IsRestOf c done keep h = h
    changed_at-IsRestOf _ _ keep h = absurd h

    pub changed_at-IsRestBelow : (w : Task) (r : Rest) → KeepsActs (acts r) → IsRestBelow w r → IsRestBelow w (changed_at p f r)
    changed_at-IsRestBelow (runs x) r keep h = absurd h
    changed_at-IsRestBelow (follows name c) r keep h = changed_at-IsRestOf c r keep h

    pub changed_at-IsBranch : (cs : Trees) (r : Rest) (ds : Trees) → KeepsActs (acts r) → IsBranch cs r ds → IsBranch cs (changed_at p f r) ds
    changed_at-IsBranch no_trees r ds keep h = absurd h
    changed_at-IsBranch (tree c cs) r ds keep (inl h) = inl (changed_at-IsRestOf c r keep h.0, h.1)
    changed_at-IsBranch (tree c cs) r ds keep (inr h) = inr (changed_at-IsBranch cs r ds keep h)

    pub changed_in_each-AreBranches : (cs : Trees) (rs : Rests) → KeepsActs (acts_of_each rs) → AreBranches cs rs → AreBranches cs (changed_in_each p f rs)
    changed_in_each-AreBranches no_trees no_rests keep h = tt
    changed_in_each-AreBranches (tree c cs) (rest r rs) keep h = (
      changed_at-IsRestOf c r (λ a i. keep a (Has-left (acts r) (acts_of_each rs) a i)) h.0,
      changed_in_each-AreBranches cs rs (λ a i. keep a (Has-right (acts r) (acts_of_each rs) a i)) h.1,
    )
    changed_in_each-AreBranches cs rs keep h = grind arith

    pub changed_at-IsChosen : (ch : Choices) (r : Rest) → KeepsActs (acts r) → IsChosen ch r → IsChosen ch (changed_at p f r)
    changed_at-IsChosen (otherwise c) r keep h = changed_at-IsRestOf c r keep h
    changed_at-IsChosen (choice q c ch) r keep (inl h) = inl (changed_at-IsRestOf c r keep h)
    changed_at-IsChosen (choice q c ch) r keep (inr h) = inr (changed_at-IsChosen ch r keep h)

-- Withdrawn asks

mutual
  -- a rest of a chart is still one without its asks
  pub withdrawn-IsRestOf : (c : Tree) (r : Rest) → IsRestOf c r → IsRestOf c (withdrawn r)
  withdrawn-IsRestOf (act s w) (ready t v k) h = h
  withdrawn-IsRestOf (act s w) (asking t v k) h = (h.0, h.1, omega (arith, h.2))
  withdrawn-IsRestOf (act s w) (open_act t r) h = (h.0, withdrawn-IsRestBelow w r h.1)
  withdrawn-IsRestOf (act s w) (live t p x) h = h
  withdrawn-IsRestOf (act s w) (freeing t k) h = h
  withdrawn-IsRestOf (seq cs) (in_seq r ds) h = withdrawn-IsBranch cs r ds h
  withdrawn-IsRestOf (par cs) (in_par rs) h = withdrawn_each-AreBranches cs rs h
  withdrawn-IsRestOf (sel ch) r h = withdrawn-IsChosen ch r h
  withdrawn-IsRestOf (loop n c body) (in_loop m d b r) h = (h.0, h.1, h.2, withdrawn-IsRestOf body r h.3)
  withdrawn-IsRestOf c done h = h
  withdrawn-IsRestOf _ _ h = absurd h

  pub withdrawn-IsRestBelow : (w : Task) (r : Rest) → IsRestBelow w r → IsRestBelow w (withdrawn r)
  withdrawn-IsRestBelow (runs p) r h = absurd h
  withdrawn-IsRestBelow (follows name c) r h = withdrawn-IsRestOf c r h

  pub withdrawn-IsBranch : (cs : Trees) (r : Rest) (ds : Trees) → IsBranch cs r ds → IsBranch cs (withdrawn r) ds
  withdrawn-IsBranch no_trees r ds h = absurd h
  withdrawn-IsBranch (tree c cs) r ds (inl h) = inl (withdrawn-IsRestOf c r h.0, h.1)
  withdrawn-IsBranch (tree c cs) r ds (inr h) = inr (withdrawn-IsBranch cs r ds h)

  pub withdrawn_each-AreBranches : (cs : Trees) (rs : Rests) → AreBranches cs rs → AreBranches cs (withdrawn_each rs)
  withdrawn_each-AreBranches no_trees no_rests h = tt
  withdrawn_each-AreBranches (tree c cs) (rest r rs) h = (withdrawn-IsRestOf c r h.0, withdrawn_each-AreBranches cs rs h.1)
  withdrawn_each-AreBranches cs rs h = absurd (grind arith)

  pub withdrawn-IsChosen : (ch : Choices) (r : Rest) → IsChosen ch r → IsChosen ch (withdrawn r)
  withdrawn-IsChosen (otherwise c) r h = withdrawn-IsRestOf c r h
  withdrawn-IsChosen (choice p c ch) r (inl h) = inl (withdrawn-IsRestOf c r h)
  withdrawn-IsChosen (choice p c ch) r (inr h) = inr (withdrawn-IsChosen ch r h)
