-- The list that is gathered over the acts of a rest stays the same when the rest advances.
use Rattle.std.proofs.Common.{arith, ◌≡◌, refl, sym, ◌∙◌, ap, ℕ, zero, suc, pred, List, [], ◌∷◌, ◌++◌, Bool, true, false}
use Rattle.std.{specs.Prelude.flat_map, proofs.lemmas.Grind.flat_map-append, proofs.lemmas.Bool.and_parts}
use Rattle.batch_recipe.specs.{Conditions.holds, declared.condition.Condition.Condition, Tree.Step, Tree.Tree, Tree.act, Tree.skip, Tree.seq, Tree.par, Tree.sel, Tree.loop, Tree.Task, Tree.Trees, Tree.no_trees, Tree.tree, Tree.Choices, Tree.otherwise, Tree.choice}
use Rattle.batch_model.specs.{Rest.Rest, Rest.Moment, Rest.held_early, Rest.ready, Rest.asking, Rest.open_act, Rest.live, Rest.freeing, Rest.in_seq, Rest.in_par, Rest.in_loop, Rest.done, Rest.Rests, Rest.no_rests, Rest.rest, Rest.is_done, Rest.all_done, Rest.joined, Rest.turning, Rest.reach, Rest.reach_first, Rest.reach_each, Rest.reach_chosen, Rest.turned, Rest.advance, Rest.advance_each, Rest.acts, Rest.acts_of_each, Lists.Each, Standing.IsUnbegun, Plant.held_by, Plant.held_in, Plant.phase_states}

pub no-acts_of_done : (r : Rest) → is_done r ≡ true → acts r ≡ []
no-acts_of_done done e = refl
no-acts_of_done (ready s w k) e = absurd cc
no-acts_of_done (asking s w k) e = absurd cc
no-acts_of_done (open_act s r) e = absurd cc
no-acts_of_done (live s p x) e = absurd cc
no-acts_of_done (freeing s k) e = absurd cc
no-acts_of_done (in_seq r cs) e = absurd cc
no-acts_of_done (in_par rs) e = absurd cc
no-acts_of_done (in_loop n c body r) e = absurd cc

pub no-acts_of_all_done : (rs : Rests) → all_done rs ≡ true → acts_of_each rs ≡ []
no-acts_of_all_done no_rests e = refl
no-acts_of_all_done (rest r rs) e =
    let h : (is_done r ≡ true) × (all_done rs ≡ true) = and_parts (is_done r) (all_done rs) e in
    ap (λ xs. xs ++ acts_of_each rs) (no-acts_of_done r h.0) ∙ no-acts_of_all_done rs h.1

-- g gathers nothing from an act that has just been reached, and of an open act looks at its step alone
module _ {X : Type 0} (g : Rest → List X) (mo : Moment) (new : (s : Step) (w : Task) → g (ready s w (held_early mo.early s)) ≡ []) (top : (s : Step) (q r : Rest) → g (open_act s q) ≡ g (open_act s r)) where
  abbrev gathered : Rest → List X
  gathered r = flat_map g (acts r)

  joined-gathered : (rs : Rests) → gathered (joined rs) ≡ flat_map g (acts_of_each rs)
  joined-gathered rs = go (all_done rs) refl
    where
      go : (b : Bool) → all_done rs ≡ b → gathered (elim b [ true ↦ done | false ↦ in_par rs ]) ≡ flat_map g (acts_of_each rs)
      go false e = refl
      go true e = ap (flat_map g) (sym (no-acts_of_all_done rs e))

  turning-gathered : (n : ℕ) (c : Condition) (body : Tree) (r : Rest) → gathered (turning n c body r) ≡ gathered r
  turning-gathered n c body r = go (is_done r) refl
    where
      go : (b : Bool) → is_done r ≡ b → gathered (elim b [ true ↦ done | false ↦ in_loop n c body r ]) ≡ gathered r
      go false e = refl
      go true e = ap (flat_map g) (sym (no-acts_of_done r e))

  in_order-gathered : (r after : Rest) (cs : Trees) → gathered after ≡ [] → gathered (elim (is_done r) [ true ↦ after | false ↦ in_seq r cs ]) ≡ gathered r
  in_order-gathered r after cs h = go (is_done r) refl
    where
      go : (b : Bool) → is_done r ≡ b → gathered (elim b [ true ↦ after | false ↦ in_seq r cs ]) ≡ gathered r
      go false e = refl
      go true e = h ∙ ap (flat_map g) (sym (no-acts_of_done r e))

  either-gathered : (b : Bool) (q r : Rest) → gathered q ≡ [] → gathered r ≡ [] → gathered (elim b [ true ↦ q | false ↦ r ]) ≡ []
  either-gathered true q r h k = h
  either-gathered false q r h k = k

  append-nothing : (xs : List X) → xs ++ [] ≡ xs
  append-nothing [] = refl
  append-nothing (x ∷ xs) = ap (λ ys. x ∷ ys) (append-nothing xs)

  mutual
    -- nothing is gathered from a chart that has just been reached
    pub reach-gathered : (c : Tree) → gathered (reach mo c) ≡ []
    reach-gathered (act s w) = append-nothing (g (ready s w (held_early mo.early s))) ∙ new s w
    reach-gathered skip = refl
    reach-gathered (seq cs) = reach_first-gathered cs
    reach-gathered (par cs) = joined-gathered (reach_each mo cs) ∙ reach_each-gathered cs
    reach-gathered (sel ch) = reach_chosen-gathered ch
    reach-gathered (loop n c body) = turning-gathered (pred n) c body (reach mo body) ∙ reach-gathered body

    pub reach_first-gathered : (cs : Trees) → gathered (reach_first mo cs) ≡ []
    reach_first-gathered no_trees = refl
    reach_first-gathered (tree c cs) = in_order-gathered (reach mo c) (reach_first mo cs) cs (reach_first-gathered cs) ∙ reach-gathered c

    pub reach_each-gathered : (cs : Trees) → flat_map g (acts_of_each (reach_each mo cs)) ≡ []
    reach_each-gathered no_trees = refl
    reach_each-gathered (tree c cs) =
        flat_map-append g (acts (reach mo c)) (acts_of_each (reach_each mo cs))
        ∙ ap (λ xs. xs ++ flat_map g (acts_of_each (reach_each mo cs))) (reach-gathered c)
        ∙ reach_each-gathered cs

    pub reach_chosen-gathered : (ch : Choices) → gathered (reach_chosen mo ch) ≡ []
    reach_chosen-gathered (otherwise c) = reach-gathered c
    reach_chosen-gathered (choice p c ch) = either-gathered (holds mo.values p) (reach mo c) (reach_chosen mo ch) (reach-gathered c) (reach_chosen-gathered ch)

  turned-gathered : (n : ℕ) (c : Condition) (body : Tree) (r : Rest) → gathered (turned mo n c body r) ≡ gathered r
  turned-gathered zero c body r = turning-gathered 0 c body r
  turned-gathered (suc n) c body r = go (is_done r) refl
    where
      go : (b : Bool) → is_done r ≡ b
          → gathered (elim b [ false ↦ in_loop (suc n) c body r | true ↦ elim (holds mo.values c) [ true ↦ done | false ↦ turning n c body (reach mo body) ] ]) ≡ gathered r
      go false e = refl
      go true e =
          either-gathered (holds mo.values c) done (turning n c body (reach mo body)) refl (turning-gathered n c body (reach mo body) ∙ reach-gathered body)
          ∙ ap (flat_map g) (sym (no-acts_of_done r e))

  mutual
    -- the list that is gathered over a rest stays the same when the rest advances
    pub advance-gathered : (r : Rest) → gathered (advance mo r) ≡ gathered r
    advance-gathered (ready s w k) = refl
    advance-gathered (asking s w k) = refl
    advance-gathered (open_act s r) = ap (λ xs. xs ++ gathered (advance mo r)) (top s (advance mo r) r) ∙ ap (λ xs. g (open_act s r) ++ xs) (advance-gathered r)
    advance-gathered (live s p x) = refl
    advance-gathered (freeing s k) = refl
    advance-gathered (in_seq r cs) = in_order-gathered (advance mo r) (reach_first mo cs) cs (reach_first-gathered cs) ∙ advance-gathered r
    advance-gathered (in_par rs) = joined-gathered (advance_each mo rs) ∙ advance_each-gathered rs
    advance-gathered (in_loop n c body r) = turned-gathered n c body (advance mo r) ∙ advance-gathered r
    advance-gathered done = refl

    pub advance_each-gathered : (rs : Rests) → flat_map g (acts_of_each (advance_each mo rs)) ≡ flat_map g (acts_of_each rs)
    advance_each-gathered no_rests = refl
    advance_each-gathered (rest r rs) =
        flat_map-append g (acts (advance mo r)) (acts_of_each (advance_each mo rs))
        ∙ ap (λ xs. xs ++ flat_map g (acts_of_each (advance_each mo rs))) (advance-gathered r)
        ∙ ap (λ xs. flat_map g (acts r) ++ xs) (advance_each-gathered rs)
        ∙ sym (flat_map-append g (acts r) (acts_of_each rs))

-- if nothing is held in advance, an act that has just been reached holds nothing
none-early : (mo : Moment) → mo.early ≡ [] → (s : Step) (w : Task) → held_by (ready s w (held_early mo.early s)) ≡ []
none-early mo none s w = ap (λ early. held_by (ready s w (held_early early s))) none

-- nor does a chart
pub held_in-reach : (mo : Moment) → mo.early ≡ [] → (c : Tree) → held_in (reach mo c) ≡ []
held_in-reach mo none = reach-gathered held_by mo (none-early mo none) (λ s q r. refl)

-- and advancing takes and gives back no resource
pub held_in-advance : (mo : Moment) → mo.early ≡ [] → (r : Rest) → held_in (advance mo r) ≡ held_in r
held_in-advance mo none = advance-gathered held_by mo (none-early mo none) (λ s q r. refl)

phase_states-cons : (a : Rest) (xs : List Rest) → phase_states (a ∷ xs) ≡ phase_states (a ∷ []) ++ phase_states xs
phase_states-cons (ready s w k) xs = refl
phase_states-cons (asking s w k) xs = refl
phase_states-cons (open_act s r) xs = refl
phase_states-cons (live s p x) xs = refl
phase_states-cons (freeing s k) xs = refl
phase_states-cons (in_seq r cs) xs = refl
phase_states-cons (in_par rs) xs = refl
phase_states-cons (in_loop n c body r) xs = refl
phase_states-cons done xs = refl

phase_states-gathered : (xs : List Rest) → flat_map (λ a. phase_states (a ∷ [])) xs ≡ phase_states xs
phase_states-gathered [] = refl
phase_states-gathered (a ∷ xs) = ap (λ ys. phase_states (a ∷ []) ++ ys) (phase_states-gathered xs) ∙ sym (phase_states-cons a xs)

-- a chart that has just been reached runs no phase
pub phase_states-reach : (mo : Moment) (c : Tree) → phase_states (acts (reach mo c)) ≡ []
phase_states-reach mo c =
    sym (phase_states-gathered (acts (reach mo c))) ∙ reach-gathered (λ a. phase_states (a ∷ [])) mo (λ s w. refl) (λ s q r. refl) c

-- advancing changes the states of no phase
pub phase_states-advance : (mo : Moment) (r : Rest) → phase_states (acts (advance mo r)) ≡ phase_states (acts r)
phase_states-advance mo r =
    sym (phase_states-gathered (acts (advance mo r)))
    ∙ advance-gathered (λ a. phase_states (a ∷ [])) mo (λ s w. refl) (λ s q r. refl) r
    ∙ phase_states-gathered (acts r)

-- Acts that have begun

abbrev begun_marks : Rest → List Bool
begun_marks (ready s w k) = []
begun_marks _ = true ∷ []

unmarked : (a : Rest) (ys : List Bool) → begun_marks a ++ ys ≡ [] → IsUnbegun a × (ys ≡ [])
unmarked (ready s w k) ys e = (tt, e)
unmarked a ys e = absurd (grind arith)

all-unbegun : (xs : List Rest) → flat_map begun_marks xs ≡ [] → Each IsUnbegun xs
all-unbegun [] e = tt
all-unbegun (a ∷ xs) e = let first = unmarked a (flat_map begun_marks xs) e in (first.0, all-unbegun xs first.1)

-- no act of a chart that has just been reached has begun
pub reach-unbegun : (mo : Moment) (c : Tree) → Each IsUnbegun (acts (reach mo c))
reach-unbegun mo c = all-unbegun (acts (reach mo c)) (reach-gathered begun_marks mo (λ s w. refl) (λ s q r. refl) c)
