-- A unit procedure that holds a unit in advance is due until its chart is reached, and a due one has a move before it.
use Rattle.std.proofs.Common.{◌≡◌, ◌⊎◌, refl, sym, ◌∙◌, ap, subst, ℕ, zero, suc, ◌+◌, ◌<◌, ◌≤◌, length, List, [], ◌∷◌, ◌++◌, Bool, true, false, Some, None, arith, inl, inr, append-nil}
use Rattle.std.{specs.Prelude.Option, specs.Prelude.find, specs.Prelude.pred, specs.Prelude.option_map, proofs.lemmas.List.append_assoc}
use Rattle.batch_recipe.specs.{Conditions.Name, Conditions.same_name, Conditions.holds, declared.condition.Condition.Condition, Following.Follower, Following.firsts, Following.firsts_of_each, Following.enter, Following.branch, Following.choice_at, Following.following_below, Following.follower, Levels.Level, Levels.is_procedure, Levels.in_procedure, Levels.in_unit_procedure, Levels.in_operation, Levels.below, Nodes.child, Tree.Place, Tree.Step, Tree.Task, Tree.runs, Tree.follows, Tree.Tree, Tree.act, Tree.skip, Tree.seq, Tree.par, Tree.sel, Tree.loop, Tree.Trees, Tree.no_trees, Tree.tree, Tree.Choices, Tree.otherwise, Tree.choice}
use Rattle.batch_model.{specs.Lists.Has, specs.Placed.IsPlaced, specs.Placed.ArePlaced, specs.Placed.IsChoicePlaced, specs.Rest.same_place, specs.Rest.Rest, specs.Rest.ready, specs.Rest.asking, specs.Rest.open_act, specs.Rest.live, specs.Rest.freeing, specs.Rest.in_seq, specs.Rest.in_par, specs.Rest.in_loop, specs.Rest.done, specs.Rest.Rests, specs.Rest.no_rests, specs.Rest.rest, specs.Rest.is_done, specs.Rest.all_done, specs.Rest.joined, specs.Rest.turning, specs.Rest.Moment, specs.Rest.reach, specs.Rest.reach_first, specs.Rest.reach_each, specs.Rest.continued, specs.Rest.turned, specs.Rest.advance, specs.Rest.advance_each, specs.Rest.acts, specs.Rest.acts_of_each, specs.Rest.place_of, specs.Rest.changed_at, specs.Rest.changed_in_each, specs.Settled.IsAdvanced, specs.Settled.AreAdvanced, specs.Standing.after_branch, specs.Standing.due_followers, specs.Standing.due_in_each, specs.Standing.IsAwaited, specs.Standing.IsRestOf, specs.Standing.IsBranch, specs.Standing.AreBranches, specs.Standing.IsChosen, proofs.Members.Has-left, proofs.Members.Has-right, proofs.Members.Has-split, proofs.Members.find-Has}
use Rattle.batch_step_laws.proofs.{WorkAfterChange.to_same_place, ListsOverActs.no-acts_of_done, ListsOverActs.no-acts_of_all_done}

-- Reaching

-- an act of the list stands where the unit procedure does
abbrev pub StandsAt : List Rest → Place → Type 0
StandsAt reached p = (a : Rest) × Has reached a × (place_of a ≡ p)

none-stand : (xs : List Rest) (p : Place) → xs ≡ [] → StandsAt xs p → ⊥
none-stand xs p e h = subst (λ ys. Has ys h.0) e h.1

in_order-stands : (r after : Rest) (cs : Trees) (p : Place) → StandsAt (acts r) p → StandsAt (acts (elim (is_done r) [ true ↦ after | false ↦ in_seq r cs ])) p
in_order-stands r after cs p h = go (is_done r) refl
  where
    go : (b : Bool) → is_done r ≡ b → StandsAt (acts (elim b [ true ↦ after | false ↦ in_seq r cs ])) p
    go true e = absurd (none-stand (acts r) p (no-acts_of_done r e) h)
    go false e = h

turning-stands : (n : ℕ) (c : Condition) (body : Tree) (r : Rest) (p : Place) → StandsAt (acts r) p → StandsAt (acts (turning n c body r)) p
turning-stands n c body r p h = go (is_done r) refl
  where
    go : (b : Bool) → is_done r ≡ b → StandsAt (acts (elim b [ true ↦ done | false ↦ in_loop n c body r ])) p
    go true e = absurd (none-stand (acts r) p (no-acts_of_done r e) h)
    go false e = h

joined-stands : (rs : Rests) (p : Place) → StandsAt (acts_of_each rs) p → StandsAt (acts (joined rs)) p
joined-stands rs p h = go (all_done rs) refl
  where
    go : (b : Bool) → all_done rs ≡ b → StandsAt (acts (elim b [ true ↦ done | false ↦ in_par rs ])) p
    go true e = absurd (none-stand (acts_of_each rs) p (no-acts_of_all_done rs e) h)
    go false e = h

left-stands : (xs ys : List Rest) (p : Place) → StandsAt xs p → StandsAt (xs ++ ys) p
left-stands xs ys p h = (h.0, Has-left xs ys h.0 h.1, h.2)

right-stands : (xs ys : List Rest) (p : Place) → StandsAt ys p → StandsAt (xs ++ ys) p
right-stands xs ys p h = (h.0, Has-right xs ys h.0 h.1, h.2)

mutual
  -- the first unit procedures of a chart are reached with it
  firsts-reached : (mo : Moment) (c : Tree) (f : Follower) → Has (firsts c) f → StandsAt (acts (reach mo c)) f.1
  firsts-reached mo (act s (runs x)) f h = absurd h
  firsts-reached mo (act s (follows name c)) f (inl e) = (reach mo (act s (follows name c)), inl refl, ap (λ g. g.1) e)
  firsts-reached mo (act s (follows name c)) f (inr h) = absurd h
  firsts-reached mo skip f h = absurd h
  firsts-reached mo (seq no_trees) f h = absurd h
  firsts-reached mo (seq (tree c cs)) f h = in_order-stands (reach mo c) (reach_first mo cs) cs f.1 (firsts-reached mo c f h)
  firsts-reached mo (par cs) f h = joined-stands (reach_each mo cs) f.1 (each-reached mo cs f h)
  firsts-reached mo (sel ch) f h = absurd h
  firsts-reached mo (loop n c body) f h = turning-stands (pred n) c body (reach mo body) f.1 (firsts-reached mo body f h)

  each-reached : (mo : Moment) (cs : Trees) (f : Follower) → Has (firsts_of_each cs) f → StandsAt (acts_of_each (reach_each mo cs)) f.1
  each-reached mo no_trees f h = absurd h
  each-reached mo (tree c cs) f h =
      elim (Has-split (firsts c) (firsts_of_each cs) f h) [
        | inl k ↦ left-stands (acts (reach mo c)) (acts_of_each (reach_each mo cs)) f.1 (firsts-reached mo c f k)
        | inr k ↦ right-stands (acts (reach mo c)) (acts_of_each (reach_each mo cs)) f.1 (each-reached mo cs f k)
      ]

enter-reached : (mo : Moment) (level : Level) (c : Tree) (f : Follower) → Has (enter level c) f → StandsAt (acts (reach mo c)) f.1
enter-reached mo in_procedure c f h = firsts-reached mo c f h
enter-reached mo is_procedure c f h = absurd h
enter-reached mo in_unit_procedure c f h = absurd h
enter-reached mo in_operation c f h = absurd h

-- Advancing

pub done-is : (r : Rest) → is_done r ≡ true → r ≡ done
done-is r e = grind arith

each-done-due : (level : Level) (rs : Rests) → all_done rs ≡ true → due_in_each level rs ≡ []
each-done-due level no_rests e = refl
each-done-due level (rest done rs) e = each-done-due level rs e
each-done-due level (rest r rs) e = absurd (grind arith)

-- once the rest has gone on, the unit procedure is reached, or still due
abbrev IsNext : Level → List Follower → Rest → Follower → Type 0
IsNext level next r f = StandsAt (acts r) f.1 ⊎ Has (due_followers level next r) f

module _ (mo : Moment) where
  continued-next : (level : Level) (next : List Follower) (cs : Trees) (f : Follower) (r : Rest)
      → IsNext level (after_branch level next cs) r f → IsNext level next (continued mo r cs) f
  continued-next level next cs f r h = go (is_done r) refl
    where
      at_end : (ds : Trees) → Has (after_branch level next ds) f → IsNext level next (reach_first mo ds) f
      at_end no_trees k = inr k
      at_end (tree c ds) k = inl (in_order-stands (reach mo c) (reach_first mo ds) ds f.1 (enter-reached mo level c f k))

      go : (b : Bool) → is_done r ≡ b → IsNext level next (elim b [ true ↦ reach_first mo cs | false ↦ in_seq r cs ]) f
      go false e = h
      go true e = elim (subst (λ z. IsNext level (after_branch level next cs) z f) (done-is r e) h) [ inl k ↦ absurd k.1 | inr k ↦ at_end cs k ]

  turning-next : (level : Level) (next : List Follower) (n : ℕ) (c : Condition) (body : Tree) (f : Follower) (r after : Rest)
      → IsNext level [] r f → IsNext level next (elim (is_done r) [ true ↦ after | false ↦ in_loop n c body r ]) f
  turning-next level next n c body f r after h = go (is_done r) refl
    where
      go : (b : Bool) → is_done r ≡ b → IsNext level next (elim b [ true ↦ after | false ↦ in_loop n c body r ]) f
      go false e = h
      go true e = elim (subst (λ z. IsNext level [] z f) (done-is r e) h) [ inl k ↦ absurd k.1 | inr k ↦ absurd k ]

  turned-next : (level : Level) (next : List Follower) (n : ℕ) (c : Condition) (body : Tree) (f : Follower) (r : Rest)
      → IsNext level [] r f → IsNext level next (turned mo n c body r) f
  turned-next level next zero c body f r h = turning-next level next 0 c body f r done h
  turned-next level next (suc n) c body f r h =
      turning-next level next (suc n) c body f r (elim (holds mo.values c) [ true ↦ done | false ↦ turning n c body (reach mo body) ]) h

  abbrev AreNext : Level → Rests → Follower → Type 0
  AreNext level rs f = StandsAt (acts_of_each rs) f.1 ⊎ Has (due_in_each level rs) f

  joined-next : (level : Level) (next : List Follower) (rs : Rests) (f : Follower) → AreNext level rs f → IsNext level next (joined rs) f
  joined-next level next rs f h = go (all_done rs) refl
    where
      go : (b : Bool) → all_done rs ≡ b → IsNext level next (elim b [ true ↦ done | false ↦ in_par rs ]) f
      go false e = h
      go true e =
          elim h [
            | inl k ↦ absurd (none-stand (acts_of_each rs) f.1 (no-acts_of_all_done rs e) k)
            | inr k ↦ absurd (subst (λ fs. Has fs f) (each-done-due level rs e) k)
          ]

  mutual
    -- a due follower is reached, or still due, once a rest has advanced
    pub advance-next : (level : Level) (next : List Follower) (r : Rest) (f : Follower) → Has (due_followers level next r) f → IsNext level next (advance mo r) f
    advance-next level next (ready s w k) f h = absurd h
    advance-next level next (asking s w k) f h = absurd h
    advance-next level next (live s x y) f h = absurd h
    advance-next level next (freeing s k) f h = inr h
    advance-next level next done f h = inr h
    advance-next level next (open_act s r) f h =
        elim (advance-next (below level) next r f h) [ inl k ↦ inl (k.0, inr k.1, k.2) | inr k ↦ inr k ]
    advance-next level next (in_seq r cs) f h =
        continued-next level next cs f (advance mo r) (advance-next level (after_branch level next cs) r f h)
    advance-next level next (in_par rs) f h = joined-next level next (advance_each mo rs) f (advance_each-next level rs f h)
    advance-next level next (in_loop n c body r) f h = turned-next level next n c body f (advance mo r) (advance-next level [] r f h)

    advance_each-next : (level : Level) (rs : Rests) (f : Follower) → Has (due_in_each level rs) f → AreNext level (advance_each mo rs) f
    advance_each-next level no_rests f h = absurd h
    advance_each-next level (rest r rs) f h =
        elim (Has-split (due_followers level [] r) (due_in_each level rs) f h) [
          | inl k ↦
              elim (advance-next level [] r f k) [
                | inl m ↦ inl (left-stands (acts (advance mo r)) (acts_of_each (advance_each mo rs)) f.1 m)
                | inr m ↦ inr (Has-left (due_followers level [] (advance mo r)) (due_in_each level (advance_each mo rs)) f m)
              ]
          | inr k ↦
              elim (advance_each-next level rs f k) [
                | inl m ↦ inl (right-stands (acts (advance mo r)) (acts_of_each (advance_each mo rs)) f.1 m)
                | inr m ↦ inr (Has-right (due_followers level [] (advance mo r)) (due_in_each level (advance_each mo rs)) f m)
              ]
        ]

-- Changes at a place

module _ (p : Place) (g : Rest → Rest) (f : Follower) where
  -- the follower, if due, stays so when the acts of the list at the place are changed
  abbrev pub KeepsDue : List Rest → Type 0
  KeepsDue as' = (a : Rest) → Has as' a → place_of a ≡ p → (level : Level) (next : List Follower) → Has (due_followers level next a) f → Has (due_followers level next (g a)) f

  at_place-due : (q : Place) (a b : Rest) (level : Level) (next : List Follower) → (q ≡ p → Has (due_followers level next (g a)) f) → Has (due_followers level next b) f
      → Has (due_followers level next (elim (same_place q p) [ true ↦ g a | false ↦ b ])) f
  at_place-due q a b level next h k = go (same_place q p) refl
    where
      go : (t : Bool) → same_place q p ≡ t → Has (due_followers level next (elim t [ true ↦ g a | false ↦ b ])) f
      go true e = h (to_same_place q p e)
      go false e = k

  mutual
    pub changed-due : (level : Level) (next : List Follower) (r : Rest) → KeepsDue (acts r) → Has (due_followers level next r) f → Has (due_followers level next (changed_at p g r)) f
    changed-due level next (ready s w k) keep h = absurd h
    changed-due level next (asking s w k) keep h = absurd h
    changed-due level next (live s x y) keep h = absurd h
    changed-due level next (freeing s k) keep h =
        at_place-due s.place (freeing s k) (freeing s k) level next (λ e. keep (freeing s k) (inl refl) e level next h) h
    changed-due level next (open_act s r) keep h =
        at_place-due s.place (open_act s r) (open_act s (changed_at p g r)) level next (λ e. keep (open_act s r) (inl refl) e level next h)
        (changed-due (below level) next r (λ a i. keep a (inr i)) h)
    changed-due level next (in_seq r cs) keep h = changed-due level (after_branch level next cs) r keep h
    changed-due level next (in_par rs) keep h = changed_in_each-due level rs keep h
    changed-due level next (in_loop n c body r) keep h = changed-due level [] r keep h
    changed-due level next done keep h = h

    changed_in_each-due : (level : Level) (rs : Rests) → KeepsDue (acts_of_each rs) → Has (due_in_each level rs) f → Has (due_in_each level (changed_in_each p g rs)) f
    changed_in_each-due level no_rests keep h = h
    changed_in_each-due level (rest r rs) keep h =
        elim (Has-split (due_followers level [] r) (due_in_each level rs) f h) [
          | inl k ↦
              Has-left (due_followers level [] (changed_at p g r)) (due_in_each level (changed_in_each p g rs)) f
              (changed-due level [] r (λ a i. keep a (Has-left (acts r) (acts_of_each rs) a i)) k)
          | inr k ↦
              Has-right (due_followers level [] (changed_at p g r)) (due_in_each level (changed_in_each p g rs)) f
              (changed_in_each-due level rs (λ a i. keep a (Has-right (acts r) (acts_of_each rs) a i)) k)
        ]

-- The followers of an act that is freeing

-- the place of the act below that of the tree; its followers there are due
pub record Leaves (level : Level) (next : List Follower) (base : Place) (c : Tree) (r : Rest) (s : Step) (k : ℕ) : Type 0 where
  pub below : Place
  pub place : s.place ≡ base ++ below
  pub some : 0 < k
  pub within : k ≤ length s.needs
  pub follow : (f : Follower) → Has (following_below level next c below) f → Has (due_followers level next r) f

-- the same below a child with this number or a later one, of which `tree_at` gives the trees and `next_at` the followers
pub record LeavesBranch (level : Level) (tree_at : ℕ → Option Tree) (next_at : ℕ → List Follower) (base : Place) (i : ℕ) (coming : List Follower) (s : Step) (k : ℕ) : Type 0 where
  pub number : ℕ
  pub below : Place
  pub place : s.place ≡ base ++ (i + number) ∷ below
  pub some : 0 < k
  pub within : k ≤ length s.needs
  pub follow : (f : Follower)
      → Has (elim (tree_at number) [ None ↦ [] | Some c ↦ following_below level (next_at number) c below ]) f
      → Has coming f

-- in a branch that is child i
at_first : (level : Level) (next : List Follower) (tree_at : ℕ → Option Tree) (next_at : ℕ → List Follower) (base : Place) (i : ℕ) (c : Tree) (r : Rest) (s : Step) (k : ℕ)
    → tree_at 0 ≡ Some c → next_at 0 ≡ next → Leaves level next (child base i) c r s k → LeavesBranch level tree_at next_at base i (due_followers level next r) s k
at_first level next tree_at next_at base i c r s k is after l =
    record {
      number = 0;
      below = l.below;
      place = l.place ∙ append_assoc base (i ∷ []) l.below ∙ ap (λ j. base ++ j ∷ l.below) (omega arith);
      some = l.some;
      within = l.within;
      follow = λ f h.
          l.follow f
          (subst (λ n. Has (following_below level n c l.below) f) after
          (subst (λ o. Has (elim o [ None ↦ [] | Some d ↦ following_below level (next_at 0) d l.below ]) f) is h));
    }

-- or in a later one
at_later : (level : Level) (tree_at : ℕ → Option Tree) (next_at : ℕ → List Follower) (base : Place) (i : ℕ) (coming : List Follower) (s : Step) (k : ℕ)
    → LeavesBranch level (λ n. tree_at (suc n)) (λ n. next_at (suc n)) base (i + 1) coming s k → LeavesBranch level tree_at next_at base i coming s k
at_later level tree_at next_at base i coming s k l =
    record {
      number = suc l.number;
      below = l.below;
      place = l.place ∙ ap (λ j. base ++ j ∷ l.below) (omega arith);
      some = l.some;
      within = l.within;
      follow = l.follow;
    }

-- after a branch
abbrev next_in : Level → List Follower → Trees → ℕ → List Follower
next_in level next cs n = elim (branch cs (suc n)) [ None ↦ next | Some c ↦ enter level c ]

next_in-first : (level : Level) (next : List Follower) (c : Tree) (cs : Trees) → next_in level next (tree c cs) 0 ≡ after_branch level next cs
next_in-first level next c no_trees = refl
next_in-first level next c (tree d ds) = refl

module _ (s : Step) (k : ℕ) where
  at_act : (level : Level) (next : List Follower) (base : Place) (t u : Step) (w : Task) (j : ℕ) → t ≡ u → u.place ≡ base → 0 < j → j ≤ length t.needs
      → freeing t j ≡ freeing s k → Leaves level next base (act u w) (freeing t j) s k
  at_act level next base t u w j e at some within same =
      let step : t ≡ s = cc in
      let number : j ≡ k = cc in
      record {
        below = [];
        place = ap (λ z. z.place) (sym step) ∙ ap (λ z. z.place) e ∙ at ∙ sym (append-nil base);
        some = subst (λ n. 0 < n) number some;
        within = subst (λ n. n ≤ length s.needs) number (subst (λ z. j ≤ length z.needs) step within);
        follow = λ f h. h;
      }

  at_0 : (base : Place) (n : ℕ) (below : Place) → s.place ≡ base ++ (0 + n) ∷ below → s.place ≡ base ++ n ∷ below
  at_0 base n below e = e ∙ ap (λ j. base ++ j ∷ below) (omega arith)

  mutual
    pub leaves : (level : Level) (next : List Follower) (base : Place) (c : Tree) (r : Rest) → IsPlaced base c → IsRestOf c r → Has (acts r) (freeing s k) → Leaves level next base c r s k
    leaves level next base (act u w) (freeing t j) l h (inl e) = at_act level next base t u w j h.0 l.0 h.1 h.2 e
    leaves level next base (act u w) (freeing t j) l h (inr i) = absurd i
    leaves level next base (act u (follows name c)) (open_act t r) l h (inl e) = absurd cc
    leaves level next base (act u (follows name c)) (open_act t r) l h (inr i) =
        let m = leaves (below level) next (child base 0) c r l.1 h.1 i in
        record { below = 0 ∷ m.below; place = m.place ∙ append_assoc base (0 ∷ []) m.below; some = m.some; within = m.within; follow = m.follow }
    leaves level next base (seq cs) (in_seq r ds) l h i =
        let m = leaves_branch level next base 0 cs r ds l h i in
        record { below = m.number ∷ m.below; place = at_0 base m.number m.below m.place; some = m.some; within = m.within; follow = m.follow }
    leaves level next base (par cs) (in_par rs) l h i =
        let m = leaves_each level base 0 cs rs l h i in
        record { below = m.number ∷ m.below; place = at_0 base m.number m.below m.place; some = m.some; within = m.within; follow = m.follow }
    leaves level next base (sel ch) r l h i =
        let m = leaves_chosen level next base 0 ch r l h i in
        record { below = m.number ∷ m.below; place = at_0 base m.number m.below m.place; some = m.some; within = m.within; follow = m.follow }
    leaves level next base (loop n c body) (in_loop j d b r) l h i =
        let m = leaves level [] (child base 0) body r l h.3 i in
        record { below = 0 ∷ m.below; place = m.place ∙ append_assoc base (0 ∷ []) m.below; some = m.some; within = m.within; follow = m.follow }
    leaves level next base c r l h i = absurd (grind arith)

    leaves_branch : (level : Level) (next : List Follower) (base : Place) (i : ℕ) (cs : Trees) (r : Rest) (ds : Trees) → ArePlaced base i cs → IsBranch cs r ds
        → Has (acts r) (freeing s k) → LeavesBranch level (branch cs) (next_in level next cs) base i (due_followers level (after_branch level next ds) r) s k
    leaves_branch level next base i no_trees r ds l h m = absurd h
    leaves_branch level next base i (tree c cs) r ds l (inl h) m =
        at_first level (after_branch level next ds) (branch (tree c cs)) (next_in level next (tree c cs)) base i c r s k refl
        (next_in-first level next c cs ∙ ap (after_branch level next) (sym h.1)) (leaves level (after_branch level next ds) (child base i) c r l.0 h.0 m)
    leaves_branch level next base i (tree c cs) r ds l (inr h) m =
        at_later level (branch (tree c cs)) (next_in level next (tree c cs)) base i (due_followers level (after_branch level next ds) r) s k
        (leaves_branch level next base (i + 1) cs r ds l.1 h m)

    leaves_each : (level : Level) (base : Place) (i : ℕ) (cs : Trees) (rs : Rests) → ArePlaced base i cs → AreBranches cs rs
        → Has (acts_of_each rs) (freeing s k) → LeavesBranch level (branch cs) (λ n. []) base i (due_in_each level rs) s k
    leaves_each level base i no_trees no_rests l h m = absurd m
    leaves_each level base i (tree c cs) (rest r rs) l h m =
        elim (Has-split (acts r) (acts_of_each rs) (freeing s k) m) [
          | inl n ↦
              let z = at_first level [] (branch (tree c cs)) (λ n. []) base i c r s k refl refl (leaves level [] (child base i) c r l.0 h.0 n) in
              record {
                number = z.number;
                below = z.below;
                place = z.place;
                some = z.some;
                within = z.within;
                follow = λ f q. Has-left (due_followers level [] r) (due_in_each level rs) f (z.follow f q);
              }
          | inr n ↦
              let z = at_later level (branch (tree c cs)) (λ n. []) base i (due_in_each level rs) s k (leaves_each level base (i + 1) cs rs l.1 h.1 n) in
              record {
                number = z.number;
                below = z.below;
                place = z.place;
                some = z.some;
                within = z.within;
                follow = λ f q. Has-right (due_followers level [] r) (due_in_each level rs) f (z.follow f q);
              }
        ]
    leaves_each level base i cs rs l h m = absurd (grind arith)

    leaves_chosen : (level : Level) (next : List Follower) (base : Place) (i : ℕ) (ch : Choices) (r : Rest) → IsChoicePlaced base i ch → IsChosen ch r
        → Has (acts r) (freeing s k) → LeavesBranch level (choice_at ch) (λ n. next) base i (due_followers level next r) s k
    leaves_chosen level next base i (otherwise c) r l h m =
        at_first level next (choice_at (otherwise c)) (λ n. next) base i c r s k refl refl (leaves level next (child base i) c r l h m)
    leaves_chosen level next base i (choice q c ch) r l (inl h) m =
        at_first level next (choice_at (choice q c ch)) (λ n. next) base i c r s k refl refl (leaves level next (child base i) c r l.0 h m)
    leaves_chosen level next base i (choice q c ch) r l (inr h) m =
        at_later level (choice_at (choice q c ch)) (λ n. next) base i (due_followers level next r) s k (leaves_chosen level next base (i + 1) ch r l.1 h m)

-- a follower that is found in a list is in it
found-follower : (fs : List Follower) (name : Name) (to : Place) → option_map (λ (f : Follower). f.1) (find (λ (f : Follower). same_name f.0 name) fs) ≡ Some to
    → (f : Follower) × Has fs f × (f.1 ≡ to)
found-follower fs name to e = go (find (λ (f : Follower). same_name f.0 name) fs) refl e
  where
    go : (o : Option Follower) → find (λ (f : Follower). same_name f.0 name) fs ≡ o → option_map (λ (f : Follower). f.1) o ≡ Some to
        → (f : Follower) × Has fs f × (f.1 ≡ to)
    go None h k = absurd cc
    go (Some f) h k = (f, find-Has (λ (g : Follower). same_name g.0 name) fs f h, cc)

-- a unit procedure that follows an act that is freeing is due
pub follower-due : (c : Tree) (r : Rest) (s : Step) (k : ℕ) (name : Name) (to : Place) → IsPlaced (0 ∷ []) c → IsRestOf c r → Has (acts r) (freeing s k)
    → follower c s.place name ≡ Some to → IsAwaited r to
follower-due c r s k name to l h i is =
    let m = leaves s k is_procedure [] (0 ∷ []) c r l h i in
    let at : follower c (0 ∷ m.below) name ≡ Some to = subst (λ p. follower c p name ≡ Some to) m.place is in
    let found = found-follower (following_below is_procedure [] c m.below) name to at in
    (found.0.0, subst (λ p. Has (due_followers is_procedure [] r) (found.0.0, p)) found.2 (m.follow found.0 found.1))

-- Acts that have a move

-- an act that is freeing, or open with nothing left in its chart
abbrev pub IsLeaving : Rest → Type 0
IsLeaving (freeing s k) = Unit {0}
IsLeaving (open_act s r) = is_done r ≡ true
IsLeaving _ = ⊥

abbrev pub HasLeaving : List Rest → Type 0
HasLeaving reached = (a : Rest) × Has reached a × IsLeaving a

mutual
  -- if something is due, some act leaves its place, or the rest is finished
  leaving : (level : Level) (next : List Follower) (r : Rest) (f : Follower) → IsAdvanced r → Has (due_followers level next r) f → (is_done r ≡ true) ⊎ HasLeaving (acts r)
  leaving level next (ready s w k) f h i = absurd i
  leaving level next (asking s w k) f h i = absurd i
  leaving level next (live s x y) f h i = absurd i
  leaving level next (freeing s k) f h i = inr (freeing s k, inl refl, tt)
  leaving level next (open_act s r) f h i =
      elim (leaving (below level) next r f h i) [ inl e ↦ inr (open_act s r, inl refl, e) | inr m ↦ inr (m.0, inr m.1, m.2) ]
  leaving level next (in_seq r cs) f h i =
      elim (leaving level (after_branch level next cs) r f h.1 i) [ inl e ↦ absurd cc | inr m ↦ inr m ]
  leaving level next (in_par rs) f h i = inr (leaving_each level rs f h.1 i)
  leaving level next (in_loop n c body r) f h i = elim (leaving level [] r f h.1 i) [ inl e ↦ absurd cc | inr m ↦ inr m ]
  leaving level next done f h i = inl refl

  leaving_each : (level : Level) (rs : Rests) (f : Follower) → AreAdvanced rs → Has (due_in_each level rs) f → HasLeaving (acts_of_each rs)
  leaving_each level no_rests f h i = absurd i
  leaving_each level (rest r rs) f h i =
      elim (Has-split (due_followers level [] r) (due_in_each level rs) f i) [
        | inl k ↦
            elim (leaving level [] r f h.0 k) [
              | inl e ↦ absurd (subst (λ z. Has (due_followers level [] z) f) (done-is r e) k)
              | inr m ↦ (m.0, Has-left (acts r) (acts_of_each rs) m.0 m.1, m.2)
            ]
        | inr k ↦ (let m = leaving_each level rs f h.1 k in (m.0, Has-right (acts r) (acts_of_each rs) m.0 m.1, m.2))
      ]

pub leaving_in : (r : Rest) (p : Place) → IsAdvanced r → IsAwaited r p → HasLeaving (acts r)
leaving_in r p h i =
    elim (leaving is_procedure [] r (i.0, p) h i.1)
    [ inl e ↦ absurd (subst (λ z. Has (due_followers is_procedure [] z) (i.0, p)) (done-is r e) i.1) | inr m ↦ m ]
