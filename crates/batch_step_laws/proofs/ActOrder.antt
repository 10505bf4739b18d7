-- The acts of a rest stand in the order of their places, so no two stand at one place.
use Rattle.std.proofs.Common.{◌≡◌, refl, sym, ◌∙◌, ap, ℕ, ◌+◌, Bool, true, false, nat_eq, nat_lt, List, [], ◌∷◌, ◌++◌, arith, inl, inr, ◌<◌, ◌≤◌, append-nil}
use Rattle.std.proofs.lemmas.List.{append_assoc}
use Rattle.batch_model.{specs.Lists.Each, specs.Rest.Rest, specs.Rest.ready, specs.Rest.asking, specs.Rest.open_act, specs.Rest.live, specs.Rest.freeing, specs.Rest.in_seq, specs.Rest.in_par, specs.Rest.in_loop, specs.Rest.done, specs.Rest.Rests, specs.Rest.no_rests, specs.Rest.rest, specs.Rest.acts, specs.Rest.acts_of_each, specs.Rest.place_of, specs.Standing.IsRestOf, specs.Standing.IsRestBelow, specs.Standing.IsBranch, specs.Standing.AreBranches, specs.Standing.IsChosen, proofs.Members.Each-map, proofs.Members.Each-append, specs.Placed.IsPlaced, specs.Placed.IsPlacedBelow, specs.Placed.ArePlaced, specs.Placed.IsChoicePlaced, specs.Placed.Rises}
use Rattle.batch_recipe.specs.{Tree.Place, Tree.is_before, Tree.Step, Tree.Task, Tree.runs, Tree.follows, Tree.Tree, Tree.act, Tree.seq, Tree.par, Tree.sel, Tree.loop, Tree.Trees, Tree.no_trees, Tree.tree, Tree.Choices, Tree.otherwise, Tree.choice, Nodes.child}

abbrev Before : Rest → Rest → Type 0
Before a b = is_before (place_of a) (place_of b) ≡ true

Rises-append : (xs ys : List Rest) → Rises xs → Rises ys → Each (λ a. Each (Before a) ys) xs → Rises (xs ++ ys)
Rises-append [] ys h k e = k
Rises-append (x ∷ xs) ys h k e = (Each-append (Before x) xs ys h.0 e.0, Rises-append xs ys h.1 k e.1)

-- Places

same-head : (k : ℕ) (b : Bool) → b ≡ true → elim (nat_eq k k) [ true ↦ b | false ↦ nat_lt k k ] ≡ true
same-head k b e = grind arith

before-below : (p q : Place) (i : ℕ) → is_before p (p ++ i ∷ q) ≡ true
before-below [] q i = refl
before-below (k ∷ p) q i = same-head k (is_before p (p ++ i ∷ q)) (before-below p q i)

less-head : (i j : ℕ) (b : Bool) → i < j → elim (nat_eq i j) [ true ↦ b | false ↦ nat_lt i j ] ≡ true
less-head i j b h = grind arith

before-sibling : (p q r : Place) (i j : ℕ) → i < j → is_before (p ++ i ∷ q) (p ++ j ∷ r) ≡ true
before-sibling [] q r i j h = less-head i j (is_before q r) h
before-sibling (k ∷ p) q r i j h = same-head k (is_before (p ++ i ∷ q) (p ++ j ∷ r)) (before-sibling p q r i j h)

-- a stands at p or below it
abbrev pub IsUnder : Place → Rest → Type 0
IsUnder p a = (q : Place) × (place_of a ≡ p ++ q)

-- a stands at child i of p or a later one, or below it
abbrev pub IsUnderFrom : Place → ℕ → Rest → Type 0
IsUnderFrom p i a = (j : ℕ) × (q : Place) × (i ≤ j) × (place_of a ≡ p ++ j ∷ q)

to-from : (p : Place) (i : ℕ) (a : Rest) → IsUnder (child p i) a → IsUnderFrom p i a
to-from p i a h = (i, h.0, omega arith, h.1 ∙ append_assoc p (i ∷ []) h.0)

from-under : (p : Place) (i : ℕ) (a : Rest) → IsUnderFrom p i a → IsUnder p a
from-under p i a h = (h.0 ∷ h.1, h.3)

earlier-from : (p : Place) (i : ℕ) (a : Rest) → IsUnderFrom p (i + 1) a → IsUnderFrom p i a
earlier-from p i a h = (h.0, h.1, omega (arith, h.2), h.3)

at_place : (s t : Step) (p : Place) → t ≡ s → s.place ≡ p → t.place ≡ p ++ []
at_place s t p e f = ap (λ u. u.place) e ∙ f ∙ sym (append-nil p)

mutual
  pub acts-under : (p : Place) (c : Tree) (r : Rest) → IsPlaced p c → IsRestOf c r → Each (IsUnder p) (acts r)
  acts-under p (act s w) (ready t v k) l h = (([], at_place s t p h.0 l.0), tt)
  acts-under p (act s w) (asking t v k) l h = (([], at_place s t p h.0 l.0), tt)
  acts-under p (act s w) (open_act t r) l h = (([], at_place s t p h.0 l.0), acts-under_below p w r l.1 h.1)
  acts-under p (act s w) (live t x y) l h = (([], at_place s t p h.0 l.0), tt)
  acts-under p (act s w) (freeing t k) l h = (([], at_place s t p h.0 l.0), tt)
  acts-under p (seq cs) (in_seq r ds) l h = Each-map (IsUnderFrom p 0) (IsUnder p) (from-under p 0) (acts r) (acts-from_branch p 0 cs r ds l h)
  acts-under p (par cs) (in_par rs) l h = Each-map (IsUnderFrom p 0) (IsUnder p) (from-under p 0) (acts_of_each rs) (acts-from_each p 0 cs rs l h)
  acts-under p (sel ch) r l h = Each-map (IsUnderFrom p 0) (IsUnder p) (from-under p 0) (acts r) (acts-from_chosen p 0 ch r l h)
  acts-under p (loop n c body) (in_loop m d b r) l h =
      Each-map (IsUnder (child p 0)) (IsUnder p) (λ a k. from-under p 0 a (to-from p 0 a k)) (acts r) (acts-under (child p 0) body r l h.3)
  acts-under p _ done l h = tt
  acts-under p _ _ l h = absurd h

  pub acts-under_below : (p : Place) (w : Task) (r : Rest) → IsPlacedBelow p w → IsRestBelow w r → Each (IsUnder p) (acts r)
  acts-under_below p (runs x) r l h = absurd h
  acts-under_below p (follows name c) r l h =
      Each-map (IsUnder (child p 0)) (IsUnder p) (λ a k. from-under p 0 a (to-from p 0 a k)) (acts r) (acts-under (child p 0) c r l h)

  pub acts-from_branch : (p : Place) (i : ℕ) (cs : Trees) (r : Rest) (ds : Trees) → ArePlaced p i cs → IsBranch cs r ds → Each (IsUnderFrom p i) (acts r)
  acts-from_branch p i no_trees r ds l h = absurd h
  acts-from_branch p i (tree c cs) r ds l (inl h) = Each-map (IsUnder (child p i)) (IsUnderFrom p i) (to-from p i) (acts r) (acts-under (child p i) c r l.0 h.0)
  acts-from_branch p i (tree c cs) r ds l (inr h) = Each-map (IsUnderFrom p (i + 1)) (IsUnderFrom p i) (earlier-from p i) (acts r) (acts-from_branch p (i + 1) cs r ds l.1 h)

  pub acts-from_each : (p : Place) (i : ℕ) (cs : Trees) (rs : Rests) → ArePlaced p i cs → AreBranches cs rs → Each (IsUnderFrom p i) (acts_of_each rs)
  acts-from_each p i no_trees no_rests l h = tt
  acts-from_each p i (tree c cs) (rest r rs) l h =
      Each-append (IsUnderFrom p i) (acts r) (acts_of_each rs)
      (Each-map (IsUnder (child p i)) (IsUnderFrom p i) (to-from p i) (acts r) (acts-under (child p i) c r l.0 h.0))
      (Each-map (IsUnderFrom p (i + 1)) (IsUnderFrom p i) (earlier-from p i) (acts_of_each rs) (acts-from_each p (i + 1) cs rs l.1 h.1))
  acts-from_each p i cs rs l h = absurd (grind arith)

  pub acts-from_chosen : (p : Place) (i : ℕ) (ch : Choices) (r : Rest) → IsChoicePlaced p i ch → IsChosen ch r → Each (IsUnderFrom p i) (acts r)
  acts-from_chosen p i (otherwise c) r l h = Each-map (IsUnder (child p i)) (IsUnderFrom p i) (to-from p i) (acts r) (acts-under (child p i) c r l h)
  acts-from_chosen p i (choice q c ch) r l (inl h) = Each-map (IsUnder (child p i)) (IsUnderFrom p i) (to-from p i) (acts r) (acts-under (child p i) c r l.0 h)
  acts-from_chosen p i (choice q c ch) r l (inr h) = Each-map (IsUnderFrom p (i + 1)) (IsUnderFrom p i) (earlier-from p i) (acts r) (acts-from_chosen p (i + 1) ch r l.1 h)

-- an act comes before all that stand below its first child
before-under : (s t : Step) (p : Place) (b : Rest) → t ≡ s → s.place ≡ p → IsUnder (child p 0) b → is_before t.place (place_of b) ≡ true
before-under s t p b e f h = grind (arith, append_assoc p (0 ∷ []) h.0, before-below p h.0 0)

-- an act in a branch comes before an act in a later one
before-later : (p : Place) (i : ℕ) (a b : Rest) → IsUnder (child p i) a → IsUnderFrom p (i + 1) b → Before a b
before-later p i a b h k =
    ap (λ q. is_before q (place_of b)) (h.1 ∙ append_assoc p (i ∷ []) h.0)
    ∙ ap (is_before (p ++ i ∷ h.0)) k.3
    ∙ before-sibling p h.0 k.1 i k.0 (omega (arith, k.2))

mutual
  -- the acts of a rest of a placed chart rise
  pub acts-rise : (p : Place) (c : Tree) (r : Rest) → IsPlaced p c → IsRestOf c r → Rises (acts r)
  acts-rise p (act s w) (ready t v k) l h = (tt, tt)
  acts-rise p (act s w) (asking t v k) l h = (tt, tt)
  acts-rise p (act s (follows name c)) (open_act t r) l h = (
    Each-map (IsUnder (child p 0)) (Before (open_act t r)) (λ b k. before-under s t p b h.0 l.0 k) (acts r) (acts-under (child p 0) c r l.1 h.1),
    acts-rise (child p 0) c r l.1 h.1,
  )
  acts-rise p (act s w) (live t x y) l h = (tt, tt)
  acts-rise p (act s w) (freeing t k) l h = (tt, tt)
  acts-rise p (seq cs) (in_seq r ds) l h = branch-rises p 0 cs r ds l h
  acts-rise p (par cs) (in_par rs) l h = each-rises p 0 cs rs l h
  acts-rise p (sel ch) r l h = chosen-rises p 0 ch r l h
  acts-rise p (loop n c body) (in_loop m d b r) l h = acts-rise (child p 0) body r l h.3
  acts-rise p _ done l h = tt
  acts-rise p c r l h = grind arith

  pub branch-rises : (p : Place) (i : ℕ) (cs : Trees) (r : Rest) (ds : Trees) → ArePlaced p i cs → IsBranch cs r ds → Rises (acts r)
  branch-rises p i no_trees r ds l h = absurd h
  branch-rises p i (tree c cs) r ds l (inl h) = acts-rise (child p i) c r l.0 h.0
  branch-rises p i (tree c cs) r ds l (inr h) = branch-rises p (i + 1) cs r ds l.1 h

  pub each-rises : (p : Place) (i : ℕ) (cs : Trees) (rs : Rests) → ArePlaced p i cs → AreBranches cs rs → Rises (acts_of_each rs)
  each-rises p i no_trees no_rests l h = tt
  each-rises p i (tree c cs) (rest r rs) l h =
      Rises-append (acts r) (acts_of_each rs) (acts-rise (child p i) c r l.0 h.0) (each-rises p (i + 1) cs rs l.1 h.1)
      (Each-map (IsUnder (child p i)) (λ a. Each (Before a) (acts_of_each rs))
      (λ a k. Each-map (IsUnderFrom p (i + 1)) (Before a) (λ b m. before-later p i a b k m) (acts_of_each rs) (acts-from_each p (i + 1) cs rs l.1 h.1))
      (acts r) (acts-under (child p i) c r l.0 h.0))
  each-rises p i cs rs l h = absurd (grind arith)

  pub chosen-rises : (p : Place) (i : ℕ) (ch : Choices) (r : Rest) → IsChoicePlaced p i ch → IsChosen ch r → Rises (acts r)
  chosen-rises p i (otherwise c) r l h = acts-rise (child p i) c r l h
  chosen-rises p i (choice q c ch) r l (inl h) = acts-rise (child p i) c r l.0 h
  chosen-rises p i (choice q c ch) r l (inr h) = chosen-rises p (i + 1) ch r l.1 h
