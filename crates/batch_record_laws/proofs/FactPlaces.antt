-- All facts of a rest stand at or below the place of its chart.
use Rattle.std.proofs.Common.{◌+◌, ◌≡◌, refl, sym, ◌∙◌, ap, ℕ, ◌≤◌, arith, List, [], ◌∷◌, ◌++◌, take, slice_get, Option, Some, inl, inr, ⊎_elim, append_assoc, append-nil}
use Rattle.batch_model.{specs.Lists.Has, specs.Rest.Rest, specs.Rest.ready, specs.Rest.asking, specs.Rest.open_act, specs.Rest.live, specs.Rest.freeing, specs.Rest.in_seq, specs.Rest.in_par, specs.Rest.in_loop, specs.Rest.done, specs.Rest.Rests, specs.Rest.no_rests, specs.Rest.rest, specs.Rest.acts, specs.Rest.acts_of_each, specs.Rest.place_of, specs.Records.IsAtOrAbove, specs.Standing.IsRestOf, specs.Standing.IsRestBelow, specs.Standing.IsBranch, specs.Standing.AreBranches, specs.Standing.IsChosen, specs.Placed.IsPlaced, specs.Placed.IsPlacedBelow, specs.Placed.ArePlaced, specs.Placed.IsChoicePlaced, proofs.Members.Has-split, proofs.Members.Has-left, proofs.Members.Has-right}
use Rattle.batch_recipe.specs.{Tree.Place, Tree.Tree, Tree.act, Tree.seq, Tree.par, Tree.sel, Tree.loop, Tree.Task, Tree.runs, Tree.follows, Tree.Trees, Tree.no_trees, Tree.tree, Tree.Choices, Tree.otherwise, Tree.choice, Nodes.child, declared.need.Need.Need}
use Rattle.batch_record_laws.proofs.{PlantFacts.holding, PlantFacts.performing, PlantFacts.Standing, PlantFacts.held_at, PlantFacts.awaited_at, PlantFacts.facts, PlantFacts.facts_of_each, Members.Has-map}

-- at or below child i of p
abbrev pub IsUnderChild : Place → ℕ → Place → Type 0
IsUnderChild p i q = (below : Place) × (p ++ i ∷ below ≡ q)

-- at or below a child of p, from child i on
abbrev pub IsUnderLater : Place → ℕ → Place → Type 0
IsUnderLater p i q = (j : ℕ) × (i ≤ j) × IsUnderChild p j q

pub under_child : (p : Place) (i : ℕ) (q : Place) → IsAtOrAbove (child p i) q → IsUnderChild p i q
under_child p i q h = (h.0, sym (append_assoc p (i ∷ []) h.0) ∙ h.1)

pub under : (p : Place) (i : ℕ) (q : Place) → IsUnderChild p i q → IsAtOrAbove p q
under p i q h = (i ∷ h.0, h.1)

pub is_at : (p q : Place) → q ≡ p → IsAtOrAbove p q
is_at p q e = ([], append-nil p ∙ sym e)

pub held-place : (p : Place) (names : List Need) (e : Standing) → Has (held_at p names) e → e.0 ≡ p
held-place p names e h = let k = Has-map (λ r. let s : Standing = (p, holding r) in s) names e h in ap (λ s. s.0) (sym k.2)

awaited-place : (p : Place) (o : Option Need) (e : Standing) → Has (awaited_at p o) e → e.0 ≡ p
awaited-place p (Some r) e (inl q) = ap (λ s. s.0) (sym q)
awaited-place p o e h = grind arith

mutual
  pub facts-under : (p : Place) (c : Tree) (r : Rest) → IsPlaced p c → IsRestOf c r → (e : Standing) → Has (facts r) e → IsAtOrAbove p e.0
  facts-under p (act s w) (ready u v n) pl h e k = is_at p e.0 (held-place u.place (take n u.needs) e k ∙ ap (λ x. x.place) h.0 ∙ pl.0)
  facts-under p (act s w) (asking u v n) pl h e k =
      is_at p e.0
      (⊎_elim (held-place u.place (take n u.needs) e) (awaited-place u.place (slice_get u.needs n) e) (Has-split (held_at u.place (take n u.needs)) (awaited_at u.place (slice_get u.needs n)) e k)
      ∙ ap (λ x. x.place) h.0 ∙ pl.0)
  facts-under p (act s w) (open_act u r) pl h e k =
      ⊎_elim (λ m. is_at p e.0 (held-place u.place u.needs e m ∙ ap (λ x. x.place) h.0 ∙ pl.0)) (λ m. under p 0 e.0 (facts-below p w r pl.1 h.1 e m))
      (Has-split (held_at u.place u.needs) (facts r) e k)
  facts-under p (act s w) (live u x t) pl h e k =
      is_at p e.0
      (⊎_elim (held-place u.place u.needs e) (λ m. ⊎_elim (λ q. ap (λ z. z.0) (sym q)) (λ q. absurd q) m) (Has-split (held_at u.place u.needs) ((u.place, performing x) ∷ []) e k)
      ∙ ap (λ x. x.place) h.0 ∙ pl.0)
  facts-under p (act s w) (freeing u n) pl h e k = is_at p e.0 (held-place u.place (take n u.needs) e k ∙ ap (λ x. x.place) h.0 ∙ pl.0)
  facts-under p (seq cs) (in_seq r ds) pl h e k = let m = facts-among p 0 cs r ds pl h e k in under p m.0 e.0 m.2
  facts-under p (par cs) (in_par rs) pl h e k = let m = facts-side_by_side p 0 cs rs pl h e k in under p m.0 e.0 m.2
  facts-under p (sel ch) r pl h e k = let m = facts-chosen p 0 ch r pl h e k in under p m.0 e.0 m.2
  facts-under p (loop n c body) (in_loop m d b r) pl h e k = under p 0 e.0 (under_child p 0 e.0 (facts-under (child p 0) body r pl h.3 e k))
  facts-under p c r pl h e k = grind arith

  pub facts-below : (p : Place) (w : Task) (r : Rest) → IsPlacedBelow p w → IsRestBelow w r → (e : Standing) → Has (facts r) e → IsUnderChild p 0 e.0
  facts-below p (runs x) r pl h e k = absurd h
  facts-below p (follows name c) r pl h e k = under_child p 0 e.0 (facts-under (child p 0) c r pl h e k)

  pub facts-among : (p : Place) (i : ℕ) (cs : Trees) (r : Rest) (ds : Trees) → ArePlaced p i cs → IsBranch cs r ds → (e : Standing) → Has (facts r) e → IsUnderLater p i e.0
  facts-among p i no_trees r ds pl h e k = absurd h
  facts-among p i (tree c cs) r ds pl (inl h) e k = (i, omega arith, under_child p i e.0 (facts-under (child p i) c r pl.0 h.0 e k))
  facts-among p i (tree c cs) r ds pl (inr h) e k = let m = facts-among p (i + 1) cs r ds pl.1 h e k in (m.0, omega (arith, m.1), m.2)

  pub facts-side_by_side : (p : Place) (i : ℕ) (cs : Trees) (rs : Rests) → ArePlaced p i cs → AreBranches cs rs → (e : Standing) → Has (facts_of_each rs) e → IsUnderLater p i e.0
  facts-side_by_side p i (tree c cs) (rest r rs) pl h e k =
      ⊎_elim (λ m. (i, omega arith, under_child p i e.0 (facts-under (child p i) c r pl.0 h.0 e m)))
      (λ m. let n = facts-side_by_side p (i + 1) cs rs pl.1 h.1 e m in (n.0, omega (arith, n.1), n.2))
      (Has-split (facts r) (facts_of_each rs) e k)
  facts-side_by_side p i cs rs pl h e k = grind arith

  pub facts-chosen : (p : Place) (i : ℕ) (ch : Choices) (r : Rest) → IsChoicePlaced p i ch → IsChosen ch r → (e : Standing) → Has (facts r) e → IsUnderLater p i e.0
  facts-chosen p i (otherwise c) r pl h e k = (i, omega arith, under_child p i e.0 (facts-under (child p i) c r pl h e k))
  facts-chosen p i (choice q c ch) r pl (inl h) e k = (i, omega arith, under_child p i e.0 (facts-under (child p i) c r pl.0 h e k))
  facts-chosen p i (choice q c ch) r pl (inr h) e k = let m = facts-chosen p (i + 1) ch r pl.1 h e k in (m.0, omega (arith, m.1), m.2)

mutual
  pub acts-under : (p : Place) (c : Tree) (r : Rest) → IsPlaced p c → IsRestOf c r → (a : Rest) → Has (acts r) a → IsAtOrAbove p (place_of a)
  acts-under p (act s w) (ready u v n) pl h a (inl q) = is_at p (place_of a) (sym (ap place_of q) ∙ ap (λ x. x.place) h.0 ∙ pl.0)
  acts-under p (act s w) (ready u v n) pl h a (inr q) = absurd q
  acts-under p (act s w) (asking u v n) pl h a (inl q) = is_at p (place_of a) (sym (ap place_of q) ∙ ap (λ x. x.place) h.0 ∙ pl.0)
  acts-under p (act s w) (asking u v n) pl h a (inr q) = absurd q
  acts-under p (act s w) (open_act u r) pl h a (inl q) = is_at p (place_of a) (sym (ap place_of q) ∙ ap (λ x. x.place) h.0 ∙ pl.0)
  acts-under p (act s w) (open_act u r) pl h a (inr q) = under p 0 (place_of a) (acts-below p w r pl.1 h.1 a q)
  acts-under p (act s w) (live u x t) pl h a (inl q) = is_at p (place_of a) (sym (ap place_of q) ∙ ap (λ x. x.place) h.0 ∙ pl.0)
  acts-under p (act s w) (live u x t) pl h a (inr q) = absurd q
  acts-under p (act s w) (freeing u n) pl h a (inl q) = is_at p (place_of a) (sym (ap place_of q) ∙ ap (λ x. x.place) h.0 ∙ pl.0)
  acts-under p (act s w) (freeing u n) pl h a (inr q) = absurd q
  acts-under p (seq cs) (in_seq r ds) pl h a k = let m = acts-among p 0 cs r ds pl h a k in under p m.0 (place_of a) m.2
  acts-under p (par cs) (in_par rs) pl h a k = let m = acts-side_by_side p 0 cs rs pl h a k in under p m.0 (place_of a) m.2
  acts-under p (sel ch) r pl h a k = let m = acts-chosen p 0 ch r pl h a k in under p m.0 (place_of a) m.2
  acts-under p (loop n c body) (in_loop m d b r) pl h a k = under p 0 (place_of a) (under_child p 0 (place_of a) (acts-under (child p 0) body r pl h.3 a k))
  acts-under p c done pl h a k = absurd k
  acts-under p _ _ pl h a k = absurd h

  pub acts-below : (p : Place) (w : Task) (r : Rest) → IsPlacedBelow p w → IsRestBelow w r → (a : Rest) → Has (acts r) a → IsUnderChild p 0 (place_of a)
  acts-below p (runs x) r pl h a k = absurd h
  acts-below p (follows name c) r pl h a k = under_child p 0 (place_of a) (acts-under (child p 0) c r pl h a k)

  pub acts-among : (p : Place) (i : ℕ) (cs : Trees) (r : Rest) (ds : Trees) → ArePlaced p i cs → IsBranch cs r ds → (a : Rest) → Has (acts r) a → IsUnderLater p i (place_of a)
  acts-among p i no_trees r ds pl h a k = absurd h
  acts-among p i (tree c cs) r ds pl (inl h) a k = (i, omega arith, under_child p i (place_of a) (acts-under (child p i) c r pl.0 h.0 a k))
  acts-among p i (tree c cs) r ds pl (inr h) a k = let m = acts-among p (i + 1) cs r ds pl.1 h a k in (m.0, omega (arith, m.1), m.2)

  pub acts-side_by_side : (p : Place) (i : ℕ) (cs : Trees) (rs : Rests) → ArePlaced p i cs → AreBranches cs rs → (a : Rest) → Has (acts_of_each rs) a → IsUnderLater p i (place_of a)
  acts-side_by_side p i (tree c cs) (rest r rs) pl h a k =
      ⊎_elim (λ m. (i, omega arith, under_child p i (place_of a) (acts-under (child p i) c r pl.0 h.0 a m)))
      (λ m. let n = acts-side_by_side p (i + 1) cs rs pl.1 h.1 a m in (n.0, omega (arith, n.1), n.2))
      (Has-split (acts r) (acts_of_each rs) a k)
  acts-side_by_side p i cs rs pl h a k = grind arith

  pub acts-chosen : (p : Place) (i : ℕ) (ch : Choices) (r : Rest) → IsChoicePlaced p i ch → IsChosen ch r → (a : Rest) → Has (acts r) a → IsUnderLater p i (place_of a)
  acts-chosen p i (otherwise c) r pl h a k = (i, omega arith, under_child p i (place_of a) (acts-under (child p i) c r pl h a k))
  acts-chosen p i (choice q c ch) r pl (inl h) a k = (i, omega arith, under_child p i (place_of a) (acts-under (child p i) c r pl.0 h a k))
  acts-chosen p i (choice q c ch) r pl (inr h) a k = let m = acts-chosen p (i + 1) ch r pl.1 h a k in (m.0, omega (arith, m.1), m.2)

-- Each fact is of an act

mutual
  pub fact-stands : (r : Rest) (e : Standing) → Has (facts r) e → (a : Rest) × Has (acts r) a × (place_of a ≡ e.0)
  fact-stands (ready s w k) e h = (ready s w k, inl refl, sym (held-place s.place (take k s.needs) e h))
  fact-stands (asking s w k) e h = (
    asking s w k,
    inl refl,
    sym (⊎_elim (held-place s.place (take k s.needs) e) (awaited-place s.place (slice_get s.needs k) e) (Has-split (held_at s.place (take k s.needs)) (awaited_at s.place (slice_get s.needs k)) e h)),
  )
  fact-stands (open_act s r) e h =
      ⊎_elim (λ m. (open_act s r, inl refl, sym (held-place s.place s.needs e m))) (λ m. let k = fact-stands r e m in (k.0, inr k.1, k.2)) (Has-split (held_at s.place s.needs) (facts r) e h)
  fact-stands (live s x t) e h = (
    live s x t,
    inl refl,
    sym (⊎_elim (held-place s.place s.needs e) (λ m. ⊎_elim (λ q. ap (λ z. z.0) (sym q)) (λ q. absurd q) m) (Has-split (held_at s.place s.needs) ((s.place, performing x) ∷ []) e h)),
  )
  fact-stands (freeing s k) e h = (freeing s k, inl refl, sym (held-place s.place (take k s.needs) e h))
  fact-stands (in_seq r cs) e h = fact-stands r e h
  fact-stands (in_par rs) e h = fact-stands_each rs e h
  fact-stands (in_loop n c b r) e h = fact-stands r e h
  fact-stands done e h = absurd h

  fact-stands_each : (rs : Rests) (e : Standing) → Has (facts_of_each rs) e → (a : Rest) × Has (acts_of_each rs) a × (place_of a ≡ e.0)
  fact-stands_each no_rests e h = absurd h
  fact-stands_each (rest r rs) e h =
      ⊎_elim (λ m. let k = fact-stands r e m in (k.0, Has-left (acts r) (acts_of_each rs) k.0 k.1, k.2))
      (λ m. let k = fact-stands_each rs e m in (k.0, Has-right (acts r) (acts_of_each rs) k.0 k.1, k.2))
      (Has-split (facts r) (facts_of_each rs) e h)

-- Places under different children differ

pub drop_prefix : (p a b : Place) → p ++ a ≡ p ++ b → a ≡ b
drop_prefix [] a b e = e
drop_prefix (i ∷ p) a b e = drop_prefix p a b (let h : p ++ a ≡ p ++ b = cc in h)

-- no place under child i is at or above one under another child j
pub children_apart : (p : Place) (i j : ℕ) (q r : Place) → IsUnderChild p i q → IsUnderChild p j r → IsAtOrAbove q r → i ≡ j
children_apart p i j q r h k m =
    let e : p ++ (i ∷ h.0 ++ m.0) ≡ p ++ (j ∷ k.0) = sym (append_assoc p (i ∷ h.0) m.0) ∙ ap (λ x. x ++ m.0) h.1 ∙ m.1 ∙ sym k.1 in
    let f : ◌≡◌ {A = List ℕ} (i ∷ (h.0 ++ m.0)) (j ∷ k.0) = drop_prefix p (i ∷ h.0 ++ m.0) (j ∷ k.0) e in
    cc

pub not_above_itself : (p : Place) (i : ℕ) (q : Place) → IsUnderChild p i q → IsAtOrAbove q p → ⊥
not_above_itself p i q h k =
    let e : p ++ (i ∷ h.0 ++ k.0) ≡ p ++ [] = sym (append_assoc p (i ∷ h.0) k.0) ∙ ap (λ x. x ++ k.0) h.1 ∙ k.1 ∙ sym (append-nil p) in
    let f : ◌≡◌ {A = List ℕ} (i ∷ (h.0 ++ k.0)) [] = drop_prefix p (i ∷ h.0 ++ k.0) [] e in
    cc
