-- The unit of a live phase is held above it, and a phase that is live twice in a batch has its unit held twice.
use Rattle.std.proofs.Common.{◌≡◌, refl, sym, ◌∙◌, ap, subst, ℕ, ◌+◌, ◌≤◌, arith, List, [], ◌∷◌, ◌++◌, true, false, take, slice_get, Option, inl, inr, ◌⊎◌, ⊎_elim, bytes_eq, append-nil}
use Rattle.std.proofs.lemmas.Slice.Eq.{bytes_eq-Decides}
use Rattle.batch_model.{specs.Lists.Has, specs.Rest.Rest, specs.Rest.ready, specs.Rest.asking, specs.Rest.open_act, specs.Rest.live, specs.Rest.freeing, specs.Rest.in_seq, specs.Rest.in_par, specs.Rest.in_loop, specs.Rest.Rests, specs.Rest.rest, specs.Records.IsAtOrAbove, specs.Standing.IsRestOf, specs.Standing.IsRestBelow, specs.Standing.IsBranch, specs.Standing.AreBranches, specs.Standing.IsChosen, specs.Placed.IsPlaced, specs.Placed.IsPlacedBelow, specs.Placed.ArePlaced, specs.Placed.IsChoicePlaced, specs.Cleared.phases, specs.Cleared.phases_within, specs.Cleared.phases_of_each, specs.Cleared.phases_of_choices, proofs.Members.Has-split, proofs.Members.Has-left, proofs.Members.Has-right}
use Rattle.batch_recipe.specs.{Conditions.Name, Tree.Place, Tree.Phase, Tree.Tree, Tree.act, Tree.seq, Tree.par, Tree.sel, Tree.loop, Tree.Task, Tree.runs, Tree.follows, Tree.Trees, Tree.no_trees, Tree.tree, Tree.Choices, Tree.otherwise, Tree.choice, Nodes.child, declared.need.Need.Need, Needs.one_unit}
use Rattle.batch_record_laws.proofs.{PlantFacts.Fact, PlantFacts.holding, PlantFacts.awaiting, PlantFacts.performing, PlantFacts.Standing, PlantFacts.held_at, PlantFacts.awaited_at, PlantFacts.facts, PlantFacts.facts_of_each, ClearanceDownTrees.IsSamePhase, ClearanceDownTrees.RunsInUnits, ClearanceDownTrees.RunsInUnitsBelow, ClearanceDownTrees.RunInUnits, ClearanceDownTrees.RunSideBySide, ClearanceDownTrees.ChoicesRunInUnits, Members.map-Has, FactPlaces.IsUnderChild, FactPlaces.under, FactPlaces.facts-below, FactPlaces.not_above_itself, RanksOfAsks.held-performing, RanksOfAsks.awaited-performing}

pub same_performing : (x y : Phase) → performing x ≡ performing y → x ≡ y
same_performing x y e = cc

pub lone-performing : (p : Place) (y : Phase) (q : Place) (x : Phase) → Has {X = Standing} ((p, performing y) ∷ []) (q, performing x) → (p ≡ q) × (y ≡ x)
lone-performing p y q x h = grind (arith, same_performing)

-- of a live act's facts
live-performing : (p : Place) (names : List Need) (y : Phase) (q : Place) (x : Phase) → Has (held_at p names ++ (p, performing y) ∷ []) (q, performing x) → (p ≡ q) × (y ≡ x)
live-performing p names y q x k = grind (arith, lone-performing p y q x, Has-split (held_at p names) ((p, performing y) ∷ []) (q, performing x) k, held-performing)

asking-performing : (p : Place) (names : List Need) (o : Option Need) (q : Place) (x : Phase) → Has (held_at p names ++ awaited_at p o) (q, performing x) → ⊥
asking-performing p names o q x k = grind (arith, held-performing p names q x, awaited-performing p o q x, Has-split (held_at p names) (awaited_at p o) (q, performing x) k)

open-performing : (p : Place) (names : List Need) (r : Rest) (q : Place) (x : Phase) → Has (held_at p names ++ facts r) (q, performing x) → Has (facts r) (q, performing x)
open-performing p names r q x k = grind (arith, Has-split (held_at p names) (facts r) (q, performing x) k, held-performing)

mutual
  -- a live phase is one of the chart's
  pub performed-phase : (c : Tree) (r : Rest) → IsRestOf c r → (q : Place) (x : Phase) → Has (facts r) (q, performing x) → Has (phases c) x
  performed-phase (act s w) (ready u v n) h q x k = absurd (held-performing u.place (take n u.needs) q x k)
  performed-phase (act s w) (asking u v n) h q x k = absurd (asking-performing u.place (take n u.needs) (slice_get u.needs n) q x k)
  performed-phase (act s w) (open_act u r) h q x k = performed-below w r h.1 q x (open-performing u.place u.needs r q x k)
  performed-phase (act s w) (live u y t) h q x k =
      subst (λ z. Has (phases_within z) x) (sym h.1) (inl ((live-performing u.place u.needs y q x k).1))
  performed-phase (act s w) (freeing u n) h q x k = absurd (held-performing u.place (take n u.needs) q x k)
  performed-phase (seq cs) (in_seq r ds) h q x k = performed-among cs r ds h q x k
  performed-phase (par cs) (in_par r) h q x k = performed-side_by_side cs r h q x k
  performed-phase (sel ch) r h q x k = performed-chosen ch r h q x k
  performed-phase (loop n c body) (in_loop m d b r) h q x k = performed-phase body r h.3 q x k
  performed-phase c r h q x k = absurd (grind arith)

  pub performed-below : (w : Task) (r : Rest) → IsRestBelow w r → (q : Place) (x : Phase) → Has (facts r) (q, performing x) → Has (phases_within w) x
  performed-below (runs y) r h q x k = absurd h
  performed-below (follows name c) r h q x k = performed-phase c r h q x k

  pub performed-among : (cs : Trees) (r : Rest) (ds : Trees) → IsBranch cs r ds → (q : Place) (x : Phase) → Has (facts r) (q, performing x) → Has (phases_of_each cs) x
  performed-among no_trees r ds h q x k = absurd h
  performed-among (tree c cs) r ds (inl h) q x k = Has-left (phases c) (phases_of_each cs) x (performed-phase c r h.0 q x k)
  performed-among (tree c cs) r ds (inr h) q x k = Has-right (phases c) (phases_of_each cs) x (performed-among cs r ds h q x k)

  pub performed-side_by_side : (cs : Trees) (r : Rests) → AreBranches cs r → (q : Place) (x : Phase) → Has (facts_of_each r) (q, performing x) → Has (phases_of_each cs) x
  performed-side_by_side (tree c cs) (rest r more) h q x k =
      ⊎_elim (λ m. Has-left (phases c) (phases_of_each cs) x (performed-phase c r h.0 q x m)) (λ m. Has-right (phases c) (phases_of_each cs) x (performed-side_by_side cs more h.1 q x m))
      (Has-split (facts r) (facts_of_each more) (q, performing x) k)
  performed-side_by_side cs r h q x k = absurd (grind arith)

  pub performed-chosen : (ch : Choices) (r : Rest) → IsChosen ch r → (q : Place) (x : Phase) → Has (facts r) (q, performing x) → Has (phases_of_choices ch) x
  performed-chosen (otherwise c) r h q x k = performed-phase c r h q x k
  performed-chosen (choice d c ch) r (inl h) q x k = Has-left (phases c) (phases_of_choices ch) x (performed-phase c r h q x k)
  performed-chosen (choice d c ch) r (inr h) q x k = Has-right (phases c) (phases_of_choices ch) x (performed-chosen ch r h q x k)

-- one unit of a resource is held strictly above the place
abbrev pub IsHeldAbove : List Standing → Name → Place → Type 0
IsHeldAbove es unit q = (p : Place) × Has es (p, holding (one_unit unit)) × IsAtOrAbove p q × (p ≡ q → ⊥)

apart_from_child : (p : Place) (i : ℕ) (q : Place) → IsUnderChild p i q → p ≡ q → ⊥
apart_from_child p i q h e = not_above_itself p i q h ([], append-nil q ∙ sym e)

held_above-left : (xs ys : List Standing) (unit : Name) (q : Place) → IsHeldAbove xs unit q → IsHeldAbove (xs ++ ys) unit q
held_above-left xs ys unit q h = (h.0, Has-left xs ys (h.0, holding (one_unit unit)) h.1, h.2, h.3)

held_above-right : (xs ys : List Standing) (unit : Name) (q : Place) → IsHeldAbove ys unit q → IsHeldAbove (xs ++ ys) unit q
held_above-right xs ys unit q h = (h.0, Has-right xs ys (h.0, holding (one_unit unit)) h.1, h.2, h.3)

in_branch : {A B C : Type 0} → (B → C) → A ⊎ B → A ⊎ C
in_branch f h = grind arith

mutual
  -- the unit of a live phase is needed above the chart, or held above the phase
  pub unit-held : (above : List Need) (p : Place) (c : Tree) (r : Rest) → IsPlaced p c → RunsInUnits above c → IsRestOf c r
      → (q : Place) (x : Phase) → Has (facts r) (q, performing x) → Has above (one_unit x.unit) ⊎ IsHeldAbove (facts r) x.unit q
  unit-held above p (act s w) (ready u v n) pl iu h q x k = absurd (held-performing u.place (take n u.needs) q x k)
  unit-held above p (act s w) (asking u v n) pl iu h q x k = absurd (asking-performing u.place (take n u.needs) (slice_get u.needs n) q x k)
  unit-held above p (act s w) (open_act u r) pl iu h q x k =
      let m : Has (facts r) (q, performing x) = open-performing u.place u.needs r q x k in
      let at : u.place ≡ p = ap (λ z. z.place) h.0 ∙ pl.0 in
      ⊎_elim
      (λ o. ⊎_elim
      (λ i. inr (
        u.place,
        Has-left (held_at u.place u.needs) (facts r) (u.place, holding (one_unit x.unit))
            (map-Has (λ z. let e : Standing = (u.place, holding z) in e) u.needs (one_unit x.unit) (subst (λ z. Has z.needs (one_unit x.unit)) (sym h.0) i)),
        subst (λ z. IsAtOrAbove z q) (sym at) (under p 0 q (facts-below p w r pl.1 h.1 (q, performing x) m)),
        λ e. apart_from_child p 0 q (facts-below p w r pl.1 h.1 (q, performing x) m) (sym at ∙ e),
      ))
      (λ i. inl i)
      (Has-split s.needs above (one_unit x.unit) o))
      (λ o. inr (held_above-right (held_at u.place u.needs) (facts r) x.unit q o))
      (unit-held_below s.needs above p w r pl.1 iu h.1 q x m)
  unit-held above p (act s w) (live u y t) pl iu h q x k =
      let e = live-performing u.place u.needs y q x k in
      inl (subst (λ z. Has above (one_unit z.unit)) e.1 (subst (RunsInUnitsBelow s.needs above) h.1 iu))
  unit-held above p (act s w) (freeing u n) pl iu h q x k = absurd (held-performing u.place (take n u.needs) q x k)
  unit-held above p (seq cs) (in_seq r ds) pl iu h q x k = unit-held_among above p 0 cs r ds pl iu h q x k
  unit-held above p (par cs) (in_par r) pl iu h q x k = unit-held_side_by_side above p 0 cs r pl iu h q x k
  unit-held above p (sel ch) r pl iu h q x k = unit-held_chosen above p 0 ch r pl iu h q x k
  unit-held above p (loop n c body) (in_loop m d b r) pl iu h q x k = unit-held above (child p 0) body r pl iu h.3 q x k
  unit-held above p c r pl iu h q x k = absurd (grind arith)

  pub unit-held_below : (needs above : List Need) (p : Place) (w : Task) (r : Rest) → IsPlacedBelow p w → RunsInUnitsBelow needs above w → IsRestBelow w r
      → (q : Place) (x : Phase) → Has (facts r) (q, performing x) → Has (needs ++ above) (one_unit x.unit) ⊎ IsHeldAbove (facts r) x.unit q
  unit-held_below needs above p (runs y) r pl iu h q x k = absurd h
  unit-held_below needs above p (follows name c) r pl iu h q x k = unit-held (needs ++ above) (child p 0) c r pl iu h q x k

  pub unit-held_among : (above : List Need) (p : Place) (i : ℕ) (cs : Trees) (r : Rest) (ds : Trees) → ArePlaced p i cs → RunInUnits above cs → IsBranch cs r ds
      → (q : Place) (x : Phase) → Has (facts r) (q, performing x) → Has above (one_unit x.unit) ⊎ IsHeldAbove (facts r) x.unit q
  unit-held_among above p i no_trees r ds pl iu h q x k = absurd h
  unit-held_among above p i (tree c cs) r ds pl iu (inl h) q x k = unit-held above (child p i) c r pl.0 iu.0 h.0 q x k
  unit-held_among above p i (tree c cs) r ds pl iu (inr h) q x k = unit-held_among above p (i + 1) cs r ds pl.1 iu.1 h q x k

  pub unit-held_side_by_side : (above : List Need) (p : Place) (i : ℕ) (cs : Trees) (r : Rests) → ArePlaced p i cs → RunSideBySide above cs → AreBranches cs r
      → (q : Place) (x : Phase) → Has (facts_of_each r) (q, performing x) → Has above (one_unit x.unit) ⊎ IsHeldAbove (facts_of_each r) x.unit q
  unit-held_side_by_side above p i (tree c cs) (rest r more) pl iu h q x k =
      ⊎_elim
      (λ m. in_branch (held_above-left (facts r) (facts_of_each more) x.unit q) (unit-held above (child p i) c r pl.0 iu.0 h.0 q x m))
      (λ m. in_branch (held_above-right (facts r) (facts_of_each more) x.unit q) (unit-held_side_by_side above p (i + 1) cs more pl.1 iu.2 h.1 q x m))
      (Has-split (facts r) (facts_of_each more) (q, performing x) k)
  unit-held_side_by_side above p i cs r pl iu h q x k = absurd (grind arith)

  pub unit-held_chosen : (above : List Need) (p : Place) (i : ℕ) (ch : Choices) (r : Rest) → IsChoicePlaced p i ch → ChoicesRunInUnits above ch → IsChosen ch r
      → (q : Place) (x : Phase) → Has (facts r) (q, performing x) → Has above (one_unit x.unit) ⊎ IsHeldAbove (facts r) x.unit q
  unit-held_chosen above p i (otherwise c) r pl iu h q x k = unit-held above (child p i) c r pl iu h q x k
  unit-held_chosen above p i (choice d c ch) r pl iu (inl h) q x k = unit-held above (child p i) c r pl.0 iu.0 h q x k
  unit-held_chosen above p i (choice d c ch) r pl iu (inr h) q x k = unit-held_chosen above p (i + 1) ch r pl.1 iu.1 h q x k

-- How many units of a resource the facts hold

abbrev pub share : Name → Fact → ℕ
share u (holding r) = elim (bytes_eq u r.resource) [ true ↦ r.units | false ↦ 0 ]
share u (awaiting r) = 0
share u (performing x) = 0

abbrev pub shares : Name → List Standing → ℕ
shares u [] = 0
shares u (e ∷ es) = share u e.1 + shares u es

pub shares-append : (u : Name) (xs ys : List Standing) → shares u (xs ++ ys) ≡ shares u xs + shares u ys
shares-append u [] ys = omega arith
shares-append u (e ∷ xs) ys = let h : shares u (xs ++ ys) ≡ shares u xs + shares u ys = shares-append u xs ys in omega arith

share-self : (u : Name) → share u (holding (one_unit u)) ≡ 1
share-self u = grind (arith, bytes_eq-Decides u u)

pub Has-shares : (u : Name) (q : Place) (es : List Standing) → Has es (q, holding (one_unit u)) → 1 ≤ shares u es
Has-shares u q [] h = absurd h
Has-shares u q (e ∷ es) (inl p) = let h : share u e.1 ≡ 1 = ap (λ z. share u z.1) p ∙ share-self u in omega arith
Has-shares u q (e ∷ es) (inr k) = let h : 1 ≤ shares u es = Has-shares u q es k in omega arith

mutual
  -- a phase that is live at two places of a batch holds two units of its unit
  pub twice-held : (above : List Need) (p : Place) (c : Tree) (r : Rest) → IsPlaced p c → RunsInUnits above c → IsRestOf c r
      → (q o : Place) (x y : Phase) → IsSamePhase x y → (q ≡ o → ⊥) → Has (facts r) (q, performing x) → Has (facts r) (o, performing y) → 2 ≤ shares x.unit (facts r)
  twice-held above p (act s w) (ready u v n) pl iu h q o x y e d k m = absurd (held-performing u.place (take n u.needs) q x k)
  twice-held above p (act s w) (asking u v n) pl iu h q o x y e d k m = absurd (asking-performing u.place (take n u.needs) (slice_get u.needs n) q x k)
  twice-held above p (act s w) (open_act u r) pl iu h q o x y e d k m =
      let t : 2 ≤ shares x.unit (facts r) =
      twice-held_below s.needs above p w r pl.1 iu h.1 q o x y e d (open-performing u.place u.needs r q x k) (open-performing u.place u.needs r o y m) in
      let a : shares x.unit (held_at u.place u.needs ++ facts r) ≡ shares x.unit (held_at u.place u.needs) + shares x.unit (facts r) = shares-append x.unit (held_at u.place u.needs) (facts r) in
      omega arith
  twice-held above p (act s w) (live u z t) pl iu h q o x y e d k m =
      absurd (d (sym (live-performing u.place u.needs z q x k).0 ∙ (live-performing u.place u.needs z o y m).0))
  twice-held above p (act s w) (freeing u n) pl iu h q o x y e d k m = absurd (held-performing u.place (take n u.needs) q x k)
  twice-held above p (seq cs) (in_seq r ds) pl iu h q o x y e d k m = twice-held_among above p 0 cs r ds pl iu h q o x y e d k m
  twice-held above p (par cs) (in_par r) pl iu h q o x y e d k m = twice-held_side_by_side above p 0 cs r pl iu h q o x y e d k m
  twice-held above p (sel ch) r pl iu h q o x y e d k m = twice-held_chosen above p 0 ch r pl iu h q o x y e d k m
  twice-held above p (loop n c body) (in_loop i j b r) pl iu h q o x y e d k m = twice-held above (child p 0) body r pl iu h.3 q o x y e d k m
  twice-held above p c r pl iu h q o x y e d k m = absurd (grind arith)

  pub twice-held_below : (needs above : List Need) (p : Place) (w : Task) (r : Rest) → IsPlacedBelow p w → RunsInUnitsBelow needs above w → IsRestBelow w r
      → (q o : Place) (x y : Phase) → IsSamePhase x y → (q ≡ o → ⊥) → Has (facts r) (q, performing x) → Has (facts r) (o, performing y) → 2 ≤ shares x.unit (facts r)
  twice-held_below needs above p (runs z) r pl iu h q o x y e d k m = absurd h
  twice-held_below needs above p (follows name c) r pl iu h q o x y e d k m = twice-held (needs ++ above) (child p 0) c r pl iu h q o x y e d k m

  pub twice-held_among : (above : List Need) (p : Place) (i : ℕ) (cs : Trees) (r : Rest) (ds : Trees) → ArePlaced p i cs → RunInUnits above cs → IsBranch cs r ds
      → (q o : Place) (x y : Phase) → IsSamePhase x y → (q ≡ o → ⊥) → Has (facts r) (q, performing x) → Has (facts r) (o, performing y) → 2 ≤ shares x.unit (facts r)
  twice-held_among above p i no_trees r ds pl iu h q o x y e d k m = absurd h
  twice-held_among above p i (tree c cs) r ds pl iu (inl h) q o x y e d k m = twice-held above (child p i) c r pl.0 iu.0 h.0 q o x y e d k m
  twice-held_among above p i (tree c cs) r ds pl iu (inr h) q o x y e d k m = twice-held_among above p (i + 1) cs r ds pl.1 iu.1 h q o x y e d k m

  pub twice-held_side_by_side : (above : List Need) (p : Place) (i : ℕ) (cs : Trees) (r : Rests) → ArePlaced p i cs → RunSideBySide above cs → AreBranches cs r
      → (q o : Place) (x y : Phase) → IsSamePhase x y → (q ≡ o → ⊥) → Has (facts_of_each r) (q, performing x) → Has (facts_of_each r) (o, performing y) → 2 ≤ shares x.unit (facts_of_each r)
  twice-held_side_by_side above p i (tree c cs) (rest r more) pl iu h q o x y e d k m =
      let a : shares x.unit (facts r ++ facts_of_each more) ≡ shares x.unit (facts r) + shares x.unit (facts_of_each more) = shares-append x.unit (facts r) (facts_of_each more) in
      let once : (z z' : Phase) (g g' : Place) → IsSamePhase z z' → z.unit ≡ x.unit → Has (facts r) (g, performing z) → Has (facts_of_each more) (g', performing z') → 2 ≤ shares x.unit (facts r ++ facts_of_each more)
      = λ z z' g g' same unit here there.
      let no : Has above (one_unit z.unit) → ⊥ = λ b. iu.1 z z' (performed-phase c r h.0 g z here) (performed-side_by_side cs more h.1 g' z' there) b same in
      let one : 1 ≤ shares x.unit (facts r) =
      ⊎_elim (λ b. absurd (no b)) (λ b. Has-shares x.unit b.0 (facts r) (subst (λ w. Has (facts r) (b.0, holding (one_unit w))) unit b.1))
      (unit-held above (child p i) c r pl.0 iu.0 h.0 g z here) in
      let two : 1 ≤ shares x.unit (facts_of_each more) =
      ⊎_elim (λ b. absurd (no (subst (λ w. Has above (one_unit w)) (sym same.0) b)))
      (λ b. Has-shares x.unit b.0 (facts_of_each more) (subst (λ w. Has (facts_of_each more) (b.0, holding (one_unit w))) (sym same.0 ∙ unit) b.1))
      (unit-held_side_by_side above p (i + 1) cs more pl.1 iu.2 h.1 g' z' there) in
      omega arith in
      ⊎_elim
      (λ k'. ⊎_elim
      (λ m'. let t : 2 ≤ shares x.unit (facts r) = twice-held above (child p i) c r pl.0 iu.0 h.0 q o x y e d k' m' in omega arith)
      (λ m'. once x y q o e refl k' m')
      (Has-split (facts r) (facts_of_each more) (o, performing y) m))
      (λ k'. ⊎_elim
      (λ m'. once y x o q (sym e.0, sym e.1) (sym e.0) m' k')
      (λ m'. let t : 2 ≤ shares x.unit (facts_of_each more) = twice-held_side_by_side above p (i + 1) cs more pl.1 iu.2 h.1 q o x y e d k' m' in omega arith)
      (Has-split (facts r) (facts_of_each more) (o, performing y) m))
      (Has-split (facts r) (facts_of_each more) (q, performing x) k)
  twice-held_side_by_side above p i cs r pl iu h q o x y e d k m = absurd (grind arith)

  pub twice-held_chosen : (above : List Need) (p : Place) (i : ℕ) (ch : Choices) (r : Rest) → IsChoicePlaced p i ch → ChoicesRunInUnits above ch → IsChosen ch r
      → (q o : Place) (x y : Phase) → IsSamePhase x y → (q ≡ o → ⊥) → Has (facts r) (q, performing x) → Has (facts r) (o, performing y) → 2 ≤ shares x.unit (facts r)
  twice-held_chosen above p i (otherwise c) r pl iu h q o x y e d k m = twice-held above (child p i) c r pl iu h q o x y e d k m
  twice-held_chosen above p i (choice b c ch) r pl iu (inl h) q o x y e d k m = twice-held above (child p i) c r pl.0 iu.0 h q o x y e d k m
  twice-held_chosen above p i (choice b c ch) r pl iu (inr h) q o x y e d k m = twice-held_chosen above p (i + 1) ch r pl.1 iu.1 h q o x y e d k m
