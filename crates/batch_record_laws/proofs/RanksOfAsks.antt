-- A resource that is asked for has a higher rank than one that is held at or above the ask.
use Rattle.std.proofs.Common.{◌+◌, ◌≡◌, sym, ap, subst, ℕ, zero, suc, ◌≤◌, ◌<◌, arith, List, [], ◌∷◌, take, slice_get, Option, Some, inl, inr, ⊎_elim}
use Rattle.batch_model.{specs.Lists.Has, specs.Rest.Rest, specs.Rest.ready, specs.Rest.asking, specs.Rest.open_act, specs.Rest.live, specs.Rest.freeing, specs.Rest.in_seq, specs.Rest.in_par, specs.Rest.in_loop, specs.Rest.Rests, specs.Rest.rest, specs.Records.IsAtOrAbove, specs.Standing.IsRestOf, specs.Standing.IsRestBelow, specs.Standing.IsBranch, specs.Standing.AreBranches, specs.Standing.IsChosen, specs.Placed.IsPlaced, specs.Placed.IsPlacedBelow, specs.Placed.ArePlaced, specs.Placed.IsChoicePlaced, specs.Cleared.Ranking, proofs.Members.Has-split}
use Rattle.batch_recipe.specs.{Conditions.Name, Tree.Place, Tree.Phase, Tree.Tree, Tree.act, Tree.seq, Tree.par, Tree.sel, Tree.loop, Tree.Task, Tree.runs, Tree.follows, Tree.Trees, Tree.no_trees, Tree.tree, Tree.Choices, Tree.otherwise, Tree.choice, Nodes.child, declared.need.Need.Need, Needs.resources_needed}
use Rattle.batch_record_laws.{proofs.PlantFacts.Fact, proofs.PlantFacts.holding, proofs.PlantFacts.awaiting, proofs.PlantFacts.performing, proofs.PlantFacts.Standing, proofs.PlantFacts.held_at, proofs.PlantFacts.awaited_at, proofs.PlantFacts.facts, proofs.PlantFacts.facts_of_each, specs.Ways.RanksRiseAbove, specs.Ways.last_rank, specs.Ways.RisesDown, specs.Ways.RisesBelow, specs.Ways.RiseDown, specs.Ways.ChoicesRiseDown, proofs.Members.Has-map, proofs.FactPlaces.IsUnderChild, proofs.FactPlaces.IsUnderLater, proofs.FactPlaces.under_child, proofs.FactPlaces.facts-under, proofs.FactPlaces.facts-side_by_side, proofs.FactPlaces.children_apart}

pub rises-above : (rank : Ranking) (low : ℕ) (needs : List Need) (r : Need) → RanksRiseAbove rank low (resources_needed needs) → Has needs r → low < rank r.resource
rises-above rank low [] r h k = absurd k
rises-above rank low (q ∷ needs) r h (inl e) = subst (λ x. low < rank x.resource) e h.0
rises-above rank low (q ∷ needs) r h (inr k) = let m : rank q.resource < rank r.resource = rises-above rank (rank q.resource) needs r h.1 k in omega (arith, h.0)

last_rank-above : (rank : Ranking) (low : ℕ) (names : List Name) → RanksRiseAbove rank low names → low ≤ last_rank rank low names
last_rank-above rank low [] h = omega arith
last_rank-above rank low (q ∷ names) h = let m : rank q ≤ last_rank rank (rank q) names = last_rank-above rank (rank q) names h.1 in omega (arith, h.0)

rises-below_last : (rank : Ranking) (low : ℕ) (needs : List Need) (r : Need) → RanksRiseAbove rank low (resources_needed needs) → Has needs r
    → rank r.resource ≤ last_rank rank low (resources_needed needs)
rises-below_last rank low [] r h k = absurd k
rises-below_last rank low (q ∷ needs) r h (inl e) =
    subst (λ x. rank x.resource ≤ last_rank rank (rank q.resource) (resources_needed needs)) e (last_rank-above rank (rank q.resource) (resources_needed needs) h.1)
rises-below_last rank low (q ∷ needs) r h (inr k) = rises-below_last rank (rank q.resource) needs r h.1 k

pub Has-get : (k : ℕ) (names : List Need) (r : Need) → slice_get names k ≡ Some r → Has names r
Has-get k [] r e = absurd cc
Has-get zero (q ∷ names) r e = inl cc
Has-get (suc k) (q ∷ names) r e = inr (Has-get k names r e)

-- the first k needs have lower ranks than the next
pub rises-next : (rank : Ranking) (low k : ℕ) (names : List Need) (x y : Need) → RanksRiseAbove rank low (resources_needed names) → Has (take k names) x → slice_get names k ≡ Some y
    → rank x.resource < rank y.resource
rises-next rank low (suc n) (q ∷ names) x y h (inl p) e = subst (λ z. rank z.resource < rank y.resource) p (rises-above rank (rank q.resource) names y h.1 (Has-get n names y e))
rises-next rank low (suc n) (q ∷ names) x y h (inr k) e = rises-next rank (rank q.resource) n names x y h.1 k e
rises-next rank low k names x y h m e = grind arith

same_fact : (p q : Place) (a b : Fact) → ◌≡◌ {A = Standing} (p, a) (q, b) → a ≡ b
same_fact p q a b e = ap (λ s. s.1) e

pub same_holding : (x y : Need) → holding x ≡ holding y → x ≡ y
same_holding x y e = cc

pub same_awaiting : (x y : Need) → awaiting x ≡ awaiting y → x ≡ y
same_awaiting x y e = cc

pub holding-awaiting : (x y : Need) → holding x ≡ awaiting y → ⊥
holding-awaiting x y e = cc

pub holding-performing : (x : Need) (y : Phase) → holding x ≡ performing y → ⊥
holding-performing x y e = cc

pub awaiting-performing : (x : Need) (y : Phase) → awaiting x ≡ performing y → ⊥
awaiting-performing x y e = cc

pub held-holding : (p : Place) (names : List Need) (q : Place) (x : Need) → Has (held_at p names) (q, holding x) → Has names x
held-holding p names q x h = grind (arith, holding x, Has-map, same_holding, same_fact)

pub held-awaiting : (p : Place) (names : List Need) (q : Place) (x : Need) → Has (held_at p names) (q, awaiting x) → ⊥
held-awaiting p names q x h = grind (arith, Has-map, holding, same_fact)

pub held-performing : (p : Place) (names : List Need) (q : Place) (x : Phase) → Has (held_at p names) (q, performing x) → ⊥
held-performing p names q x h = grind (arith, Has-map, holding, same_fact)

pub awaited-awaiting : (p : Place) (o : Option Need) (q : Place) (x : Need) → Has (awaited_at p o) (q, awaiting x) → o ≡ Some x
awaited-awaiting p (Some r) q x (inl e) = ap Some (same_awaiting r x (same_fact p q (awaiting r) (awaiting x) e))
awaited-awaiting p o q x h = grind arith

pub awaited-holding : (p : Place) (o : Option Need) (q : Place) (x : Need) → Has (awaited_at p o) (q, holding x) → ⊥
awaited-holding p o q x h = grind (arith, same_fact, holding)

pub awaited-performing : (p : Place) (o : Option Need) (q : Place) (x : Phase) → Has (awaited_at p o) (q, performing x) → ⊥
awaited-performing p o q x h = grind (arith, same_fact)

pub lone-holding : (p : Place) (y : Phase) (q : Place) (x : Need) → Has {X = Standing} ((p, performing y) ∷ []) (q, holding x) → ⊥
lone-holding p y q x h = grind (arith, same_fact, holding)

pub lone-awaiting : (p : Place) (y : Phase) (q : Place) (x : Need) → Has {X = Standing} ((p, performing y) ∷ []) (q, awaiting x) → ⊥
lone-awaiting p y q x h = grind (arith, same_fact)

-- every resource that a rest holds or awaits has a rank above the bound of its chart
mutual
  pub awaited-above : (rank : Ranking) (low : ℕ) (c : Tree) (r : Rest) → RisesDown rank low c → IsRestOf c r → (q : Place) (x : Need) → Has (facts r) (q, awaiting x) → low < rank x.resource
  awaited-above rank low (act s w) (ready u v n) rs h q x k = absurd (held-awaiting u.place (take n u.needs) q x k)
  awaited-above rank low (act s w) (asking u v n) rs h q x k =
      rises-above rank low s.needs x rs.0
      (subst (λ z. Has z.needs x) h.0
      (Has-get n u.needs x
      (⊎_elim (λ m. absurd (held-awaiting u.place (take n u.needs) q x m)) (awaited-awaiting u.place (slice_get u.needs n) q x)
      (Has-split (held_at u.place (take n u.needs)) (awaited_at u.place (slice_get u.needs n)) (q, awaiting x) k))))
  awaited-above rank low (act s w) (open_act u r) rs h q x k =
      ⊎_elim (λ m. absurd (held-awaiting u.place u.needs q x m))
      (λ m. let e : last_rank rank low (resources_needed s.needs) < rank x.resource = awaited-above_below rank (last_rank rank low (resources_needed s.needs)) w r rs.1 h.1 q x m in
      let f : low ≤ last_rank rank low (resources_needed s.needs) = last_rank-above rank low (resources_needed s.needs) rs.0 in
      omega arith)
      (Has-split (held_at u.place u.needs) (facts r) (q, awaiting x) k)
  awaited-above rank low (act s w) (live u y t) rs h q x k =
      ⊎_elim (λ m. absurd (held-awaiting u.place u.needs q x m)) (λ m. absurd (lone-awaiting u.place y q x m))
      (Has-split (held_at u.place u.needs) ((u.place, performing y) ∷ []) (q, awaiting x) k)
  awaited-above rank low (act s w) (freeing u n) rs h q x k = absurd (held-awaiting u.place (take n u.needs) q x k)
  awaited-above rank low (seq cs) (in_seq r ds) rs h q x k = awaited-above_among rank low cs r ds rs h q x k
  awaited-above rank low (par cs) (in_par r) rs h q x k = awaited-above_side_by_side rank low cs r rs h q x k
  awaited-above rank low (sel ch) r rs h q x k = awaited-above_chosen rank low ch r rs h q x k
  awaited-above rank low (loop n c body) (in_loop m d b r) rs h q x k = awaited-above rank low body r rs h.3 q x k
  awaited-above rank low c r rs h q x k = absurd (grind arith)

  pub awaited-above_below : (rank : Ranking) (low : ℕ) (w : Task) (r : Rest) → RisesBelow rank low w → IsRestBelow w r → (q : Place) (x : Need) → Has (facts r) (q, awaiting x) → low < rank x.resource
  awaited-above_below rank low (runs y) r rs h q x k = absurd h
  awaited-above_below rank low (follows name c) r rs h q x k = awaited-above rank low c r rs h q x k

  pub awaited-above_among : (rank : Ranking) (low : ℕ) (cs : Trees) (r : Rest) (ds : Trees) → RiseDown rank low cs → IsBranch cs r ds → (q : Place) (x : Need) → Has (facts r) (q, awaiting x) → low < rank x.resource
  awaited-above_among rank low no_trees r ds rs h q x k = absurd h
  awaited-above_among rank low (tree c cs) r ds rs (inl h) q x k = awaited-above rank low c r rs.0 h.0 q x k
  awaited-above_among rank low (tree c cs) r ds rs (inr h) q x k = awaited-above_among rank low cs r ds rs.1 h q x k

  pub awaited-above_side_by_side : (rank : Ranking) (low : ℕ) (cs : Trees) (r : Rests) → RiseDown rank low cs → AreBranches cs r → (q : Place) (x : Need) → Has (facts_of_each r) (q, awaiting x) → low < rank x.resource
  awaited-above_side_by_side rank low (tree c cs) (rest r more) rs h q x k =
      ⊎_elim (awaited-above rank low c r rs.0 h.0 q x) (awaited-above_side_by_side rank low cs more rs.1 h.1 q x) (Has-split (facts r) (facts_of_each more) (q, awaiting x) k)
  awaited-above_side_by_side rank low cs r rs h q x k = absurd (grind arith)

  pub awaited-above_chosen : (rank : Ranking) (low : ℕ) (ch : Choices) (r : Rest) → ChoicesRiseDown rank low ch → IsChosen ch r → (q : Place) (x : Need) → Has (facts r) (q, awaiting x) → low < rank x.resource
  awaited-above_chosen rank low (otherwise c) r rs h q x k = awaited-above rank low c r rs h q x k
  awaited-above_chosen rank low (choice d c ch) r rs (inl h) q x k = awaited-above rank low c r rs.0 h q x k
  awaited-above_chosen rank low (choice d c ch) r rs (inr h) q x k = awaited-above_chosen rank low ch r rs.1 h q x k

mutual
  -- a resource awaited at or below a holder's place has a higher rank than the one held there
  pub rank-rises : (rank : Ranking) (low : ℕ) (p : Place) (c : Tree) (r : Rest) → IsPlaced p c → RisesDown rank low c → IsRestOf c r
      → (qh qw : Place) (x y : Need) → Has (facts r) (qh, holding x) → Has (facts r) (qw, awaiting y) → IsAtOrAbove qh qw → rank x.resource < rank y.resource
  rank-rises rank low p (act s w) (ready u v n) pl rs h qh qw x y hk wk ab = absurd (held-awaiting u.place (take n u.needs) qw y wk)
  rank-rises rank low p (act s w) (asking u v n) pl rs h qh qw x y hk wk ab =
      rises-next rank low n u.needs x y (subst (λ z. RanksRiseAbove rank low (resources_needed z.needs)) (sym h.0) rs.0)
      (⊎_elim (held-holding u.place (take n u.needs) qh x) (λ m. absurd (awaited-holding u.place (slice_get u.needs n) qh x m))
      (Has-split (held_at u.place (take n u.needs)) (awaited_at u.place (slice_get u.needs n)) (qh, holding x) hk))
      (⊎_elim (λ m. absurd (held-awaiting u.place (take n u.needs) qw y m)) (awaited-awaiting u.place (slice_get u.needs n) qw y)
      (Has-split (held_at u.place (take n u.needs)) (awaited_at u.place (slice_get u.needs n)) (qw, awaiting y) wk))
  rank-rises rank low p (act s w) (open_act u r) pl rs h qh qw x y hk wk ab =
      let below : Has (facts r) (qw, awaiting y) =
      ⊎_elim (λ m. absurd (held-awaiting u.place u.needs qw y m)) (λ m. m) (Has-split (held_at u.place u.needs) (facts r) (qw, awaiting y) wk) in
      let high : last_rank rank low (resources_needed s.needs) < rank y.resource = awaited-above_below rank (last_rank rank low (resources_needed s.needs)) w r rs.1 h.1 qw y below in
      ⊎_elim
      (λ m.
      let e : rank x.resource ≤ last_rank rank low (resources_needed s.needs) = rises-below_last rank low s.needs x rs.0 (subst (λ z. Has z.needs x) h.0 (held-holding u.place u.needs qh x m)) in
      omega arith)
      (λ m. rank-rises_below rank (last_rank rank low (resources_needed s.needs)) p w r pl.1 rs.1 h.1 qh qw x y m below ab)
      (Has-split (held_at u.place u.needs) (facts r) (qh, holding x) hk)
  rank-rises rank low p (act s w) (live u z t) pl rs h qh qw x y hk wk ab =
      ⊎_elim (λ m. absurd (held-awaiting u.place u.needs qw y m)) (λ m. absurd (lone-awaiting u.place z qw y m))
      (Has-split (held_at u.place u.needs) ((u.place, performing z) ∷ []) (qw, awaiting y) wk)
  rank-rises rank low p (act s w) (freeing u n) pl rs h qh qw x y hk wk ab = absurd (held-awaiting u.place (take n u.needs) qw y wk)
  rank-rises rank low p (seq cs) (in_seq r ds) pl rs h qh qw x y hk wk ab = rank-rises_among rank low p 0 cs r ds pl rs h qh qw x y hk wk ab
  rank-rises rank low p (par cs) (in_par r) pl rs h qh qw x y hk wk ab = rank-rises_side_by_side rank low p 0 cs r pl rs h qh qw x y hk wk ab
  rank-rises rank low p (sel ch) r pl rs h qh qw x y hk wk ab = rank-rises_chosen rank low p 0 ch r pl rs h qh qw x y hk wk ab
  rank-rises rank low p (loop n c body) (in_loop m d b r) pl rs h qh qw x y hk wk ab = rank-rises rank low (child p 0) body r pl rs h.3 qh qw x y hk wk ab
  rank-rises rank low p c r pl rs h qh qw x y hk wk ab = absurd (grind arith)

  pub rank-rises_below : (rank : Ranking) (low : ℕ) (p : Place) (w : Task) (r : Rest) → IsPlacedBelow p w → RisesBelow rank low w → IsRestBelow w r
      → (qh qw : Place) (x y : Need) → Has (facts r) (qh, holding x) → Has (facts r) (qw, awaiting y) → IsAtOrAbove qh qw → rank x.resource < rank y.resource
  rank-rises_below rank low p (runs z) r pl rs h qh qw x y hk wk ab = absurd h
  rank-rises_below rank low p (follows name c) r pl rs h qh qw x y hk wk ab = rank-rises rank low (child p 0) c r pl rs h qh qw x y hk wk ab

  pub rank-rises_among : (rank : Ranking) (low : ℕ) (p : Place) (i : ℕ) (cs : Trees) (r : Rest) (ds : Trees) → ArePlaced p i cs → RiseDown rank low cs → IsBranch cs r ds
      → (qh qw : Place) (x y : Need) → Has (facts r) (qh, holding x) → Has (facts r) (qw, awaiting y) → IsAtOrAbove qh qw → rank x.resource < rank y.resource
  rank-rises_among rank low p i no_trees r ds pl rs h qh qw x y hk wk ab = absurd h
  rank-rises_among rank low p i (tree c cs) r ds pl rs (inl h) qh qw x y hk wk ab = rank-rises rank low (child p i) c r pl.0 rs.0 h.0 qh qw x y hk wk ab
  rank-rises_among rank low p i (tree c cs) r ds pl rs (inr h) qh qw x y hk wk ab = rank-rises_among rank low p (i + 1) cs r ds pl.1 rs.1 h qh qw x y hk wk ab

  pub rank-rises_side_by_side : (rank : Ranking) (low : ℕ) (p : Place) (i : ℕ) (cs : Trees) (r : Rests) → ArePlaced p i cs → RiseDown rank low cs → AreBranches cs r
      → (qh qw : Place) (x y : Need) → Has (facts_of_each r) (qh, holding x) → Has (facts_of_each r) (qw, awaiting y) → IsAtOrAbove qh qw → rank x.resource < rank y.resource
  rank-rises_side_by_side rank low p i (tree c cs) (rest r more) pl rs h qh qw x y hk wk ab =
      let here : (q : Place) (f : Fact) → Has (facts r) (q, f) → IsUnderChild p i q = λ q f m. under_child p i q (facts-under (child p i) c r pl.0 h.0 (q, f) m) in
      let there : (q : Place) (f : Fact) → Has (facts_of_each more) (q, f) → IsUnderLater p (i + 1) q = λ q f m. facts-side_by_side p (i + 1) cs more pl.1 h.1 (q, f) m in
      ⊎_elim
      (λ m. ⊎_elim (λ n. rank-rises rank low (child p i) c r pl.0 rs.0 h.0 qh qw x y m n ab)
      (λ n. let t = there qw (awaiting y) n in
      let e : i ≡ t.0 = children_apart p i t.0 qh qw (here qh (holding x) m) t.2 ab in absurd (omega (arith, e, t.1)))
      (Has-split (facts r) (facts_of_each more) (qw, awaiting y) wk))
      (λ m. ⊎_elim (λ n. let t = there qh (holding x) m in
      let e : t.0 ≡ i = children_apart p t.0 i qh qw t.2 (here qw (awaiting y) n) ab in absurd (omega (arith, e, t.1)))
      (λ n. rank-rises_side_by_side rank low p (i + 1) cs more pl.1 rs.1 h.1 qh qw x y m n ab)
      (Has-split (facts r) (facts_of_each more) (qw, awaiting y) wk))
      (Has-split (facts r) (facts_of_each more) (qh, holding x) hk)
  rank-rises_side_by_side rank low p i cs r pl rs h qh qw x y hk wk ab = absurd (grind arith)

  pub rank-rises_chosen : (rank : Ranking) (low : ℕ) (p : Place) (i : ℕ) (ch : Choices) (r : Rest) → IsChoicePlaced p i ch → ChoicesRiseDown rank low ch → IsChosen ch r
      → (qh qw : Place) (x y : Need) → Has (facts r) (qh, holding x) → Has (facts r) (qw, awaiting y) → IsAtOrAbove qh qw → rank x.resource < rank y.resource
  rank-rises_chosen rank low p i (otherwise c) r pl rs h qh qw x y hk wk ab = rank-rises rank low (child p i) c r pl rs h qh qw x y hk wk ab
  rank-rises_chosen rank low p i (choice d c ch) r pl rs (inl h) qh qw x y hk wk ab = rank-rises rank low (child p i) c r pl.0 rs.0 h qh qw x y hk wk ab
  rank-rises_chosen rank low p i (choice d c ch) r pl rs (inr h) qh qw x y hk wk ab = rank-rises_chosen rank low p (i + 1) ch r pl.1 rs.1 h qh qw x y hk wk ab
