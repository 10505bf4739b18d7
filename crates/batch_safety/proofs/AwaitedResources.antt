-- A batch of a cleared recipe waits for resources of the cell alone, and for no more of one than its capacity.
use Rattle.std.proofs.Common.{arith, ⊎_elim, subst, ℕ, ◌+◌, ◌≤◌, List, [], ◌∷◌, ◌++◌, take, slice_get, IsTrue, inl, inr}
use Rattle.std.proofs.lemmas.Slice.Eq.{bytes_eq-Decides}
use Rattle.batch_recipe.specs.{Conditions.Name, Nodes.child, Tree.Place, Tree.Task, Tree.runs, Tree.follows, Tree.Tree, Tree.act, Tree.seq, Tree.par, Tree.sel, Tree.loop, Tree.Trees, Tree.no_trees, Tree.tree, Tree.Choices, Tree.otherwise, Tree.choice, WellFormed.is_among, declared.need.Need.Need, Needs.resources_needed}
use Rattle.batch_model.{specs.Lists.Has, specs.Lists.Each, specs.Rest.Rest, specs.Rest.ready, specs.Rest.asking, specs.Rest.open_act, specs.Rest.live, specs.Rest.freeing, specs.Rest.in_seq, specs.Rest.in_par, specs.Rest.in_loop, specs.Rest.Rests, specs.Rest.rest, specs.Plant.Setup, specs.Standing.IsRestOf, specs.Standing.IsRestBelow, specs.Standing.IsBranch, specs.Standing.AreBranches, specs.Standing.IsChosen, specs.Cleared.Ranking, specs.Cleared.Level, specs.Cleared.below, specs.Cleared.Part, specs.Cleared.parts, specs.Cleared.parts_within, specs.Cleared.parts_of_each, specs.Cleared.parts_of_choices, specs.Cleared.IsClear, proofs.Members.Has-split, proofs.Members.Each-Has}
use Rattle.batch_record_laws.proofs.{PlantFacts.awaiting, PlantFacts.performing, PlantFacts.held_at, PlantFacts.awaited_at, PlantFacts.facts, PlantFacts.facts_of_each, Members.Each-left, Members.Each-right, RanksOfAsks.Has-get, RanksOfAsks.held-awaiting, RanksOfAsks.awaited-awaiting, RanksOfAsks.lone-awaiting}

pub among-Has : (names : List Name) (x : Name) → IsTrue (is_among names x) → Has names x
among-Has [] x h = absurd cc
among-Has (y ∷ names) x h = grind (arith, among-Has names x, bytes_eq-Decides x y)

module _ (setup : Setup) (rank : Ranking) where
  abbrev Clear : Part → Type 0
  Clear = IsClear setup rank

  -- a need is of a resource of the cell, and of no more units than this has
  abbrev pub CanBeMet : Need → Type 0
  CanBeMet x = IsTrue (is_among setup.resources x.resource) × (x.units ≤ setup.capacity x.resource)

  mutual
    pub awaited-known : (l : Level) (p : Place) (asked : List Name) (c : Tree) (r : Rest) → Each Clear (parts l p asked c) → IsRestOf c r → (q : Place) (x : Need)
        → Has (facts r) (q, awaiting x) → CanBeMet x
    awaited-known l p asked (act s w) (ready u v n) cl h q x k = absurd (held-awaiting u.place (take n u.needs) q x k)
    awaited-known l p asked (act s w) (asking u v n) cl h q x k =
        let own : Has s.needs x =
        subst (λ z. Has z.needs x) h.0
        (Has-get n u.needs x
        (⊎_elim (λ m. absurd (held-awaiting u.place (take n u.needs) q x m)) (awaited-awaiting u.place (slice_get u.needs n) q x)
        (Has-split (held_at u.place (take n u.needs)) (awaited_at u.place (slice_get u.needs n)) (q, awaiting x) k))) in (
          Each-Has (λ z. IsTrue (is_among setup.resources z.resource)) s.needs x cl.0.known own,
          Each-Has (λ z. z.units ≤ setup.capacity z.resource) s.needs x cl.0.within own,
        )
    awaited-known l p asked (act s w) (open_act u r) cl h q x k =
        ⊎_elim (λ m. absurd (held-awaiting u.place u.needs q x m)) (awaited-known_below (below l) p (asked ++ resources_needed s.needs) w r cl.1 h.1 q x)
        (Has-split (held_at u.place u.needs) (facts r) (q, awaiting x) k)
    awaited-known l p asked (act s w) (live u y t) cl h q x k =
        ⊎_elim (λ m. absurd (held-awaiting u.place u.needs q x m)) (λ m. absurd (lone-awaiting u.place y q x m))
        (Has-split (held_at u.place u.needs) ((u.place, performing y) ∷ []) (q, awaiting x) k)
    awaited-known l p asked (act s w) (freeing u n) cl h q x k = absurd (held-awaiting u.place (take n u.needs) q x k)
    awaited-known l p asked (seq cs) (in_seq r ds) cl h q x k = awaited-known_branch l p asked 0 cs r ds cl.1 h q x k
    awaited-known l p asked (par cs) (in_par rs) cl h q x k = awaited-known_each l p asked 0 cs rs cl.1 h q x k
    awaited-known l p asked (sel ch) r cl h q x k = awaited-known_chosen l p asked 0 ch r cl.1 h q x k
    awaited-known l p asked (loop n c body) (in_loop m d b r) cl h q x k = awaited-known l (child p 0) asked body r cl.1 h.3 q x k
    awaited-known l p asked c r cl h q x k = grind arith

    pub awaited-known_below : (l : Level) (p : Place) (asked : List Name) (w : Task) (r : Rest) → Each Clear (parts_within l p asked w) → IsRestBelow w r → (q : Place) (x : Need)
        → Has (facts r) (q, awaiting x) → CanBeMet x
    awaited-known_below l p asked (runs y) r cl h q x k = absurd h
    awaited-known_below l p asked (follows name c) r cl h q x k = awaited-known l (child p 0) asked c r cl h q x k

    pub awaited-known_branch : (l : Level) (p : Place) (asked : List Name) (i : ℕ) (cs : Trees) (r : Rest) (ds : Trees) → Each Clear (parts_of_each l p asked i cs) → IsBranch cs r ds
        → (q : Place) (x : Need) → Has (facts r) (q, awaiting x) → CanBeMet x
    awaited-known_branch l p asked i no_trees r ds cl h q x k = absurd h
    awaited-known_branch l p asked i (tree c cs) r ds cl (inl h) q x k =
        awaited-known l (child p i) asked c r (Each-left Clear (parts l (child p i) asked c) (parts_of_each l p asked (i + 1) cs) cl) h.0 q x k
    awaited-known_branch l p asked i (tree c cs) r ds cl (inr h) q x k =
        awaited-known_branch l p asked (i + 1) cs r ds (Each-right Clear (parts l (child p i) asked c) (parts_of_each l p asked (i + 1) cs) cl) h q x k

    pub awaited-known_each : (l : Level) (p : Place) (asked : List Name) (i : ℕ) (cs : Trees) (rs : Rests) → Each Clear (parts_of_each l p asked i cs) → AreBranches cs rs
        → (q : Place) (x : Need) → Has (facts_of_each rs) (q, awaiting x) → CanBeMet x
    awaited-known_each l p asked i (tree c cs) (rest r rs) cl h q x k =
        ⊎_elim (awaited-known l (child p i) asked c r (Each-left Clear (parts l (child p i) asked c) (parts_of_each l p asked (i + 1) cs) cl) h.0 q x)
        (awaited-known_each l p asked (i + 1) cs rs (Each-right Clear (parts l (child p i) asked c) (parts_of_each l p asked (i + 1) cs) cl) h.1 q x)
        (Has-split (facts r) (facts_of_each rs) (q, awaiting x) k)
    awaited-known_each l p asked i cs rs cl h q x k = grind arith

    pub awaited-known_chosen : (l : Level) (p : Place) (asked : List Name) (i : ℕ) (ch : Choices) (r : Rest) → Each Clear (parts_of_choices l p asked i ch) → IsChosen ch r
        → (q : Place) (x : Need) → Has (facts r) (q, awaiting x) → CanBeMet x
    awaited-known_chosen l p asked i (otherwise c) r cl h q x k = awaited-known l (child p i) asked c r cl h q x k
    awaited-known_chosen l p asked i (choice e c ch) r cl (inl h) q x k =
        awaited-known l (child p i) asked c r (Each-left Clear (parts l (child p i) asked c) (parts_of_choices l p asked (i + 1) ch) cl) h q x k
    awaited-known_chosen l p asked i (choice e c ch) r cl (inr h) q x k =
        awaited-known_chosen l p asked (i + 1) ch r (Each-right Clear (parts l (child p i) asked c) (parts_of_choices l p asked (i + 1) ch) cl) h q x k
