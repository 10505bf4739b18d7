-- Acts that stand at their nodes ask for, and free, only needs that they have.
use Rattle.std.proofs.Common.{◌≡◌, refl, ℕ, zero, suc, ◌<◌, ◌≤◌, arith, List, [], ◌∷◌, slice_get, Some, length, inl, inr}
use Rattle.batch_recipe.specs.{Tree.Tree, Tree.act, Tree.seq, Tree.par, Tree.sel, Tree.loop, Tree.Task, Tree.runs, Tree.follows, Tree.Trees, Tree.no_trees, Tree.tree, Tree.Choices, Tree.otherwise, Tree.choice, declared.need.Need.Need}
use Rattle.batch_model.specs.{Rest.Rest, Rest.ready, Rest.asking, Rest.open_act, Rest.live, Rest.freeing, Rest.in_seq, Rest.in_par, Rest.in_loop, Rest.done, Rest.Rests, Rest.no_rests, Rest.rest, Standing.IsRestOf, Standing.IsRestBelow, Standing.IsBranch, Standing.AreBranches, Standing.IsChosen}

abbrev mutual
  -- an act that asks asks for one of its needs, and one that frees holds one of them
  pub IsBounded : Rest → Type 0
  IsBounded (ready s w k) = Unit {0}
  IsBounded (asking s w k) = (r : Need) × (slice_get s.needs k ≡ Some r)
  IsBounded (open_act s r) = IsBounded r
  IsBounded (live s x t) = Unit {0}
  IsBounded (freeing s k) = (0 < k) × (k ≤ length s.needs)
  IsBounded (in_seq r cs) = IsBounded r
  IsBounded (in_par rs) = AreBounded rs
  IsBounded (in_loop n c body r) = IsBounded r
  IsBounded done = Unit {0}

  pub AreBounded : Rests → Type 0
  AreBounded no_rests = Unit {0}
  AreBounded (rest r rs) = IsBounded r × AreBounded rs

get-below : (k : ℕ) (names : List Need) → k < length names → (r : Need) × (slice_get names k ≡ Some r)
get-below k [] h = absurd (omega arith)
get-below zero (x ∷ names) h = (x, refl)
get-below (suc k) (x ∷ names) h = get-below k names (omega arith)

mutual
  pub rest-bounded : (c : Tree) (r : Rest) → IsRestOf c r → IsBounded r
  rest-bounded (act s w) (ready t v k) h = tt
  rest-bounded (act s w) (asking t v k) h = get-below k t.needs h.2
  rest-bounded (act s w) (open_act t r) h = rest-bounded_below w r h.1
  rest-bounded (act s w) (live t p x) h = tt
  rest-bounded (act s w) (freeing t k) h = (h.1, h.2)
  rest-bounded (seq cs) (in_seq r ds) h = rest-bounded_branch cs r ds h
  rest-bounded (par cs) (in_par rs) h = rest-bounded_each cs rs h
  rest-bounded (sel ch) r h = rest-bounded_chosen ch r h
  rest-bounded (loop n c body) (in_loop m d b r) h = rest-bounded body r h.3
  rest-bounded c done h = tt
  rest-bounded _ _ h = absurd h

  pub rest-bounded_below : (w : Task) (r : Rest) → IsRestBelow w r → IsBounded r
  rest-bounded_below (runs p) r h = absurd h
  rest-bounded_below (follows name c) r h = rest-bounded c r h

  pub rest-bounded_branch : (cs : Trees) (r : Rest) (ds : Trees) → IsBranch cs r ds → IsBounded r
  rest-bounded_branch no_trees r ds h = absurd h
  rest-bounded_branch (tree c cs) r ds (inl h) = rest-bounded c r h.0
  rest-bounded_branch (tree c cs) r ds (inr h) = rest-bounded_branch cs r ds h

  pub rest-bounded_each : (cs : Trees) (rs : Rests) → AreBranches cs rs → AreBounded rs
  rest-bounded_each no_trees no_rests h = tt
  rest-bounded_each (tree c cs) (rest r rs) h = (rest-bounded c r h.0, rest-bounded_each cs rs h.1)
  rest-bounded_each cs rs h = absurd (grind arith)

  pub rest-bounded_chosen : (ch : Choices) (r : Rest) → IsChosen ch r → IsBounded r
  rest-bounded_chosen (otherwise c) r h = rest-bounded c r h
  rest-bounded_chosen (choice p c ch) r (inl h) = rest-bounded c r h
  rest-bounded_chosen (choice p c ch) r (inr h) = rest-bounded_chosen ch r h
