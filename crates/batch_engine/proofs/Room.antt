-- Room is there for all that batches can hold and ask for at once.
use Rattle.std.proofs.Common.{◌≡◌, ◌<◌, ◌≤◌, ◌+◌, refl, sym, ◌∙◌, ap, get_or, ℕ, zero, suc, List, [], ◌∷◌, ◌++◌, Bool, true, false, Some, cond, arith, length, drop, set}
use Rattle.std.{specs.List.remove, specs.Prelude.slice_get, proofs.lemmas.List.length-append, proofs.lemmas.List.Sums.sum_by-set, proofs.lemmas.List.Sums.sum_by-cons, proofs.lemmas.List.Sums.sum_by_push}
use Rattle.batch_verify.specs.ClearedSet.{ClearedSet}
use Rattle.batch_arbiter.specs.Allocation.{Claim, shares_at, line_of_asks, units_claimed, after_ask, after_grant, handed_over, after_pass, after_release, without_first, is_claim}
use Rattle.batch_chart.specs.NodesOf.{needs_in}
use Rattle.batch_engine.{specs.Batches.BatchList, specs.Batches.with_batch_at, specs.declared.batch.Batch.Batch, specs.View.EngineView, specs.View.tree_at, specs.View.tree_of, specs.Kept.needs_of_all, specs.Kept.HasRoom, proofs.BatchPlaces.made_by, proofs.InvariantAfterMove.changed}

-- a changed batch of the same recipe and units has the same needs
pub needs-same : (c : ClearedSet) (bs : List Batch) (i : ℕ) (b b' : Batch) → slice_get bs i ≡ Some b → made_by b' ≡ made_by b → needs_of_all c (set bs i b') ≡ needs_of_all c bs
needs-same c [] i b b' e r = absurd cc
needs-same c (x ∷ bs) zero b b' e r =
    let f : x ≡ b = cc in
    let n : needs_in (tree_of c b') ≡ needs_in (tree_of c x) = ap (λ (z : ℕ × List ℕ). needs_in (tree_at c z.0 z.1)) (r ∙ ap made_by (sym f)) in
    omega (arith, sum_by-cons (λ (z : Batch). needs_in (tree_of c z)) b' bs, sum_by-cons (λ (z : Batch). needs_in (tree_of c z)) x bs, n)
needs-same c (x ∷ bs) (suc i) b b' e r =
    omega (arith, sum_by-cons (λ (z : Batch). needs_in (tree_of c z)) x (set bs i b'), sum_by-cons (λ (z : Batch). needs_in (tree_of c z)) x bs, needs-same c bs i b b' e r)

-- the same, if the batch is read at the index
pub needs-set : (c : ClearedSet) (r : BatchList) (i : ℕ) (b b' : Batch) → b ≡ get_or r.batches i b → made_by b' ≡ made_by b → (needs : ℕ) → needs ≡ needs_of_all c r.batches
    → needs ≡ needs_of_all c (with_batch_at i r b').batches
needs-set c r i b b' at made needs e = e ∙ sym (go r.batches i at)
  where
    go : (bs : List Batch) (j : ℕ) → b ≡ get_or bs j b → needs_of_all c (set bs j b') ≡ needs_of_all c bs
    go [] zero f = refl
    go [] (suc j) f = refl
    go (x ∷ bs) zero f = needs-same c (x ∷ bs) 0 b b' (ap Some (sym f)) made
    go (x ∷ bs) (suc j) f =
        omega (arith, go bs j f, sum_by-cons (λ (z : Batch). needs_in (tree_of c z)) x (set bs j b'), sum_by-cons (λ (z : Batch). needs_in (tree_of c z)) x bs)

-- a batch that is added brings its needs
pub needs-added : (c : ClearedSet) (bs : List Batch) (b : Batch) → needs_of_all c (bs ++ b ∷ []) ≡ needs_of_all c bs + needs_in (tree_of c b)
needs-added c bs b = sum_by_push (λ (z : Batch). needs_in (tree_of c z)) bs b

-- the removal of a batch takes its needs from the sum
pub needs-removed : (c : ClearedSet) (bs : List Batch) (i : ℕ) (b : Batch) → slice_get bs i ≡ Some b → needs_of_all c (remove bs i) + needs_in (tree_of c b) ≡ needs_of_all c bs
needs-removed c [] i b e = absurd cc
needs-removed c (x ∷ bs) zero b e =
    let f : x ≡ b = cc in omega (arith, sum_by-cons (λ (z : Batch). needs_in (tree_of c z)) x bs, ap (λ (z : Batch). needs_in (tree_of c z)) f)
needs-removed c (x ∷ bs) (suc i) b e =
    omega (arith, needs-removed c bs i b e, sum_by-cons (λ (z : Batch). needs_in (tree_of c z)) x bs, sum_by-cons (λ (z : Batch). needs_in (tree_of c z)) x (remove bs i))

without-length : (p : Claim → Bool) (xs : List Claim) → length xs ≤ length (without_first p xs) + 1
without-length p [] = omega arith
without-length p (x ∷ xs) = go (p x) (without-length p xs)
  where
    go : (t : Bool) → length xs ≤ length (without_first p xs) + 1 → length (x ∷ xs) ≤ length (cond t xs (x ∷ without_first p xs)) + 1
    go true h = omega arith
    go false h = omega arith

module _ (v : EngineView) (i : ℕ) (b b' : Batch) (at : slice_get v.batches i ≡ Some b) (made : made_by b' ≡ made_by b) (room : HasRoom v) where
  pub room-quiet : HasRoom (changed v i b' v.allocation)
  room-quiet = omega (arith, room, needs-same v.cleared v.batches i b b' at made)

  pub room-asked : (q : ℕ) (x : Claim) → q < length v.allocation.lines → 0 < v.allocation.room → HasRoom (changed v i b' (after_ask q x v.allocation))
  room-asked q x few some =
      omega (
        arith,
        room,
        needs-same v.cleared v.batches i b b' at made,
        some,
        sum_by-set (λ (xs : List Claim). length xs) v.allocation.lines q (line_of_asks v.allocation q ++ x ∷ []) [] few,
        length-append (line_of_asks v.allocation q) (x ∷ []),
      )

  pub room-granted : (q : ℕ) (x : Claim) (later : List Claim) → q < length v.allocation.lines → q < length v.allocation.shares → line_of_asks v.allocation q ≡ x ∷ later
      → HasRoom (changed v i b' (after_grant q (Some x) v.allocation))
  room-granted q x later few few' first =
      omega (
        arith,
        room,
        needs-same v.cleared v.batches i b b' at made,
        sum_by-set (λ (xs : List Claim). length xs) v.allocation.lines q (drop 1 (line_of_asks v.allocation q)) [] few,
        sum_by-set (λ (xs : List Claim). length xs) v.allocation.shares q (shares_at v.allocation q ++ x ∷ []) [] few',
        length-append (shares_at v.allocation q) (x ∷ []),
        ap (λ (xs : List Claim). length xs) first,
        ap (λ (xs : List Claim). length (drop 1 xs)) first,
      )

  pub room-released : (q n node : ℕ) → q < length v.allocation.shares → HasRoom (changed v i b' (after_release q n node v.allocation))
  room-released q n node few =
      omega (
        arith,
        room,
        needs-same v.cleared v.batches i b b' at made,
        sum_by-set (λ (xs : List Claim). length xs) v.allocation.shares q (without_first (is_claim n node) (shares_at v.allocation q)) [] few,
        without-length (is_claim n node) (shares_at v.allocation q),
      )

  pub room-passed : (q n node to : ℕ) → q < length v.allocation.shares → HasRoom (changed v i b' (after_pass q n node to v.allocation))
  room-passed q n node to few =
      let held : List Claim = shares_at v.allocation q in
      omega (
        arith,
        room,
        needs-same v.cleared v.batches i b b' at made,
        sum_by-set (λ (xs : List Claim). length xs) v.allocation.shares q (handed_over n node to held) [] few,
        length-append (without_first (is_claim n node) held) (record { batch = n; node = to; units = units_claimed n node held } ∷ []),
        without-length (is_claim n node) held,
      )
