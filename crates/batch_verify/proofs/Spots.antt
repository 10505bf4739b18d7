-- The nodes below a node are at the spot that its way gives.
use Rattle.std.proofs.Common.{◌≡◌, ◌≢◌, ◌⊎◌, ℕ, zero, suc, ◌+◌, List, [], ◌∷◌, ◌++◌, length, Some, None, slice_get, sym, ap, ◌∙◌, refl, subst, arith, inl, inr, length-append}
use Rattle.std.{specs.Option.option_map, proofs.lemmas.Option.slice_get-map}
use Rattle.batch_recipe.{specs.Conditions.Name, specs.Expanding.Binding, specs.Expanding.named_tree_with, specs.Expanding.step_of, specs.Expanding.task_of, specs.Expanding.unit_below, specs.Expanding.unit_with, specs.Nodes.node_count, specs.Nodes.count_within, specs.Nodes.count_of_each, specs.Nodes.count_of_choices, specs.Outlines.IsOutline, specs.Outlines.Shape, specs.Outlines.shape_of, specs.Outlines.shapes, specs.Outlines.shapes_within, specs.Outlines.shapes_of_each, specs.Outlines.shapes_of_choices, specs.Tree.Tree, specs.Tree.act, specs.Tree.skip, specs.Tree.seq, specs.Tree.par, specs.Tree.sel, specs.Tree.loop, specs.Tree.Step, specs.Tree.Task, specs.Tree.runs, specs.Tree.follows, specs.Tree.Trees, specs.Tree.no_trees, specs.Tree.tree, specs.Tree.Choices, specs.Tree.otherwise, specs.Tree.choice, specs.Procedure.sites, specs.Procedure.tables_from, specs.declared.acts.LabelTable.TheVariants.UnitProcedures, specs.declared.entry.Entry.Entry, specs.declared.recipe.Recipe.Recipe, proofs.AppendedLists.slice_get-left, proofs.AppendedLists.slice_get-right, proofs.EntryShapes.is_outline}
use Rattle.batch_verify.specs.Ways.{Spot, Way, way, ways, ways_within, ways_of_each, ways_of_choices, spot_within, top, bound_ways}

-- as many ways as nodes
mutual
  pub ways_counted : (v : Spot) (t : Tree) → length (ways v t) ≡ node_count t
  ways_counted v (act s w) = omega (arith, within_counted (spot_within v s) w)
  ways_counted v skip = refl
  ways_counted v (seq ts) = omega (arith, each_counted v ts)
  ways_counted v (par ts) = omega (arith, each_counted v ts)
  ways_counted v (sel cs) = omega (arith, choices_counted v cs)
  ways_counted v (loop n c t) = omega (arith, ways_counted v t)

  within_counted : (v : Spot) (w : Task) → length (ways_within v w) ≡ count_within w
  within_counted v (runs phase) = refl
  within_counted v (follows name t) = ways_counted v t

  each_counted : (v : Spot) (ts : Trees) → length (ways_of_each v ts) ≡ count_of_each ts
  each_counted v no_trees = refl
  each_counted v (tree t ts) = omega (arith, length-append (ways v t) (ways_of_each v ts), ways_counted v t, each_counted v ts)

  choices_counted : (v : Spot) (cs : Choices) → length (ways_of_choices v cs) ≡ count_of_choices cs
  choices_counted v (otherwise t) = ways_counted v t
  choices_counted v (choice c t cs) = omega (arith, length-append (ways v t) (ways_of_choices v cs), ways_counted v t, choices_counted v cs)

module _ (ws : List Way) where
  -- these are the ways from number n on
  abbrev AreFrom : ℕ → List Way → Type 0
  AreFrom n xs = (j : ℕ) (x : Way) → slice_get xs j ≡ Some x → slice_get ws (n + j) ≡ Some x

  from_left : (n : ℕ) (xs ys : List Way) → AreFrom n (xs ++ ys) → AreFrom n xs
  from_left n xs ys h = λ j x is. h j x (slice_get-left xs ys j x is)

  from_right : (n m : ℕ) (xs ys : List Way) → length xs ≡ m → AreFrom n (xs ++ ys) → AreFrom (n + m) ys
  from_right n m xs ys size h = λ j x is.
      let same : n + m + j ≡ n + (length xs + j) = omega (arith, size) in
      ap (slice_get ws) same ∙ h (length xs + j) x (slice_get-right xs ys j ∙ is)

  from_tail : (n : ℕ) (x : Way) (xs : List Way) → AreFrom n (x ∷ xs) → AreFrom (n + 1) xs
  from_tail n x xs h = λ j y is.
      let same : n + 1 + j ≡ n + suc j = omega arith in
      ap (slice_get ws) same ∙ h (suc j) y is

  from_head : (n : ℕ) (x : Way) (xs : List Way) → AreFrom n (x ∷ xs) → slice_get ws n ≡ Some x
  from_head n x xs h = let same : n ≡ n + 0 = omega arith in ap (slice_get ws) same ∙ h 0 x refl

  -- the node of this shape is at the spot below its parent
  pub record IsUnder (w : Way) (s : Shape) : Type 0 where
    pub above : Way
    pub known : slice_get ws s.parent ≡ Some above
    pub stands : w.here ≡ above.under

  abbrev AreUnder : List Way → List Shape → Type 0
  AreUnder [] [] = Unit {0}
  AreUnder (w ∷ xs) (s ∷ ss) = IsUnder w s × AreUnder xs ss
  AreUnder _ _ = ⊥

  both_under : (xs ys : List Way) (ss rr : List Shape) → AreUnder xs ss → AreUnder ys rr → AreUnder (xs ++ ys) (ss ++ rr)
  both_under [] ys [] rr h g = g
  both_under (x ∷ xs) ys (s ∷ ss) rr h g = (h.0, both_under xs ys ss rr h.1 g)
  both_under xs ys ss rr h g = grind arith

  under_at : (xs : List Way) (ss : List Shape) → AreUnder xs ss → (j : ℕ) (s : Shape) → slice_get ss j ≡ Some s → (w : Way) × (slice_get xs j ≡ Some w) × IsUnder w s
  under_at [] [] h j s is = let bad : None ≡ Some s = is in cc
  under_at (x ∷ xs) (r ∷ ss) h zero s is = let e : r ≡ s = cc in (x, refl, subst (λ (q : Shape). IsUnder x q) e h.0)
  under_at (x ∷ xs) (r ∷ ss) h (suc j) s is = under_at xs ss h.1 j s is
  under_at xs ss h j s is = grind arith

  mutual
    -- the tree stands at n, as child i of the node u
    tree_under : (n u i : ℕ) (v : Spot) (t : Tree) (y : Way) → slice_get ws u ≡ Some y → v ≡ y.under → AreFrom n (ways v t) → AreUnder (ways v t) (shapes n u i t)
    tree_under n u i v (act s w) y known is h = (
      record { above = y; known = known; stands = is },
      within_under n (spot_within v s) w (way v (act s w)) (from_head n _ _ h) refl (from_tail n _ _ h),
    )
    tree_under n u i v skip y known is h = (record { above = y; known = known; stands = is }, tt)
    tree_under n u i v (seq ts) y known is h =
        (record { above = y; known = known; stands = is }, each_under (n + 1) n 0 v ts (way v (seq ts)) (from_head n _ _ h) refl (from_tail n _ _ h))
    tree_under n u i v (par ts) y known is h =
        (record { above = y; known = known; stands = is }, each_under (n + 1) n 0 v ts (way v (par ts)) (from_head n _ _ h) refl (from_tail n _ _ h))
    tree_under n u i v (sel cs) y known is h =
        (record { above = y; known = known; stands = is }, choices_under (n + 1) n 0 v cs (way v (sel cs)) (from_head n _ _ h) refl (from_tail n _ _ h))
    tree_under n u i v (loop k c t) y known is h =
        (record { above = y; known = known; stands = is }, tree_under (n + 1) n 0 v t (way v (loop k c t)) (from_head n _ _ h) refl (from_tail n _ _ h))

    within_under : (n : ℕ) (v : Spot) (w : Task) (y : Way) → slice_get ws n ≡ Some y → v ≡ y.under → AreFrom (n + 1) (ways_within v w) → AreUnder (ways_within v w) (shapes_within n w)
    within_under n v (runs phase) y known is h = tt
    within_under n v (follows name t) y known is h = tree_under (n + 1) n 0 v t y known is h

    each_under : (n u i : ℕ) (v : Spot) (ts : Trees) (y : Way) → slice_get ws u ≡ Some y → v ≡ y.under → AreFrom n (ways_of_each v ts) → AreUnder (ways_of_each v ts) (shapes_of_each n u i ts)
    each_under n u i v no_trees y known is h = tt
    each_under n u i v (tree t ts) y known is h =
        both_under (ways v t) (ways_of_each v ts) (shapes n u i t) (shapes_of_each (n + node_count t) u (i + 1) ts)
        (tree_under n u i v t y known is (from_left n (ways v t) (ways_of_each v ts) h))
        (each_under (n + node_count t) u (i + 1) v ts y known is (from_right n (node_count t) (ways v t) (ways_of_each v ts) (ways_counted v t) h))

    choices_under : (n u i : ℕ) (v : Spot) (cs : Choices) (y : Way) → slice_get ws u ≡ Some y → v ≡ y.under → AreFrom n (ways_of_choices v cs)
        → AreUnder (ways_of_choices v cs) (shapes_of_choices n u i cs)
    choices_under n u i v (otherwise t) y known is h = tree_under n u i v t y known is h
    choices_under n u i v (choice c t cs) y known is h =
        both_under (ways v t) (ways_of_choices v cs) (shapes n u i t) (shapes_of_choices (n + node_count t) u (i + 1) cs)
        (tree_under n u i v t y known is (from_left n (ways v t) (ways_of_choices v cs) h))
        (choices_under (n + node_count t) u (i + 1) v cs y known is (from_right n (node_count t) (ways v t) (ways_of_choices v cs) (ways_counted v t) h))

-- the way of a node, and how it follows from that of its parent
pub record HasWay (ws : List Way) (k : ℕ) (e : Entry) : Type 0 where
  pub own : Way
  pub known : slice_get ws k ≡ Some own
  pub stands : ((k ≡ 0) × (own.here ≡ top)) ⊎ ((k ≢ 0) × IsUnder ws own (shape_of e))

root_way : (s : Step) (w : Task) (k : ℕ) (e : Entry) → slice_get (shapes 0 0 0 (act s w)) k ≡ Some (shape_of e) → HasWay (ways top (act s w)) k e
root_way s w zero e is = record { own = way top (act s w); known = refl; stands = inl (refl, refl) }
root_way s w (suc k) e is =
    let ws = ways top (act s w) in
    let all : (j : ℕ) (x : Way) → slice_get ws j ≡ Some x → slice_get ws (0 + j) ≡ Some x = λ j x h. ap (slice_get ws) (omega arith) ∙ h in
    let g = under_at ws (ways_within (spot_within top s) w) (shapes_within 0 w)
    (within_under ws 0 (spot_within top s) w (way top (act s w)) refl refl (from_tail ws 0 (way top (act s w)) (ways_within (spot_within top s) w) all)) k (shape_of e) is in
    record { own = g.0; known = g.1; stands = inr ((λ no. absurd cc), g.2) }

module _ (r : Recipe) (bound : Binding) where
  pub outlines : IsOutline r.acts r.outline.entries.items
  outlines = subst (λ es. IsOutline r.acts es) (sym r.outlined) (is_outline r.acts)

  abbrev step : Step
  step = step_of (sites bound r.acts) r.acts.procedure (0 ∷ [])

  abbrev own : Name
  own = unit_below [] (unit_with bound r.acts.procedure.unit)

  abbrev task : Task
  task = task_of (named_tree_with (sites bound r.acts) (tables_from r.acts (Some UnitProcedures)) own) own r.acts.procedure.name (0 ∷ []) r.acts.procedure.work

  -- the way of the node of an entry
  pub way_of : (k : ℕ) (e : Entry) → slice_get r.outline.entries.items k ≡ Some e → HasWay (bound_ways bound r.acts) k e
  way_of k e is =
      root_way step task k e (ap (λ ss. slice_get ss k) (sym (outlines.shaped bound)) ∙ (slice_get-map shape_of r.outline.entries.items k ∙ ap (option_map shape_of) is))
