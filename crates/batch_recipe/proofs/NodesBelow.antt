-- Which nodes stand below a node, by their places.
use Rattle.std.proofs.Common.{◌≡◌, ◌≢◌, ◌⊎◌, inl, inr, ℕ, zero, suc, ◌+◌, ◌<◌, ◌≤◌, ◌++◌, List, [], ◌∷◌, length, Some, None, true, false, get_or, slice_get, take, drop, sym, ap, ◌∙◌, refl, subst, arith, add-one, append-nil, append_assoc, drop-cons, length-append}
use Rattle.std.{specs.List.AllByRecursion, proofs.lemmas.List.take-append-drop, proofs.lemmas.Option.slice_get_within, proofs.lemmas.Option.slice_get-get_or}
use Rattle.batch_recipe.{specs.Expanding.unbound, specs.Links.IsEntryOf, specs.Links.IsFirst, specs.Links.Hangs, specs.Nodes.Node, specs.Nodes.node, specs.Nodes.child, specs.Nodes.node_count, specs.Outlines.shape_of, specs.Places.AreInOrder, specs.Places.IsNodeAt, specs.Places.NoNodeAt, specs.Procedure.procedure_tree, specs.Reaching.IsChildOf, specs.Reaching.HasNoChild, specs.Tree.Place, specs.Tree.is_before, specs.declared.entry.Entry.Entry, specs.declared.recipe.Recipe.Recipe, proofs.NodeSubtrees.all_at, proofs.NodeSubtrees.ends_within, proofs.NodeSubtrees.place_within, proofs.NodeSubtrees.some_count, proofs.NodesAbove.ns, proofs.NodesAbove.entry_at, proofs.NodesAbove.as_many, proofs.NodesAbove.read, proofs.NodeOrder.in_order, proofs.NodeOrder.same_number}

all_from : (P : Node → Type 0) (xs : List Node) → ((j : ℕ) (x : Node) → slice_get xs j ≡ Some x → P x) → AllByRecursion P xs
all_from P [] h = tt
all_from P (x ∷ xs) h = (h 0 x refl, all_from P xs (λ j y is. h (suc j) y is))

pub not_before : (p : Place) → is_before p p ≡ false
not_before [] = refl
not_before (i ∷ p) = rw (is_before, same_number i) (not_before p)

pub in_front : (xs : List Node) → AreInOrder xs → (j k : ℕ) (x y : Node) → j < k → slice_get xs j ≡ Some x → slice_get xs k ≡ Some y → is_before x.place y.place ≡ true
in_front [] h j k x y less is at = let bad : None ≡ Some x = is in absurd cc
in_front (z ∷ xs) h zero zero x y less is at = absurd (omega (arith, less))
in_front (z ∷ xs) h zero (suc k) x y less is at =
    let e : Some z ≡ Some x = is in
    let same : z ≡ x = cc in
    subst (λ (w : Node). is_before w.place y.place ≡ true) same (all_at (λ (m : Node). is_before z.place m.place ≡ true) xs h.0 k y at)
in_front (z ∷ xs) h (suc j) zero x y less is at = absurd (omega (arith, less))
in_front (z ∷ xs) h (suc j) (suc k) x y less is at = in_front xs h.1 j k x y (omega (arith, less)) is at

abbrev pub first_or : ℕ → Place → ℕ
first_or d [] = d
first_or d (i ∷ p) = i

abbrev rest_of : Place → Place
rest_of [] = []
rest_of (i ∷ p) = p

-- the rest of a place, without its last number
init_goes_on : (q rest z : Place) (c : ℕ) → q ++ rest ≡ z ++ c ∷ [] → length q ≤ length z → (more : Place) × (z ≡ q ++ more)
init_goes_on [] rest z c e h = (z, refl)
init_goes_on (i ∷ q) rest [] c e h = absurd (omega (arith, h))
init_goes_on (i ∷ q) rest (j ∷ z) c e h =
    let first : i ≡ j = ap (first_or 0) e in
    let g = init_goes_on q rest z c (ap rest_of e) (omega (arith, h)) in
    (g.0, ap (λ n. n ∷ z) (sym first) ∙ ap (λ p. i ∷ p) g.1)

-- two children with one place are one
same_child : (p q : Place) (i j : ℕ) → child p i ≡ child q j → (p ≡ q) × (i ≡ j)
same_child [] [] i j e = (refl, ap (first_or 0) e)
same_child [] (b ∷ q) i j e = let size : length (child [] i) ≡ length (child (b ∷ q) j) = ap length e in absurd (omega (arith, size, length-append q (j ∷ [])))
same_child (a ∷ p) [] i j e = let size : length (child (a ∷ p) i) ≡ length (child [] j) = ap length e in absurd (omega (arith, size, length-append p (i ∷ [])))
same_child (a ∷ p) (b ∷ q) i j e =
    let first : a ≡ b = ap (first_or 0) e in
    let g = same_child p q i j (ap rest_of e) in
    (ap (λ n. n ∷ p) first ∙ ap (λ r. b ∷ r) g.0, g.1)

module _ (r : Recipe) where
  ordered : AreInOrder (ns r)
  ordered = (in_order (0 ∷ []) [] (procedure_tree r.acts)).1

  node_is : (k : ℕ) (a b : Node) → slice_get (ns r) k ≡ Some a → slice_get (ns r) k ≡ Some b → a ≡ b
  node_is k a b g h = let e : Some a ≡ Some b = sym g ∙ h in cc

  -- each place begins with 0
  pub from_root : (k : ℕ) (x : Node) → slice_get (ns r) k ≡ Some x → (rest : Place) × (x.place ≡ 0 ∷ rest)
  from_root k x is = all_at (λ (m : Node). (rest : Place) × (m.place ≡ (0 ∷ []) ++ rest)) (ns r) (in_order (0 ∷ []) [] (procedure_tree r.acts)).0 k x is

  long_enough : (k : ℕ) (x : Node) → slice_get (ns r) k ≡ Some x → 0 < length x.place
  long_enough k x is = let h = from_root k x is in omega (arith, ap length h.1)

  -- two nodes of one place are one
  one_of_place : (j k : ℕ) (x y : Node) → slice_get (ns r) j ≡ Some x → slice_get (ns r) k ≡ Some y → x.place ≡ y.place → (j < k) → ⊥
  one_of_place j k x y is at same less =
      let before : is_before x.place y.place ≡ true = in_front (ns r) ordered j k x y less is at in
      let alone : is_before x.place y.place ≡ false = ap (is_before x.place) (sym same) ∙ not_before x.place in
      cc

  pub alike : (j k : ℕ) (x y : Node) → slice_get (ns r) j ≡ Some x → slice_get (ns r) k ≡ Some y → x.place ≡ y.place → j ≡ k
  alike j k x y is at same =
      omega (arith, one_of_place j k x y is at same, one_of_place k j y x at is (sym same))

  -- the entry of a node that isn't the root, and the node above it
  pub record Parent (k : ℕ) (x : Node) : Type 0 where
    pub entry : Entry
    pub known : slice_get r.outline.entries.items k ≡ Some entry
    pub above : Node
    pub above_is : slice_get (ns r) entry.parent ≡ Some above
    pub earlier : entry.parent < k
    pub within : k + node_count x.here ≤ entry.parent + node_count above.here
    pub placed : x.place ≡ child above.place entry.child

  an_entry : Entry
  an_entry = record { kind = Rattle.batch_recipe.specs.declared.entry.Kind.TheVariants.Skip; end = 0; parent = 0; child = 0; needs = 0; detail = 0 }

  pub entry_of_node : (k : ℕ) (x : Node) → slice_get (ns r) k ≡ Some x → (e : Entry) × (slice_get r.outline.entries.items k ≡ Some e)
  entry_of_node k x is =
      let in' = slice_get_within (ns r) k x is in
      (get_or r.outline.entries.items k an_entry, slice_get-get_or r.outline.entries.items k an_entry (omega (arith, in', as_many r)))

  pub parent_of : (k : ℕ) (x : Node) → slice_get (ns r) k ≡ Some x → 1 < length x.place → Parent k x
  parent_of k x is deep = go h.hangs
    where
      e : (e : Entry) × (slice_get r.outline.entries.items k ≡ Some e)
      e = entry_of_node k x is

      h : IsEntryOf (ns r) k e.0
      h = entry_at r k e.0 e.1

      same : h.at ≡ x
      same = node_is k h.at x h.numbered is

      go : IsFirst k h.at (shape_of e.0) ⊎ Hangs (ns r) k h.at (shape_of e.0) → Parent k x
      go (inl f) = absurd (omega (arith, deep, ap length (ap (λ (n : Node). n.place) (sym same) ∙ f.placed)))
      go (inr g) = record {
        entry = e.0;
        known = e.1;
        above = g.above;
        above_is = g.known;
        earlier = g.earlier;
        within = omega (arith, h.shaped.ended, g.within, ap (λ (n : Node). node_count n.here) same);
        placed = ap (λ (n : Node). n.place) (sym same) ∙ g.placed;
      }

  -- the nodes of a place and of those above it
  pub above_stands : (b k : ℕ) (x : Node) → k < b → slice_get (ns r) k ≡ Some x → (q rest : Place) → 0 < length q → x.place ≡ q ++ rest → (j : ℕ) × IsNodeAt (ns r) j q
  above_stands zero k x less is q rest some placed = absurd (omega (arith, less))
  above_stands (suc b) k x less is q [] some placed = (k, (x, is, placed ∙ append-nil q))
  above_stands (suc b) k x less is q (c ∷ rest) some placed =
      let h = parent_of k x is (omega (arith, some, ap length placed, length-append q (c ∷ rest))) in
      let g = init_goes_on q (c ∷ rest) h.above.place h.entry.child (sym placed ∙ h.placed)
      (omega (arith, ap length placed, length-append q (c ∷ rest), ap length h.placed, length-append h.above.place (h.entry.child ∷ []))) in
      above_stands b h.entry.parent h.above (omega (arith, less, h.earlier)) h.above_is q g.0 some g.1

  -- where a place goes on from that of a node, the node stands below that one
  pub below_place : (b m : ℕ) (z : Node) → m < b → slice_get (ns r) m ≡ Some z → (k : ℕ) (x : Node) → slice_get (ns r) k ≡ Some x → (rest : Place) → z.place ≡ x.place ++ rest
      → (k ≤ m) × (m + node_count z.here ≤ k + node_count x.here)
  below_place zero m z less at k x is rest placed = absurd (omega (arith, less))
  below_place (suc b) m z less at k x is [] placed = grind (arith, alike m k z x at is (placed ∙ append-nil x.place), append-nil x.place, node_is)
  below_place (suc b) m z less at k x is (c ∷ rest) placed =
      let some = long_enough k x is in
      let h = parent_of m z at (omega (arith, some, ap length placed, length-append x.place (c ∷ rest))) in
      let g = init_goes_on x.place (c ∷ rest) h.above.place h.entry.child (sym placed ∙ h.placed)
      (omega (arith, ap length placed, length-append x.place (c ∷ rest), ap length h.placed, length-append h.above.place (h.entry.child ∷ []))) in
      let f = below_place b h.entry.parent h.above (omega (arith, less, h.earlier)) h.above_is k x is g.0 g.1 in
      (omega (arith, f.0, h.earlier), omega (arith, f.1, h.within))

  -- the node of an entry, and where its tree ends
  pub end_of : (k : ℕ) (e : Entry) → slice_get r.outline.entries.items k ≡ Some e → (x : Node) × (slice_get (ns r) k ≡ Some x) × (e.end ≡ k + node_count x.here)
  end_of k e known = let h = entry_at r k e known in (h.at, h.numbered, h.shaped.ended)

  -- the same of an entry that was read
  pub read_at : (k from : ℕ) (e : Entry) → k < length (ns r) → from ≡ k → e ≡ get_or r.outline.entries.items from e → slice_get r.outline.entries.items k ≡ Some e
  read_at k from e in' same is = read r k e in' (is ∙ ap (λ n. get_or r.outline.entries.items n e) same)

  pub end_read : (k from : ℕ) (e : Entry) → k < length (ns r) → from ≡ k → e ≡ get_or r.outline.entries.items from e
      → (x : Node) × (slice_get (ns r) k ≡ Some x) × (e.end ≡ k + node_count x.here) × (e.end ≤ length (ns r))
  end_read k from e in' same is =
      let h = end_of k e (read_at k from e in' same is) in
      (h.0, h.1, h.2, omega (arith, h.2, ends_within unbound r.acts k h.0 h.1))

  -- a child of a node
  pub record Child (node i m : ℕ) : Type 0 where
    pub entry : Entry
    pub known : slice_get r.outline.entries.items m ≡ Some entry
    pub parent : entry.parent ≡ node
    pub number : entry.child ≡ i
    pub later : node < m

  pub child_at : (k : ℕ) (x : Node) → slice_get (ns r) k ≡ Some x → (m i : ℕ) → IsNodeAt (ns r) m (child x.place i) → Child k i m
  child_at k x is m i at =
      let some = long_enough k x is in
      let h = parent_of m at.0 at.1 (omega (arith, some, ap length at.2, length-append x.place (i ∷ []))) in
      let same = same_child h.above.place x.place h.entry.child i (sym h.placed ∙ at.2) in
      let up : h.entry.parent ≡ k = alike h.entry.parent k h.above x h.above_is is same.0 in
      record { entry = h.entry; known = h.known; parent = up; number = same.1; later = omega (arith, h.earlier, up) }

  -- child i of the node, if there is one, comes no earlier than number `at`
  pub record KeepsLooking (node i at : ℕ) : Type 0 where
    pub later : node < at
    pub rest : (m : ℕ) → IsChildOf (ns r) node i m → at ≤ m

  module _ (node i at : ℕ) (x : Node) (is : slice_get (ns r) node ≡ Some x) where
    the_child : (m : ℕ) → IsChildOf (ns r) node i m → Child node i m
    the_child m h = child_at node x is m i (h x is)

    pub KeepsLooking-first : at ≡ node + 1 → KeepsLooking node i at
    KeepsLooking-first e = record { later = omega (arith, e); rest = λ m h. let c = the_child m h in omega (arith, c.later, e) }

    module _ (h : KeepsLooking node i at) (e : Entry) (known : slice_get r.outline.entries.items at ≡ Some e) where
      is_entry : IsEntryOf (ns r) at e
      is_entry = entry_at r at e known

      -- an entry with this parent and this number is the child
      pub KeepsLooking-found : e.parent ≡ node → e.child ≡ i → IsChildOf (ns r) node i at
      KeepsLooking-found up number = λ above above_is. go is_entry.hangs above above_is
        where
          go : IsFirst at is_entry.at (shape_of e) ⊎ Hangs (ns r) at is_entry.at (shape_of e) → (above : Node) → slice_get (ns r) node ≡ Some above → IsNodeAt (ns r) at (child above.place i)
          go (inl f) above above_is = absurd (omega (arith, f.number, h.later))
          go (inr g) above above_is =
              let same : g.above ≡ above = node_is node g.above above (ap (slice_get (ns r)) (sym up) ∙ g.known) above_is in
              (is_entry.at, is_entry.numbered, g.placed ∙ (ap (λ (n : Node). child n.place e.child) same ∙ ap (child above.place) number))

      -- a node that isn't the child doesn't have it below
      pub KeepsLooking-more : at < node + node_count x.here → ((e.parent ≡ node) → (e.child ≡ i) → ⊥) → KeepsLooking node i e.end
      KeepsLooking-more high other = record { later = omega (arith, h.later, is_entry.shaped.ended); rest = λ m c. past m c (h.rest m c) (the_child m c) }
        where
          past : (m : ℕ) → IsChildOf (ns r) node i m → at ≤ m → Child node i m → e.end ≤ m
          past m c low d = omega (arith, is_entry.shaped.ended, not_below)
            where
              z : Node
              z = (c x is).0

              here : Node
              here = is_entry.at

              differs : at ≢ m
              differs same =
                  let both : Some e ≡ Some d.entry = sym known ∙ (ap (slice_get r.outline.entries.items) same ∙ d.known) in
                  let one : e ≡ d.entry = cc in
                  other (ap (λ (y : Entry). y.parent) one ∙ d.parent) (ap (λ (y : Entry). y.child) one ∙ d.number)

              not_below : (m < at + node_count here.here) → ⊥
              not_below less =
                  let up = place_within unbound r.acts node x is at here is_entry.numbered (omega (arith, h.later)) high in
                  let down = place_within unbound r.acts at here is_entry.numbered m z (c x is).1 low less in
                  let far = above_differs up.0 up.1 in
                  let near = below_differs down.0 down.1 in
                  omega (arith, far, near, ap length (c x is).2, length-append x.place (i ∷ []), ap length up.1, length-append x.place up.0, ap length down.1, length-append here.place down.0)
                where
                  above_differs : (rest : Place) → here.place ≡ x.place ++ rest → 0 < length rest
                  above_differs [] e' = absurd (omega (arith, h.later, alike at node here x is_entry.numbered is (e' ∙ append-nil x.place)))
                  above_differs (a ∷ rest) e' = omega arith

                  below_differs : (rest : Place) → z.place ≡ here.place ++ rest → 0 < length rest
                  below_differs [] e' = absurd (differs (alike at m here z is_entry.numbered (c x is).1 (sym (e' ∙ append-nil here.place))))
                  below_differs (a ∷ rest) e' = omega arith

    -- past the tree there is none
    pub KeepsLooking-none : KeepsLooking node i at → node + node_count x.here ≤ at → HasNoChild (ns r) node i
    KeepsLooking-none h past = λ above above_is m c.
        let same : above ≡ x = node_is node above x above_is is in
        let c' : IsNodeAt (ns r) m (child x.place i) = subst (λ (n : Node). IsNodeAt (ns r) m (child n.place i)) same c in
        let low = h.rest m (λ a a_is. subst (λ (n : Node). IsNodeAt (ns r) m (child n.place i)) (node_is node x a is a_is) c') in
        let f = below_place (m + 1) m c'.0 (omega arith) c'.1 node x is (i ∷ []) c'.2 in
        omega (arith, low, past, f.1, some_count c'.0.here)

  -- no node stands at a place, or below it
  pub none_below : (q rest : Place) → 0 < length q → ((k : ℕ) → IsNodeAt (ns r) k q → ⊥) → NoNodeAt (ns r) (q ++ rest)
  none_below q rest some none =
      all_from (λ (n : Node). n.place ≢ q ++ rest) (ns r) (λ k x is e. let g = above_stands (k + 1) k x (omega arith) is q rest some e in none g.0 g.1)

  pub root_at : IsNodeAt (ns r) 0 (0 ∷ [])
  root_at = (node (0 ∷ []) [] (procedure_tree r.acts), refl, refl)

  -- if a node has no child with this number, no node has a place that goes on from there
  pub none_from : (at i : ℕ) (below : Place) → IsNodeAt (ns r) at (0 ∷ take i below) → i < length below → HasNoChild (ns r) at (get_or below i 0) → NoNodeAt (ns r) (0 ∷ below)
  none_from at i below here in' none =
      let q = child (0 ∷ take i below) (get_or below i 0) in
      let e : drop i below ≡ get_or below i 0 ∷ drop (i + 1) below = rw add-one (drop-cons below i 0 in') in
      let parts : q ++ drop (i + 1) below ≡ 0 ∷ below =
      append_assoc (0 ∷ take i below) (get_or below i 0 ∷ []) (drop (i + 1) below) ∙ (ap (λ xs. 0 ∷ take i below ++ xs) (sym e) ∙ ap (λ xs. 0 ∷ xs) (take-append-drop i below)) in
      subst (λ p. NoNodeAt (ns r) p) parts
      (none_below q (drop (i + 1) below) (omega (arith, length-append (0 ∷ take i below) (get_or below i 0 ∷ [])))
      (λ k at_q. none here.0 here.1 k (subst (λ p. IsNodeAt (ns r) k (child p (get_or below i 0))) (sym here.2) at_q)))

  -- no place is another than one that begins with 0
  pub none_of_root : (p : Place) → ((rest : Place) → p ≡ 0 ∷ rest → ⊥) → NoNodeAt (ns r) p
  none_of_root p other = all_from (λ (n : Node). n.place ≢ p) (ns r) (λ k x is e. let h = from_root k x is in other h.0 (sym e ∙ h.1))
