-- The nodes above a node, from the node up.
use Rattle.std.proofs.Common.{◌≡◌, ◌≢◌, ◌⊎◌, ℕ, ◌+◌, ◌-◌, ◌<◌, ◌≤◌, List, [], ◌∷◌, ◌++◌, length, Some, get_or, slice_get, sym, ap, ◌∙◌, refl, subst, arith, append-nil, append_assoc, length-append, inl, inr}
use Rattle.std.proofs.lemmas.Option.{slice_get_read, slice_get_within, slice_get-get_or}
use Rattle.batch_recipe.{specs.Expanding.Binding, specs.Expanding.unbound, specs.Links.IsEntryOf, specs.Links.IsFirst, specs.Links.Hangs, specs.Nodes.Node, specs.Outlines.IsOutline, specs.Outlines.act_of_kind, specs.Outlines.shape_of, specs.ActsAtNodes.procedure_acts, specs.Procedure.bound_nodes, specs.Procedure.procedure_nodes, specs.Tree.Place, specs.declared.entry.Entry.Entry, specs.declared.recipe.Recipe.Recipe, proofs.OutlineLinks.entry_of, proofs.OutlineLinks.as_many_entries, proofs.OutlineLinks.act_of_entry, proofs.AppendedLists.slice_get-right, proofs.EntryShapes.is_outline}

module _ (r : Recipe) where
  abbrev pub ns : List Node
  ns = procedure_nodes r.acts

  pub outlines : IsOutline r.acts r.outline.entries.items
  outlines = subst (λ es. IsOutline r.acts es) (sym r.outlined) (is_outline r.acts)

  -- an entry stands for the node with its number, whatever units take the roles
  pub entry_in : (bound : Binding) (k : ℕ) (e : Entry) → slice_get r.outline.entries.items k ≡ Some e → IsEntryOf (bound_nodes bound r.acts) k e
  entry_in = entry_of r.acts r.outline.entries.items outlines

  pub entry_at : (k : ℕ) (e : Entry) → slice_get r.outline.entries.items k ≡ Some e → IsEntryOf ns k e
  entry_at = entry_in unbound

  pub as_many : length r.outline.entries.items ≡ length ns
  as_many = as_many_entries r.acts r.outline.entries.items outlines unbound

  pub act_at : (k : ℕ) (e : Entry) → slice_get r.outline.entries.items k ≡ Some e → slice_get (procedure_acts r.acts) k ≡ Some (act_of_kind r.acts e.kind)
  act_at = act_of_entry r.acts r.outline.entries.items outlines

  -- an entry that was read
  pub read : (k : ℕ) (e : Entry) → k < length ns → e ≡ get_or r.outline.entries.items k e → slice_get r.outline.entries.items k ≡ Some e
  read k e in' is = slice_get_read r.outline.entries.items (length r.outline.entries.items) k e refl (omega (arith, in', as_many)) is

  -- the node `at` stands so many nodes above the node
  pub record IsAbove (node at up : ℕ) : Type 0 where
    pub low : Node
    pub low_is : slice_get ns node ≡ Some low
    pub high : Node
    pub high_is : slice_get ns at ≡ Some high
    pub rest : Place
    pub placed : low.place ≡ high.place ++ rest
    pub long : length rest ≡ up
    pub room : up + at ≤ node

  pub in_nodes : (node at up : ℕ) → IsAbove node at up → at < length ns
  in_nodes node at up h = slice_get_within ns at h.high h.high_is

  node_is : (k : ℕ) (a b : Node) → slice_get ns k ≡ Some a → slice_get ns k ≡ Some b → a ≡ b
  node_is k a b g h = let e : Some a ≡ Some b = sym g ∙ h in cc

  pub IsAbove-first : (node : ℕ) → node < length ns → IsAbove node node 0
  IsAbove-first node in' =
      let x = get_or ns node (procedure_root) in
      let is = slice_get-get_or ns node procedure_root in' in
      record { low = x; low_is = is; high = x; high_is = is; rest = []; placed = sym (append-nil x.place); long = refl; room = omega arith }
    where
      procedure_root : Node
      procedure_root = record { place = []; asked = []; here = Rattle.batch_recipe.specs.Tree.skip }

  module _ (node at up : ℕ) (h : IsAbove node at up) (e : Entry) (is : slice_get r.outline.entries.items at ≡ Some e) where
    is_entry : IsEntryOf ns at e
    is_entry = entry_at at e is

    same : (is_entry).at ≡ h.high
    same = node_is at is_entry.at h.high is_entry.numbered h.high_is

    climb : Hangs ns at is_entry.at (shape_of e) → IsAbove node e.parent (up + 1)
    climb g =
        let z = g.above.place in
        record {
          low = h.low;
          low_is = h.low_is;
          high = g.above;
          high_is = g.known;
          rest = e.child ∷ h.rest;
          placed = h.placed ∙ (ap (λ p. p ++ h.rest) (sym (ap (λ (x : Node). x.place) same) ∙ g.placed) ∙ append_assoc z (e.child ∷ []) h.rest);
          long = omega (arith, h.long);
          room = omega (arith, h.room, g.earlier);
        }

    -- the node above it
    pub IsAbove-next : at ≢ 0 → IsAbove node e.parent (up + 1)
    IsAbove-next later = go is_entry.hangs
      where
        go : IsFirst at is_entry.at (shape_of e) ⊎ Hangs ns at is_entry.at (shape_of e) → IsAbove node e.parent (up + 1)
        go (inl f) = absurd (later f.number)
        go (inr g) = climb g

    pub parent_is_earlier : at ≢ 0 → e.parent < at
    parent_is_earlier later = go is_entry.hangs
      where
        go : IsFirst at is_entry.at (shape_of e) ⊎ Hangs ns at is_entry.at (shape_of e) → e.parent < at
        go (inl f) = absurd (later f.number)
        go (inr g) = g.earlier

    -- the same where the place goes on
    pub IsAbove-deep : up + 1 < length h.low.place → IsAbove node e.parent (up + 1)
    IsAbove-deep deep = go is_entry.hangs
      where
        go : IsFirst at is_entry.at (shape_of e) ⊎ Hangs ns at is_entry.at (shape_of e) → IsAbove node e.parent (up + 1)
        go (inl f) =
            let one : length h.high.place ≡ 1 = ap (λ (x : Node). length x.place) (sym same) ∙ ap length f.placed in
            absurd (omega (arith, one, deep, ap length h.placed, length-append h.high.place h.rest, h.long))
        go (inr g) = climb g

    -- the last number of the place of the node `at`
    pub child_is : slice_get h.low.place (length h.low.place - (up + 1)) ≡ Some e.child
    child_is = go is_entry.hangs
      where
        last : (p : Place) → h.high.place ≡ p ++ e.child ∷ [] → slice_get h.low.place (length h.low.place - (up + 1)) ≡ Some e.child
        last p is =
            let whole : h.low.place ≡ p ++ e.child ∷ h.rest = h.placed ∙ (ap (λ q. q ++ h.rest) is ∙ append_assoc p (e.child ∷ []) h.rest) in
            let at : length h.low.place - (up + 1) ≡ length p + 0 = omega (arith, ap length whole, length-append p (e.child ∷ h.rest), h.long) in
            ap (slice_get h.low.place) at ∙ (ap (λ q. slice_get q (length p + 0)) whole ∙ slice_get-right p (e.child ∷ h.rest) 0)

        go : IsFirst at is_entry.at (shape_of e) ⊎ Hangs ns at is_entry.at (shape_of e) → slice_get h.low.place (length h.low.place - (up + 1)) ≡ Some e.child
        go (inl f) = last [] (ap (λ (x : Node). x.place) (sym same) ∙ (f.placed ∙ ap (λ n. n ∷ []) (sym f.alone)))
        go (inr g) = last g.above.place (ap (λ (x : Node). x.place) (sym same) ∙ g.placed)

  -- the number at a depth of its place
  pub number_at : (node at up depth : ℕ) (h : IsAbove node at up) (e : Entry) → slice_get r.outline.entries.items at ≡ Some e → length h.low.place ≡ up + 1 + depth
      → (low : Node) → slice_get ns node ≡ Some low → slice_get low.place depth ≡ Some e.child
  number_at node at up depth h e is size low low_is =
      let at' : length h.low.place - (up + 1) ≡ depth = omega (arith, size) in
      ap (λ (x : Node). slice_get x.place depth) (node_is node low h.low low_is h.low_is) ∙ (ap (slice_get h.low.place) (sym at') ∙ child_is node at up h e is)

  -- the first node has one number
  pub top_size : (node at up : ℕ) → IsAbove node at up → at ≡ 0 → (low : Node) → slice_get ns node ≡ Some low → length low.place ≡ up + 1
  top_size node at up h top low low_is = grind (arith, length-append h.high.place h.rest, node_is node low h.low low_is h.low_is)
