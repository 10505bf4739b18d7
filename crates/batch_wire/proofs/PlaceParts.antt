-- The place of a node, from that of the node above it.
use Rattle.std.proofs.Common.{◌≡◌, ◌≢◌, ◌⊎◌, inl, inr, ◌<◌, ◌≤◌, ℕ, zero, suc, None, List, [], ◌∷◌, ◌++◌, length, true, false, nat_lt, Some, get_or, slice_get, codes, decimal, refl, sym, ◌∙◌, ap, arith, append_assoc, length-append}
use Rattle.std.proofs.lemmas.{Option.slice_get_within, Option.slice_get-get_or, Bool.Decides.nat_tests}
use Rattle.batch_recipe.{specs.Links.IsEntryOf, specs.Links.IsFirst, specs.Links.Hangs, specs.Nodes.Node, specs.Outlines.shape_of, specs.Procedure.procedure_nodes, specs.Texts.place_text, specs.Tree.Place, specs.declared.entry.Entry.Entry, specs.declared.recipe.Recipe.Recipe, proofs.NodesAbove.as_many, proofs.NodesAbove.entry_at, proofs.NodesAbove.read}
use Rattle.batch_engine.specs.Names.{node_place}
use Rattle.batch_wire.specs.Pieces.{text_of_place}

one-more : (p : Place) (n : ℕ) → 0 < length p → place_text (p ++ n ∷ []) ≡ place_text p ++ (codes "." ++ decimal n)
one-more [] n some = absurd (omega (arith, some))
one-more (m ∷ []) n some = refl
one-more (m ∷ k ∷ p) n some =
    ap (λ t. decimal m ++ (codes "." ++ t)) (one-more (k ∷ p) n (omega arith))
    ∙ sym (append_assoc (decimal m) (codes "." ++ place_text (k ∷ p)) (codes "." ++ decimal n))

module _ (r : Recipe) where
  abbrev ns : List Node
  ns = procedure_nodes r.acts

  same-node : (k : ℕ) (a b : Node) → slice_get ns k ≡ Some a → slice_get ns k ≡ Some b → a ≡ b
  same-node k a b g h = let e : Some a ≡ Some b = sym g ∙ h in cc

  text-at : (k : ℕ) (n : Node) → slice_get ns k ≡ Some n → text_of_place r k ≡ place_text n.place
  text-at k n is = ap (λ o. place_text (node_place o)) is

  some-numbers : (k : ℕ) (e : Entry) (x : IsEntryOf ns k e) → 0 < length x.at.place
  some-numbers k e x = go x.hangs
    where
      go : IsFirst k x.at (shape_of e) ⊎ Hangs ns k x.at (shape_of e) → 0 < length x.at.place
      go (inl f) = omega (arith, ap length f.placed)
      go (inr g) = omega (arith, ap length g.placed, length-append g.above.place (e.child ∷ []))

  long-enough : (k : ℕ) (n : Node) (d : Entry) → slice_get ns k ≡ Some n → 0 < length n.place
  long-enough k n d is =
      let within : k < length r.outline.entries.items = omega (arith, slice_get_within ns k n is, as_many r) in
      let e = get_or r.outline.entries.items k d in
      let x = entry_at r k e (slice_get-get_or r.outline.entries.items k d within) in
      omega (arith, some-numbers k e x, ap (λ (m : Node). length m.place) (same-node k n x.at is x.numbered))

  -- an entry that was read, and one that there isn't
  pub entry-read : (k from : ℕ) (xs : List Entry) (e : Entry) → from ≡ k → xs ≡ r.outline.entries.items → true ≡ nat_lt from (length xs) → e ≡ get_or xs from e → slice_get r.outline.entries.items k ≡ Some e
  entry-read k from xs e at items within is =
      let lt : from < length xs = grind (arith, nat_tests, within) in
      read r k e (omega (arith, lt, at, ap length items, as_many r)) (is ∙ (ap (λ n. get_or xs n e) at ∙ ap (λ ys. get_or ys k e) items))

  pub past-entries : (k from : ℕ) (xs : List Entry) → from ≡ k → xs ≡ r.outline.entries.items → false ≡ nat_lt from (length xs) → length r.outline.entries.items ≤ k
  past-entries k from xs at items past = let le : length xs ≤ from = grind (arith, nat_tests, past) in omega (arith, le, at, ap length items)

  -- an entry at this position
  pub entry-at : (k from : ℕ) (e : Entry) → from ≡ k → k < length r.outline.entries.items → e ≡ get_or r.outline.entries.items from e → slice_get r.outline.entries.items k ≡ Some e
  entry-at k from e at within is = read r k e (omega (arith, within, as_many r)) (is ∙ ap (λ n. get_or r.outline.entries.items n e) at)

  -- the root's place has its number alone
  pub root-text : (k : ℕ) (e : Entry) → slice_get r.outline.entries.items k ≡ Some e → k ≡ 0 → text_of_place r k ≡ decimal e.child
  root-text k e is root = go x.hangs
    where
      x : IsEntryOf ns k e
      x = entry_at r k e is

      go : IsFirst k x.at (shape_of e) ⊎ Hangs ns k x.at (shape_of e) → text_of_place r k ≡ decimal e.child
      go (inl f) = text-at k x.at x.numbered ∙ ap place_text f.placed ∙ ap decimal (sym f.alone)
      go (inr g) = absurd (omega (arith, g.earlier, root))

  -- the place of any other node continues that of the node above it
  pub text-below : (k : ℕ) (e : Entry) → slice_get r.outline.entries.items k ≡ Some e → k ≢ 0
      → (e.parent < k) × (text_of_place r k ≡ text_of_place r e.parent ++ (codes "." ++ decimal e.child))
  text-below k e is below = go x.hangs
    where
      x : IsEntryOf ns k e
      x = entry_at r k e is

      go : IsFirst k x.at (shape_of e) ⊎ Hangs ns k x.at (shape_of e) → (e.parent < k) × (text_of_place r k ≡ text_of_place r e.parent ++ (codes "." ++ decimal e.child))
      go (inl f) = absurd (below f.number)
      go (inr g) = (
        g.earlier,
        text-at k x.at x.numbered ∙ ap place_text g.placed ∙ one-more g.above.place e.child (long-enough e.parent g.above e g.known)
            ∙ ap (λ t. t ++ (codes "." ++ decimal e.child)) (sym (text-at e.parent g.above g.known)),
      )

  -- a number that no node has names no place
  pub no-text : (k : ℕ) → length r.outline.entries.items ≤ k → text_of_place r k ≡ []
  no-text k past = ap (λ o. place_text (node_place o)) (none ns k (omega (arith, past, as_many r)))
    where
      none : (xs : List Node) (i : ℕ) → length xs ≤ i → slice_get xs i ≡ None
      none [] i h = refl
      none (y ∷ ys) zero h = absurd (omega (arith, h))
      none (y ∷ ys) (suc i) h = none ys i (omega (arith, h))
