-- The node of an entry, and how it hangs from that of its parent.
use Rattle.std.proofs.Common.{◌≡◌, ◌≢◌, ◌⊎◌, ℕ, ◌<◌, List, [], ◌∷◌, ◌++◌, Some, slice_get, sym, ap, ◌∙◌, subst, arith, inl, inr}
use Rattle.std.{specs.Option.option_map, proofs.lemmas.Option.slice_get-map}
use Rattle.batch_recipe.{specs.Expanding.Binding, specs.Links.IsFirst, specs.Links.Hangs, specs.Links.form_at, specs.Needs.resources_needed, specs.Nodes.Node, specs.Nodes.needs_of, specs.Outlines.act_of_kind, specs.Outlines.form_of, specs.Outlines.shape_of, specs.Procedure.bound_nodes, specs.Procedure.bound_tree, specs.Procedure.sites, specs.declared.entry.Entry.Entry, specs.declared.recipe.Recipe.Recipe, proofs.NodesAbove.entry_in, proofs.NodesAbove.act_at}
use Rattle.batch_model.{specs.Cleared.Part, specs.Cleared.is_procedure, proofs.TreeParts.parts-nodes}
use Rattle.batch_verify.{specs.Ways.Way, specs.Ways.top, specs.Ways.bound_parts, specs.Ways.bound_ways, proofs.Spots.IsUnder, proofs.Spots.way_of, proofs.WayActs.IsOn, proofs.WayActs.part_on}

-- it is the first node
pub record IsTop (k : ℕ) (w : Way) (x : Part) : Type 0 where
  pub number : k ≡ 0
  pub stands : w.here ≡ top
  pub asks : x.node.asked ≡ resources_needed (needs_of x.node.here)

-- it hangs from the node that is its entry's parent
pub record IsBelow (ws : List Way) (ns : List Node) (k : ℕ) (e : Entry) (w : Way) (x : Part) : Type 0 where
  pub way : Way
  pub way_is : slice_get ws e.parent ≡ Some way
  pub node : Node
  pub node_is : slice_get ns e.parent ≡ Some node
  pub earlier : e.parent < k
  pub stands : w.here ≡ way.under
  pub asks : x.node.asked ≡ node.asked ++ resources_needed (needs_of x.node.here)

pub record Stands (r : Recipe) (bound : Binding) (k : ℕ) (e : Entry) : Type 0 where
  pub own : Way
  pub own_is : slice_get (bound_ways bound r.acts) k ≡ Some own
  pub x : Part
  pub x_is : slice_get (bound_parts bound r.acts) k ≡ Some x
  pub on : IsOn (sites bound r.acts) own x (act_of_kind r.acts e.kind)
  pub formed : form_of e.kind ≡ form_at x.node.here
  pub hangs : IsTop k own x ⊎ IsBelow (bound_ways bound r.acts) (bound_nodes bound r.acts) k e own x

module _ (r : Recipe) (bound : Binding) where
  -- the node of a part
  pub node_of : (k : ℕ) (x : Part) → slice_get (bound_parts bound r.acts) k ≡ Some x → slice_get (bound_nodes bound r.acts) k ≡ Some x.node
  node_of k x is =
      ap (λ ns. slice_get ns k) (sym (parts-nodes is_procedure (0 ∷ []) [] (bound_tree bound r.acts)))
      ∙ (slice_get-map (λ (y : Part). y.node) (bound_parts bound r.acts) k ∙ ap (option_map (λ (y : Part). y.node)) is)

  node_is : (a b : Node) → Some a ≡ Some b → a ≡ b
  node_is a b e = cc

  pub stands : (k : ℕ) (e : Entry) → slice_get r.outline.entries.items k ≡ Some e → Stands r bound k e
  stands k e is =
      let w = way_of r bound k e is in
      let p = part_on bound r.acts r.kinds k w.own (act_of_kind r.acts e.kind) w.known (act_at r k e is) in
      let it = entry_in r bound k e is in
      let same : it.at ≡ p.0.node = node_is it.at p.0.node (sym it.numbered ∙ node_of k p.0 p.1) in
      record {
        own = w.own;
        own_is = w.known;
        x = p.0;
        x_is = p.1;
        on = p.2;
        formed = it.shaped.formed ∙ ap (λ (n : Node). form_at n.here) same;
        hangs = go w.own p.0 it.at same w.stands it.hangs;
      }
    where
      go : (w : Way) (x : Part) (at : Node) → at ≡ x.node → ((k ≡ 0) × (w.here ≡ top)) ⊎ ((k ≢ 0) × IsUnder (bound_ways bound r.acts) w (shape_of e))
          → IsFirst k at (shape_of e) ⊎ Hangs (bound_nodes bound r.acts) k at (shape_of e) → IsTop k w x ⊎ IsBelow (bound_ways bound r.acts) (bound_nodes bound r.acts) k e w x
      go w x at same (inl first) (inl f) = inl (record { number = first.0; stands = first.1; asks = subst (λ (n : Node). n.asked ≡ resources_needed (needs_of n.here)) same f.asks })
      go w x at same (inl first) (inr h) = let bad : e.parent < 0 = subst (λ n. e.parent < n) first.0 h.earlier in absurd (omega arith)
      go w x at same (inr later) (inl f) = absurd (later.0 f.number)
      go w x at same (inr later) (inr h) = inr (record {
        way = later.1.above;
        way_is = later.1.known;
        node = h.above;
        node_is = h.known;
        earlier = h.earlier;
        stands = later.1.stands;
        asks = subst (λ (n : Node). n.asked ≡ h.above.asked ++ resources_needed (needs_of n.here)) same h.asks;
      })
