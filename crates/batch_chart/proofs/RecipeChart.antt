-- A recipe's outline is laid out as its procedure's tree, whatever units take its roles.
use Rattle.std.proofs.Common.{◌≡◌, ◌≤◌, ◌∙◌, ℕ, [], ◌∷◌, List, map, ap, sym, subst, refl, Option, Some, None, slice_get}
use Rattle.std.{specs.Option.option_map, proofs.lemmas.Option.slice_get-map}
use Rattle.batch_recipe.{specs.Expanding.Binding, specs.Outlines.IsOutline, specs.Outlines.Shape, specs.Outlines.shape_of, specs.Procedure.bound_tree, specs.declared.entry.Entry.Entry, specs.declared.recipe.Recipe.Recipe, specs.declared.recipe.TheConstants.MAX_NODES, proofs.OutlineLinks.as_many_entries, proofs.NodeOrder.counted_nodes, proofs.EntryShapes.is_outline}
use Rattle.batch_step_laws.proofs.ActPlaces.{bound_tree-IsPlaced}
use Rattle.batch_chart.{specs.Charts.IsChartFor, specs.Outlined.StandsOn, specs.Parents.parent_at, proofs.RecipeEntries.node_read, proofs.RecipeEntries.recipe_stands, proofs.NodeParents.have_parents, proofs.TreesOfBindings.untied}

module _ (r : Recipe) where
  abbrev entries : List Entry
  entries = r.outline.entries.items

  outlines : IsOutline r.acts entries
  outlines = subst (λ es. IsOutline r.acts es) (sym r.outlined) (is_outline r.acts)

  shape_read : (k : ℕ) (s : Shape) → slice_get (map shape_of entries) k ≡ Some s → parent_at entries k ≡ s.parent
  shape_read k s is = go (slice_get entries k) refl (sym (slice_get-map shape_of entries k) ∙ is)
    where
      go : (o : Option Entry) → slice_get entries k ≡ o → option_map shape_of o ≡ Some s → parent_at entries k ≡ s.parent
      go None e q = let bad : None ≡ Some s = q in cc
      go (Some x) e q =
          let same : shape_of x ≡ s = cc in
          ap (λ (y : Entry). y.parent) (node_read entries k x e) ∙ ap (λ (z : Shape). z.parent) same

  -- so a running chart stands on the recipe itself
  pub is_chart : (bound : Binding) → IsChartFor bound (bound_tree bound r.acts) r
  is_chart bound =
      let t = bound_tree bound r.acts in
      let counted = as_many_entries r.acts entries outlines bound ∙ counted_nodes (0 ∷ []) [] t in
      let stands : StandsOn (Some bound) entries r 0 t = recipe_stands r bound in
      let plain = untied bound entries r t 0 stands in (
        record {
          stands = plain;
          placed = bound_tree-IsPlaced r.acts bound;
          count = counted;
          small = subst (λ n. n ≤ MAX_NODES) counted r.outline.few;
          root = tt;
          parents = have_parents (map shape_of entries) entries r shape_read t plain counted (outlines.shaped bound);
        },
        stands,
      )
