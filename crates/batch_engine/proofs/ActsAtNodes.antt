-- The act at a node that needs something.
use Rattle.std.proofs.Common.{◌≡◌, ◌<◌, refl, ◌∙◌, ap, subst, ℕ, zero, suc, List, [], ◌∷◌, Option, Some, None, arith, length, get_or, slice_get}
use Rattle.batch_recipe.{specs.ActsAtNodes.ActList, specs.ActsAtNodes.AreActsAt, specs.ActsAtNodes.IsActAt, specs.ActsAtNodes.IsNoAct, specs.ActsAtNodes.procedure_acts, specs.Conditions.Name, specs.Expanding.Binding, specs.Expanding.act_tree_with, specs.Expanding.named_tree_with, specs.Expanding.needs_with, specs.Nodes.Node, specs.Outlines.act_of_kind, specs.Procedure.bound_nodes, specs.Procedure.bound_tree, specs.Procedure.sites, specs.Procedure.tables_from, specs.Tree.Place, specs.Tree.Tree, specs.Tree.skip, specs.declared.act.Act.Act, specs.declared.acts.Acts.Acts, specs.declared.entry.Entry.Entry, specs.declared.need.Need.Need, specs.declared.recipe.Recipe.Recipe, proofs.NodesAbove.act_at, proofs.NodeActs.procedure_acts_are}
use Rattle.batch_chart.specs.NodesOf.{node_at, step_at, tree_step}

-- the node is that of this act, on some unit, where the roles are bound
abbrev IsOfAct : Binding → Acts → Act → Tree → Type 0
IsOfAct bound acts a here = (trees : Name → Name → Place → Tree) × (unit : Name) × (p : Place) × (here ≡ act_tree_with (sites bound acts) trees unit a p)

module _ (bound : Binding) (acts : Acts) where
  acts-agree : (list : ActList) (ns : List Node) (k : ℕ) (a : Act) (d : Node) → AreActsAt bound acts list ns → slice_get list k ≡ Some (Some a) → IsActAt bound acts (Some a) (get_or ns k d)
  acts-agree (b ∷ list) (at ∷ ns) zero a d h e = let is : b ≡ Some a = cc in subst (λ (z : Option Act). IsActAt bound acts z at) is h.0
  acts-agree (b ∷ list) (at ∷ ns) (suc k) a d h e = acts-agree list ns k a d h.1 e
  acts-agree list ns k a d h e = absurd (grind arith)

  none-agree : (list : ActList) (ns : List Node) (k : ℕ) (d : Node) → AreActsAt bound acts list ns → slice_get list k ≡ Some None → IsNoAct (get_or ns k d).here
  none-agree (b ∷ list) (at ∷ ns) zero d h e = let is : b ≡ None = cc in subst (λ (z : Option Act). IsActAt bound acts z at) is h.0
  none-agree (b ∷ list) (at ∷ ns) (suc k) d h e = none-agree list ns k d h.1 e
  none-agree list ns k d h e = absurd (grind arith)

  act-at-node : (k : ℕ) (a : Act) → slice_get (procedure_acts acts) k ≡ Some (Some a) → IsOfAct bound acts a (node_at (bound_tree bound acts) k).here
  act-at-node k a e =
      let h = acts-agree (procedure_acts acts) (bound_nodes bound acts) k a (record { place = []; asked = []; here = skip }) (procedure_acts_are bound acts) e in
      (named_tree_with (sites bound acts) (tables_from acts h.below), h.unit, (node_at (bound_tree bound acts) k).place, h.here_is)

  no-act-at-node : (k : ℕ) → slice_get (procedure_acts acts) k ≡ Some None → IsNoAct (node_at (bound_tree bound acts) k).here
  no-act-at-node k e = none-agree (procedure_acts acts) (bound_nodes bound acts) k (record { place = []; asked = []; here = skip }) (procedure_acts_are bound acts) e

none-needed : (t : Tree) → IsNoAct t → (tree_step t).needs ≡ []
none-needed t h = grind arith

-- a node that needs something is that of the act which its entry names
pub act-here : (r : Recipe) (bound : Binding) (k : ℕ) (e : Entry) → slice_get r.outline.entries.items k ≡ Some e → (i : ℕ) → i < length (step_at (bound_tree bound r.acts) k).needs
    → (a : Act) × (act_of_kind r.acts e.kind ≡ Some a) × ((step_at (bound_tree bound r.acts) k).needs ≡ needs_with (sites bound r.acts) a)
act-here r bound k e is i less = go (act_of_kind r.acts e.kind) refl
  where
    go : (o : Option Act) → act_of_kind r.acts e.kind ≡ o → (a : Act) × (act_of_kind r.acts e.kind ≡ Some a) × ((step_at (bound_tree bound r.acts) k).needs ≡ needs_with (sites bound r.acts) a)
    go None q =
        let none = no-act-at-node bound r.acts k (act_at r k e is ∙ ap Some q) in
        absurd (omega (arith, less, ap (λ (ns : List Need). length ns) (none-needed (node_at (bound_tree bound r.acts) k).here none)))
    go (Some a) q = (a, q, ap (λ (t : Tree). (tree_step t).needs) (act-at-node bound r.acts k a (act_at r k e is ∙ ap Some q)).3)
