-- The needs of the node of an entry.
use Rattle.std.proofs.Common.{arith, ◌≡◌, ℕ, zero, suc, List, [], ◌∷◌, Option, Some, None, slice_get, subst}
use Rattle.batch_recipe.{specs.ActsAtNodes.ActList, specs.ActsAtNodes.procedure_acts, specs.ActsAtNodes.AreActsAt, specs.ActsAtNodes.IsActAt, specs.ActsAtNodes.IsNoAct, specs.Expanding.Binding, specs.Links.asked_at, specs.Nodes.Node, specs.Nodes.needs_of, specs.Outlines.act_of_kind, specs.Procedure.sites, specs.Procedure.bound_nodes, specs.Tree.Tree, specs.declared.act.Act.Act, specs.declared.acts.Acts.Acts, specs.declared.entry.Entry.Entry, specs.declared.recipe.Recipe.Recipe, proofs.NodeActs.procedure_acts_are, proofs.NodesAbove.act_at}

module _ (bound : Binding) (acts : Acts) where
  some_is : (a b : Option Act) → Some a ≡ Some b → a ≡ b
  some_is a b e = cc

  node_is : (a b : Node) → Some a ≡ Some b → a ≡ b
  node_is a b e = cc

  pub acts_at : (list : ActList) (xs : List Node) → AreActsAt bound acts list xs → (k : ℕ) (o : Option Act) (x : Node) → slice_get list k ≡ Some o → slice_get xs k ≡ Some x → IsActAt bound acts o x
  acts_at [] xs h k o x is at = let bad : None ≡ Some o = is in cc
  acts_at (a ∷ list) [] h k o x is at = absurd h
  acts_at (a ∷ list) (y ∷ xs) h zero o x is at =
      subst (λ (z : Node). IsActAt bound acts o z) (node_is y x at) (subst (λ (p : Option Act). IsActAt bound acts p y) (some_is a o is) h.0)
  acts_at (a ∷ list) (y ∷ xs) h (suc k) o x is at = acts_at list xs h.1 k o x is at

  no_needs : (t : Tree) → IsNoAct t → needs_of t ≡ []
  no_needs t h = grind arith

  needs_are : (o : Option Act) (x : Node) → IsActAt bound acts o x → needs_of x.here ≡ asked_at (sites bound acts) o
  needs_are o x h = grind (arith, no_needs)

-- the node's own needs are those of its act, whatever units take the roles
pub own_needs : (r : Recipe) (bound : Binding) (k : ℕ) (e : Entry) (x : Node) → slice_get r.outline.entries.items k ≡ Some e → slice_get (bound_nodes bound r.acts) k ≡ Some x
    → needs_of x.here ≡ asked_at (sites bound r.acts) (act_of_kind r.acts e.kind)
own_needs r bound k e x is at =
    needs_are bound r.acts (act_of_kind r.acts e.kind) x
    (acts_at bound r.acts (procedure_acts r.acts) (bound_nodes bound r.acts) (procedure_acts_are bound r.acts) k (act_of_kind r.acts e.kind) x (act_at r k e is) at)
