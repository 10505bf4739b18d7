-- Trees that stand one after another, and their phases.
use Rattle.std.proofs.Common.{◌≡◌, ◌↔◌, ℕ, Bool, true, false, ◌+◌, ◌<◌, ◌≤◌, List, [], ◌∷◌, ◌++◌, ◌&&◌, length, Some, slice_get, get_or, sym, ap, ◌∙◌, refl, subst, arith, append_assoc}
use Rattle.std.specs.Bool.{IsTrue}
use Rattle.batch_recipe.{specs.ActsAtNodes.ActList, specs.Children.AreHere, specs.Children.HasBelow, specs.Children.IsHere, specs.Conditions.Name, specs.Expanding.unbound, specs.Nodes.Node, specs.Nodes.node_count, specs.Tree.Tree, specs.Tree.par, specs.Tree.Trees, specs.Tree.no_trees, specs.Tree.tree, specs.declared.entry.Entry.Entry, specs.declared.recipe.Recipe.Recipe, proofs.NodeSubtrees.has_below, proofs.NodeSubtrees.some_count, proofs.NodesAbove.ns, proofs.NodesAbove.entry_at, proofs.NodesBelow.read_at}
use Rattle.batch_model.specs.Cleared.{phases, BranchesRunApart}
use Rattle.batch_verify.{specs.NodePhases.phase_at, specs.NodePhases.phases_along, specs.Walking.phase_names, proofs.BranchesApart.AreApart, proofs.BranchesApart.KeepsApart, proofs.BranchesApart.KeepsApart-next}

pub phases_along-append : (xs ys : ActList) → phases_along (xs ++ ys) ≡ phases_along xs ++ phases_along ys
phases_along-append [] ys = refl
phases_along-append (o ∷ xs) ys = ap (λ names. phase_at o ++ names) (phases_along-append xs ys) ∙ sym (append_assoc (phase_at o) (phases_along xs) (phases_along ys))

-- where the tree at a node ends
pub ends_at : (r : Recipe) (k from : ℕ) (e : Entry) → k < length (ns r) → from ≡ k → e ≡ get_or r.outline.entries.items from e → (x : Node) → slice_get (ns r) k ≡ Some x → e.end ≡ k + node_count x.here
ends_at r k from e in' same is x at =
    let h = entry_at r k e (read_at r k from e in' same is) in
    let both : Some h.at ≡ Some x = sym h.numbered ∙ at in
    let one : h.at ≡ x = cc in
    omega (arith, h.shaped.ended, ap (λ (n : Node). node_count n.here) one)

-- the branches of a `par` stand after it, up to its end
pub branches_stand : (r : Recipe) (k end : ℕ) (x : Node) (ts : Trees) → slice_get (ns r) k ≡ Some x → x.here ≡ par ts → end ≡ k + node_count x.here → AreHere (ns r) (k + 1) end ts
branches_stand r k end x ts at is size =
    let below : HasBelow (ns r) k (par ts) = subst (λ (t : Tree). HasBelow (ns r) k t) is (has_below unbound r.acts k x at) in
    let ends : k + node_count (par ts) ≡ end = sym (size ∙ ap (λ (t : Tree). k + node_count t) is) in
    subst (λ m. AreHere (ns r) (k + 1) m ts) ends below

module _ (ns : List Node) (end : ℕ) where
  -- of all branches those that stand from `node` to `end` are left, and the earlier ones run these phases, and run apart if the flag is set
  pub record AreLeft (apart : Bool) (earlier : List Name) (node : ℕ) (all : Trees) : Type 0 where
    pub left : Trees
    pub stand : AreHere ns node end left
    pub keeps : KeepsApart apart earlier left all

  pub AreLeft-first : (node : ℕ) (all : Trees) → AreHere ns node end all → AreLeft true [] node all
  AreLeft-first node all h = record {
    left = all;
    stand = h;
    keeps = ((λ run. run.2), λ run. (refl, (λ x a b. let bad : false ≡ true = a in cc), run));
  }

  later : (k : ℕ) (ts : Trees) → AreHere ns k end ts → k ≤ end
  later k no_trees h = omega (arith, h)
  later k (tree t ts) h = omega (arith, later (k + node_count t) ts h.1)

  -- once none is left, the flag says whether all run apart
  pub AreLeft-all : (apart : Bool) (earlier : List Name) (node : ℕ) (all : Trees) → end ≤ node → AreLeft apart earlier node all → IsTrue apart ↔ BranchesRunApart all
  AreLeft-all apart earlier node all past h = by h.left h.stand h.keeps
    where
      by : (left : Trees) → AreHere ns node end left → KeepsApart apart earlier left all → IsTrue apart ↔ BranchesRunApart all
      by no_trees stand keeps = ((λ is. keeps.0 (is, (λ x a b. let bad : false ≡ true = b in cc), tt)), λ run. (keeps.1 run).0)
      by (tree t ts) stand keeps = absurd (omega (arith, some_count t, later (node + node_count t) ts stand.1, past))

  -- the branch at `node` is looked at
  pub AreLeft-next : (apart own_apart : Bool) (earlier : List Name) (node : ℕ) (all : Trees) (x : Node) → node < end → slice_get ns node ≡ Some x → IsTrue own_apart ↔ AreApart earlier (phase_names (phases x.here))
      → AreLeft apart earlier node all → AreLeft (own_apart && apart) (earlier ++ phase_names (phases x.here)) (node + node_count x.here) all
  AreLeft-next apart own_apart earlier node all x more is d h = by h.left h.stand h.keeps
    where
      here : (t : Tree) → IsHere ns node t → x.here ≡ t
      here t at = let both : Some x ≡ Some at.0 = sym is ∙ at.1 in let same : x ≡ at.0 = cc in ap (λ (y : Node). y.here) same ∙ at.2

      by : (left : Trees) → AreHere ns node end left → KeepsApart apart earlier left all → AreLeft (own_apart && apart) (earlier ++ phase_names (phases x.here)) (node + node_count x.here) all
      by no_trees stand keeps = absurd (omega (arith, more, stand))
      by (tree t ts) stand keeps =
          let same = here t stand.0 in
          record {
            left = ts;
            stand = subst (λ u. AreHere ns (node + node_count u) end ts) (sym same) stand.1;
            keeps = KeepsApart-next apart own_apart earlier x.here ts all (subst (λ u. KeepsApart apart earlier (tree u ts) all) (sym same) keeps) d;
          }
