-- private: how the nodes of an expanded tree hang together, by number.
use Rattle.std.specs.Prelude.{◌≡◌, ◌<◌, ◌≤◌, ◌⊎◌, ℕ, zero, suc, ◌+◌, List, [], ◌∷◌, ◌++◌, slice_get, Option, Some, None}
use Rattle.batch_recipe.specs.Expanding.{Sites, needs_with}
use Rattle.batch_recipe.specs.Needs.{resources_needed}
use Rattle.batch_recipe.specs.declared.need.Need.{Need}
use Rattle.batch_recipe.specs.declared.act.Act.{Act}
use Rattle.batch_recipe.specs.Nodes.{Node, needs_of, child, node_count}
use Rattle.batch_recipe.specs.Outlines.{Form, an_act, a_skip, a_seq, a_par, a_sel, a_loop, Shape, shape_of}
use Rattle.batch_recipe.specs.Tree.{Tree, act, skip, seq, par, sel, loop, Task, runs, follows, Trees, no_trees, tree, Choices, otherwise, choice}
use Rattle.batch_recipe.specs.declared.entry.Entry.{Entry}

-- all that an act asks for, where the roles are bound
abbrev pub asked_at : Sites → Option Act → List Need
asked_at sites None = []
asked_at sites (Some a) = needs_with sites a

abbrev pub form_at : Tree → Form
form_at (act s w) = an_act
form_at skip = a_skip
form_at (seq ts) = a_seq
form_at (par ts) = a_par
form_at (sel cs) = a_sel
form_at (loop n c t) = a_loop

-- branch i is this tree
abbrev pub IsBranch : Trees → ℕ → Tree → Type 0
IsBranch no_trees i t = ⊥
IsBranch (tree u us) zero t = u ≡ t
IsBranch (tree u us) (suc i) t = IsBranch us i t

abbrev pub IsChoice : Choices → ℕ → Tree → Type 0
IsChoice (otherwise u) zero t = u ≡ t
IsChoice (otherwise u) (suc i) t = ⊥
IsChoice (choice c u cs) zero t = u ≡ t
IsChoice (choice c u cs) (suc i) t = IsChoice cs i t

abbrev pub IsOnlyChild : Task → ℕ → Tree → Type 0
IsOnlyChild (runs phase) i t = ⊥
IsOnlyChild (follows name u) i t = (i ≡ 0) × (u ≡ t)

-- child i of a tree is this tree
abbrev pub IsChildTree : Tree → ℕ → Tree → Type 0
IsChildTree (act s w) i t = IsOnlyChild w i t
IsChildTree skip i t = ⊥
IsChildTree (seq ts) i t = IsBranch ts i t
IsChildTree (par ts) i t = IsBranch ts i t
IsChildTree (sel cs) i t = IsChoice cs i t
IsChildTree (loop n c u) i t = (i ≡ 0) × (u ≡ t)

-- the shape is that of the node with the number k
pub record IsShaped (k : ℕ) (at : Node) (s : Shape) : Type 0 where
  pub formed : s.form ≡ form_at at.here
  pub ended : s.end ≡ k + node_count at.here

-- the node is the child of an earlier one, before whose end it ends; its tree is that child of the other's
pub record Hangs (ns : List Node) (k : ℕ) (at : Node) (s : Shape) : Type 0 where
  pub above : Node
  pub known : slice_get ns s.parent ≡ Some above
  pub earlier : s.parent < k
  pub within : s.end ≤ s.parent + node_count above.here
  pub branch : IsChildTree above.here s.child at.here
  pub placed : at.place ≡ child above.place s.child
  pub asks : at.asked ≡ above.asked ++ resources_needed (needs_of at.here)

-- the node is the first
pub record IsFirst (k : ℕ) (at : Node) (s : Shape) : Type 0 where
  pub number : k ≡ 0
  pub alone : s.child ≡ 0
  pub placed : at.place ≡ 0 ∷ []
  pub asks : at.asked ≡ resources_needed (needs_of at.here)

-- the entry stands for node number k
pub record IsEntryOf (ns : List Node) (k : ℕ) (e : Entry) : Type 0 where
  pub at : Node
  pub numbered : slice_get ns k ≡ Some at
  pub shaped : IsShaped k at (shape_of e)
  pub hangs : IsFirst k at (shape_of e) ⊎ Hangs ns k at (shape_of e)
