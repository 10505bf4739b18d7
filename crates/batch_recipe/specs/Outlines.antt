-- surface: the entries of an outline, as nodes of the expanded tree by number.
use Rattle.std.specs.Prelude.{◌≡◌, ℕ, ◌+◌, List, [], ◌∷◌, ◌++◌, map, Option, Some, None, slice_get}
use Rattle.batch_recipe.specs.ActsAtNodes.{procedure_acts}
use Rattle.batch_recipe.specs.Nodes.{node_count}
use Rattle.batch_recipe.specs.Expanding.{Binding}
use Rattle.batch_recipe.specs.Procedure.{table_at, bound_tree}
use Rattle.batch_recipe.specs.Tree.{Tree, act, skip, seq, par, sel, loop, Task, runs, follows, Trees, no_trees, tree, Choices, otherwise, choice}
use Rattle.batch_recipe.specs.declared.act.Act.{Act}
use Rattle.batch_recipe.specs.declared.acts.Acts.{Acts}
use Rattle.batch_recipe.specs.declared.entry.Entry.{Entry}
use Rattle.batch_recipe.specs.declared.entry.Kind.{Kind}
use Rattle.batch_recipe.specs.declared.entry.Kind.TheVariants as kind

-- the form of a node
pub data Form : Type 0 where
  an_act : Form
  a_skip : Form
  a_seq : Form
  a_par : Form
  a_sel : Form
  a_loop : Form

abbrev pub form_of : Kind → Form
form_of kind.Procedure = an_act
form_of (kind.Act level number) = an_act
form_of kind.Skip = a_skip
form_of kind.Seq = a_seq
form_of kind.Par = a_par
form_of kind.Sel = a_sel
form_of (kind.Loop turns) = a_loop

-- the act that a kind names
abbrev pub act_of_kind : Acts → Kind → Option Act
act_of_kind acts kind.Procedure = Some acts.procedure
act_of_kind acts (kind.Act level number) = slice_get (table_at acts level) number
act_of_kind acts _ = None

-- a node, the number past all below it, and which child it is of which node
pub record Shape : Type 0 where
  pub form : Form
  pub end : ℕ
  pub parent : ℕ
  pub child : ℕ

abbrev pub shape_of : Entry → Shape
shape_of e = record { form = form_of e.kind; end = e.end; parent = e.parent; child = e.child }

abbrev pub shape : Form → ℕ → ℕ → ℕ → Tree → Shape
shape f n u i t = record { form = f; end = n + node_count t; parent = u; child = i }

-- The tree at the node n is child i of the node u.
abbrev mutual
  pub shapes : ℕ → ℕ → ℕ → Tree → List Shape
  shapes n u i (act s w) = shape an_act n u i (act s w) ∷ shapes_within n w
  shapes n u i skip = shape a_skip n u i skip ∷ []
  shapes n u i (seq ts) = shape a_seq n u i (seq ts) ∷ shapes_of_each (n + 1) n 0 ts
  shapes n u i (par ts) = shape a_par n u i (par ts) ∷ shapes_of_each (n + 1) n 0 ts
  shapes n u i (sel cs) = shape a_sel n u i (sel cs) ∷ shapes_of_choices (n + 1) n 0 cs
  shapes n u i (loop k c t) = shape a_loop n u i (loop k c t) ∷ shapes (n + 1) n 0 t

  pub shapes_within : ℕ → Task → List Shape
  shapes_within n (runs phase) = []
  shapes_within n (follows name t) = shapes (n + 1) n 0 t

  -- branches, the first of which stands at n
  pub shapes_of_each : ℕ → ℕ → ℕ → Trees → List Shape
  shapes_of_each n u i no_trees = []
  shapes_of_each n u i (tree t ts) = shapes n u i t ++ shapes_of_each (n + node_count t) u (i + 1) ts

  pub shapes_of_choices : ℕ → ℕ → ℕ → Choices → List Shape
  shapes_of_choices n u i (otherwise t) = shapes n u i t
  shapes_of_choices n u i (choice c t cs) = shapes n u i t ++ shapes_of_choices (n + node_count t) u (i + 1) cs

-- the entries are the nodes of the recipe's expanded tree, by number, whatever units take the roles; each act with its number in its table
pub record IsOutline (acts : Acts) (entries : List Entry) : Type 0 where
  pub shaped : (bound : Binding) → map shape_of entries ≡ shapes 0 0 0 (bound_tree bound acts)
  pub acted : map (λ e. act_of_kind acts e.kind) entries ≡ procedure_acts acts
