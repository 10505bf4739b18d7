-- surface: the unit procedures that follow a node, by number, whatever units take the roles.
use Rattle.std.specs.Prelude.{◌≡◌, ◌<◌, ℕ, length, List, [], ◌∷◌, Bool, true, false, Option, Some, None, IfSome, IsNone, option_and_then, find, slice_get}
use Rattle.batch_recipe.specs.Conditions.{Name, same_name}
use Rattle.batch_recipe.specs.Expanding.{Binding}
use Rattle.batch_recipe.specs.Following.{Follower, child_of, firsts, follower, following, level_within}
use Rattle.batch_recipe.specs.Levels.{Level, is_procedure, in_procedure}
use Rattle.batch_recipe.specs.Nodes.{Node, reserves_of}
use Rattle.batch_recipe.specs.Places.{IsNodeAt}
use Rattle.batch_recipe.specs.Procedure.{bound_nodes, bound_tree}
use Rattle.batch_recipe.specs.Tree.{Place, Reserve, Tree}
use Rattle.batch_recipe.specs.declared.act.Act.{Act}
use Rattle.batch_recipe.specs.declared.act.Work.TheVariants.{Follows, Runs}
use Rattle.batch_recipe.specs.declared.acts.Acts.{Acts}

-- the place of the unit procedure that a node reserves as number i, and that follows it
abbrev pub follower_of : Tree → Node → ℕ → Option Place
follower_of procedure at i = option_and_then (λ (x : Reserve). follower procedure at.place x.name) (slice_get (reserves_of at.here) i)

-- node number `to` is that unit procedure
abbrev pub IsFollowerAt : Binding → Acts → Node → ℕ → ℕ → Type 0
IsFollowerAt bound acts at i to = (place : Place) × (follower_of (bound_tree bound acts) at i ≡ Some place) × IsNodeAt (bound_nodes bound acts) to place

-- the level of the node at a place below a tree
abbrev pub level_along : Level → Tree → Place → Level
level_along level here [] = level
level_along level here (number ∷ place) = elim (child_of here number) [ None ↦ level | Some part ↦ level_along (level_within level here) part place ]

-- the level of the node at a place of a procedure's tree
abbrev pub level_at : Tree → Place → Level
level_at procedure [] = is_procedure
level_at procedure (root ∷ place) = level_along is_procedure procedure place

abbrev pub is_in_chart_of_procedure : Level → Bool
is_in_chart_of_procedure in_procedure = true
is_in_chart_of_procedure _ = false

-- the unit procedures met first on each way down from a node
abbrev pub firsts_at : List Node → Option ℕ → List Follower
firsts_at ns None = []
firsts_at ns (Some number) = elim (slice_get ns number) [ None ↦ [] | Some at ↦ firsts at.here ]

-- the followers of the node are those met first on the ways down from node number `next`
pub record IsNext (bound : Binding) (acts : Acts) (at : Node) (next : Option ℕ) : Type 0 where
  pub within : IfSome next (λ number. number < length (bound_nodes bound acts))
  pub same : following (bound_tree bound acts) at.place ≡ firsts_at (bound_nodes bound acts) next

-- the first with this name
abbrev pub named_among : Name → List Follower → Option Follower
named_among name followers = find (λ f. same_name f.0 name) followers

-- the first with this name of those that are met first on each way down from a node
pub record IsFound (bound : Binding) (acts : Acts) (at : Node) (name : Name) (found : Option ℕ) : Type 0 where
  pub some : IfSome found (λ to. (f : Follower) × (named_among name (firsts at.here) ≡ Some f) × IsNodeAt (bound_nodes bound acts) to f.1)
  pub none : IsNone found → named_among name (firsts at.here) ≡ None

-- the act has this name, and a chart
abbrev pub is_chart_named : Act → Name → Bool
is_chart_named a name = elim a.work [ Follows c ↦ same_name a.name name | Runs phase values reports ↦ false ]
