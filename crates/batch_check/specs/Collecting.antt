-- private: the invariants of the collection of edges of recipes.
use Rattle.std.specs.Prelude.{◌≡◌, ℕ, ◌<◌, ◌≤◌, List, [], ◌∷◌, ◌++◌, length, slice_get, Vec, Option, Some, None, ◌⊎◌, Bool, true, false, ◌&&◌, ◌||◌, not, ltb, nat_eq, IsTrue, option_map, slice_set}
use Rattle.std.specs.Global.{Global}
use Rattle.std.specs.List.{Contains, slice_index_or}
use Rattle.batch_cell.specs.declared.cell.Cell.{Cell}
use Rattle.batch_recipe.specs.Nodes.{Node}
use Rattle.batch_model.specs.Lists.{Each}
use Rattle.batch_recipe.specs.declared.acts.LabelTable.TheVariants.{Phases}
use Rattle.batch_recipe.specs.declared.entry.Kind.{Kind}
use Rattle.batch_recipe.specs.declared.entry.Kind.TheVariants as kind
use Rattle.batch_recipe.specs.declared.recipe.Recipe.{Recipe}
use Rattle.batch_check.specs.declared.edge.Edge.{Edge}
use Rattle.batch_check.specs.declared.edge_set.EdgeSet.{EdgeSet}
use Rattle.batch_check.specs.declared.path.Path.{Path}
use Rattle.batch_check.specs.declared.path.Reach.{Reach}
use Rattle.batch_check.specs.declared.path.Reach.TheVariants.{Next, Whole}
use Rattle.batch_check.specs.Edges.{AsksByNumber, CoversRecipes, OfNodes, EdgeStands, IsOfFirst, has_pair, numbers_of_resources, Follows, Covers}
use Rattle.batch_check.specs.Joining.{AreBelow, Grows, items_in, needs_in}
use Rattle.batch_check.specs.Pairs.{ArePaired, Keeps}
use Rattle.batch_check.specs.Sites.{nodes_on, resource_count, resource_on, units_on}
use Rattle.batch_check.specs.Takings.{Taking, resource_for}
use Rattle.batch_check.specs.declared.site.Site.{Site}

-- The needs that a path keeps

-- those of all nodes above, if edges are to lead from each of them
abbrev pub kept_by : Path → Option (List (Option ℕ))
kept_by path = items_in path.asked

abbrev pub kept_at_top : Reach → Option (List (Option ℕ))
kept_at_top Next = None
kept_at_top Whole = Some []

-- the path that ends in this need and keeps none
abbrev pub ends_in : ℕ → Option ℕ → Path
ends_in recipe last = record { recipe = recipe; last = last; asked = None }

-- the paths go on alike
pub record IsCopy (path copy : Path) : Type 0 where
  pub same_recipe : copy.recipe ≡ path.recipe
  pub same_last : copy.last ≡ path.last
  pub same_kept : kept_by copy ≡ kept_by path

-- Sets of edges

-- the set has the resources of the path's needs: of the last one, and of those that are kept
pub record IsReady (path : Path) (edges : EdgeSet) : Type 0 where
  pub within : (number : ℕ) → path.last ≡ Some number → number < edges.count
  pub below : AreBelow edges.count (needs_in (kept_by path))

-- Paths

-- the number of the last need, which is `last` if there are no more
abbrev pub last_number : Option ℕ → List (Option ℕ) → Option ℕ
last_number last [] = last
last_number last (need ∷ needs) = last_number need needs

-- the path is that of the needs above: it ends in the last one, and where it keeps needs, it keeps these
pub record IsPathOf (above : List (Option ℕ)) (path : Path) : Type 0 where
  pub ends : last_number None above ≡ path.last
  pub kept : (needs : List (Option ℕ)) → kept_by path ≡ Some needs → needs ≡ above

-- the edge leads to one of the own needs, which are asked for after those above
pub record IsAmong (above own : List (Option ℕ)) (edge : Edge) : Type 0 where
  pub before : ℕ
  pub place : ℕ
  pub ordered : before < place
  pub among_own : length above ≤ place
  pub earlier_is : slice_get (above ++ own) before ≡ Some (Some edge.earlier)
  pub later_is : slice_get (above ++ own) place ≡ Some (Some edge.later)

-- the path goes on by these needs up to `next`: an edge leads to each from the one before it, and, if needs are kept, from each one
-- before it
pub record GoesOn (path : Path) (own : List (Option ℕ)) (edges : EdgeSet) (next : Path) : Type 0 where
  pub ready : IsReady next edges
  pub same_recipe : next.recipe ≡ path.recipe
  pub ends : next.last ≡ last_number path.last own
  pub extended : kept_by next ≡ option_map (λ needs. needs ++ own) (kept_by path)
  pub covering : Follows edges.edges.items path.last own
  pub pairing : (needs : List (Option ℕ)) → kept_by path ≡ Some needs → (final : List Edge) → Keeps edges.edges.items final
      → ArePaired final needs → ArePaired final (needs ++ own)

-- the act at the node number has asked for its own needs, and the path goes on by them
pub record HasAsked (path : Path) (node : ℕ) (own : List (Option ℕ)) (old new : EdgeSet) (next : Path) : Type 0 where
  pub grown : Grows old new
  pub further : GoesOn path own new next
  pub standing : (above : List (Option ℕ)) → IsPathOf above path → (edge : Edge) → Contains new.edges.items edge
      → Contains old.edges.items edge ⊎ ((edge.recipe ≡ path.recipe) × (edge.node ≡ node) × IsAmong above own edge)

-- Acts whose own needs are joined

-- whether the act's flag is set, of those that say for each phase act whether there are edges between its own needs
abbrev pub is_joined : List Bool → Kind → Bool
is_joined joined (kind.Act Phases number) = slice_index_or joined number false
is_joined joined _ = false

-- the flags after the act's was set
abbrev pub with_joined : List Bool → Kind → List Bool
with_joined joined (kind.Act Phases number) = slice_set joined number true
with_joined joined _ = joined

-- Nodes

-- the node with this number asks for the one resource after the other
pub record IsAskedAt (cell : Cell) (nodes : List Node) (number earlier later : ℕ) : Type 0 where
  pub node : Node
  pub numbered : slice_get nodes number ≡ Some node
  pub asked : AsksByNumber cell node earlier later

-- each two resources on the node's path are an edge
abbrev pub PairsAll : Cell → List Edge → Node → Type 0
PairsAll cell edges node = ArePaired edges (numbers_of_resources cell node.asked)

-- Edges between resources and roles

-- the edge is this other one, where these units take the roles
pub record IsTakenAs (count : ℕ) (units : List (Option ℕ)) (edge taken : Edge) : Type 0 where
  pub recipe_is : taken.recipe ≡ edge.recipe
  pub node_is : taken.node ≡ edge.node
  pub earlier_is : resource_for count units edge.earlier ≡ Some taken.earlier
  pub later_is : resource_for count units edge.later ≡ Some taken.later

-- these edges are among the others then
abbrev pub AreTakenIn : ℕ → List (Option ℕ) → List Edge → List Edge → Type 0
AreTakenIn count units edges others = (edge : Edge) (earlier later : ℕ) → Contains edges edge
    → resource_for count units edge.earlier ≡ Some earlier → resource_for count units edge.later ≡ Some later → IsTrue (has_pair others earlier later)

-- they were added as they are then
pub record HasTakenBy (units : List (Option ℕ)) (edges : List Edge) (old new : EdgeSet) : Type 0 where
  pub grown : Grows old new
  pub taken : AreTakenIn old.count units edges new.edges.items
  pub only : (edge : Edge) → Contains new.edges.items edge → Contains old.edges.items edge ⊎ ((from : Edge) × Contains edges from × IsTakenAs old.count units from edge)

-- those of the edges that pass the test
pub record AreThose (passes : Edge → Bool) (edges those : List Edge) : Type 0 where
  pub among : (edge : Edge) → Contains those edge → Contains edges edge
  pub rest : (edge : Edge) → Contains edges edge → Contains those edge ⊎ (passes edge ≡ false)

-- the edge leads to or from a role: numbers below count are those of resources
abbrev pub is_of_role : ℕ → Edge → Bool
is_of_role count edge = not (ltb edge.earlier count && ltb edge.later count)

-- it joins the role with this number and one after it
abbrev pub is_behind : ℕ → Edge → Bool
is_behind role edge = (nat_eq edge.earlier role && ltb role edge.later) || (nat_eq edge.later role && ltb role edge.earlier)

-- the units of `others`, but of the role at this place that of `own`
abbrev pub raised : ℕ → List (Option ℕ) → List (Option ℕ) → List (Option ℕ)
raised place own others = slice_set others place (slice_index_or own place None)

-- each of these has a unit for the role at this place, and all its units are resources below count
abbrev pub AreUnitsWithin : ℕ → ℕ → List (Vec (Option ℕ) Global) → Type 0
AreUnitsWithin place count units = (taken : Vec (Option ℕ) Global) → Contains units taken → (place < length taken.items) × AreBelow count taken.items

-- the edge is one of these as it is where one of the first units takes the role at this place, and some of the second the other roles
pub record IsRaised (place count : ℕ) (owns others : List (Vec (Option ℕ) Global)) (edges : List Edge) (edge : Edge) : Type 0 where
  pub own : Vec (Option ℕ) Global
  pub other : Vec (Option ℕ) Global
  pub among_owns : Contains owns own
  pub among_others : Contains others other
  pub from : Edge
  pub stands : Contains edges from
  pub is : IsTakenAs count (raised place own.items other.items) from edge

-- they were added so, for each of the first units and each of the second
pub record HasRaised (place : ℕ) (owns others : List (Vec (Option ℕ) Global)) (edges : List Edge) (old new : EdgeSet) : Type 0 where
  pub grown : Grows old new
  pub taken : (own other : Vec (Option ℕ) Global) → Contains owns own → Contains others other → AreTakenIn old.count (raised place own.items other.items) edges new.edges.items
  pub only : (edge : Edge) → Contains new.edges.items edge → Contains old.edges.items edge ⊎ IsRaised place old.count owns others edges edge

-- they are where these candidates take the roles of the site's recipe
abbrev pub AreTakenOn : Site → Taking → List Edge → List Edge → Type 0
AreTakenOn site taking edges others = AreTakenIn (resource_count site) (units_on site taking) edges others

-- the edge stands at a node of the recipe with this number, whatever candidates take the roles
pub record StandsOn (site : Site) (recipe : ℕ) (edge : Edge) : Type 0 where
  pub recipe_is : edge.recipe ≡ recipe
  pub asked : (taking : Taking) (earlier later : ℕ) → resource_on site taking edge.earlier ≡ Some earlier → resource_on site taking edge.later ≡ Some later
      → IsAskedAt site.cell.now (nodes_on site taking) edge.node earlier later

-- the edges between resources and roles were collected: each stands at a node, and where they are among other edges, the nodes are
-- covered, and their needs paired where needs are kept
pub record IsCollected (site : Site) (kept : Option (List (Option ℕ))) (recipe : ℕ) (edges : List Edge) : Type 0 where
  pub standing : (edge : Edge) → Contains edges edge → StandsOn site recipe edge
  pub covering : (taking : Taking) (final : List Edge) → AreTakenOn site taking edges final → Each (Covers site.cell.now final) (nodes_on site taking)
  pub pairing : kept ≡ Some [] → (taking : Taking) (final : List Edge) → AreTakenOn site taking edges final → Each (PairsAll site.cell.now final) (nodes_on site taking)

-- Recipes

-- the edge stands in the recipe with this number
abbrev pub StandsIn : Cell → List Recipe → ℕ → Edge → Type 0
StandsIn cell recipes number edge = (edge.recipe ≡ number) × EdgeStands cell recipes edge

-- each two resources on a path of the recipe are an edge, whatever units take its roles
abbrev pub PairsRecipe : Cell → List Edge → Recipe → Type 0
PairsRecipe cell edges recipe = OfNodes cell (PairsAll cell edges) recipe

-- the edges of the recipe with this number were collected: each new edge stands in it, and whatever edges come later, its nodes are
-- covered, and their needs paired where needs are kept
pub record IsAdded (cell : Cell) (kept : Option (List (Option ℕ))) (recipes : List Recipe) (number : ℕ) (recipe : Recipe) (old new : EdgeSet) : Type 0 where
  pub grown : Grows old new
  pub standing : (edge : Edge) → Contains new.edges.items edge → Contains old.edges.items edge ⊎ StandsIn cell recipes number edge
  pub covering : (final : List Edge) → Keeps new.edges.items final → OfNodes cell (Covers cell final) recipe
  pub pairing : kept ≡ Some [] → (final : List Edge) → Keeps new.edges.items final → PairsRecipe cell final recipe

-- so those of some recipes; no recipe before that of a new edge asks for `later` right after `earlier`
pub record AreAdded (cell : Cell) (kept : Option (List (Option ℕ))) (recipes some : List Recipe) (old new : EdgeSet) : Type 0 where
  pub grown : Grows old new
  pub standing : (edge : Edge) → Contains new.edges.items edge → Contains old.edges.items edge ⊎ (EdgeStands cell recipes edge × IsOfFirst cell recipes edge)
  pub covering : (final : List Edge) → Keeps new.edges.items final → CoversRecipes cell some final
  pub pairing : kept ≡ Some [] → (final : List Edge) → Keeps new.edges.items final → Each (PairsRecipe cell final) some

-- no edge is removed, each edge stands, and the set has an edge for each two resources between which one stands
pub record HasAllPairs (cell : Cell) (recipes : List Recipe) (old new : EdgeSet) : Type 0 where
  pub grown : Grows old new
  pub standing : (edge : Edge) → Contains new.edges.items edge → EdgeStands cell recipes edge
  pub whole : (edge : Edge) → EdgeStands cell recipes edge → IsTrue (has_pair new.edges.items edge.earlier edge.later)
