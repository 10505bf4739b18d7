-- surface: ranks along the recipes' orders without one of them.
use Rattle.std.specs.Prelude.{◌≡◌, ℕ, ◌<◌, List, [], ◌∷◌, Bool, ◌&&◌, nat_eq, true, false, ⊤}
use Rattle.std.specs.List.{All, Contains}
use Rattle.batch_cell.specs.declared.cell.Cell.{Cell}
use Rattle.batch_recipe.specs.declared.recipe.Recipe.{Recipe}
use Rattle.batch_check.specs.Edges.{EdgeStands}
use Rattle.batch_check.specs.declared.edge.Edge.{Edge}

-- the edges lead from the same resource to the same
abbrev pub is_same_order : Edge → Edge → Bool
is_same_order edge other = nat_eq other.earlier edge.earlier && nat_eq other.later edge.later

-- ranks that rise along each edge that stands in the recipes, but for those of this edge's order
abbrev pub RiseWithout : Cell → List Recipe → Edge → (ℕ → ℕ) → Type 0
RiseWithout cell recipes edge rank = (other : Edge) → EdgeStands cell recipes other → is_same_order edge other ≡ false → rank other.earlier < rank other.later

-- whether there are ranks that do
abbrev pub TellsRise : Cell → List Recipe → Edge → Bool → Type 0
TellsRise cell recipes edge true = (rank : ℕ → ℕ) × RiseWithout cell recipes edge rank
TellsRise cell recipes edge false = (rank : ℕ → ℕ) → ¬ (RiseWithout cell recipes edge rank)

-- the same of each of these edges, in their order
abbrev pub TellRises : Cell → List Recipe → List Edge → List Bool → Type 0
TellRises cell recipes [] [] = ⊤
TellRises cell recipes [] (rises ∷ rise) = ⊥
TellRises cell recipes (edge ∷ edges) [] = ⊥
TellRises cell recipes (edge ∷ edges) (rises ∷ rise) = TellsRise cell recipes edge rises × TellRises cell recipes edges rise

-- ranks that rise along each of the edges, but for those of this edge's order, and whether there are some
abbrev pub RiseAlongOthers : List Edge → Edge → (ℕ → ℕ) → Type 0
RiseAlongOthers edges edge rank = (other : Edge) → Contains edges other → is_same_order edge other ≡ false → rank other.earlier < rank other.later

abbrev pub TellsRiseAlong : List Edge → Edge → Bool → Type 0
TellsRiseAlong edges edge true = (rank : ℕ → ℕ) × RiseAlongOthers edges edge rank
TellsRiseAlong edges edge false = (rank : ℕ → ℕ) → ¬ (RiseAlongOthers edges edge rank)

-- the others are the edges without those of this edge's order
pub record AreOtherEdges (edges : List Edge) (edge : Edge) (others : List Edge) : Type 0 where
  pub among : All (Contains edges) others
  pub differ : All (λ other. is_same_order edge other ≡ false) others
  pub whole : (other : Edge) → Contains edges other → is_same_order edge other ≡ false → Contains others other
