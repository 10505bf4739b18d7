-- trusted: circles with the fewest edges.
use Rattle.std.specs.Prelude.{◌≡◌, ◌≤◌, List, [], ◌∷◌, ◌++◌, length}
use Rattle.batch_cell.specs.declared.cell.Cell.{Cell}
use Rattle.batch_recipe.specs.declared.recipe.Recipe.{Recipe}
use Rattle.batch_check.specs.declared.edge.Edge.{Edge}
use Rattle.batch_check.specs.Clearing.{StandsAsCircle}
use Rattle.batch_check.specs.Edges.{EdgeStands}

-- no circle of edges that stand in the recipes has fewer edges
abbrev pub IsShortest : Cell → List Recipe → List Edge → Type 0
IsShortest c recipes circle = (other : List Edge) → StandsAsCircle c recipes other → length circle ≤ length other

-- one edge that stands leads from where the first of these edges comes from to where the second one leads
pub record CanBeReplaced (c : Cell) (recipes : List Recipe) (first second : Edge) : Type 0 where
  pub edge : Edge
  pub standing : EdgeStands c recipes edge
  pub from : edge.earlier ≡ first.earlier
  pub into : edge.later ≡ second.later

-- no two neighbouring edges can be replaced by one; the last edge and the first are neighbours too, if they are two
pub record TakesNoDetour (c : Cell) (recipes : List Recipe) (circle : List Edge) : Type 0 where
  pub along : (before after : List Edge) (e f : Edge) → circle ≡ before ++ (e ∷ f ∷ after) → ¬ (CanBeReplaced c recipes e f)
  pub around : (between : List Edge) (e f : Edge) → circle ≡ f ∷ (between ++ e ∷ []) → ¬ (CanBeReplaced c recipes e f)

-- Law

-- a circle with the fewest edges takes no detour
abbrev pub ShortestTakeNoDetour : Type 0
ShortestTakeNoDetour = (c : Cell) (recipes : List Recipe) (circle : List Edge)
    → StandsAsCircle c recipes circle → IsShortest c recipes circle → TakesNoDetour c recipes circle
