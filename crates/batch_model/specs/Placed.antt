-- trusted: an expanded tree in which each act carries the place at which it stands.
use Rattle.std.specs.Prelude.{◌≡◌, ℕ, ◌+◌, List, [], ◌∷◌, true, ⊤}
use Rattle.batch_model.specs.Lists.{Each}
use Rattle.batch_recipe.specs.Tree.{Place, is_before, Task, runs, follows, Tree, act, skip, seq, par, sel, loop, Trees, no_trees, tree, Choices, otherwise, choice}
use Rattle.batch_model.specs.Rest.{Rest, place_of}
use Rattle.batch_recipe.specs.Nodes.{child}

abbrev mutual
  pub IsPlaced : Place → Tree → Type 0
  IsPlaced place (act step task) = (step.place ≡ place) × IsPlacedBelow place task
  IsPlaced place skip = ⊤
  IsPlaced place (seq charts) = ArePlaced place 0 charts
  IsPlaced place (par charts) = ArePlaced place 0 charts
  IsPlaced place (sel choices) = IsChoicePlaced place 0 choices
  IsPlaced place (loop turns until body) = IsPlaced (child place 0) body

  pub IsPlacedBelow : Place → Task → Type 0
  IsPlacedBelow place (runs phase) = ⊤
  IsPlacedBelow place (follows name chart) = IsPlaced (child place 0) chart

  -- the trees are placed from the child with this number on
  pub ArePlaced : Place → ℕ → Trees → Type 0
  ArePlaced place child_number no_trees = ⊤
  ArePlaced place child_number (tree chart charts) = IsPlaced (child place child_number) chart × ArePlaced place (child_number + 1) charts

  pub IsChoicePlaced : Place → ℕ → Choices → Type 0
  IsChoicePlaced place child_number (otherwise chart) = IsPlaced (child place child_number) chart
  IsChoicePlaced place child_number (choice condition chart choices) =
      IsPlaced (child place child_number) chart × IsChoicePlaced place (child_number + 1) choices

-- the place of each act is before the places of all acts after it in the list
abbrev pub Rises : List Rest → Type 0
Rises [] = ⊤
Rises (first ∷ more) = Each (λ other. is_before (place_of first) (place_of other) ≡ true) more × Rises more
