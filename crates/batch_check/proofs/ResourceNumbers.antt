-- The numbers of resources.
use Rattle.std.proofs.Common.{◌≡◌, ℕ, ◌<◌, List, ◌++◌, length, get_or, slice_get, Option, Some, None, option_map, refl, sym, ap, ◌∙◌}
use Rattle.std.proofs.lemmas.{List.map-append, Option.slice_get-get_or, Option.slice_get-map, List.Quantifiers.position-Some, Slice.Eq.bytes_eq-Decides}
use Rattle.batch_cell.specs.{LookUps.resources_of as cell_resources, declared.cell.Cell.Cell}
use Rattle.batch_recipe.specs.Conditions.{Name, same_name}
use Rattle.batch_check.{specs.Edges.number_of_resource, specs.Edges.numbers_of_resources, specs.Joining.AreBelow, proofs.EdgesFromNeeds.at-Contains}

module _ (cell : Cell) where
  pub number_within : (name : Name) (k : ℕ) → number_of_resource cell name ≡ Some k → k < length (cell_resources cell)
  number_within name k is = (position-Some (same_name name) (cell_resources cell) k name is).0

  number_named : (name : Name) (k : ℕ) → number_of_resource cell name ≡ Some k → slice_get (cell_resources cell) k ≡ Some name
  number_named name k is =
      let found = position-Some (same_name name) (cell_resources cell) k name is in
      let same : name ≡ get_or (cell_resources cell) k name = (bytes_eq-Decides name (get_or (cell_resources cell) k name)).0 found.1 in
      slice_get-get_or (cell_resources cell) k name found.0 ∙ ap (λ (n : Name). Some n) (sym same)

  pub numbers-append : (xs ys : List Name) → numbers_of_resources cell (xs ++ ys) ≡ numbers_of_resources cell xs ++ numbers_of_resources cell ys
  numbers-append xs ys = map-append (number_of_resource cell) xs ys

  -- the name at this place is that of the resource with this number
  pub record IsNamed (names : List Name) (place number : ℕ) : Type 0 where
    pub name : Name
    pub name_is : slice_get names place ≡ Some name
    pub numbered : number_of_resource cell name ≡ Some number
    pub named : slice_get (cell_resources cell) number ≡ Some name

  pub number_at : (names : List Name) (place number : ℕ) → slice_get (numbers_of_resources cell names) place ≡ Some (Some number) → IsNamed names place number
  number_at names place number is = go (slice_get names place) refl (sym (slice_get-map (number_of_resource cell) names place) ∙ is)
    where
      go : (o : Option Name) → slice_get names place ≡ o → option_map (number_of_resource cell) o ≡ Some (Some number) → IsNamed names place number
      go None at mapped = let bad : None ≡ Some (Some number) = mapped in absurd cc
      go (Some name) at mapped =
          let numbered : number_of_resource cell name ≡ Some number = let e : Some (number_of_resource cell name) ≡ Some (Some number) = mapped in cc in
          record { name = name; name_is = at; numbered = numbered; named = number_named name number numbered }

  -- the numbers of resources are below their count
  pub numbers_below : (names : List Name) → AreBelow (length (cell_resources cell)) (numbers_of_resources cell names)
  numbers_below names number among =
      let at = at-Contains (numbers_of_resources cell names) (Some number) among in
      let it = number_at names at.0 number at.1 in
      number_within it.name number it.numbered
