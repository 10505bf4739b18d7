-- surface: the meaning of a circle, in words.
use Rattle.std.specs.Prelude.{◌≡◌, ℕ, List, [], ◌++◌, codes, map, slice_get, unwrap_or, option_map, Some, None, ⊤}
use Rattle.std.specs.List.{flat_map}
use Rattle.batch_cell.specs.LookUps.{resources_of}
use Rattle.batch_cell.specs.declared.cell.Cell.{Cell}
use Rattle.batch_recipe.specs.ActsAtNodes.{procedure_acts}
use Rattle.batch_recipe.specs.declared.recipe.Recipe.{Recipe}
use Rattle.batch_check.specs.declared.edge.Edge.{Edge}
use Rattle.batch_check.specs.declared.fault.CheckFault.{CheckFault}
use Rattle.batch_check.specs.declared.fault.CheckFault.TheVariants.{Circle}
use Rattle.batch_messages.specs.Shown.{shown}

abbrev pub resource_name : Cell → ℕ → List ℕ
resource_name cell resource = unwrap_or (slice_get (resources_of cell) resource) []

abbrev pub recipe_name : List Recipe → ℕ → List ℕ
recipe_name recipes recipe = unwrap_or (option_map (λ (r : Recipe). r.acts.procedure.name) (slice_get recipes recipe)) []

-- the name of the act at a node of a recipe
abbrev pub name_of_act_at : Recipe → ℕ → List ℕ
name_of_act_at r node = elim (slice_get (procedure_acts r.acts) node) [ None ↦ [] | Some found ↦ elim found [ None ↦ [] | Some a ↦ a.name ] ]

abbrev pub act_name : List Recipe → ℕ → ℕ → List ℕ
act_name recipes recipe node = unwrap_or (option_map (λ r. name_of_act_at r node) (slice_get recipes recipe)) []

-- an edge, with the remarks on it: the act that holds the one resource, and the places of both acts
pub record ToldEdge : Type 0 where
  pub edge : Edge
  pub holder : List ℕ
  pub asker : List ℕ

-- a batch of the edge's recipe holds the one resource and asks for the other, in the act at the edge's node
abbrev pub edge_words : Cell → List Recipe → ToldEdge → List ℕ
edge_words cell recipes told =
    codes "; " ++ (recipe_name recipes told.edge.recipe ++ (codes " holds " ++ (resource_name cell told.edge.earlier
    ++ (told.holder ++ (codes " and asks for " ++ (resource_name cell told.edge.later
    ++ (codes " in " ++ (act_name recipes told.edge.recipe told.edge.node ++ told.asker))))))))

-- the words on one edge
pub record IsEdgeTold (cell : Cell) (recipes : List Recipe) (edge : Edge) (text : List ℕ) : Type 0 where
  pub told : ToldEdge
  pub of : told.edge ≡ edge
  pub words : text ≡ edge_words cell recipes told

abbrev pub circle_words : Cell → List Recipe → List ToldEdge → List ℕ
circle_words cell recipes told = codes "batches can wait in a circle" ++ flat_map (edge_words cell recipes) told

-- the words on a circle: each of its edges, in order
pub record IsCircleTold (cell : Cell) (recipes : List Recipe) (edges : List Edge) (text : List ℕ) : Type 0 where
  pub told : List ToldEdge
  pub each : map (λ (t : ToldEdge). t.edge) told ≡ edges
  pub words : text ≡ circle_words cell recipes told

-- the sentence on a circle gives its edges in order, and then the advice
abbrev pub SaysCircle : Cell → List Recipe → CheckFault → List ℕ → Type 0
SaysCircle cell recipes (Circle edges) text =
    (words : List ℕ) × (more : List ℕ) × IsCircleTold cell recipes edges.items words × (text ≡ shown (words ++ more))
SaysCircle cell recipes fault text = ⊤
