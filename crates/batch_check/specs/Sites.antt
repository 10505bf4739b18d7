-- private: the needs of the acts of a recipe, by number, whatever units take its roles.
use Rattle.std.specs.Prelude.{◌≡◌, ℕ, ◌+◌, List, length, map, Option, Some, None, option_and_then}
use Rattle.batch_cell.specs.LookUps.{resources_of as cell_resources}
use Rattle.batch_recipe.specs.Expanding.{Binding, Sites}
use Rattle.batch_recipe.specs.Links.{asked_at}
use Rattle.batch_recipe.specs.Needs.{resources_needed}
use Rattle.batch_recipe.specs.Nodes.{Node}
use Rattle.batch_recipe.specs.Outlines.{act_of_kind}
use Rattle.batch_recipe.specs.Procedure.{bound_nodes, sites}
use Rattle.batch_recipe.specs.declared.entry.Kind.{Kind}
use Rattle.batch_set.specs.Looked.{needs_by}
use Rattle.batch_set.specs.declared.linked.LinkedNeed.{LinkedNeed}
use Rattle.batch_set.specs.declared.linked.LinkedRecipe.{LinkedRecipe}
use Rattle.batch_set.specs.declared.linked.Source.{Source}
use Rattle.batch_set.specs.declared.linked.Source.TheVariants.{Resource, Role, Unknown}
use Rattle.batch_check.specs.Joining.{AreBelow}
use Rattle.batch_check.specs.Takings.{Taking, bound_by, resource_for, units_by}
use Rattle.batch_check.specs.declared.site.Site.{Site}
use Rattle.batch_check.specs.Edges.{numbers_of_resources}

-- Sites whose roles these candidates take

-- how units take the roles of the site's recipe
abbrev pub bound_on : Site → Taking → Binding
bound_on site taking = bound_by site.cell.now site.recipe.now.roles.items taking

-- the sites by which the units of unit procedures are found
abbrev pub sites_on : Site → Taking → Sites
sites_on site taking = sites (bound_on site taking) site.recipe.now.acts

-- the nodes of the recipe then
abbrev pub nodes_on : Site → Taking → List Node
nodes_on site taking = bound_nodes (bound_on site taking) site.recipe.now.acts

-- the needs of the act at a node then; a node without an act has none
abbrev pub needs_at : Site → Kind → Taking → List (Option ℕ)
needs_at site k taking = numbers_of_resources site.cell.now (resources_needed (asked_at (sites_on site taking) (act_of_kind site.recipe.now.acts k)))

-- Whoever takes the roles

-- how many resources there are
abbrev pub resource_count : Site → ℕ
resource_count site = length (cell_resources site.cell.now)

-- how many there are with the roles of the recipe
abbrev pub count_with_roles : Site → ℕ
count_with_roles site = resource_count site + length site.recipe.now.roles.items

-- the number of the unit that takes each role
abbrev pub units_on : Site → Taking → List (Option ℕ)
units_on site taking = units_by site.cell.now site.recipe.now.roles.items taking

-- the resource for which a number stands then, and those for which needs stand
abbrev pub resource_on : Site → Taking → ℕ → Option ℕ
resource_on site taking = resource_for (resource_count site) (units_on site taking)

abbrev pub resources_on : Site → Taking → List (Option ℕ) → List (Option ℕ)
resources_on site taking needs = map (option_and_then (resource_on site taking)) needs

-- numbers of resources and roles that stand for the resources asked for, whatever candidates take the roles
pub record StandFor (site : Site) (asked : Taking → List (Option ℕ)) (needs : List (Option ℕ)) : Type 0 where
  pub below : AreBelow (count_with_roles site) needs
  pub taken : (taking : Taking) → resources_on site taking needs ≡ asked taking

-- Numbers

-- the number of a source's resource, or of its role, after those of the resources
abbrev pub number_of : Site → Source → Option ℕ
number_of site (Resource number) = Some number
number_of site (Role number) = Some (resource_count site + number)
number_of site Unknown = None

abbrev pub numbers_of : Site → List LinkedNeed → List (Option ℕ)
numbers_of site needs = map (λ need. number_of site need.source) needs

-- those of the act at a node
abbrev pub numbers_at : Site → LinkedRecipe → Kind → List (Option ℕ)
numbers_at site linked k = numbers_of site (needs_by linked k)
