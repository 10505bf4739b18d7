-- A cell's resources by name and by number.
use Rattle.std.proofs.Common.{◌≡◌, ℕ, ◌<◌, List, [], length, get_or, slice_get, Option, Some, None, All, ◌↔◌, ap, arith}
use Rattle.std.{specs.List.IsDistinct, proofs.lemmas.Option.get_or_from_slice_get}
use Rattle.batch_cell.{proofs.ResourceNames.resources_once, proofs.Resources.few_resources, specs.LookUps.resources_of, specs.declared.cell.Cell.Cell}
use Rattle.batch_recipe.specs.Conditions.{Name, same_name}
use Rattle.batch_check.specs.{declared.edge.Edge.Edge, LeastRanking.HasEndsBelow, ByName.resource_name_in}
use Rattle.batch_verify.specs.Refusals.{rank_in}
use Rattle.batch_set.proofs.ResourceNumbers.{number-own}

-- a cell has few resources
pub resources_few : (c : Cell) → length (resources_of c) < 385
resources_few c = omega (arith, c.few_units, c.few_modules, c.few_shared, few_resources c.units.items c.modules.items c.shared.items)

-- the resources of a cell have different names
pub resources_distinct : (c : Cell) → IsDistinct same_name (resources_of c)
resources_distinct c = resources_once c.units.items c.modules.items c.shared.items c.declared_once

pub rank_in-name : (c : Cell) (ranks : List ℕ) (resource : ℕ) → resource < length (resources_of c) → rank_in c ranks (resource_name_in c resource) ≡ get_or ranks resource 0
rank_in-name c ranks resource below = ap (λ (o : Option ℕ). elim o [ None ↦ 0 | Some number ↦ get_or ranks number 0 ]) (number-own c resource below)

pub ranks_rise_by_name : (c : Cell) (ranks : List ℕ) (edges : List Edge) → HasEndsBelow (length (resources_of c)) edges
    → (All (λ e. get_or ranks e.earlier 0 < get_or ranks e.later 0) edges ↔ All (λ e. rank_in c ranks (resource_name_in c e.earlier) < rank_in c ranks (resource_name_in c e.later)) edges)
ranks_rise_by_name c ranks edges within = (
  λ rising k d in'. rw (rank_in-name c ranks (get_or edges k d).earlier (within k d in').0, rank_in-name c ranks (get_or edges k d).later (within k d in').1) (rising k d in'),
  λ rising k d in'. rw (rank_in-name c ranks (get_or edges k d).earlier (within k d in').0, rank_in-name c ranks (get_or edges k d).later (within k d in').1) at (rising k d in'),
)

-- the name that a look-up gives
pub name_in-found : (c : Cell) (resource : ℕ) (name : Name) → slice_get (resources_of c) resource ≡ Some name → resource_name_in c resource ≡ name
name_in-found c resource name found = get_or_from_slice_get (resources_of c) resource name [] found
