use Rattle.batch_cell.specs.LookUps.{resources_of}
use Rattle.batch_cell.specs.declared.cell.Cell as equipment
use Rattle.std.proofs.Common.{position}
use Rattle.batch_recipe.specs.Conditions.{same_name}
use Rattle.batch_set.{specs.Linking.IsLinkedIn, proofs.TableRows.AreMapped}
use Rattle.batch_verify.specs.Trials.{bound_by}
use Rattle.batch_verify.proofs.trial.takers_in.Given as goal

-- the roles so far
abbrev pub invariant-loop-number : goal.invariant-loop-number
invariant-loop-number l =
    (cell : equipment.Cell) → IsLinkedIn cell l.recipe l.linked
    → AreMapped (λ role. position (same_name (bound_by cell l.recipe.roles.items l.trial role.name)) (resources_of cell)) l.recipe.roles.items l.number l.takers.items
