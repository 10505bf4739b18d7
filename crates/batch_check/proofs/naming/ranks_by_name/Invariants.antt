use Rattle.std.proofs.Common.{◌≡◌, take, zip}
use Rattle.batch_cell.specs.LookUps.{resources_of}
use Rattle.batch_check.proofs.naming.ranks_by_name.Given as goal

abbrev pub invariant-loop-resource : goal.invariant-loop-resource
invariant-loop-resource l = l.entries.items ≡ take l.resource (zip (resources_of l.cell) l.ranks)
