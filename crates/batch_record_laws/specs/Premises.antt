-- trusted: the properties of a cell and recipes that their types keep, beside the rules of clearance.
use Rattle.std.specs.Prelude.{◌≡◌, IsTrue}
use Rattle.batch_recipe.specs.Conditions.{Name}
use Rattle.batch_recipe.specs.WellFormed.{is_among}
use Rattle.batch_recipe.specs.Expanding.{Binding}
use Rattle.batch_model.specs.Lists.{Each}
use Rattle.batch_model.specs.Plant.{Setup}
use Rattle.batch_record_laws.specs.Procedures.{IsProcedure}

pub record IsOfDocuments (setup : Setup) : Type 0 where
  -- a unit has one user at a time
  pub exclusive : (unit : Name) → IsTrue (is_among setup.units unit) → setup.capacity unit ≡ 1
  -- recipes are procedures, whatever units take the roles
  pub procedures : Each (λ master. (bound : Binding) → IsProcedure (master.control bound).procedure) setup.recipes
