-- trusted: the needs of acts: so many units of a resource's capacity.
use Rattle.std.specs.Prelude.{List, map, Bool, ◌&&◌, nat_le}
use Rattle.std.specs.List.{list_all}
use Rattle.batch_recipe.specs.Conditions.{Name}
use Rattle.batch_recipe.specs.declared.need.Need.{Need}
use Rattle.batch_recipe.specs.declared.need.TheConstants.{MAX_NEED_UNITS}

-- one unit of a resource's capacity
abbrev pub one_unit : Name → Need
one_unit resource = record { resource = resource; units = 1 }

-- the resources of the needs, in order
abbrev pub resources_needed : List Need → List Name
resources_needed needs = map (λ n. n.resource) needs

-- each need is for at least one unit, and for no more than one need may be
abbrev pub have_units : List Need → Bool
have_units needs = list_all (λ n. nat_le 1 n.units && nat_le n.units MAX_NEED_UNITS) needs
