use Rattle.std.proofs.Common.{rules, ◌∙◌}
use Rattle.std.proofs.lemmas.Iterator.{YieldsList-from_slice, Search.any_from_yields_List}
use Rattle.batch_recipe.specs.Conditions.{same_name}
use Rattle.batch_set.proofs.Positions.{any-map}
use Rattle.batch_engine.proofs.bindings.is_role.Goals as goal

pub returns : goal.returns
returns c =
    any_from_yields_List (λ role. same_name c.args.name.now role.name) _ _ c.any.result c.any.ensures.ran (YieldsList-from_slice c.args.roles.now c.iter.ensures.rest) (λ x b q called. search rules)
    ∙ any-map (same_name c.args.name.now) (λ role. role.name) c.args.roles.now
