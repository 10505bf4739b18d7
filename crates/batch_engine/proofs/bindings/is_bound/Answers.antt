use Rattle.std.proofs.Common.{rules, ◌∙◌}
use Rattle.std.proofs.lemmas.Iterator.{YieldsList-from_slice, Search.any_from_yields_List}
use Rattle.batch_recipe.specs.Conditions.{same_name}
use Rattle.batch_set.proofs.Positions.{any-map}
use Rattle.batch_engine.proofs.bindings.is_bound.Goals as goal

pub returns : goal.returns
returns c =
    any_from_yields_List (λ pair. same_name c.args.role.now pair.0) _ _ c.any.result c.any.ensures.ran (YieldsList-from_slice c.args.pairs.now c.iter.ensures.rest) (λ x b q called. search rules)
    ∙ any-map (same_name c.args.role.now) (λ pair. pair.0) c.args.pairs.now
