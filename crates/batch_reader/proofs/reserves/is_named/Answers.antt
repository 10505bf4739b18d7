use Rattle.std.proofs.Common.{rules, ◌∙◌}
use Rattle.std.proofs.lemmas.Iterator.{YieldsList-from_slice, Search.any_from_yields_List}
use Rattle.batch_recipe.specs.Conditions.{same_name}
use Rattle.batch_reader.proofs.KnownKeys.{list_any-map}
use Rattle.batch_reader.proofs.reserves.is_named.Goals as goal

pub returns : goal.returns
returns c =
    any_from_yields_List (λ act. same_name c.args.name.now act.name) _ _ c.any.result c.any.ensures.ran (YieldsList-from_slice c.args.table.now c.iter.ensures.rest) (λ x b q called. search rules)
    ∙ list_any-map (same_name c.args.name.now) (λ act. act.name) c.args.table.now
