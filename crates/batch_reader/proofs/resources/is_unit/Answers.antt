use Rattle.std.proofs.Common.{rules, ◌∙◌, nat_eq}
use Rattle.std.{proofs.lemmas.Iterator.YieldsList-from_slice, proofs.lemmas.Iterator.Search.any_from_yields_List, specs.Cmp.Lexicographic.pointwise}
use Rattle.batch_reader.proofs.KnownKeys.{list_any-map}
use Rattle.batch_reader.proofs.resources.is_unit.Goals as goal

pub returns : goal.returns
returns c =
    any_from_yields_List (λ unit. pointwise nat_eq c.args.name.now unit.name) _ _ c.any.result c.any.ensures.ran (YieldsList-from_slice c.args.units.now c.iter.ensures.rest) (λ x b q called. search rules)
    ∙ list_any-map (pointwise nat_eq c.args.name.now) (λ unit. unit.name) c.args.units.now
