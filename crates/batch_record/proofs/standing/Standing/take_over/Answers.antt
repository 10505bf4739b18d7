use Rattle.std.proofs.Common.{rules, ◌++◌, ◌∷◌, [], ap, ◌∙◌, filter}
use Rattle.std.proofs.lemmas.Fn.{filter_same}
use Rattle.batch_record.specs.Kept.{is_other}
use Rattle.batch_record.proofs.standing.Standing.take_over.Goals as goal

pub returns-clause-ok : goal.returns-clause-ok
returns-clause-ok c =
    c.push_reserved.ensures.items
    ∙ ap (λ shares. shares ++ c.args.kept ∷ []) (filter_same _ (is_other c.args.kept.resource (c.args.kept.batch, c.args.place.now)) _ (λ x b q called. (search rules, search rules)) _ _ c.retain.ensures.filtered)
    ∙ ap (λ shares. filter (is_other c.args.kept.resource (c.args.kept.batch, c.args.place.now)) shares ++ c.args.kept ∷ []) c.reserve.ensures.items
