use Rattle.std.proofs.Common.{◌++◌, ◌∷◌, [], sym, ap, ◌∙◌}
use Rattle.indexmap.proofs.CallerLemmas.{insert_entry-new}
use Rattle.batch_recipe.specs.Conditions.{Name, same_name}
use Rattle.batch_verify.proofs.ranking.add_entry.Goals as goal

pub returns-clause-added : goal.returns-clause-added
returns-clause-added c none =
    let entry = c.args.entry.now in
    c.in_ok-insert.ensures.entries ∙ insert_entry-new same_name c.args.index.now c.in-Ok.name entry.1 (sym c.in_ok-insert.ensures.old ∙ none)
    ∙ ap (λ (name : Name). c.args.index.now.entries ++ (name, entry.1) ∷ []) c.in-Ok.ensures.ok
