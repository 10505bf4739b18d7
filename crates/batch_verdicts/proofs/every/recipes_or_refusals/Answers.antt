use Rattle.std.proofs.Common.{◌<◌, List, ℕ, length, rules, string_bytes, subst}
use Rattle.std.proofs.lemmas.Result.{err_from_is_err_and}
use Rattle.batch_verdicts.{specs.Reading.IsUnread, proofs.DocumentRefusals.looks_at_none, proofs.DocumentRefusals.looks_next, proofs.DocumentRefusals.unread_at, proofs.RecipeTexts.holds_none}
use Rattle.batch_verdicts.proofs.every.recipes_or_refusals.Goals as goal

pub loop-path-preserved : goal.loop-path-preserved
loop-path-preserved g c =
    let within : c.loop-path.path-index < length c.args.paths.now = search rules in
    looks_next (g.D.Documents.gives c.args.documents.now) string_bytes c.args.paths.now c.loop-path.path-index c.path-item.result c.as_str.result.now
    c.args.refusals.items c.loop-path.looked.recipes c.loop-path.looked.refusals.items
    c.add_recipe.new.looked.recipes c.add_recipe.new.looked.refusals.items within c.path-item.is c.as_str.ensures.value c.loop-path.invariant
    c.in_ok-add_recipe.ensures.looked

pub loop-path-init : goal.loop-path-init
loop-path-init g c =
    looks_at_none (g.D.Documents.gives c.args.documents.now) c.args.refusals.items c.new.result (holds_none c.new.result c.new.ensures.none c.new.ensures.silent)

pub returns-in_err-add_recipe-clause-halted : goal.returns-in_err-add_recipe-clause-halted
returns-in_err-add_recipe-clause-halted g c =
    let p = err_from_is_err_and c.from_residual.result c.from_residual.ensures.1 in
    let within : c.loop-path.path-index < length c.args.paths.now = search rules in
    let Unread : List ℕ → Type 0 = λ text. IsUnread (g.D.Documents.gives c.args.documents.now) text c.in_err-add_recipe.field-0.0 in
    rw (p.1, p.2) (unread_at (g.D.Documents.gives c.args.documents.now) string_bytes c.args.paths.now c.loop-path.path-index c.path-item.result
    c.in_err-add_recipe.field-0.0 within c.path-item.is (subst Unread c.as_str.ensures.value c.in_err-add_recipe.ensures.halted))
