use Rattle.std.proofs.Common.{◌<◌, List, ℕ, length, map, rules, string_bytes, subst}
use Rattle.std.proofs.lemmas.Result.{err_from_is_err_and}
use Rattle.batch_verdicts.{specs.Halting.HaltsAtRecipe, proofs.HaltCauses.halts_at, proofs.HaltCauses.halts_without_memory, proofs.RecipeTexts.holds_none, proofs.RecipeTexts.none_taken, proofs.RecipeTexts.reads_recipes, proofs.RecipeTexts.takes_next}
use Rattle.batch_verdicts.proofs.documents.read_recipes.Goals as goal

pub loop-path-init : goal.loop-path-init
loop-path-init g c = none_taken g.T.TextTaker.has_taken _ _ _ (holds_none _ c.new-read.ensures.none c.new-read.ensures.silent)

pub loop-path-preserved : goal.loop-path-preserved
loop-path-preserved g c =
    let within : c.loop-path.path-index < length c.args.paths.now = search rules in
    let own = c.in_ok-own.own in
    takes_next g.T.TextTaker.has_taken (g.D.Documents.gives c.args.documents.now) string_bytes c.args.paths.now c.loop-path.path-index c.path-item.result
    c.as_str-path.result.now own.text.items c.loop-path.read c.add.new.self own.recipe _ _ _ within c.path-item.is c.as_str-path.ensures.value
    c.loop-path.invariant c.in_ok-own.ensures.read c.in_ok-own.ensures.taken c.in_ok-add.ensures

pub returns-in_err-own-clause-halted : goal.returns-in_err-own-clause-halted
returns-in_err-own-clause-halted g c =
    let p = err_from_is_err_and c.from_residual.result c.from_residual.ensures.1 in
    let within : c.loop-path.path-index < length c.args.paths.now = search rules in
    let so_far = c.loop-path.invariant in
    let Halted : List ℕ → Type 0 = λ text. HaltsAtRecipe (g.D.Documents.gives c.args.documents.now) text c.in_err-own.field-0.0 in
    rw (p.1, p.2) (halts_at (g.D.Documents.gives c.args.documents.now) string_bytes c.args.paths.now c.loop-path.path-index c.path-item.result
    so_far.whole c.in_err-own.field-0.0 within c.path-item.is (reads_recipes (g.D.Documents.gives c.args.documents.now) _ so_far.texts so_far.whole so_far.read)
    (subst Halted c.as_str-path.ensures.value c.in_err-own.ensures.halted))

pub returns-in_err-add-clause-halted : goal.returns-in_err-add-clause-halted
returns-in_err-add-clause-halted g c =
    let p = err_from_is_err_and c.from_residual-in_err-add.result c.from_residual-in_err-add.ensures.1 in
    rw (p.1, p.2) (halts_without_memory (g.D.Documents.gives c.args.documents.now) (map string_bytes c.args.paths.now))
