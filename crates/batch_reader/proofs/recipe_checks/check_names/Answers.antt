use Rattle.std.proofs.Common.{◌≡◌, true, List, ◌∙◌, sym, subst}
use Rattle.std.proofs.lemmas.Result.{err_from_is_err_and}
use Rattle.batch_recipe.specs.{Conditions.Name, WellFormed.value_names}
use Rattle.batch_reader.{specs.Naming.names_differ, specs.Naming.acts_are_declared, proofs.Conjunctions.both_true, proofs.Conjunctions.and_true, proofs.WellFormedParts.well_formed_parts, proofs.FaultsAmongTables.undeclared_told}
use Rattle.batch_reader.proofs.recipe_checks.check_names.Goals as goal

pub returns-clause-ok : goal.returns-clause-ok
returns-clause-ok c =
    let values = value_names c.args.inputs.now c.args.parameters.now c.args.outputs.now in
    let P : List Name → Type 0 = λ names. acts_are_declared names c.args.acts.now ≡ true in
    well_formed_parts values c.args.acts.now c.requires.no_par
    ∙ and_true (names_differ values c.args.acts.now) (acts_are_declared values c.args.acts.now) c.in_ok-names.ensures.differ (subst P c.in_ok-names.ensures.values c.in_ok-check_acts.ensures.ok)

pub returns-in_err-check_acts-clause-refused : goal.returns-in_err-check_acts-clause-refused
returns-in_err-check_acts-clause-refused c =
    let p = err_from_is_err_and c.from_residual-in_err-check_acts.result c.from_residual-in_err-check_acts.ensures.1 in
    let values = value_names c.args.inputs.now c.args.parameters.now c.args.outputs.now in
    let P : List Name → Type 0 = λ names. acts_are_declared names c.args.acts.now ≡ true in
    rw (p.1, p.2) (λ _ well. c.in_err-check_acts.ensures.refused (subst P (sym c.in_ok-names.ensures.values)
    (both_true (names_differ values c.args.acts.now) _ (sym (well_formed_parts values c.args.acts.now c.requires.no_par) ∙ well)).1))

pub returns-in_err-check_acts-clause-told : goal.returns-in_err-check_acts-clause-told
returns-in_err-check_acts-clause-told c =
    let p = err_from_is_err_and c.from_residual-in_err-check_acts.result c.from_residual-in_err-check_acts.ensures.1 in
    rw (p.1, p.2) c.in_err-check_acts.ensures.told.1.0

pub returns-in_err-check_acts-clause-stands : goal.returns-in_err-check_acts-clause-stands
returns-in_err-check_acts-clause-stands c =
    let p = err_from_is_err_and c.from_residual-in_err-check_acts.result c.from_residual-in_err-check_acts.ensures.1 in
    rw (p.1, p.2) (undeclared_told c.args.inputs.now c.args.parameters.now c.args.outputs.now c.args.acts.now _ _ c.in_ok-names.ensures.values c.in_err-check_acts.ensures.told.1.1 c.in_err-check_acts.ensures.stands)
