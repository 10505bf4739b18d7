use Rattle.std.proofs.Common.{◌&&◌, inl, inr}
use Rattle.std.{proofs.lemmas.Result.err_from_is_err_and, specs.List.list_all}
use Rattle.batch_recipe.specs.WellFormed.{reports_among, reports_few, reports_once}
use Rattle.batch_reader.proofs.{Conjunctions.and_true, Conjunctions.both_true, ArrayFaults.tells_weaker}
use Rattle.batch_reader.proofs.recipe_checks.check_recipe.Goals as goal

pub returns-in_err-names-clause-stands : goal.returns-in_err-names-clause-stands
returns-in_err-names-clause-stands c =
    let p = err_from_is_err_and c.from_residual-in_err-names.result c.from_residual-in_err-names.ensures.1 in
    rw (p.1, p.2) (tells_weaker _ _ (λ spot wrong h. inr (inl h)) _ c.in_err-names.ensures.stands)

pub returns-clause-ok : goal.returns-clause-ok
returns-clause-ok c =
    let counts = c.in_ok-check_counts.ensures in
    let steps = c.args.acts.now.phases.items in
    record {
      few_inputs = counts.values.0;
      few_parameters = counts.values.1;
      few_outputs = counts.values.2;
      few_roles = counts.roles;
      some_unit_procedures = counts.some_acts.0;
      few_unit_procedures = counts.few_acts.0;
      some_operations = counts.some_acts.1;
      few_operations = counts.few_acts.1;
      some_phases = counts.some_acts.2;
      few_phases = counts.few_acts.2;
      well_formed = c.in_ok-names.ensures.ok;
      own_roles = c.in_ok-check_roles.ensures.ok;
      own_reports = and_true (list_all reports_few steps) (list_all reports_once steps && list_all (reports_among c.args.outputs.now) steps) c.requires.few_reports c.in_ok-check_reports.ensures.ok;
      own_reserves = c.in_ok-check_reserves.ensures.ok;
    }

pub returns-in_err-check_reserves-clause-refused : goal.returns-in_err-check_reserves-clause-refused
returns-in_err-check_reserves-clause-refused c =
    let p = err_from_is_err_and c.from_residual-in_err-check_reserves.result c.from_residual-in_err-check_reserves.ensures.1 in
    rw (p.1, p.2) (λ known sound. c.in_err-check_reserves.ensures.refused sound.own_reserves)

pub returns-in_err-check_reports-clause-refused : goal.returns-in_err-check_reports-clause-refused
returns-in_err-check_reports-clause-refused c =
    let p = err_from_is_err_and c.from_residual-in_err-check_reports.result c.from_residual-in_err-check_reports.ensures.1 in
    let steps = c.args.acts.now.phases.items in
    rw (p.1, p.2) (λ known sound.
    c.in_err-check_reports.ensures.refused (both_true (list_all reports_few steps) (list_all reports_once steps && list_all (reports_among c.args.outputs.now) steps) sound.own_reports).1)

pub returns-in_err-check_reports-clause-stands : goal.returns-in_err-check_reports-clause-stands
returns-in_err-check_reports-clause-stands c =
    let p = err_from_is_err_and c.from_residual-in_err-check_reports.result c.from_residual-in_err-check_reports.ensures.1 in
    rw (p.1, p.2) (tells_weaker _ _ (λ spot wrong h. inr (inr (inr (inl h)))) _ c.in_err-check_reports.ensures.stands)

pub returns-in_err-check_roles-clause-refused : goal.returns-in_err-check_roles-clause-refused
returns-in_err-check_roles-clause-refused c =
    let p = err_from_is_err_and c.from_residual-in_err-check_roles.result c.from_residual-in_err-check_roles.ensures.1 in
    rw (p.1, p.2) (λ known sound. c.in_err-check_roles.ensures.refused known sound.own_roles)

pub returns-in_err-check_roles-clause-stands : goal.returns-in_err-check_roles-clause-stands
returns-in_err-check_roles-clause-stands c =
    let p = err_from_is_err_and c.from_residual-in_err-check_roles.result c.from_residual-in_err-check_roles.ensures.1 in
    rw (p.1, p.2) (tells_weaker _ _ (λ spot wrong h. inr (inr (inl h))) _ c.in_err-check_roles.ensures.stands)

pub returns-in_err-check_reserves-clause-stands : goal.returns-in_err-check_reserves-clause-stands
returns-in_err-check_reserves-clause-stands c =
    let p = err_from_is_err_and c.from_residual-in_err-check_reserves.result c.from_residual-in_err-check_reserves.ensures.1 in
    rw (p.1, p.2) (tells_weaker _ _ (λ spot wrong h. inr (inr (inr (inr h)))) _ c.in_err-check_reserves.ensures.stands)
