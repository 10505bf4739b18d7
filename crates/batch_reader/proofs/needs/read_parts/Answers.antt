use Rattle.std.proofs.lemmas.Result.{err_from_is_err_and}
use Rattle.batch_reader.proofs.NeedCuts.{name_alone, name_before, units_after, says_name, says_units}
use Rattle.batch_reader.proofs.needs.read_parts.Goals as goal

pub returns-in_err-resource-in-None-clause-refused :
    goal.returns-in_err-resource-in-None-clause-refused
returns-in_err-resource-in-None-clause-refused c =
    let p = err_from_is_err_and c.from_residual.result c.from_residual.ensures.1 in
    rw (p.1, p.2) (λ known need h. c.in_err-resource-in-None.ensures.refused known (name_alone c.args.text.now c.first_star.result c.first_star.ensures need c.in-None.is h))

pub returns-in_err-resource-in-Some-clause-refused :
    goal.returns-in_err-resource-in-Some-clause-refused
returns-in_err-resource-in-Some-clause-refused c =
    let p = err_from_is_err_and c.from_residual-in_err-resource-in-Some.result c.from_residual-in_err-resource-in-Some.ensures.1 in
    rw (p.1, p.2) (λ known need h. c.in_err-resource-in-Some.ensures.refused known (name_before c.args.text.now c.first_star.result c.first_star.ensures c.in-Some.star need c.in-Some.is h))

pub returns-in_err-units-in-Some-clause-refused : goal.returns-in_err-units-in-Some-clause-refused
returns-in_err-units-in-Some-clause-refused c =
    let p = err_from_is_err_and c.from_residual-in_err-units-in-Some.result c.from_residual-in_err-units-in-Some.ensures.1 in
    rw (p.1, p.2) (λ known need h. c.in_err-units-in-Some.ensures.refused need.units (units_after c.args.text.now c.first_star.result c.first_star.ensures c.in-Some.star need c.in-Some.is h))

pub returns-in_ok-resource-in-None-clause-ok : goal.returns-in_ok-resource-in-None-clause-ok
returns-in_ok-resource-in-None-clause-ok c =
    says_name c.args.text.now c.first_star.result c.first_star.ensures c.in_ok-resource-in-None.resource c.in-None.is c.in_ok-resource-in-None.ensures.ok

pub returns-in_ok-units-in-Some-clause-ok : goal.returns-in_ok-units-in-Some-clause-ok
returns-in_ok-units-in-Some-clause-ok c =
    says_units c.args.text.now c.first_star.result c.first_star.ensures c.in-Some.star c.in_ok-resource-in-Some.resource c.in_ok-units-in-Some.units c.in-Some.is c.in_ok-resource-in-Some.ensures.ok c.in_ok-units-in-Some.ensures.ok
