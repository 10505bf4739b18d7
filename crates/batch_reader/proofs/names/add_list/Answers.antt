use Rattle.std.proofs.Common.{nat_eq}
use Rattle.std.{proofs.lemmas.Result.err_from_is_err_and, specs.Cmp.Lexicographic.pointwise}
use Rattle.batch_reader.proofs.NamesSoFar.{item_refused}
use Rattle.batch_reader.proofs.names.add_list.Goals as goal

pub returns-in_err-add_name-clause-refused : goal.returns-in_err-add_name-clause-refused
returns-in_err-add_name-clause-refused c =
    let p = err_from_is_err_and c.from_residual.result c.from_residual.ensures.1 in
    rw (p.1, p.2) (λ known. item_refused (pointwise nat_eq) c.args.names.now.keys c.loop-name.names.keys c.name-item.result c.args.list.now c.loop-name.name-index c.name-item.result
    c.loop-name-test.true c.loop-name.invariant.0 c.name-item.is (c.in_err-add_name.ensures.refused known))
