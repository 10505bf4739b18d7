use Rattle.std.proofs.Common.{nat_eq, ap, ◌∙◌}
use Rattle.std.{proofs.lemmas.Result.err_from_is_err_and, specs.Cmp.Lexicographic.pointwise}
use Rattle.batch_reader.proofs.NamesSoFar.{name_refused}
use Rattle.batch_reader.proofs.names.add_names.Goals as goal

pub returns-in_err-add_name-clause-refused : goal.returns-in_err-add_name-clause-refused
returns-in_err-add_name-clause-refused g c =
    let p = err_from_is_err_and c.from_residual.result c.from_residual.ensures.1 in
    rw (p.1, p.2) (λ known. name_refused (pointwise nat_eq) g.T.Named.name_of c.args.names.now.keys c.loop-entry.names.keys c.name.result.now c.args.items.now c.loop-entry.entry c.index-items-entry.result
    c.loop-entry-test.true c.loop-entry.invariant.0 (c.name.ensures ∙ ap g.T.Named.name_of c.index-items-entry.is) (c.in_err-add_name.ensures.refused known))
