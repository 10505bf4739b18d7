use Rattle.std.proofs.Common.{◌≡◌, length, rules}
use Rattle.std.proofs.lemmas.Result.{err_from_is_err_and}
use Rattle.toml.specs.View.{table_view}
use Rattle.batch_reader.proofs.DeskRefusals.{names_refuse, right_count}
use Rattle.batch_reader.proofs.desk_reading.desks_from_table.Goals as goal

pub returns-in_err-desks-clause-refused : goal.returns-in_err-desks-clause-refused
returns-in_err-desks-clause-refused c =
    let p = err_from_is_err_and c.from_residual.result c.from_residual.ensures.1 in
    rw (p.1, p.2) (λ known desks h. c.in_err-desks.ensures.refused known desks.desks.items h.tables)

pub returns-in_err-check_count-clause-refused : goal.returns-in_err-check_count-clause-refused
returns-in_err-check_count-clause-refused c =
    let p = err_from_is_err_and c.from_residual-in_err-check_count.result c.from_residual-in_err-check_count.ensures.1 in
    let count : c.len.result ≡ length c.in_ok-desks.desks.items = search rules in
    rw (p.1, p.2) (λ known all h. c.in_err-check_count.ensures.refused (rw count (right_count (table_view c.args.table.now) c.in_ok-desks.desks.items c.in_ok-desks.ensures.ok all h)))

pub returns-in_err-check_names-clause-refused : goal.returns-in_err-check_names-clause-refused
returns-in_err-check_names-clause-refused c =
    let p = err_from_is_err_and c.from_residual-in_err-check_names.result c.from_residual-in_err-check_names.ensures.1 in
    rw (p.1, p.2) (names_refuse (table_view c.args.table.now) c.in_ok-desks.desks.items c.in_ok-desks.ensures.ok _ (rw c.deref.ensures.value at c.in_err-check_names.ensures.told))
