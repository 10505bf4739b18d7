use Rattle.std.proofs.Common.{◌≡◌, true, nat_eq, [], ap, ◌∙◌, sym, if◌then◌else◌, rules}
use Rattle.std.{proofs.lemmas.Result.err_from_is_err_and, specs.Cmp.Lexicographic.pointwise}
use Rattle.batch_cell.specs.Equipment.{belongs_to, phases_for}
use Rattle.batch_reader.proofs.NamesSoFar.{names_refused}
use Rattle.batch_reader.proofs.offered.check_unit_phases.Goals as goal

pub returns-in_err-add_list-clause-refused : goal.returns-in_err-add_list-clause-refused
returns-in_err-add_list-clause-refused c =
    let p = err_from_is_err_and c.from_residual.result c.from_residual.ensures.1 in
    let m = c.index-modules-entry.result in
    let belongs : belongs_to c.args.unit.now m ≡ true = search rules in
    let list : c.deref.result.now ≡ phases_for c.args.unit.now m =
    c.deref.ensures.value ∙ ap (λ b. if b then m.phases.items else []) (sym belongs) in
    rw (p.1, p.2) (λ known. names_refused (pointwise nat_eq) (phases_for c.args.unit.now) [] c.loop-entry.phases.keys c.deref.result.now c.args.modules.now c.loop-entry.entry m
    c.loop-entry-test.true c.loop-entry.invariant.0 (list ∙ ap (phases_for c.args.unit.now) c.index-modules-entry.is) (c.in_err-add_list.ensures.refused known))
