use Rattle.std.proofs.Common.{◌≡◌, None, codes, refl, rules}
use Rattle.std.proofs.lemmas.Result.{err_from_is_err_and}
use Rattle.toml.specs.{Data.get_member, View.table_view}
use Rattle.batch_reader.{proofs.EntryFaults.name_told, proofs.EntryFaults.optional_name_told, proofs.EntryFaults.table_told, proofs.UnitChoices.role_refused, proofs.UnitChoices.unit_refused, specs.declared.fault.TableKind.TheVariants.UnitProcedure}
use Rattle.batch_reader.proofs.act_tables.choice_at.Goals as goal

pub returns-in_err-chosen-clause-refused : goal.returns-in_err-chosen-clause-refused
returns-in_err-chosen-clause-refused c =
    let p = err_from_is_err_and c.from_residual.result c.from_residual.ensures.1 in
    rw (p.1, p.2) (λ known. role_refused (table_view c.args.table.now) (c.in_err-chosen.ensures.refused known))

pub returns-in_err-chosen-clause-told : goal.returns-in_err-chosen-clause-told
returns-in_err-chosen-clause-told c =
    let p = err_from_is_err_and c.from_residual.result c.from_residual.ensures.1 in
    rw (p.1, p.2) (table_told UnitProcedure (table_view c.args.table.now) 2 _ refl refl _ _ (optional_name_told _ (table_view c.args.table.now) _ _ c.in_err-chosen.ensures.refused c.in_err-chosen.ensures.told))

pub returns-in_err-unit-clause-refused : goal.returns-in_err-unit-clause-refused
returns-in_err-unit-clause-refused c =
    let p = err_from_is_err_and c.from_residual-in_err-unit.result c.from_residual-in_err-unit.ensures.1 in
    let missing : get_member (codes "role") (table_view c.args.table.now) ≡ None = search rules in
    rw (p.1, p.2) (λ known. unit_refused (table_view c.args.table.now) missing (c.in_err-unit.ensures.refused known))

pub returns-in_err-unit-clause-told : goal.returns-in_err-unit-clause-told
returns-in_err-unit-clause-told c =
    let p = err_from_is_err_and c.from_residual-in_err-unit.result c.from_residual-in_err-unit.ensures.1 in
    let missing : get_member (codes "role") (table_view c.args.table.now) ≡ None = search rules in
    rw (p.1, p.2) (table_told UnitProcedure (table_view c.args.table.now) 1 _ refl (rw missing refl) _ _ (name_told _ (table_view c.args.table.now) _ _ c.in_err-unit.ensures.refused c.in_err-unit.ensures.told))
