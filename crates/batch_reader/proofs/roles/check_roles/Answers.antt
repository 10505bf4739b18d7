use Rattle.std.proofs.Common.{◌≡◌, true, List, sym, subst, inl}
use Rattle.std.{proofs.lemmas.Result.err_from_is_err_and, proofs.lemmas.Result.on_ok_weaker, proofs.lemmas.Result.IfErr-weaker, specs.List.list_all}
use Rattle.batch_recipe.specs.{Conditions.Name, WellFormed.are_distinct, WellFormed.is_role_among}
use Rattle.batch_reader.{proofs.FaultsAmongTables.kind_told, proofs.Conjunctions.both_true, proofs.Conjunctions.and_true, specs.PartFaults.AreDistinct, specs.PartFaults.FailsFirst, specs.PartFaults.IsRoleFault, specs.PartFaults.role_names, specs.declared.fault.TableKind.TheVariants.Role}
use Rattle.batch_reader.proofs.roles.check_roles.Goals as goal

pub returns-in_err-names-clause-stands : goal.returns-in_err-names-clause-stands
returns-in_err-names-clause-stands c =
    let p = err_from_is_err_and c.from_residual.result c.from_residual.ensures.1 in
    rw (p.1, p.2) (kind_told Role _ (λ entry. FailsFirst (λ front. AreDistinct (role_names front)) c.args.roles.now entry)
    (λ spot. IsRoleFault c.args.roles.now c.args.acts.now spot.kind spot.entry) (λ entry wrong is h. inl (is, h)) _ c.in_err-names.ensures.told c.in_err-names.ensures.stands)

pub returns-clause-ok : goal.returns-clause-ok
returns-clause-ok c =
    let names : List Name = role_names c.args.roles.now in
    on_ok_weaker c.check_declared.result (λ (declared : list_all (is_role_among c.in_ok-names.names.keys) c.args.acts.now.unit_procedures.items ≡ true).
    and_true (are_distinct names) (list_all (is_role_among names) c.args.acts.now.unit_procedures.items) c.in_ok-names.ensures.differ
    (subst (λ keys. list_all (is_role_among keys) c.args.acts.now.unit_procedures.items ≡ true) c.in_ok-names.ensures.ok declared))
    (rw c.deref.ensures.value at c.check_declared.ensures.ok)

pub returns-clause-refused : goal.returns-clause-refused
returns-clause-refused c =
    let names : List Name = role_names c.args.roles.now in
    IfErr-weaker c.check_declared.result _ _ (λ fault undeclared _ are.
    undeclared (subst (λ keys. list_all (is_role_among keys) c.args.acts.now.unit_procedures.items ≡ true) (sym c.in_ok-names.ensures.ok)
    (both_true (are_distinct names) (list_all (is_role_among names) c.args.acts.now.unit_procedures.items) are).1))
    (rw c.deref.ensures.value at c.check_declared.ensures.refused)
