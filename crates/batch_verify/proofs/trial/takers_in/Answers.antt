use Rattle.std.proofs.Common.{◌≡◌, ◌<◌, ◌≤◌, ◌++◌, ◌∷◌, [], ◌∙◌, ℕ, List, Option, Some, ap, sym, refl, subst, length, get_or, position, slice_get}
use Rattle.std.proofs.lemmas.Option.{slice_get_read}
use Rattle.batch_cell.specs.LookUps.{resources_of}
use Rattle.batch_cell.specs.declared.cell.Cell as equipment
use Rattle.batch_recipe.specs.{Conditions.same_name, declared.role.Role.Role}
use Rattle.batch_set.{specs.Looked.row_at, proofs.CandidateNumbers.candidates-said, proofs.TableRows.AreAdded-all, proofs.TableRows.AreAdded-more}
use Rattle.batch_verify.{specs.Trials.bound_by, specs.Trials.taker_by, specs.declared.trial.Trial.Trial, proofs.Choices.has_at, proofs.NumberedBindings.differ, proofs.NumberedBindings.own_role, proofs.TakerNumbers.taker-is}
use Rattle.batch_verify.proofs.trial.takers_in.Goals as goal

abbrev taker : equipment.Cell → List Role → Trial → Role → Option ℕ
taker cell roles trial role = position (same_name (bound_by cell roles trial role.name)) (resources_of cell)

pub loop-number-preserved : goal.loop-number-preserved
loop-number-preserved c = λ cell is-linked.
    let r = c.args.recipe.now in
    let roles = r.roles.items in
    let n = c.loop-number.number in
    let role = c.role-item.result in
    let same = c.deref-role-items.ensures.value in
    let within : n < length roles = subst (λ (all : List Role). n < length all) same c.loop-number-test.true in
    let is : role ≡ get_or roles n role = c.role-item.is ∙ ap (λ (all : List Role). get_or all n role) same in
    let at : slice_get roles n ≡ Some role = slice_get_read roles (length roles) n role refl within is in
    let numbers = row_at c.args.linked.now.candidates.items n in
    AreAdded-more [] (taker cell roles c.args.trial) roles n c.loop-number.takers.items c.push.new.self.items (c.loop-number.invariant cell is-linked) role within is
    (c.in_ok-push.ensures.items ∙ ap (λ (own : Option ℕ). c.loop-number.takers.items ++ own ∷ [])
    (c.taker_by.ensures ∙ (ap (taker_by c.args.trial role.name) c.candidates_of-candidates.ensures
    ∙ sym (taker-is cell roles c.args.trial role (own_role roles (differ cell [] r r.own_roles) role (has_at roles n role at)) numbers
    (candidates-said cell is-linked.0 r c.args.linked.now is-linked.1 n role at)))))

pub returns : goal.returns
returns c = λ cell is-linked.
    let roles = c.args.recipe.now.roles.items in
    AreAdded-all [] (taker cell roles c.args.trial) roles c.loop-number.number c.loop-number.takers.items (c.loop-number.invariant cell is-linked)
    (subst (λ (all : List Role). length all ≤ c.loop-number.number) c.deref-role-items.ensures.value c.loop-number-test.false)
