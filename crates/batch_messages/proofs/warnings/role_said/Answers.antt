use Rattle.std.proofs.Common.{◌≡◌, IfOk, string_bytes, subst, sym}
use Rattle.batch_messages.{proofs.WordsByNumber.said_found, specs.WarningWords.role_said}
use Rattle.batch_messages.proofs.warnings.role_said.Goals as goal

pub returns-in-Some : goal.returns-in-Some
returns-in-Some c =
    let found = c.in-Some.ensures.lookup in
    let told = said_found role_said c.deref.result.now c.args.role c.in-Some.role.now found.3.0 found.1 in
    subst (λ words. IfOk c.format.result (λ said. string_bytes said ≡ words)) (sym (rw c.deref.ensures.value at told)) c.format.ensures.ok
