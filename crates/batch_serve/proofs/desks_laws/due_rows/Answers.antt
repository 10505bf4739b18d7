use Rattle.std.proofs.Common.{refl}
use Rattle.batch_serve.proofs.desks_laws.due_rows.Goals as goal

pub returns-clause-reply : goal.returns-clause-reply
returns-clause-reply c = (refl, refl, refl, refl)

pub returns-clause-console : goal.returns-clause-console
returns-clause-console c = (refl, refl, refl, refl)

pub returns-clause-link : goal.returns-clause-link
returns-clause-link c = (refl, refl)

pub returns-clause-no_other : goal.returns-clause-no_other
returns-clause-no_other c = (refl, refl, refl, refl, refl)

pub returns-clause-comment : goal.returns-clause-comment
returns-clause-comment c = refl

pub returns-clause-whole : goal.returns-clause-whole
returns-clause-whole c = (refl, refl, refl, refl)
