use Rattle.std.proofs.Common.{[], ◌∷◌, refl}
use Rattle.batch_serve.proofs.desks_laws.waiting_rows.Goals as goal

pub returns-clause-front : goal.returns-clause-front
returns-clause-front c = record { rest = 2 ∷ 3 ∷ []; begins = refl; waits = λ uncut. refl }

pub returns-clause-no_other : goal.returns-clause-no_other
returns-clause-no_other c = (λ h. cc h.begins, λ h. cc h.begins)

pub returns-clause-rest : goal.returns-clause-rest
returns-clause-rest c = λ h. let rest = h.waits refl in cc (h.begins, rest)

pub returns-clause-cut : goal.returns-clause-cut
returns-clause-cut c = record { rest = 2 ∷ 3 ∷ []; begins = refl; waits = λ uncut. absurd (cc uncut) }
