use Rattle.batch_serve.proofs.{RunTexts.texts_go_on, ServedRuns.goes_on}
use Rattle.batch_serve.proofs.desks_laws.service_goes_on.Goals as goal

pub returns-clause-served : goal.returns-clause-served
returns-clause-served c = goes_on

pub returns-clause-texts : goal.returns-clause-texts
returns-clause-texts c = texts_go_on
