use Rattle.batch_serve.proofs.ServerAccounts.{lives_begin, lives_go_on, lives_hand_on, lives_take}
use Rattle.batch_serve.proofs.desks_laws.lives_go_on.Goals as goal

pub returns-clause-begin : goal.returns-clause-begin
returns-clause-begin g c = lives_begin g.K.Keep.is_safe

pub returns-clause-go_on : goal.returns-clause-go_on
returns-clause-go_on g c = lives_go_on g.K.Keep.is_safe

pub returns-clause-take : goal.returns-clause-take
returns-clause-take g c = lives_take g.K.Keep.is_safe

pub returns-clause-hand_on : goal.returns-clause-hand_on
returns-clause-hand_on g c = lives_hand_on g.K.Keep.is_safe
