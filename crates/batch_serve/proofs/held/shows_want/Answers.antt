use Rattle.batch_serve.proofs.held.shows_want.Goals as goal

pub returns-then-occurs-clause-some : goal.returns-then-occurs-clause-some
returns-then-occurs-clause-some c = λ some shown. shown.no_event (c.occurs.ensures.some c.if-occurs.true)

pub returns-else-occurs-clause-none : goal.returns-else-occurs-clause-none
returns-else-occurs-clause-none c = λ none. record { no_event = c.occurs.ensures.none c.if-occurs.false; no_line = c.occurs-else-occurs.ensures.none none }

pub returns-else-occurs-clause-some : goal.returns-else-occurs-clause-some
returns-else-occurs-clause-some c = λ some shown. shown.no_line (c.occurs-else-occurs.ensures.some some)
