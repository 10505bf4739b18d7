use Rattle.std.proofs.Common.{Bool, is_some, refl, subst, sym, ap}
use Rattle.batch_program.specs.JournalRuns.{IsShownAs}
use Rattle.batch_program.proofs.keeping.serve_shown.Goals as goal

pub returns-in-Some-clause-shown : goal.returns-in-Some-clause-shown
returns-in-Some-clause-shown g c =
    let before = g.W.Write.contents c.args.output in
    let after = g.W.Write.contents c.serve_started_remarked.result.2 in
    let (plain, remarked, answers, lost) = c.serve_started_remarked.ensures.remarked in
    (plain, subst (λ (commented : Bool). IsShownAs commented before after plain) (sym (ap is_some c.in-Some.is)) remarked, answers, lost)

pub returns-in-None-clause-shown : goal.returns-in-None-clause-shown
returns-in-None-clause-shown g c =
    let served = c.serve_started in
    let before = g.W.Write.contents c.args.output in
    let after = g.W.Write.contents served.result.2 in
    (after, subst (λ (commented : Bool). IsShownAs commented before after after) (sym (ap is_some c.in-None.is)) refl, served.ensures.served, served.ensures.never_lost)
