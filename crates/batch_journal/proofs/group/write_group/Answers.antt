use Rattle.std.proofs.Common.{rules, refl}
use Rattle.std.proofs.lemmas.Fmt.{length-decimal-le}
use Rattle.batch_journal.proofs.{RunsOfCalls.may_more, GroupWrites.keeps_so}
use Rattle.batch_journal.proofs.group.write_group.Goals as goal

pub write_digits-start-requires : goal.write_digits-start-requires
write_digits-start-requires g c = search (rules, length-decimal-le 20)

pub returns-in_err-append-clause-time : goal.returns-in_err-append-clause-time
returns-in_err-append-clause-time g c = λ d.
    may_more _ _ _ _ _ _ (c.append.ensures.time d) (λ left may. keeps_so _ _ _ _ _ left refl refl may)
