use Rattle.std.proofs.Common.{refl, sym, subst}
use Rattle.batch_serve.specs.Turns.{IsTurned}
use Rattle.batch_pipes.proofs.{DeskChanges.desks_same, DeskChanges.desks_told, ServiceRounds.service_turned}
use Rattle.batch_pipes.proofs.rounds.serve_group.Goals as goal

pub returns-then-is_empty-clause-service : goal.returns-then-is_empty-clause-service
returns-then-is_empty-clause-service g c = λ rings begun again s. s

pub returns-clause-service : goal.returns-clause-service
returns-clause-service g c = λ rings begun again s.
    let (comment, is_time, written) = c.in_ok-write_time.ensures in
    let turned = subst (λ a. IsTurned c.args.server.now c.turn.new.self (g.K.Keep.is_safe c.turn.new.keep) (g.K.Keep.kept c.args.keep.now) (g.K.Keep.kept c.turn.new.keep) a
    (g.W.Write.contents c.write_time.new.output) (g.W.Write.contents c.turn.new.output)) (sym again) c.in_ok-turn.ensures.turned in
    service_turned g.K.Keep.is_safe c.args.keep.now c.turn.new.keep c.args.timing.now.times begun (g.K.Keep.kept c.args.keep.now) (g.K.Keep.kept c.turn.new.keep)
    (g.W.Write.contents c.args.output.now) (g.W.Write.contents c.write_time.new.output) (g.W.Write.contents c.turn.new.output) comment c.args.server.now c.turn.new.self rings
    c.turn.ensures.stays turned is_time written s

pub returns-clause-group : goal.returns-clause-group
returns-clause-group g c = c.in_ok-turn.ensures.turned.group

pub returns-then-is_empty-clause-desks : goal.returns-then-is_empty-clause-desks
returns-then-is_empty-clause-desks g c = desks_same _ _ refl

pub returns-clause-desks : goal.returns-clause-desks
returns-clause-desks g c = desks_told _ _ _ c.in_ok-turn.ensures.turned.told
