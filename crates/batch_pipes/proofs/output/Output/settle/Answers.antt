use Rattle.std.proofs.Common.{rules, ◌≡◌, IfSome, None, subst}
use Rattle.rtrb.specs.Ring.{Finishes}
use Rattle.batch_pipes.specs.Outputs.{IsTaskOf, asked_of}
use Rattle.batch_pipes.proofs.output.Output.settle.Goals as goal

pub returns-in-Some-finished : goal.returns-in-Some-finished
returns-in-Some-finished g c = λ writer of ended.
    let asked = asked_of c.args.self in
    let none : c.args.self.end ≡ None = search rules in
    c.settle.ensures asked writer (subst (λ o. IfSome o (λ child. IsTaskOf asked child.handle.promise.task.value writer)) c.in-Some-child.is of.thread)
    (subst (λ o. IfSome o (λ last. Finishes writer.ring last)) c.in-Some-finished.is (ended.finished none))
