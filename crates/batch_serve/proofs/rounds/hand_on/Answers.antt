use Rattle.batch_serve.{specs.declared.desk.ServedDesk.ServedDesk, specs.declared.desks_fault.CutReason.TheVariants.Lag, specs.declared.rounds.Writer.Writer, proofs.DeskLines.cut_where_late}
use Rattle.std.proofs.Common.{Some}
use Rattle.batch_serve.proofs.rounds.hand_on.Goals as goal

pub returns-then-cut_if_late-clause-late : goal.returns-then-cut_if_late-clause-late
returns-then-cut_if_late-clause-late c =
    let desk : ServedDesk = record { unit = c.args.desk.now.unit; waiting = c.cut_if_late.new.self; why = Some Lag } in
    let writer : Writer = record { ring = c.hand_on.new.ring } in
    cut_where_late c.args.desk.now desk c.args.writer.now writer c.hand_on.new.self c.cut_if_late.result c.hand_on.ensures.order c.hand_on.ensures.lag c.hand_on.ensures.same_cut
    c.cut_if_late.ensures.late.0 c.cut_if_late.ensures.cut c.cut_if_late.ensures.stays c.cut_if_late.ensures.few
