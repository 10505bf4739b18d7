use Rattle.batch_plant.proofs.Deeds.{then_counts, knows_same, knows_sent, known_unit, then_links, sent_kept}
use Rattle.std.proofs.Common.{refl}
use Rattle.batch_plant.proofs.linking.make_turn.Goals as goal

pub send_report-requires-clause-unit : goal.send_report-requires-clause-unit
send_report-requires-clause-unit g c =
    known_unit c.args.cell.now c.obey_next.new.link c.in-Some.answer c.in-Some.is (knows_same c.args.cell.now c.args.link.now c.obey_next.new.link c.obey_next.ensures.next c.obey_next.ensures.kept c.requires)

pub tick_next-requires-clause-knows : goal.tick_next-requires-clause-knows
tick_next-requires-clause-knows g c = knows_same c.args.cell.now c.args.link.now c.obey_next.new.link c.obey_next.ensures.next c.obey_next.ensures.kept c.requires

pub returns-in-Some-clause-links : goal.returns-in-Some-clause-links
returns-in-Some-clause-links g c =
    then_links g.D.UnitDriver.command_gives g.D.UnitDriver.tick_gives c.args.cell.now _ _ _ (c.obey_next.ensures.links c.args.cell.now) (sent_kept g.D.UnitDriver.command_gives g.D.UnitDriver.tick_gives c.args.cell.now _ _ _ _ _ c.send_report.ensures.sends)

pub returns-in-None-clause-links : goal.returns-in-None-clause-links
returns-in-None-clause-links g c =
    then_links g.D.UnitDriver.command_gives g.D.UnitDriver.tick_gives c.args.cell.now _ _ _ (c.obey_next.ensures.links c.args.cell.now) (c.tick_next.ensures.links c.obey_next.new.desk)

pub returns-in-Some-clause-knows : goal.returns-in-Some-clause-knows
returns-in-Some-clause-knows g c =
    knows_sent c.args.cell.now c.obey_next.new.link _ c.send_report.ensures.sends.next c.send_report.ensures.none
    (knows_same c.args.cell.now c.args.link.now c.obey_next.new.link c.obey_next.ensures.next c.obey_next.ensures.kept c.requires)

pub returns-in-Some-clause-left : goal.returns-in-Some-clause-left
returns-in-Some-clause-left g c = then_counts _ _ _ _ _ _ c.obey_next.ensures.left c.send_report.ensures.sends.taken c.send_report.ensures.sends.left

pub returns-in-None-clause-left : goal.returns-in-None-clause-left
returns-in-None-clause-left g c = then_counts _ _ _ _ _ _ c.obey_next.ensures.left refl c.tick_next.ensures.left
