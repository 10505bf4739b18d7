use Rattle.batch_engine.proofs.MoveLines.{send-told}
use Rattle.batch_engine.proofs.control.Control.send_line.Goals as goal

pub returns : goal.returns
returns c =
    send-told c.args.self.now c.requires.kept c.requires.index c.args.batch.now c.requires.at c.args.command c.phase_at-unit.ensures
