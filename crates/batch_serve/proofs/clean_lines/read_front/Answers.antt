use Rattle.std.proofs.Common.{◌≡◌, length, arith, length-take}
use Rattle.batch_serve.proofs.JournalLines.{front_read}
use Rattle.batch_serve.proofs.clean_lines.read_front.Goals as goal

pub returns : goal.returns
returns g c =
    let size : length c.read.new.buf ≡ c.args.most = omega (arith, c.read.auto.buf, length-take c.args.most c.args.piece.now, c.requires.within) in
    let did = front_read c.read.result _ _ c.args.piece.now c.read.new.buf c.args.most c.args.most c.requires.some size c.read.ensures.bound c.read.ensures.bytes in
    record { ok = did.0; err = did.1 }
