use Rattle.std.proofs.lemmas.Result.{err_from_is_err_and}
use Rattle.batch_engine.specs.Surface.{out_of}
use Rattle.batch_wire.{specs.Known.waiting_in, specs.RecordText.out_text, proofs.WrittenTexts.longer_text, proofs.WrittenTexts.then_last}
use Rattle.batch_wire.proofs.record_line.write_long.Goals as goal

pub returns-in_err-write_room-clause-written : goal.returns-in_err-write_room-clause-written
returns-in_err-write_room-clause-written g c =
    let p = err_from_is_err_and c.from_residual.result c.from_residual.ensures.1 in
    rw (p.1) (longer_text _ _ (waiting_in c.args.room.now) (out_text (out_of c.args.cleared.now c.args.out.now)) c.in_err-write_room.ensures.written)

pub returns-clause-written : goal.returns-clause-written
returns-clause-written g c =
    then_last _ _ _ _ (waiting_in c.args.room.now) (out_text (out_of c.args.cleared.now c.args.out.now)) c.in_ok-write_room.ensures.written c.write_out.ensures
