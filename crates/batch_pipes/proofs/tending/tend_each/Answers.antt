use Rattle.std.proofs.Common.{◌<◌, arith, length, length-set}
use Rattle.batch_serve.{specs.declared.desk.ServedDesk.ServedDesk, specs.declared.rounds.Reader.Reader, specs.declared.rounds.Writer.Writer, proofs.DeskLines.each_more, proofs.DeskLines.kept_behind, specs.Rounds.IsHandedOn}
use Rattle.batch_pipes.{specs.declared.ports.DeskThreads.DeskThreads, specs.Outputs.asked_of, specs.declared.input_order.InputOrder.InputOrder, specs.declared.output.Output.Output, proofs.DeskChanges.done_more, proofs.DeskChanges.readers_more, proofs.Lists.same_set, proofs.WriterOutputs.output_here, proofs.WriterOutputs.outputs_set}
use Rattle.batch_pipes.proofs.tending.tend_each.Goals as goal

pub loop-at-preserved : goal.loop-at-preserved
loop-at-preserved g c =
    let so_far = c.loop-at.invariant in
    let i = c.loop-at.at in
    let in_outputs : i < length c.loop-at.outputs.items = omega (arith, so_far.count, so_far.ports.writers, so_far.outputs.of.count) in
    record {
      ports = record {
        readers = omega (arith, length-set {A = Reader (InputOrder g.row.P.Denot)}, length-set {A = ServedDesk}, so_far.ports.readers);
        writers = omega (arith, length-set {A = Writer}, length-set {A = ServedDesk}, so_far.ports.writers);
        threads = omega (arith, length-set {A = DeskThreads}, length-set {A = ServedDesk}, so_far.ports.threads);
      };
      count = omega (arith, length-set {A = ServedDesk}, so_far.count);
      handed = each_more IsHandedOn c.args.desks.now.items c.loop-at.desks.items c.args.ports.now.writers.items c.loop-at.ports.writers.items i c.index_mut-desk.result.now c.tend-other.new.desk
          c.index_mut-writer.result.now c.tend-other.new.writer (omega (arith, so_far.count)) (omega (arith, so_far.count, so_far.ports.writers)) c.index_mut-desk.ensures.value
          c.index_mut-writer.ensures.value c.tend-other.ensures.desk so_far.handed so_far.rest_desks so_far.rest_writers;
      rest_desks = kept_behind c.args.desks.now.items c.loop-at.desks.items i c.tend-other.new.desk so_far.rest_desks;
      rest_writers = kept_behind c.args.ports.now.writers.items c.loop-at.ports.writers.items i c.tend-other.new.writer so_far.rest_writers;
      readers = readers_more c.args.ports.now.readers.items c.loop-at.ports.readers.items i c.index_mut-reader.result.now c.tend-other.new.reader
          (omega (arith, so_far.count, so_far.ports.readers)) c.index_mut-reader.ensures.value c.tend-other.ensures.reader so_far.readers so_far.rest_readers;
      outputs = record {
        of = outputs_set _ c.loop-at.outputs.items c.loop-at.ports.writers.items i c.tend-other.new.output c.tend-other.new.writer in_outputs
            c.tend-other.ensures.output.of so_far.outputs.of;
        count = omega (arith, length-set {A = Output g.row.O.Denot g.row.P.Denot}, so_far.outputs.count);
        asked = same_set asked_of c.args.outputs.now.items c.loop-at.outputs.items i c.index_mut-output.result.now c.tend-other.new.output in_outputs so_far.outputs.count
            c.index_mut-output.ensures.value c.tend-other.ensures.output.asked so_far.outputs.asked;
      };
      done = done_more c.loop-at.desks.items c.loop-at.ports.readers.items i c.tend-other.new.desk c.tend-other.new.reader
          c.loop-at.outlook.sends c.loop-at.outlook.waits c.tend-other.result.sends c.tend-other.result.waits _ _ (omega (arith, so_far.count))
          (omega (arith, so_far.count, so_far.ports.readers)) c.with-outlook.ensures.sends c.with-outlook.ensures.waits c.tend-other.ensures.done so_far.done;
      rest_readers = kept_behind c.args.ports.now.readers.items c.loop-at.ports.readers.items i c.tend-other.new.reader so_far.rest_readers;
    }

pub returns-clause-done : goal.returns-clause-done
returns-clause-done g c = λ no_sends no_waits k desk reader within. c.loop-at.invariant.done no_sends no_waits k desk reader (omega (arith, within, c.loop-at.invariant.count))

pub tend-other-requires : goal.tend-other-requires
tend-other-requires g c =
    let so_far = c.loop-at.invariant in
    let within : c.loop-at.at < length c.loop-at.outputs.items = omega (arith, so_far.count, so_far.ports.writers, so_far.outputs.of.count) in
    output_here _ c.loop-at.outputs.items c.loop-at.ports.writers.items c.loop-at.at c.index_mut-output.result.now c.index_mut-writer.result.now within
    c.index_mut-output.ensures.value c.index_mut-writer.ensures.value so_far.outputs.of
