use Rattle.std.proofs.Common.{List, ℕ, ap, subst, sym, ◌∙◌}
use Rattle.std.specs.Io.{Buffered.writer_buffer, Buffered.writer_contents, KnownBytes.append_known}
use Rattle.rtrb.specs.Ring.{received}
use Rattle.batch_pipes.{specs.Streams.IsWrittenBehind, proofs.ThreadStreams.written_out}
use Rattle.batch_pipes.proofs.writing.OutputTask.write.Goals as goal

pub returns-clause-written : goal.returns-clause-written
returns-clause-written g c =
    let contents = g.W.Write.contents in
    let before = received c.args.self.now.ring in
    let after = received c.write_out-ended.new.ring in
    let ended = c.write_out-ended.result in
    let stream = c.write_out-ended.new.output.stream in
    let first = writer_contents contents c.new-buffered.result.stream in
    let new = ap (λ s. writer_contents contents s) c.new-buffered.ensures
    ∙ ap (λ i. append_known (contents i) (writer_buffer c.in-Ok.buffered)) c.in-Ok.ensures.inner ∙ ap (λ b. append_known (contents c.args.output) b) c.in-Ok.ensures.empty in
    written_out contents (contents c.args.output) first c.args.self.now.front.items before after ended (writer_buffer stream) c.unbuffered.result c.fault_of-fault.result new
    (subst (λ (l : List ℕ). IsWrittenBehind l ended before after first (append_known (contents c.unbuffered.result) (writer_buffer stream))) c.deref.ensures.value
    (subst (λ o. IsWrittenBehind c.deref.result.now ended before after first (append_known (contents o) (writer_buffer stream))) (sym c.unbuffered.ensures) c.write_out-ended.ensures.written))
    c.write_out-ended.ensures.empty c.fault_of-fault.ensures
