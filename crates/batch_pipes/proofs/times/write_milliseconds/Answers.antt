use Rattle.std.proofs.Common.{◌∙◌}
use Rattle.batch_pipes.proofs.ServiceRounds.{time_joined}
use Rattle.batch_pipes.proofs.times.write_milliseconds.Goals as goal

pub returns : goal.returns
returns g c = time_joined (g.W.Write.contents c.args.output.now) (g.W.Write.contents c.write_all.new.writer) (g.W.Write.contents c.write_all-2.new.writer) (g.W.Write.contents c.write_all-3.new.writer)
    c.as_bytes-digits.result.now c.args.milliseconds c.write_all-3.result c.in_ok-write_all.ensures (c.as_bytes-digits.ensures.value ∙ c.format.ensures.text) c.in_ok-write_all-2.ensures c.write_all-3.ensures
