use Rattle.std.proofs.Common.{List, ℕ, ap, ◌∙◌}
use Rattle.batch_serve.specs.Waits.{Waits}
use Rattle.batch_pipes.proofs.opening.open_desk.Goals as goal

pub returns-clause-desk : goal.returns-clause-desk
returns-clause-desk g c = record {
  desk = c.new-told.result;
  reader = c.in_ok-reader.reader;
  writer = c.in_ok-writer.writer;
  desks = c.in_ok-add_desk.ensures;
  ports = c.in_ok-add.ensures;
  unit = c.new-told.ensures.unit;
  lag = λ some. ap (λ (w : Waits (List ℕ)). w.lag) c.new-told.ensures.waiting ∙ c.lag_of-lag.ensures some;
  uncut = ap (λ (w : Waits (List ℕ)). w.is_cut) c.new-told.ensures.waiting;
  waits = ap (λ (w : Waits (List ℕ)). w.lines) c.new-told.ensures.waiting;
  came = c.in_ok-reader.ensures;
  went = c.in_ok-writer.ensures.went;
}

pub returns-clause-output : goal.returns-clause-output
returns-clause-output g c = record {
  output = c.in_ok-writer.output;
  writer = c.in_ok-writer.writer;
  outputs = c.in_ok-add_output.ensures;
  writers = c.in_ok-add.ensures.writers;
  of = c.in_ok-writer.ensures.of;
  is_asked = c.in_ok-writer.ensures.is_asked;
}
