use Rattle.std.proofs.Common.{rules, ◌≡◌, subst}
use Rattle.rtrb.specs.Ring.{IsPair}
use Rattle.batch_serve.specs.declared.rounds.Writer.{Writer as OneWriter}
use Rattle.batch_pipes.specs.{OutputEnds.IsHandedBack, Outputs.IsOutputOf, declared.output.Output.Output}
use Rattle.batch_pipes.proofs.opening.open_output.Goals as goal
use Rattle.batch_pipes.proofs.opening.open_output.Goals.{in-Some+in_ok-output-in-Some, in-None}

pub returns : goal.returns
returns g c = elim c.match-path-2.branch [
  | in-Some+in_ok-output-in-Some w ↦
      let writer : OneWriter = record { ring = c.in_ok-producer.producer } in
      let paired : IsPair c.in_ok-producer.producer c.in_ok-producer.consumer = search rules in
      let same : w.in_ok-output-in-Some.output ≡ c.match-path-2.output = search rules in
      record {
        went = search rules;
        of = subst (λ (o : Output g.row.W.Denot g.row.P.Denot). IsOutputOf (IsHandedBack g.W.Write.contents g.P.Outputs.stands g.P.Outputs.hands_back) o writer) same
            (w.in_ok-output-in-Some.ensures.output writer paired);
        is_asked = search rules;
      }
  | in-None w ↦ record { went = search rules; of = search rules; is_asked = search rules }
]
