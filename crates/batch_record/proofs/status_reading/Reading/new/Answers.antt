use Rattle.std.proofs.Common.{refl, sym, subst, [], arith}
use Rattle.batch_wire.specs.LineEnds.{HasNoFeed}
use Rattle.batch_record.specs.Blocks.{opening_stage}
use Rattle.batch_record.proofs.status_reading.Reading.new.Goals as goal

pub returns : goal.returns
returns c = record {
  lines = [];
  stage = opening_stage;
  is_text = record { whole = tt; unended = subst HasNoFeed (sym c.new-2.ensures.items) (λ k d low. absurd (omega (arith, low))); is = sym c.new-2.ensures.items };
  stages = refl;
  is_at = c.new.ensures;
  counted = refl;
}
