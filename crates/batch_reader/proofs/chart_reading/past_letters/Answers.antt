use Rattle.std.proofs.Common.{◌≡◌, true, get_or, arith}
use Rattle.batch_text.specs.NameText.{is_name_byte}
use Rattle.batch_reader.proofs.ChartReader.{letter_next}
use Rattle.batch_reader.proofs.chart_reading.past_letters.Goals as goal

pub loop-at-init : goal.loop-at-init
loop-at-init c = record { later = omega arith; within = omega (arith, c.requires); after = λ w frames firsts so_far. so_far }

pub loop-at-preserved : goal.loop-at-preserved
loop-at-preserved c =
    let h = c.loop-at.invariant in
    let byte : is_name_byte (get_or c.args.text.now c.loop-at.at 0) ≡ true = cc in
    record {
      later = omega (arith, h.later);
      within = omega arith;
      after = λ w frames firsts so_far. letter_next c.args.text.now c.in-Letters.start c.loop-at.at w frames firsts (omega arith) (omega arith) byte (h.after w frames firsts so_far);
    }
