use Rattle.std.proofs.Common.{◌≡◌, length, arith}
use Rattle.batch_journal.specs.Journals.{groups_in}
use Rattle.batch_keep.proofs.CountedLines.{all_counted, past_line_of, started_behind}
use Rattle.batch_keep.proofs.counting.count.Goals as goal

pub loop-at-init : goal.loop-at-init
loop-at-init c =
    let documents = c.args.documents.now in
    let text = c.args.text.now in
    let size : length documents ≡ 64 = omega arith in
    started_behind c.args.all c.args.name.now documents text c.requires.0 c.requires.1 (c.recovered_are_lines.ensures.whole (groups_in documents text)) size

pub loop-at-preserved : goal.loop-at-preserved
loop-at-preserved c =
    past_line_of c.args.all c.args.name.now c.args.documents.now c.args.text.now c.loop-at.counted c.loop-at.count c.loop-at.rest.now c.in-Some.at c.in-Some.ensures
    c.count_of-count.result c.is_counted_behind-counted.result c.count_of-count.ensures c.is_counted_behind-counted.ensures c.loop-at.invariant

pub returns : goal.returns
returns c = all_counted c.args.all c.args.name.now c.args.documents.now c.args.text.now c.loop-at.counted c.loop-at.count c.loop-at.rest.now c.in_default.ensures c.loop-at.invariant
