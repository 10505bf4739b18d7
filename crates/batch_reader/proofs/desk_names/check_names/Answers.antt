use Rattle.std.proofs.Common.{refl}
use Rattle.std.specs.List.{IsDistinct}
use Rattle.batch_reader.proofs.DistinctDesks.{distinct_more, distinct_no_more}
use Rattle.batch_reader.proofs.desk_names.check_names.Goals as goal

pub loop-entry-init : goal.loop-entry-init
unfolding IsDistinct
loop-entry-init c = tt

pub returns-then-is_name_of-clause-told : goal.returns-then-is_name_of-clause-told
returns-then-is_name_of-clause-told c = (
  refl,
  (
    refl,
    record {
      before = c.loop-entry.invariant;
      fails = distinct_no_more c.args.desks.now c.loop-entry.entry c.index-desks-entry.result c.loop-entry-test.true c.index-desks-entry.is c.if-is_name_of.ensures;
    },
  ),
)

pub loop-entry-preserved : goal.loop-entry-preserved
loop-entry-preserved c =
    distinct_more c.args.desks.now c.loop-entry.entry c.index-desks-entry.result c.loop-entry-test.true c.index-desks-entry.is c.loop-entry.invariant c.if-is_name_of.ensures
