use Rattle.std.proofs.Common.{refl, rules}
use Rattle.batch_record.{specs.declared.status.Status.Status, proofs.StateRows.IsInOrder, proofs.StateRows.rows-kept, proofs.StateRows.rows_kept}
use Rattle.batch_record.proofs.status.Status.text.Goals as goal

pub returns : goal.returns
returns c = λ tale h.
    let mark = c.args.mark.now in
    let new : Status =
    record { batches = c.args.self.batches; holders = c.sort_as_holders.new.self; waiters = c.sort_as_waiters.new.self; live = c.sort.new.self } in
    let order : IsInOrder c.args.self new = record {
      batches_stay = refl;
      batches_rise = c.in_ok-put_batches.ensures.rise;
      holders_rise = c.in_ok-sort_as_holders.ensures.sorted;
      holders = c.in_ok-sort_as_holders.ensures.stable;
      waiters_rise = c.in_ok-sort_as_waiters.ensures.sorted;
      waiters = c.in_ok-sort_as_waiters.ensures.stable;
      live_rise = c.in_ok-sort.ensures.sorted;
      live = c.in_ok-sort.ensures.stable;
    } in
    record {
      rows = rows_kept new;
      are_rows = rows-kept c.args.self new tale order h;
      is = search rules;
    }
