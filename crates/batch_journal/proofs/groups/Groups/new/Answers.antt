use Rattle.std.proofs.Common.{refl, [], ap, length, List, ℕ}
use Rattle.std.proofs.lemmas.Grind.{merely}
use Rattle.batch_journal.proofs.PendingLines.{kept_rest, rest_kept}
use Rattle.batch_journal.proofs.groups.Groups.new.Goals as goal

pub invariant_of-result : goal.invariant_of-result
invariant_of-result g c = record {
  none_ready = λ is. refl;
  kept = λ d f. kept_rest _ _ _ _ _ _ _ (c.requires.at_rest d);
  rest = λ d f. ap (λ (l : List ℕ). length l)
      (rest_kept g.C.JournalRun.documents g.C.JournalRun.base (g.D.Disk.durable c.args.disk) (g.D.Disk.seen c.args.disk) (g.D.Disk.given c.args.disk) [] _ (c.requires.at_rest d));
  whole = λ d. c.requires.whole d;
  recalled = λ d. c.requires.recalled d;
  stays = λ d. merely (c.requires.was d);
}
