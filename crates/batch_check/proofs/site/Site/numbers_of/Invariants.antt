use Rattle.std.proofs.Common.{◌≡◌, take}
use Rattle.batch_check.specs.Sites.{numbers_of}
use Rattle.batch_check.proofs.site.Site.numbers_of.Given as goal

abbrev pub invariant-loop-need : goal.invariant-loop-need
invariant-loop-need l = l.numbers.items ≡ numbers_of l.self (take l.need-index l.needs)
