use Rattle.std.proofs.Common.{List, take, option_copied}
use Rattle.batch_recipe.specs.declared.role.Role.{Role}
use Rattle.batch_verify.specs.Spans.{AreAskedInEach}
use Rattle.batch_verify.proofs.span.after_needs.Given as goal

-- the needs so far
abbrev pub invariant-loop-need : goal.invariant-loop-need
invariant-loop-need l = (roles : List Role) → AreAskedInEach l.low.cell.now (option_copied l.low.ranks) roles l.low.takers.now l.highest (take l.need-index l.needs) l.fn.last l.greatest
