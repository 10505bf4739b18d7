use Rattle.std.proofs.Common.{take}
use Rattle.batch_verdicts.specs.Every.{AreRulesRefused}
use Rattle.batch_verdicts.proofs.every.rule_refusals.Given as goal

abbrev pub invariant-loop-number : goal.invariant-loop-number
invariant-loop-number l = AreRulesRefused l.cell l.recipes 0 (take l.number l.recipes) l.refusals.items
