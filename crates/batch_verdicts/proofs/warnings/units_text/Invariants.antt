use Rattle.std.proofs.Common.{◌≡◌, take, string_bytes}
use Rattle.batch_verdicts.specs.WarningTexts.{units_text}
use Rattle.batch_verdicts.proofs.warnings.units_text.Given as goal

abbrev pub invariant-loop-unit : goal.invariant-loop-unit
invariant-loop-unit l = string_bytes l.text ≡ units_text l.path l.cell (take l.unit-index l.units)
