use Rattle.std.proofs.Common.{◌≡◌, take, string_bytes}
use Rattle.batch_verdicts.specs.WarningTexts.{recipe_warnings_text}
use Rattle.batch_verdicts.proofs.warnings.recipe_text.Given as goal

abbrev pub invariant-loop-warning : goal.invariant-loop-warning
invariant-loop-warning l = string_bytes l.text ≡ recipe_warnings_text l.path l.recipe (take l.warning-index l.warnings)
