use Rattle.std.proofs.Common.{◌≡◌, take, flat_map, string_bytes}
use Rattle.batch_verdicts.specs.GraphTexts.{unit_box_text}
use Rattle.batch_verdicts.proofs.texts.graphs.units_text.Given as goal

abbrev pub invariant-loop-unit : goal.invariant-loop-unit
invariant-loop-unit l = string_bytes l.text ≡ flat_map unit_box_text (take l.unit-index l.units)
