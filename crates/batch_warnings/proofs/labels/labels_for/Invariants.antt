use Rattle.std.proofs.Common.{[], take}
use Rattle.std.specs.List.{list_any}
use Rattle.batch_warnings.specs.{LabelSets.AddsNames, Warnings.act_has_label}
use Rattle.batch_warnings.proofs.labels.labels_for.Given as goal

-- the labels of the acts so far were added
abbrev pub invariant-loop-act : goal.invariant-loop-act
invariant-loop-act l = AddsNames (λ name. list_any (act_has_label name) (take l.act-index l.above)) [] l.labels.keys
