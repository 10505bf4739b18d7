use Rattle.std.proofs.Common.{take}
use Rattle.std.specs.{Fmt.HasWritten, Fmt.IsPlainFormatter, List.flat_map}
use Rattle.batch_record.specs.Pictures.{shape_text}
use Rattle.batch_record.proofs.picture.ShapesDisplay.fmt.Given as goal

abbrev pub invariant-loop-shape : goal.invariant-loop-shape
invariant-loop-shape g l =
    IsPlainFormatter l.initial.f → HasWritten g.W.Write.write_str_gives l.initial.f (flat_map shape_text (take l.shape-index l.shape-items)) l.f
