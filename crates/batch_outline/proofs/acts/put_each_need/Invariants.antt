use Rattle.std.proofs.Common.{◌≡◌, ◌++◌, take, string_bytes}
use Rattle.std.specs.List.{flat_map}
use Rattle.batch_recipe.specs.declared.need.Need.{Need}
use Rattle.batch_outline.specs.Showing.{need_text, spaced}
use Rattle.batch_outline.proofs.acts.put_each_need.Given as goal

abbrev pub invariant-loop-need : goal.invariant-loop-need
invariant-loop-need l =
    string_bytes l.text ≡ string_bytes l.initial.text ++ flat_map (λ (need : Need). spaced (need_text need)) (take l.need-index l.needs)
