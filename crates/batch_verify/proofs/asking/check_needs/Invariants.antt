use Rattle.std.proofs.Common.{◌≡◌, take}
use Rattle.std.specs.List.{list_all}
use Rattle.batch_verify.specs.Asking.{asks_on, is_fitting, is_found}
use Rattle.batch_verify.proofs.asking.check_needs.Given as goal

abbrev pub invariant-loop-need : goal.invariant-loop-need
invariant-loop-need l = (l.are_resources ≡ list_all is_found (asks_on l.site (take l.need-index l.needs)))
    × (l.are_within_capacity ≡ list_all (is_fitting l.site.cell.now) (asks_on l.site (take l.need-index l.needs)))
