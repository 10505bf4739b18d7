use Rattle.std.proofs.Common.{◌≡◌, ◌∙◌, sym, false}
use Rattle.batch_desk.proofs.SettledEngine.{not-done, settled-same, told-no}
use Rattle.batch_desk.proofs.hub.Hub.is_done.Goals as goal
use Rattle.batch_desk.proofs.hub.Hub.is_done.Goals.{then-are_complete, else-are_complete}

pub returns-else-settled : goal.returns-else-settled
returns-else-settled c =
    let untrue : c.if-are_complete.value ≡ false = c.if-settled.false in
    not-done c.args.batches c.args.self.now c.if-are_complete.value untrue (λ done. elim c.if-are_complete.branch [
      | then-are_complete w ↦ told-no w.settled.result (settled-same _ c.args.self.now w.settled.result c.self.view_is w.settled.ensures) (sym w.value-is ∙ untrue) done.settled
      | else-are_complete w ↦ told-no c.are_complete.result c.are_complete.ensures w.if-are_complete.false done.complete
    ])
