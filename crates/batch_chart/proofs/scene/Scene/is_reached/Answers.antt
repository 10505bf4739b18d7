use Rattle.std.proofs.Common.{sym}
use Rattle.batch_chart.{proofs.NextMoves.reached-complete, specs.declared.sign.TheConstants.IS_ACT, proofs.SignSearch.found-showing}
use Rattle.batch_chart.proofs.scene.Scene.is_reached.Goals as goal

pub returns-then-eq : goal.returns-then-eq
returns-then-eq c =
    let absent = c.are_absent.ensures in
    reached-complete _ _ _ _ absent.0 _ absent.2 (sym c.if-eq.ensures) (found-showing _ _ _ _ IS_ACT absent.0 c.requires.noted absent.1)
