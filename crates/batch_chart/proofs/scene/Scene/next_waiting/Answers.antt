use Rattle.std.proofs.Common.{arith, Some, None, refl}
use Rattle.batch_chart.proofs.{NextMoves.found-among, SignSearch.found-from, SignTests.waits_from, SignTests.said-waiting, FirstInLine.waiting-some, FirstInLine.waiting-none, FirstInLine.waiting-never}
use Rattle.batch_chart.proofs.scene.Scene.next_waiting.Goals as goal

pub bounds : goal.bounds
bounds c = let h = found-among _ _ _ (waits_from c.args.from) (Some c.in-Some.n) c.requires.lives (found-from _ _ _ _ (waits_from c.args.from) _ c.args.from (Some c.in-Some.n) (said-waiting c.args.from) c.requires.noted (rw c.from.ensures at c.in-Some.ensures)) in omega (arith, h.2)

pub returns-in-None : goal.returns-in-None
returns-in-None c = waiting-none _ _ _ c.args.from c.requires.lives (found-from _ _ _ _ (waits_from c.args.from) _ c.args.from None (said-waiting c.args.from) c.requires.noted (rw c.from.ensures at c.in-None.ensures))

pub returns-in-Asking : goal.returns-in-Asking
returns-in-Asking c = waiting-some _ _ _ c.args.from c.requires.lives _ _ _ (found-from _ _ _ _ (waits_from c.args.from) _ c.args.from (Some c.in-Some.n) (said-waiting c.args.from) c.requires.noted (rw c.from.ensures at c.in-Some.ensures)) refl c.in-Asking.is

pub returns-in_default : goal.returns-in_default
returns-in_default c = absurd (waiting-never _ _ _ c.args.from c.requires.lives _ _ (found-from _ _ _ _ (waits_from c.args.from) _ c.args.from (Some c.in-Some.n) (said-waiting c.args.from) c.requires.noted (rw c.from.ensures at c.in-Some.ensures)) refl c.in_default.not-Asking)
