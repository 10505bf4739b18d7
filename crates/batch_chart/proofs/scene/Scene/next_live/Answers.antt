use Rattle.std.proofs.Common.{arith, Some, None, refl}
use Rattle.batch_chart.proofs.{NextMoves.found-among, LivePhase.looks, LivePhase.live-some, LivePhase.live-none, LivePhase.live-never, LivePhaseSigns.found-named}
use Rattle.batch_chart.proofs.scene.Scene.next_live.Goals as goal

pub next_named-requires : goal.next_named-requires
next_named-requires c = c.requires.count

pub bounds : goal.bounds
bounds c = let h = found-among _ _ _ (looks c.args.from c.args.phase.now) (Some c.in-Some.n) c.requires.lives (found-named _ _ _ _ c.requires.noted c.args.from c.args.phase.now (Some c.in-Some.n) (rw c.from.ensures at c.in-Some.ensures)) in omega (arith, h.2)

pub returns-in-None : goal.returns-in-None
returns-in-None c = live-none _ _ _ _ _ c.requires.lives (found-named _ _ _ _ c.requires.noted c.args.from c.args.phase.now None (rw c.from.ensures at c.in-None.ensures))

pub returns-in-Live : goal.returns-in-Live
returns-in-Live c = live-some _ _ _ _ _ c.requires.lives _ _ _ (found-named _ _ _ _ c.requires.noted c.args.from c.args.phase.now (Some c.in-Some.n) (rw c.from.ensures at c.in-Some.ensures)) refl c.in-Live.is

pub returns-in_default : goal.returns-in_default
returns-in_default c = absurd (live-never _ _ _ _ _ c.requires.lives _ _ (found-named _ _ _ _ c.requires.noted c.args.from c.args.phase.now (Some c.in-Some.n) (rw c.from.ensures at c.in-Some.ensures)) refl c.in_default.not-Live)
