use Rattle.std.proofs.Common.{rules, arith, refl, sym}
use Rattle.batch_chart.proofs.{TreePositions.within, ClimbFromNode.n-standing, ClimbFromNode.seq-rest, ClimbFromNode.passed-on, ClimbSigns.finished-row, ClimbSigns.seq-others, ClimbSigns.neatly-on}
use Rattle.batch_chart.proofs.control_recipe.ControlRecipe.go_on_after.Goals as goal

pub bounds-self-n : goal.bounds-self-n
bounds-self-n c = within _ _ _ _ (n-standing _ _ _ _ _ c.requires.standing c.requires.above)

pub offset_bounds-self-n : goal.offset_bounds-self-n
offset_bounds-self-n c = let h = within _ _ _ _ (n-standing _ _ _ _ _ c.requires.standing c.requires.above) in search rules

pub reach_first-over-requires : goal.reach_first-over-requires
reach_first-over-requires c = record { standing = seq-rest _ _ _ _ _ c.requires.standing c.requires.above c.requires.seq; fits = c.requires.fits }

pub returns : goal.returns
returns c =
    let h = within _ _ _ _ c.requires.standing in
    record {
      passes = λ xs ws ms r s. (
        passed-on _ _ _ _ _ _ c.requires.standing c.requires.above xs ws r c.requires.seq (sym c.requires.left) _ refl
            (finished-row _ _ _ _ _ (seq-others _ _ _ _ _ c.requires.standing c.requires.above xs ms _ s c.requires.seq)) _ _ _ _
            (omega (arith, h, c.requires.standing.0, c.reach_first-over.auto.stages)) c.reach_first-over.ensures.reached c.close.ensures,
        neatly-on _ _ _ _ _ c.requires.standing c.requires.above xs ms _ s c.requires.seq _ _ _ _ _ (omega (arith, h, c.requires.standing.0, c.reach_first-over.auto.stages))
            c.reach_first-over.ensures.reached.outside c.reach_first-over.ensures.neatly c.close.ensures,
      );
      count = c.reach_first-over.ensures.neatly.count;
    }
