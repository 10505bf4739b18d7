use Rattle.std.proofs.Common.{arith}
use Rattle.batch_plant.proofs.Deeds.{first_known, no_deed, then_links}
use Rattle.batch_plant.proofs.linking.link_loop.Goals as goal
use Rattle.batch_plant.proofs.linking.link_loop.Goals.{then-lets_pass, else-lets_pass}

pub loop-turn-init : goal.loop-turn-init
loop-turn-init g c = record {
  knows = first_known c.args.cell.now c.args.batches;
  links = no_deed g.D.UnitDriver.command_gives g.D.UnitDriver.tick_gives c.args.cell.now _;
  more = omega arith;
  left = omega arith;
}

pub loop-turn-preserved : goal.loop-turn-preserved
loop-turn-preserved g c =
    let was = c.loop-turn.invariant in
    elim c.if-lets_pass.branch [
      | then-lets_pass w ↦ rw (w.desk-is, w.units-is, w.link-is) (
          let more = was.more in
          let left = was.left in
          let more_now = w.make_turn.ensures.left.more in
          let left_now = w.make_turn.ensures.left.left in
          record {
            knows = w.make_turn.ensures.knows;
            links = then_links g.D.UnitDriver.command_gives g.D.UnitDriver.tick_gives c.args.cell.now _ _ _ was.links w.make_turn.ensures.links;
            more = omega (arith, more, more_now);
            left = omega (arith, more, left, more_now, left_now);
          })
      | else-lets_pass w ↦ rw (w.desk-is, w.units-is, w.link-is) was
    ]
