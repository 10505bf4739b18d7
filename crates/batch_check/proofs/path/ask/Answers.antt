use Rattle.std.proofs.Common.{arith, refl}
use Rattle.batch_check.{specs.declared.path.Path.Path, proofs.EdgesOfAct.HasAsked-one}
use Rattle.batch_check.proofs.path.ask.Goals as goal

pub returns : goal.returns
returns c =
    let next : Path = record { recipe = c.args.path.recipe; last = c.args.need; asked = c.in_ok-asked.asked } in
    HasAsked-one c.args.path c.args.node c.args.need c.args.edges.now c.join.new.edges c.join_and_push.new.edges next
    c.requires.ready c.requires.need refl refl c.in_ok-join.ensures c.in_ok-asked.ensures

pub join_and_push-requires-clause-asked : goal.join_and_push-requires-clause-asked
join_and_push-requires-clause-asked c = λ k among. omega (arith, c.requires.ready.below k among, c.in_ok-join.ensures.grown.same_count)
