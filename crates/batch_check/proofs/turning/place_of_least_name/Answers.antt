use Rattle.std.proofs.Common.{◌≡◌, ◌∙◌, sym, ap, get_or, is_lt}
use Rattle.std.proofs.lemmas.Bool.{false≢true}
use Rattle.batch_check.{specs.ByName.resource_name_in, proofs.Raises.no_edge, proofs.Names.name_in-found, proofs.CircleStarts.IsLeastOf-one, proofs.CircleStarts.IsLeastOf-takes, proofs.CircleStarts.IsLeastOf-keeps, proofs.CircleStarts.IsLeastOf-all, proofs.CircleStarts.below_from_lt}
use Rattle.batch_check.proofs.turning.place_of_least_name.Goals as goal
use Rattle.batch_check.proofs.turning.place_of_least_name.Goals.{then-lt, else-lt}

pub loop-place-init : goal.loop-place-init
loop-place-init c = (c.requires.some, IsLeastOf-one c.args.cell.now c.args.edges.now)

pub loop-place-preserved : goal.loop-place-preserved
loop-place-preserved c =
    let here : resource_name_in c.args.cell.now (get_or c.args.edges.now c.loop-place.place no_edge).earlier ≡ c.name_of.result.now = name_in-found c.args.cell.now (get_or c.args.edges.now c.loop-place.place no_edge).earlier c.name_of.result.now c.name_of.ensures in
    let least : resource_name_in c.args.cell.now (get_or c.args.edges.now c.loop-place.least no_edge).earlier ≡ c.name_of-in-loop-place.result.now = name_in-found c.args.cell.now (get_or c.args.edges.now c.loop-place.least no_edge).earlier c.name_of-in-loop-place.result.now c.name_of-in-loop-place.ensures in
    elim c.if-lt.branch [
      | then-lt w ↦
          rw w.least-is (
            c.loop-place-test.true,
            IsLeastOf-takes c.args.cell.now c.args.edges.now c.loop-place.place c.loop-place.least c.loop-place.invariant.1 (rw (here, least) (below_from_lt _ (sym c.lt.ensures ∙ w.if-lt.true))),
          )
      | else-lt w ↦
          rw w.least-is (
            c.loop-place.invariant.0,
            IsLeastOf-keeps c.args.cell.now c.args.edges.now c.loop-place.place c.loop-place.least c.loop-place.invariant.1
                (λ below. false≢true (sym w.if-lt.false ∙ (c.lt.ensures ∙ ap is_lt (rw (here, least) at below)))),
          )
    ]

pub returns-clause-least : goal.returns-clause-least
returns-clause-least c = λ d. IsLeastOf-all c.args.cell.now c.args.edges.now c.loop-place.place c.loop-place.least d c.loop-place.invariant.1 c.loop-place-test.false c.loop-place.invariant.0
