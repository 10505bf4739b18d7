use Rattle.batch_desk.specs.HubState.{HubState}
use Rattle.batch_plant.{specs.Parts.HubRan, proofs.Joins.ended_so}
use Rattle.batch_plant.proofs.hub_running.run_hub.Goals as goal

pub returns-clause-ran : goal.returns-clause-ran
returns-clause-ran g c =
    let kept = c.hub_loop-end.ensures in
    ended_so (λ (h : HubState). HubRan c.args.batches c.args.hub h) c.hub_loop-end.new.hub c.ended.result c.ended.ensures.done
    (λ done. record { rings = kept.rings; cleared = kept.cleared; complete = (kept.end.0 done).complete; history = kept.history })
