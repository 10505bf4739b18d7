use Rattle.std.proofs.Common.{ap, refl, sym, subst}
use Rattle.batch_desk.specs.DeskState.{DeskState}
use Rattle.batch_plant.{specs.Links.Links, specs.LinkSteps.kept_in, specs.LinkSteps.linked, proofs.Deeds.counted, proofs.Deeds.none_counted, proofs.Deeds.no_deed, proofs.Deeds.took_out}
use Rattle.batch_plant.proofs.linking.obey_next.Goals as goal

pub returns-in-Some-clause-links : goal.returns-in-Some-clause-links
returns-in-Some-clause-links g c cell =
    took_out g.D.UnitDriver.command_gives g.D.UnitDriver.tick_gives cell _ _ c.in-Some.out c.in-Some.ensures c.obey.ensures.order c.obey.ensures.next (ap (kept_in cell) c.obey.ensures.kept)

pub returns-in_default-clause-links : goal.returns-in_default-clause-links
returns-in_default-clause-links g c cell =
    subst (λ (d : DeskState). Links g.D.UnitDriver.command_gives g.D.UnitDriver.tick_gives cell (linked cell c.args.link.now c.args.desk.now c.args.units.now) (linked cell c.args.link.now d c.args.units.now))
    (sym c.in_default.ensures) (no_deed g.D.UnitDriver.command_gives g.D.UnitDriver.tick_gives cell _)

pub returns-in-Some-clause-left : goal.returns-in-Some-clause-left
returns-in-Some-clause-left g c = counted _ _ _ _ c.in-Some.out (ap (λ (d : DeskState). d.taken) c.in-Some.ensures) c.obey.ensures.left

pub returns-in_default-clause-left : goal.returns-in_default-clause-left
returns-in_default-clause-left g c = none_counted _ _ _ _ (ap (λ (d : DeskState). d.taken) c.in_default.ensures) refl
