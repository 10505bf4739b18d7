use Rattle.std.proofs.Common.{Some, None, refl, sym, ap, ◌∙◌, subst, length, ◌<◌}
use Rattle.std.specs.Prelude.{IfSome}
use Rattle.batch_chart.specs.{Nexts.handed, Nexts.last_held, Passing.PassesTo, Stages.stage_at}
use Rattle.batch_chart.proofs.scene.Scene.handing_of.Goals as goal

pub returns-in-None : goal.returns-in-None
returns-in-None c = rw c.in-None.is (record { to = None; is = refl; passes = tt; small = tt })

pub returns-in-Some : goal.returns-in-Some
returns-in-Some c =
    let need = c.last_held-need.ensures ∙ ap (λ κ. last_held κ (stage_at c.args.self.now.stages.now c.in-Some.n)) c.kind_of.ensures in
    rw c.in-Some.is (record {
      to = c.pass_target.result;
      is = ap Some (c.handed.ensures ∙ ap (λ z. handed c.in-Some.n z c.pass_target.result) need);
      passes = subst (λ z. PassesTo c.args.self.now.recipe.now c.in-Some.n z c.pass_target.result) need c.pass_target.ensures.to;
      small = subst (λ l. IfSome c.pass_target.result (λ k. k < length l)) (sym c.requires.nodes) c.pass_target.ensures.within;
    })
